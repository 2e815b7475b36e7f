use Rattle.std.proofs.Common.{ℕ, Bor, Bool, eqb, length, get_or, Err, sym, refl, ap, ◌∙◌, eq-eqb, ne_eqb}
use Rattle.std.proofs.lemmas.List.{length_push}
use Rattle.volume.specs.declared.refusal.Wrong.TheVariants.{Head}
use Rattle.volume.specs.Checks.{head_right}
use Rattle.volume.proofs.Examined.{passed, failed}
use Rattle.volume.proofs.Paired.{turn_paired}
use Rattle.volume.proofs.checks.check_heads.Goals as goal

pub returns-then-head-last : goal.returns-then-head-last
returns-then-head-last g c =
    let hs = c.args.heads.now in
    let ns = c.args.newest.now in
    let i = length c.loop-i.yielded in
    let x : ℕ × (Bor ℕ × Bor ℕ) = (c.in-Some.i, (c.in-Some.head, c.in-Some.last)) in
    let e = c.enumerate-i-items.ensures in
    let t = turn_paired hs ns c.requires.0 c.iter.ensures.rest c.zip.ensures.first c.zip.ensures.second.0 e.source e.count c.into_iter-i-iterator.ensures.into_iter_gives c.loop-i.yielded c.loop-i.i-iterator c.loop-i.yielded_by c.next.result c.next.new.self x c.in-Some.is c.next.ensures.steps in
    let same : ℕ → Bool = λ k. eqb (get_or hs k 0) (get_or ns k 0) in
    let other = ne_eqb (get_or hs i 0) (get_or ns i 0) (λ q. c.if-head-last.true (t.2 ∙ q ∙ sym t.3)) in
    ap (λ k. Err (Head k)) t.1 ∙ sym (failed (head_right g.K.Kind.model ns hs) same Head (λ _. refl) (length hs) i (same i) t.0 c.loop-i.invariant refl other)

pub loop-i-preserved : goal.loop-i-preserved
loop-i-preserved g c =
    let hs = c.args.heads.now in
    let ns = c.args.newest.now in
    let i = length c.loop-i.yielded in
    let x : ℕ × (Bor ℕ × Bor ℕ) = (c.in-Some.i, (c.in-Some.head, c.in-Some.last)) in
    let e = c.enumerate-i-items.ensures in
    let t = turn_paired hs ns c.requires.0 c.iter.ensures.rest c.zip.ensures.first c.zip.ensures.second.0 e.source e.count c.into_iter-i-iterator.ensures.into_iter_gives c.loop-i.yielded c.loop-i.i-iterator c.loop-i.yielded_by c.next.result c.next.new.self x c.in-Some.is c.next.ensures.steps in
    let same : ℕ → Bool = λ k. eqb (get_or hs k 0) (get_or ns k 0) in
    let alike = eq-eqb (get_or hs i 0) (get_or ns i 0) (sym t.2 ∙ c.if-head-last.false ∙ t.3) in
    let long = length_push c.loop-i.yielded x in
    rw long (passed (head_right g.K.Kind.model ns hs) same Head (λ _. refl) i (same i) c.loop-i.invariant refl alike)
