use Rattle.std.proofs.Common.{◌+◌, length, sym, ap, ◌∙◌, arith}
use Rattle.std.proofs.lemmas.List.{length_push}
use Rattle.kind.specs.Answers.{told, kept}
use Rattle.journal.proofs.Walks.{exit}
use Rattle.volume.specs.Memory.{held}
use Rattle.volume.proofs.Loans.{along}
use Rattle.volume.proofs.Takes.{given_turn, given_end, takes_more, takes_stop, takes_all}
use Rattle.volume.proofs.Volume.take_records.Goals as goal

pub take_parts-requires-clause-low : goal.take_parts-requires-clause-low
take_parts-requires-clause-low g c =
    let file = c.args.file in
    let t = given_turn g.K.Kind.model file c.requires.of_kind c.records-n-items.result c.into_iter-n-iterator.result c.records-n-items.ensures.file c.records-n-items.ensures.given c.records-n-items.ensures.last c.into_iter-n-iterator.ensures.into_iter_gives c.loop-n.yielded c.loop-n.n-iterator c.loop-n.yielded_by c.next.result c.next.new.self (c.in-Some.n, c.in-Some.saved) c.in-Some.is c.next.ensures.steps in
    omega (arith, t.0, file.fits.count, file.fits.whole.few_records, c.loop-n.invariant.2)

pub loop-n-preserved : goal.loop-n-preserved
loop-n-preserved g c =
    let file = c.args.file in
    let w = held c.loop-n.self in
    let x = held c.take_parts.new.self in
    let t = given_turn g.K.Kind.model file c.requires.of_kind c.records-n-items.result c.into_iter-n-iterator.result c.records-n-items.ensures.file c.records-n-items.ensures.given c.records-n-items.ensures.last c.into_iter-n-iterator.ensures.into_iter_gives c.loop-n.yielded c.loop-n.n-iterator c.loop-n.yielded_by c.next.result c.next.new.self (c.in-Some.n, c.in-Some.saved) c.in-Some.is c.next.ensures.steps in
    let more = takes_more g.K.Kind.model file.bytes.now (held c.args.self.now) (length c.loop-n.yielded) w x c.take_parts.result c.loop-n.invariant.0 (c.take_parts.ensures.answer ∙ ap (told tt) (t.1 w)) (c.take_parts.ensures.after ∙ ap (kept w) (t.1 w)) c.in_ok-take_parts.was in
    let long = length_push c.loop-n.yielded (c.in-Some.n, c.in-Some.saved) in
    rw long (
      more.0,
      more.1.1 ∙ c.loop-n.invariant.1 ∙ sym more.1.0,
      more.1.2 ∙ ap (λ n. n + 1) c.loop-n.invariant.2,
      along c.loop-n.invariant.3 c.take_parts.ensures.loans,
    )

pub returns-in_err-take_parts : goal.returns-in_err-take_parts
returns-in_err-take_parts g c =
    let file = c.args.file in
    let w = held c.loop-n.self in
    let t = given_turn g.K.Kind.model file c.requires.of_kind c.records-n-items.result c.into_iter-n-iterator.result c.records-n-items.ensures.file c.records-n-items.ensures.given c.records-n-items.ensures.last c.into_iter-n-iterator.ensures.into_iter_gives c.loop-n.yielded c.loop-n.n-iterator c.loop-n.yielded_by c.next.result c.next.new.self (c.in-Some.n, c.in-Some.saved) c.in-Some.is c.next.ensures.steps in
    let s = takes_stop g.K.Kind.model file.bytes.now (held c.args.self.now) (length c.loop-n.yielded) w (held c.take_parts.new.self) c.take_parts.result c.loop-n.invariant.0 (c.take_parts.ensures.answer ∙ ap (told tt) (t.1 w)) (c.take_parts.ensures.after ∙ ap (kept w) (t.1 w)) file.header.count _ t.0 c.in_err-take_parts.was in
    record {
      answer = exit c.from_residual.result _ c.from_residual.ensures.1 ∙ sym (ap (told tt) s.0);
      after = s.1;
      loans = along c.loop-n.invariant.3 c.take_parts.ensures.loans;
    }

pub returns : goal.returns
returns g c =
    let file = c.args.file in
    let n = given_end g.K.Kind.model file c.requires.of_kind c.records-n-items.result c.into_iter-n-iterator.result c.records-n-items.ensures.file c.records-n-items.ensures.given c.records-n-items.ensures.last c.into_iter-n-iterator.ensures.into_iter_gives c.loop-n.yielded c.loop-n.n-iterator c.loop-n.yielded_by c.next.result c.next.new.self c.in-None.is c.next.ensures.steps in
    let all = takes_all g.K.Kind.model file.bytes.now (held c.args.self.now) (length c.loop-n.yielded) file.header.count (held c.loop-n.self) c.loop-n.invariant.0 n in
    record {
      answer = sym (ap (told tt) all.0);
      after = all.1;
      loans = c.loop-n.invariant.3;
    }
