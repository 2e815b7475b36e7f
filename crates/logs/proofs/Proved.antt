-- The theorems of specs/Theorems.antt. Assumes nothing.
use Rattle.std.proofs.Common.{◌≡◌, ℕ, ◌+◌, ◌-◌, ◌*◌, ◌≤◌, List, [], ◌∷◌, ◌++◌, length, get_or, Ok, sym, refl, ap, ◌∙◌, subst, arith}
use Rattle.std.proofs.lemmas.List.{append-nil, append_assoc, length-append, length_push, get_or_push, get_or-take}
use Rattle.std.proofs.lemmas.Bool.Decides.{nat_tests}
use Rattle.kind.specs.Model.{Model, Laws}
use Rattle.journal.specs.declared.record.Record.{Record}
use Rattle.journal.specs.declared.walk.Stretch.{Stretch}
use Rattle.journal.specs.Links.{blank, numbered}
use Rattle.journal.specs.Spans.{spanned}
use Rattle.logs.specs.Writes.{Write, head_of, log_of}
use Rattle.logs.specs.Theorems.{Logs, NeverRefused, HeadMoves, SpansRight, StepsFew, EachRecord}
use Rattle.logs.proofs.Algebra.{onward_back}
use Rattle.logs.proofs.Counted.{Place, depth, total, depth_all, depth_last, between_is, head_place}
use Rattle.logs.proofs.Logs.{story, Leaves, records_leave, log_fits, logs_length, logs_front, grows}
use Rattle.logs.proofs.Spans.{Spanned, span_right}

module _ {PS PC : Type 0} (K : Model PS PC) (L : Laws K) where
  pub never_refused_lem : NeverRefused K
  never_refused_lem ws rs e room c f = grows K L ws rs e (record { cell = c; change = f }) room

  pub each_record_lem : EachRecord K
  each_record_lem us w vs rs e room =
      let n : ℕ = length us in
      let shorter : n + 1 ≤ 65535 = omega (arith, length-append us (w ∷ vs)) in
      let one : us ++ w ∷ vs ≡ (us ++ w ∷ []) ++ vs = sym (append_assoc us (w ∷ []) vs) in
      let front : Logs K rs us = logs_front K L us (w ∷ vs) rs e in
      let more : Logs K rs (us ++ w ∷ []) = logs_front K L (us ++ w ∷ []) vs rs (subst (Logs K rs) one e) in
      let (r, answer, next, cell, change, grown) = grows K L us rs front w (omega arith) in
      let size = logs_length K L us in
      let same : numbered K rs (n + 1) ≡ r =
      sym (get_or-take (length (us ++ w ∷ [])) rs (n + 1 - 1) (blank K) (omega (arith, length_push us w)))
      ∙ ap (λ ts. get_or ts (n + 1 - 1) (blank K)) (more ∙ grown)
      ∙ get_or_push (log_of K us) r (blank K) (n + 1 - 1) (omega arith) in
      (answer ∙ ap Ok (sym same), ap (λ (x : Record PC). x.cell) same ∙ cell, ap (λ (x : Record PC). x.change) same ∙ change, ap (λ (x : Record PC). x.next) same ∙ next)

  -- the spans of a cell
  module _ (ws : List (Write PC)) (rs : List (Record PC)) (e : Logs K rs ws) (room : length ws ≤ 65535) (c : ℕ) where
    abbrev D : ℕ → ℕ
    D = depth K ws c

    abbrev T : ℕ → K.Change
    T = total K ws c

    -- what the cell's links are known by: the head, and the records
    pub head : Place D (D (length ws)) (head_of ws c)
    head = subst (λ us. Place (depth K us c) (depth K us c (length ws)) (head_of ws c)) (append-nil ws) (head_place K c ws [])

    pub leaves : Leaves K ws rs (length ws)
    leaves = subst (λ us. Leaves K us rs (length ws)) (append-nil ws) (records_leave K L ws rs e [] room)

    pub span : (a b : ℕ) → Spanned K L D T (story K ws c) c rs (length ws) (leaves c) (log_fits K L ws rs e) (head_of ws c) head (depth_last K ws c) a b
    span a b = span_right K L D T (story K ws c) c rs (length ws) (leaves c) (log_fits K L ws rs e) (head_of ws c) head (depth_last K ws c) a b

    -- whatever is answered is that
    pub got_is : (a b : ℕ) (s : Stretch PC) → spanned K rs (length ws) (head_of ws c) c a b ≡ Ok s → (span a b).got ≡ s
    got_is a b s q = let e' : Ok (span a b).got ≡ Ok s = sym (span a b).answer ∙ q in cc

  pub spans_right_lem : SpansRight K
  spans_right_lem ws rs e room c a b =
      let S = span ws rs e room c a b in (
        S.got,
        S.answer,
        λ h. S.is ∙ sym (between_is K L ws c a b h),
        λ h. S.is ∙ sym (ap K.inverse (between_is K L ws c b a (omega arith)) ∙ onward_back K L (total K ws c b) (total K ws c a)),
      )

  pub steps_few_lem : StepsFew K
  steps_few_lem ws rs e room c a b s q k small big =
      let all = depth_all K ws c in
      let same = got_is ws rs e room c a b s q in
      let few = (span ws rs e room c a b).few k (omega arith) (omega arith) in
      subst (λ t. t.steps ≤ 6 * k) same few

pub head_moves_lem : {PS PC : Type 0} (K : Model PS PC) → HeadMoves K
head_moves_lem K [] w c = refl
head_moves_lem K (u ∷ ws) w c = (let before = head_moves_lem K ws w c in grind (arith, nat_tests))
