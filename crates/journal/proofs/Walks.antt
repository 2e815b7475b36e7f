-- What one step does to the rest of a walk, and to where it stops. Assumes nothing.
use Rattle.std.proofs.Common.{◌≡◌, ℕ, zero, suc, ◌+◌, ◌-◌, ◌<◌, ◌≤◌, Bool, true, false, cond, leb, List, IsErrAnd, Ok, Err, Result, sym, refl, ap, ◌∙◌, ⊎_elim, arith}
use Rattle.std.proofs.lemmas.Bool.{cases_lt, le-leb, lt-leb, cond-true, cond-false}
use Rattle.std.proofs.lemmas.Result.{err_from_is_err_and}
use Rattle.std.proofs.lemmas.Bool.Decides.{nat_tests}
use Rattle.kind.specs.Model.{Model}
use Rattle.journal.specs.declared.record.Record.{Record}
use Rattle.journal.specs.declared.walk.Walked.{Walked}
use Rattle.journal.specs.declared.walk.Stop.{Stop}
use Rattle.journal.specs.declared.faults.LadderFault.{LadderFault}
use Rattle.kind.specs.Answers.{and_then}
use Rattle.journal.specs.Links.{numbered, follow}
use Rattle.journal.specs.Spans.{way, moved, step, walk, reach, stop_of}

-- what the exit of a `?` returns
pub exit : {T E : Type 0} (r : Result T E) (f : E) → IsErrAnd r (λ y. y ≡ f) → r ≡ Err f
exit r f h = let p = err_from_is_err_and r h in p.1 ∙ ap Err p.2

and_then_same : {X Y E : Type 0} (r : Result X E) (f g : X → Result Y E) → ((x : X) → r ≡ Ok x → f x ≡ g x) → and_then r f ≡ and_then r g
and_then_same (Ok x) f g h = h x refl
and_then_same (Err e) f g h = refl

module _ {PS PC : Type 0} (K : Model PS PC) (rs : List (Record PC)) (cell end : ℕ) where
  follow_low : (limit holder link n : ℕ) → follow K rs cell limit holder link ≡ Ok n → n ≤ limit
  follow_low limit holder link n e = grind (arith, nat_tests)

  step_low : (w v : Walked PC) → step K rs cell end w ≡ Ok v → v.place ≤ w.place - 1
  step_low w v e = go (follow K rs cell (w.place - 1) w.place (way end (numbered K rs w.place))) refl e
    where
      go : (r : Result ℕ LadderFault) → follow K rs cell (w.place - 1) w.place (way end (numbered K rs w.place)) ≡ r
          → and_then r (moved K rs end w) ≡ Ok v → v.place ≤ w.place - 1
      go (Ok n) q e =
          let low = follow_low (w.place - 1) w.place (way end (numbered K rs w.place)) n q in
          let same : n ≡ v.place = cc in
          omega arith
      go (Err f) q e = let z : ◌≡◌ {A = ℕ} 0 1 = cc in omega arith

  walk_done : (n : ℕ) (w : Walked PC) → w.place ≤ end → walk K n rs cell end w ≡ Ok w
  walk_done zero w h = refl
  walk_done (suc n) w h = cond-true _ _ _ (le-leb w.place end h)

  walk_on : (n : ℕ) (w : Walked PC) → end < w.place → walk K (suc n) rs cell end w ≡ and_then (step K rs cell end w) (walk K n rs cell end)
  walk_on n w h = cond-false _ _ _ (lt-leb w.place end h)

  -- more steps than there are places change nothing
  walk_enough : (m n : ℕ) (w : Walked PC) → w.place ≤ m → w.place ≤ n → walk K m rs cell end w ≡ walk K n rs cell end w
  walk_enough zero n w a b = sym (walk_done n w (omega arith))
  walk_enough (suc m) zero w a b = walk_done (suc m) w (omega arith)
  walk_enough (suc m) (suc n) w a b =
      ⊎_elim
      (λ h. walk_on m w h ∙ and_then_same (step K rs cell end w) (walk K m rs cell end) (walk K n rs cell end)
      (λ v q. let low = step_low w v q in walk_enough m n v (omega arith) (omega arith)) ∙ sym (walk_on n w h))
      (λ h. walk_done (suc m) w h ∙ sym (walk_done (suc n) w h))
      (cases_lt end w.place)

  -- where the walk has ended, and one step before that
  pub reach_done : (w : Walked PC) → w.place ≤ end → reach K rs cell end w ≡ Ok w
  reach_done w h = walk_done w.place w h

  reach_on : (w : Walked PC) → end < w.place → reach K rs cell end w ≡ and_then (step K rs cell end w) (reach K rs cell end)
  reach_on w h =
      walk_enough w.place (suc (w.place - 1)) w (omega arith) (omega arith) ∙ walk_on (w.place - 1) w h
      ∙ and_then_same (step K rs cell end w) (walk K (w.place - 1) rs cell end) (reach K rs cell end)
      (λ v q. walk_enough (w.place - 1) v.place v (step_low w v q) (omega arith))

  pub reach_fault : (w : Walked PC) (f : LadderFault) → end < w.place → step K rs cell end w ≡ Err f → reach K rs cell end w ≡ Err f
  reach_fault w f h q = reach_on w h ∙ ap (λ r. and_then r (reach K rs cell end)) q

  pub reach_step : (w v : Walked PC) → end < w.place → step K rs cell end w ≡ Ok v → reach K rs cell end w ≡ reach K rs cell end v
  reach_step w v h q = reach_on w h ∙ ap (λ r. and_then r (reach K rs cell end)) q

  -- a walk at record n after so many steps, which took t
  abbrev standing : ℕ → ℕ → PC → Walked PC
  standing n steps t = record { place = n; taken = t; steps = steps }

  -- where a walk stops does not depend on what it took
  walk_stops : (n at steps : ℕ) (t u : PC) → stop_of (walk K n rs cell end (standing at steps t)) ≡ stop_of (walk K n rs cell end (standing at steps u))
  walk_stops zero at steps t u = refl
  walk_stops (suc n) at steps t u =
      go (leb at end) (follow K rs cell (at - 1) at (way end (numbered K rs at))) (λ m. walk_stops n m (steps + 1))
    where
      all : Bool → Result ℕ LadderFault → PC → Result Stop LadderFault
      all b r t = stop_of (cond b (Ok (standing at steps t)) (and_then (and_then r (moved K rs end (standing at steps t))) (walk K n rs cell end)))

      go : (b : Bool) (r : Result ℕ LadderFault)
          → ((m : ℕ) (t u : PC) → stop_of (walk K n rs cell end (standing m (steps + 1) t)) ≡ stop_of (walk K n rs cell end (standing m (steps + 1) u)))
          → all b r t ≡ all b r u
      go true r h = refl
      go false (Ok m) h = h m _ _
      go false (Err f) h = refl

  pub stops_on : (at steps n : ℕ) (t : PC) → end < at → follow K rs cell (at - 1) at (way end (numbered K rs at)) ≡ Ok n
      → stop_of (reach K rs cell end (standing at steps t)) ≡ stop_of (reach K rs cell end (standing n (steps + 1) t))
  stops_on at steps n t h q =
      ap stop_of (reach_step (standing at steps t) _ h (ap (λ r. and_then r (moved K rs end (standing at steps t))) q))
      ∙ walk_stops n n (steps + 1) _ t

  pub stops_fault : (at steps : ℕ) (t : PC) (f : LadderFault) → end < at → follow K rs cell (at - 1) at (way end (numbered K rs at)) ≡ Err f
      → stop_of (reach K rs cell end (standing at steps t)) ≡ Err f
  stops_fault at steps t f h q =
      ap stop_of (reach_fault (standing at steps t) f h (ap (λ r. and_then r (moved K rs end (standing at steps t))) q))
