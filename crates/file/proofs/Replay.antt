-- One record more of a file. Assumes nothing.
use Rattle.std.proofs.Common.{◌≡◌, ℕ, zero, suc, ◌+◌, ◌-◌, ◌≤◌, List, Some, None, Ok, Err, Option, Result, ap, ◌∙◌, suc-add, zero-add, add-one, arith}
use Rattle.kind.specs.Answers.{and_then}
use Rattle.kind.specs.Model.{Model}
use Rattle.file.specs.declared.faults.FileFault.{FileFault}
use Rattle.file.specs.Header.{cells_at}
use Rattle.file.specs.Records.{Parts, parts_of, record_bytes}
use Rattle.file.specs.States.{saved, change_for, moved, last_of, replayed}
use Rattle.file.proofs.Owners.{own_some, own_none}

module _ {PS PC : Type 0} (K : Model PS PC) (f : List ℕ) (cell : ℕ) where
  -- what record i + 1 says
  abbrev pub said : ℕ → Result (Option K.Change) FileFault
  said i = change_for K (cells_at f) cell (suc i) (last_of K f cell i) (saved K f (suc i))

  -- what is done with that
  abbrev done : Result (Option K.Change) FileFault → K.State → Result K.State FileFault
  done r s = and_then r (λ o. Ok (moved K o s))

  step : (i : ℕ) (s : K.State) (r : Result (Option K.Change) FileFault) → Ok s ≡ replayed K f cell i → r ≡ said i → done r s ≡ replayed K f cell (suc i)
  step i s r p q = ap (λ r. done r s) q ∙ ap (λ r. and_then r (done (said i))) p

  refused_on : (e : FileFault) (i k : ℕ) → Err e ≡ replayed K f cell i → Err e ≡ replayed K f cell (k + i)
  refused_on e i zero p = rw zero-add p
  refused_on e i (suc k) p = rw suc-add (ap (λ r. and_then r (done (said (k + i)))) (refused_on e i k p))

  -- as the loop has it: the record's number is i + 1
  pub said_is : (i n cells last w : ℕ) (p : Parts) (r : Result (Option K.Change) FileFault) → cells ≡ cells_at f → last ≡ last_of K f cell i → w ≡ K.width → n ≡ i + 1 → p ≡ parts_of (record_bytes w f (i + 1)) → r ≡ change_for K cells cell n last p → r ≡ said i
  said_is i n cells last w p r ec el ew en ep q =
      q ∙ ap (λ m. change_for K cells cell m last p) en ∙ ap (λ c. change_for K c cell (i + 1) last p) ec ∙ ap (λ l. change_for K (cells_at f) cell (i + 1) l p) el
      ∙ ap (change_for K (cells_at f) cell (i + 1) (last_of K f cell i)) (ep ∙ ap (λ w. parts_of (record_bytes w f (i + 1))) ew)
      ∙ ap (λ m. change_for K (cells_at f) cell m (last_of K f cell i) (saved K f m)) (add-one i)

  pub state_more : (i : ℕ) (s : K.State) (o : Option K.Change) → Ok s ≡ replayed K f cell i → Ok o ≡ said i → Ok (moved K o s) ≡ replayed K f cell (i + 1)
  state_more i s o p q = rw add-one (step i s (Ok o) p q)

  pub last_some : (i : ℕ) (c : K.Change) → Ok (Some c) ≡ said i → i + 1 ≡ last_of K f cell (i + 1)
  last_some i c q =
      let e = (own_some K (cells_at f) cell (suc i) (last_of K f cell i) (saved K f (suc i)) c q).0 in
      rw (add-one, e)

  pub last_none : (i : ℕ) → Ok None ≡ said i → last_of K f cell i ≡ last_of K f cell (i + 1)
  last_none i q =
      let e = own_none K (cells_at f) cell (suc i) (last_of K f cell i) (saved K f (suc i)) q in
      rw (add-one, e)

  pub refused_at : (i m : ℕ) (s : K.State) (e : FileFault) → i + 1 ≤ m → Ok s ≡ replayed K f cell i → Err e ≡ said i → Err e ≡ replayed K f cell m
  refused_at i m s e h p q =
      let k : m - suc i + suc i ≡ m = omega arith in
      refused_on e (suc i) (m - suc i) (step i s (Err e) p q) ∙ ap (replayed K f cell) k
