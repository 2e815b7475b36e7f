-- `Recalls` and `Lasts` hold of every kind. Assumes nothing.
use Rattle.std.proofs.Common.{◌≡◌, ℕ, zero, suc, Bool, true, false, cond, List, [], ◌∷◌, ◌++◌, Some, None, Ok, Err, Option, Result, sym, refl, ap, ◌∙◌, subst, inl, inr, append-nil, arith}
use Rattle.std.proofs.lemmas.Bool.{cases_order}
use Rattle.kind.specs.Answers.{and_then}
use Rattle.kind.specs.Model.{Model}
use Rattle.file.specs.declared.faults.FileFault.{FileFault}
use Rattle.file.specs.Header.{cells_at}
use Rattle.file.specs.States.{saved, moved, last_of, replayed}
use Rattle.file.specs.Told.{own, changes, acted, Greatest}
use Rattle.file.proofs.Owners.{own_some, own_none}
use Rattle.file.proofs.Replay.{said}

module _ {PS PC : Type 0} (K : Model PS PC) where
  acted_push : (s : K.State) (xs : List K.Change) (c : K.Change) → acted K s (xs ++ c ∷ []) ≡ K.act c (acted K s xs)
  acted_push s [] c = refl
  acted_push s (x ∷ xs) c = acted_push (K.act x s) xs c

  module _ (f : List ℕ) (cell : ℕ) where
    -- what record n + 1 adds
    added : (n : ℕ) (o : Option K.Change) (t : K.State) → Ok o ≡ said K f cell n → t ≡ acted K K.origin (changes K f cell n) → moved K o t ≡ acted K K.origin (changes K f cell (suc n))
    added n (Some c) t q p =
        let e = own_some K (cells_at f) cell (suc n) (last_of K f cell n) (saved K f (suc n)) c q in
        let mine = e.0 in
        let read = e.1 in
        rw (mine, read) (ap (K.act c) p ∙ sym (acted_push K.origin (changes K f cell n) c))
    added n None t q p =
        let other = own_none K (cells_at f) cell (suc n) (last_of K f cell n) (saved K f (suc n)) q in
        rw (other, append-nil) p

    step : (n : ℕ) (s : K.State) → ((t : K.State) → replayed K f cell n ≡ Ok t → t ≡ acted K K.origin (changes K f cell n)) → (r : Result K.State FileFault) (x : Result (Option K.Change) FileFault) → replayed K f cell n ≡ r → said K f cell n ≡ x → and_then r (λ s. and_then x (λ o. Ok (moved K o s))) ≡ Ok s → s ≡ acted K K.origin (changes K f cell (suc n))
    step n s ih (Ok t) (Ok o) er ex h = let e : s ≡ moved K o t = cc in e ∙ added n o t (sym ex) (ih t er)
    step n s ih (Ok t) (Err d) er ex h = cc
    step n s ih (Err d) x er ex h = cc

    pub recalls : (n : ℕ) (s : K.State) → replayed K f cell n ≡ Ok s → s ≡ acted K K.origin (changes K f cell n)
    recalls zero s h = cc
    recalls (suc n) s h = step n s (recalls n) (replayed K f cell n) (said K f cell n) refl refl h

    greatest_at : (n : ℕ) (b : Bool) → own K f cell (suc n) ≡ b → Greatest K f cell n (last_of K f cell n) → Greatest K f cell (suc n) (cond b (suc n) (last_of K f cell n))
    greatest_at n true e g = record { within = omega arith; its = λ _. e; beyond = λ k low high. absurd (omega arith) }
    greatest_at n false e g = record {
      within = omega arith;
      its = g.its;
      beyond = λ k low high. elim (cases_order k (suc n)) [ inl same ↦ subst (λ k. own K f cell k ≡ false) (sym same) e | inr other ↦ g.beyond k low (omega (arith, other)) ];
    }

    pub lasts : (n : ℕ) → Greatest K f cell n (last_of K f cell n)
    lasts zero = record { within = omega arith; its = λ h. absurd (omega arith); beyond = λ k low high. absurd (omega arith) }
    lasts (suc n) = greatest_at n (own K f cell (suc n)) refl (lasts n)
