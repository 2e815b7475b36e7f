-- Cells that are counted and written back one after the other. Assumes nothing.
use Rattle.std.proofs.Common.{◌≡◌, ℕ, zero, suc, ◌+◌, ◌<◌, Bool, true, false, cond, leb, List, length, get_or, set, IfOk, Ok, Err, Result, sym, refl, ap, ◌∙◌, inl, inr, add-one, arith, length-set}
use Rattle.std.proofs.lemmas.Bool.{cases_lt, cond_both}
use Rattle.kind.specs.Answers.{and_then, kept}
use Rattle.kind.specs.Model.{Model}
use Rattle.journal.specs.declared.record.Record.{Record}
use Rattle.volume.specs.declared.refusal.Refusal.{Refusal}
use Rattle.volume.specs.declared.refusal.Refusal.TheVariants.{Cell}
use Rattle.volume.specs.Calls.{origin, difference, logged, written}
use Rattle.volume.specs.Memory.{Memory, memory}
use Rattle.volume.specs.Reverts.{held_state, earlier_state, alike, needed, all_needed, put_back, put_all_back}
use Rattle.volume.specs.Sizes.{sound}

-- of an act that may refuse: what holds of all that it can give
pub made_then : {A B E : Type 0} (P : B → Type 0) (r : Result A E) (f : A → Result B E) → ((x : A) → IfOk (f x) P) → IfOk (and_then r f) P
made_then P (Ok x) f h = h x
made_then P (Err e) f h = tt

pub made_cond : {A E : Type 0} (P : A → Type 0) (b : Bool) (r s : Result A E) → IfOk r P → IfOk s P → IfOk (cond b r s) P
made_cond P true r s p q = p
made_cond P false r s p q = q

kept_made : {A E : Type 0} (P : A → Type 0) (a : A) (r : Result A E) → P a → IfOk r P → P (kept a r)
kept_made P a (Ok x) p q = q
kept_made P a (Err e) p q = p

module _ {PS PC : Type 0} (K : Model PS PC) (from to : ℕ) where
  module _ (m : Memory PS PC) where
    -- one cell more is counted
    pub needed_more : (n k j : ℕ) → all_needed K from to m n ≡ Ok k → needed K from to m n ≡ Ok j → all_needed K from to m (n + 1) ≡ Ok (k + j)
    needed_more n k j p q =
        ap (all_needed K from to m) (add-one n)
        ∙ ap (λ r. and_then r (λ i. and_then (needed K from to m n) (λ j. Ok (i + j)))) p
        ∙ ap (λ r. and_then r (λ j. Ok (k + j))) q

    -- or refuses
    pub needed_stops : (n i k : ℕ) (e : Refusal) → i < n → all_needed K from to m i ≡ Ok k → needed K from to m i ≡ Err e → all_needed K from to m n ≡ Err e
    needed_stops zero i k e l p q = absurd (omega arith)
    needed_stops (suc n) i k e l p q =
        elim (cases_lt i n) [
          | inl h ↦ ap (λ r. and_then r (λ i. and_then (needed K from to m n) (λ j. Ok (i + j)))) (needed_stops n i k e h p q)
          | inr h ↦
              (let same : i ≡ n = omega arith in
              ap (λ r. and_then r (λ i. and_then (needed K from to m n) (λ j. Ok (i + j)))) (ap (all_needed K from to m) (sym same) ∙ p)
              ∙ ap (λ r. and_then r (λ j. Ok (k + j))) (ap (needed K from to m) (sym same) ∙ q))
        ]

  -- as many cells and heads as before
  abbrev Sized : Memory PS PC → Memory PS PC → Type 0
  Sized m x = (length x.cells ≡ length m.cells) × (length x.heads ≡ length m.heads)

  written_sized : (m : Memory PS PC) (c : ℕ) (s : PS) → IfOk (written K m c s) (Sized m)
  unfolding written
  written_sized m c s =
      let log = logged K m.records m.count (m.count + 1) (get_or m.heads c 0) c (difference K (get_or m.cells c (origin K)) s) in
      let put : List (Record PC) → Result (Memory PS PC) Refusal = λ rs. Ok (memory (set m.cells c s) (set m.heads c (m.count + 1)) rs (m.count + 1)) in
      let tried : Result (Memory PS PC) Refusal = cond (leb (length m.cells) c) (Err Cell) (and_then log put) in
      let logging : IfOk (and_then log put) (Sized m) = made_then (Sized m) log put (λ rs. (simp length-set, simp length-set)) in
      made_then (Sized m) (sound (length m.cells) (length m.heads) (length m.records) m.count) (λ _. tried)
      (λ _. cond_both (leb (length m.cells) c) (Err Cell) (and_then log put) (λ r. IfOk r (Sized m)) (λ _. tt) (λ _. logging))

  back_sized : (m : Memory PS PC) (c : ℕ) → Sized m (put_back K from to m c)
  back_sized m c =
      let put : PS → Result (Memory PS PC) Refusal = λ t. cond (alike K (held_state K m c) t) (Ok m) (written K m c t) in
      kept_made (Sized m) m (and_then (earlier_state K from to m c) put) (refl, refl)
      (made_then (Sized m) (earlier_state K from to m c) put
      (λ t. cond_both (alike K (held_state K m c) t) (Ok m) (written K m c t) (λ r. IfOk r (Sized m)) (λ _. (refl, refl)) (λ _. written_sized m c t)))

  all_back_sized : (m : Memory PS PC) (n : ℕ) → Sized m (put_all_back K from to m n)
  all_back_sized m zero = (refl, refl)
  all_back_sized m (suc n) =
      let one = back_sized (put_all_back K from to m n) n in
      let rest = all_back_sized m n in
      (one.0 ∙ rest.0, one.1 ∙ rest.1)

  -- x is what is there after n cells
  pub still_sized : (m x : Memory PS PC) (n : ℕ) → x ≡ put_all_back K from to m n → Sized m x
  still_sized m x n e = let sized = all_back_sized m n in (ap (λ y. length y.cells) e ∙ sized.0, ap (λ y. length y.heads) e ∙ sized.1)

  pub one_more_back : (m x y : Memory PS PC) (n : ℕ) → x ≡ put_all_back K from to m n → y ≡ put_back K from to x n → y ≡ put_all_back K from to m (n + 1)
  one_more_back m x y n e q = q ∙ ap (λ z. put_back K from to z n) e ∙ ap (put_all_back K from to m) (sym (add-one n))
