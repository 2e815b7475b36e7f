-- Lists with an element for each cell. Assumes nothing.
use Rattle.std.proofs.Common.{◌≡◌, ℕ, ◌<◌, cond, eqb, List, map, length, get_or, set, sym, ap, ◌∙◌, inl, inr, arith}
use Rattle.std.proofs.lemmas.List.FromFn.{length-map-range_with_len, get_or-map-range_with_len}
use Rattle.std.proofs.lemmas.List.{ext_get_or, get_or-map, length-map, get_or-set_same, get_or-set_other}
use Rattle.std.proofs.lemmas.Bool.{cases_eq, cond-true, cond-false, eq-eqb, ne_eqb}
use Rattle.std.specs.List.{range_with_len}

-- a list that has f c for each cell c, and one that is taken for it
pub by_cells : {S : Type 0} (d : S) (xs : List S) (f : ℕ → S) (n : ℕ) → length xs ≡ n → ((c : ℕ) → c < n → get_or xs c d ≡ f c) → xs ≡ map f (range_with_len 0 n)
by_cells d xs f n e at =
    ext_get_or d xs (map f (range_with_len 0 n)) (e ∙ sym (length-map-range_with_len f 0 n))
    (λ c l. let low : c < n = omega arith in at c low ∙ sym (get_or-map-range_with_len f 0 n c c d low (omega arith)))

pub map_by_cells : {S T : Type 0} (g : S → T) (d : S) (d' : T) (xs : List S) (f : ℕ → T) (n : ℕ) → length xs ≡ n → ((c : ℕ) → c < n → g (get_or xs c d) ≡ f c) → map g xs ≡ map f (range_with_len 0 n)
map_by_cells g d d' xs f n e at =
    by_cells d' (map g xs) f n (length-map xs g ∙ e)
    (λ c l. get_or-map g xs c d d' (omega arith) ∙ at c l)

-- what f makes of the element at c, after x came to stand at d
pub set_read : {S T : Type 0} (f : S → T) (xs : List S) (d c : ℕ) (x z : S) → d < length xs → f (get_or (set xs d x) c z) ≡ cond (eqb d c) (f x) (f (get_or xs c z))
set_read f xs d c x z l =
    elim (cases_eq d c) [
      | inl own ↦
          ap (λ k. f (get_or (set xs d x) k z)) (sym own) ∙ ap f (get_or-set_same xs d x z l) ∙ sym (cond-true (eqb d c) (f x) (f (get_or xs c z)) (eq-eqb d c own))
      | inr other ↦
          ap f (get_or-set_other xs d c x z (λ e. other (sym e))) ∙ sym (cond-false (eqb d c) (f x) (f (get_or xs c z)) (ne_eqb d c other))
    ]
