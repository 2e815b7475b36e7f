-- The loops over arrangements, as facts about lists. Assumes nothing.
use Rattle.std.proofs.Common.{◌≡◌, ℕ, suc, ◌+◌, ◌<◌, ◌≤◌, Bool, true, false, eqb, ◌⊎◌, List, length, get_or, take, set, sym, refl, ap, ◌∙◌, inl, inr, add-one, arith, below_more}
use Rattle.std.proofs.lemmas.List.{ext_get_or, length-map, get_or-set_same, get_or-set_other, take_all}
use Rattle.std.proofs.lemmas.Bool.{cases_eq, eq-eqb, ne_eqb, false_from_ne_true}
use Rattle.kind.specs.Arrangements.{arrangement?, place, count, through, inverted}
use Rattle.kind.specs.Laws.Arrangements.{bit, bit_le, arr_length, arr_low, arr_place, arr_apart, arr_once, arrangement_from_counts, count_more, count_front, get_or_through, get_or_inverted, length_inverted}

pub through_all : (f g out : List ℕ) → length f ≡ 16 → length out ≡ 16 → ((k : ℕ) → k < 16 → get_or out k 0 ≡ get_or g (get_or f k 0) 0) → out ≡ through f g
through_all f g out n m h =
    let l = length-map f (λ k. get_or g k 0) in
    ext_get_or 0 out (through f g) (omega arith) (λ k p. h k (omega arith) ∙ sym (get_or_through f g k (omega arith)))

module _ (f : List ℕ) (ok : arrangement? f ≡ true) where
  pub inverse_more : (out : List ℕ) (i : ℕ) → i < 16 → length out ≡ 16 → ((k : ℕ) → k < i → get_or out (get_or f k 0) 0 ≡ k) → (k : ℕ) → k < i + 1 → get_or (set out (get_or f i 0) i) (get_or f k 0) 0 ≡ k
  inverse_more out i p n h =
      let low = arr_low f ok i p in
      below_more (λ k. get_or (set out (get_or f i 0) i) (get_or f k 0) 0 ≡ k) i
      (λ k l. get_or-set_other out (get_or f i 0) (get_or f k 0) i 0 (λ e. let s = arr_apart f ok k i (omega arith) p e in omega arith) ∙ h k l)
      (get_or-set_same out (get_or f i 0) i 0 (omega arith))

  pub inverse_all : (out : List ℕ) → length out ≡ 16 → ((k : ℕ) → k < 16 → get_or out (get_or f k 0) 0 ≡ k) → out ≡ inverted f
  inverse_all out n h =
      let m = length_inverted f in
      ext_get_or 0 out (inverted f) (omega arith)
      (λ k p.
      let k' : k < 16 = omega arith in
      let at = arr_place f ok k k' in
      ap (λ j. get_or out j 0) (sym at.1) ∙ h (place k f) at.0 ∙ sym (get_or_inverted f k k'))

pub other_length : (xs : List ℕ) → (length xs ≡ 16 → ⊥) → arrangement? xs ≡ false
other_length xs h = false_from_ne_true (arrangement? xs) (λ ok. h (arr_length xs ok))

-- the loop that finds out whether a list is an arrangement: `seen` says which numbers have been met
module _ (xs : List ℕ) (n : length xs ≡ 16) (i : ℕ) (p : i < 16) where
  pub too_high : 16 ≤ get_or xs i 0 → false ≡ arrangement? xs
  too_high h = sym (false_from_ne_true (arrangement? xs) (λ ok. let l = arr_low xs ok i p in omega arith))

  pub met_again : get_or xs i 0 < 16 → count (get_or xs i 0) (take i xs) ≡ 1 → false ≡ arrangement? xs
  met_again h e = sym (false_from_ne_true (arrangement? xs) (λ ok.
      let x = get_or xs i 0 in
      let o = arr_once xs ok x h in
      let m = count_more x xs i (omega arith) in
      let s : bit (eqb x x) ≡ 1 = ap bit (eq-eqb x x refl) in
      let f = count_front x xs (suc i) in
      omega arith))

  pub seen_more : (seen : List Bool) → length seen ≡ 16 → get_or xs i 0 < 16 → get_or seen (get_or xs i 0) false ≡ false → ((k : ℕ) → k < 16 → count k (take i xs) ≡ bit (get_or seen k false)) → (k : ℕ) → k < 16 → count k (take (i + 1) xs) ≡ bit (get_or (set seen (get_or xs i 0) true) k false)
  seen_more seen m low new h k l =
      let x = get_or xs i 0 in
      let c = count_more k xs i (omega arith) in
      let old = h k l in
      let next : count k (take (i + 1) xs) ≡ count k (take (suc i) xs) = ap (λ j. count k (take j xs)) (add-one i) in
      go (cases_eq x k) c old next
    where
      go : (get_or xs i 0 ≡ k) ⊎ (get_or xs i 0 ≡ k → ⊥) → count k (take (suc i) xs) ≡ count k (take i xs) + bit (eqb (get_or xs i 0) k) → count k (take i xs) ≡ bit (get_or seen k false) → count k (take (i + 1) xs) ≡ count k (take (suc i) xs) → count k (take (i + 1) xs) ≡ bit (get_or (set seen (get_or xs i 0) true) k false)
      go (inl e) c old next =
          let b : bit (eqb (get_or xs i 0) k) ≡ 1 = ap bit (eq-eqb (get_or xs i 0) k e) in
          let z : bit (get_or seen k false) ≡ 0 = ap bit (ap (λ j. get_or seen j false) (sym e) ∙ new) in
          let s : bit (get_or (set seen (get_or xs i 0) true) k false) ≡ 1 = ap bit (ap (λ j. get_or (set seen (get_or xs i 0) true) j false) (sym e) ∙ get_or-set_same seen (get_or xs i 0) true false (omega arith)) in
          omega arith
      go (inr e) c old next =
          let b : bit (eqb (get_or xs i 0) k) ≡ 0 = ap bit (ne_eqb (get_or xs i 0) k e) in
          let s : bit (get_or (set seen (get_or xs i 0) true) k false) ≡ bit (get_or seen k false) = ap bit (get_or-set_other seen (get_or xs i 0) k true false (λ d. e (sym d))) in
          omega arith

pub seen_all : (xs : List ℕ) (seen : List Bool) (i : ℕ) → length xs ≡ 16 → 16 ≤ i → ((k : ℕ) → k < 16 → count k (take i xs) ≡ bit (get_or seen k false)) → ((j : ℕ) → j < i → get_or xs j 0 < 16) → true ≡ arrangement? xs
seen_all xs seen i n p h low =
    sym (arrangement_from_counts xs n (λ j l. low j (omega arith)) (λ k l.
    let e = h k l in
    let t : count k (take i xs) ≡ count k xs = ap (count k) (take_all i xs (omega arith)) in
    let f = bit_le (get_or seen k false) in
    omega arith))
