-- What the test of an arrangement says of its places, and that composing and inverting arrangements give arrangements.
-- Assumes nothing.
use Rattle.std.specs.Prelude.{◌≡◌, ℕ, zero, suc, ◌+◌, ◌<◌, ◌≤◌, Bool, true, false, cond, ◌⊎◌, List, [], ◌∷◌, length, take, ◌==◌, ◌≢◌, nat_eq, nat_lt, slice_index, refl}
use Rattle.std.proofs.Common.{sym, ap, ◌∙◌, subst, inl, inr, arith}
use Rattle.std.proofs.lemmas.List.FromFn.{length-map-range_with_len, get_or-map-range_with_len}
use Rattle.std.proofs.lemmas.List.{get_or-map, length-map}
use Rattle.std.proofs.lemmas.Bool.{eqb-true, eq-eqb, ne_eqb, lt-ltb, le-ltb, and_parts, and_from, cases_lt, cases_order}
use Rattle.std.proofs.lemmas.Bool.Decides.{Decides-below_and, Decides-eqb}
use Rattle.kind.specs.Arrangements.{count, place, once_below?, arrangement?, in_order_list, through, inverted}

-- 1 where the test passes, else 0
abbrev pub bit : Bool → ℕ
bit b = cond b 1 0

pub place_found : (k : ℕ) (xs : List ℕ) → 0 < count k xs → (place k xs < length xs) × (slice_index xs (place k xs) ≡ k)
place_found k [] h = absurd (omega arith)
place_found k (x ∷ xs) h = go (x == k) refl h (place_found k xs)
  where
    go : (b : Bool) → (x == k) ≡ b → 0 < bit b + count k xs → (0 < count k xs → (place k xs < length xs) × (slice_index xs (place k xs) ≡ k)) → (cond b 0 (suc (place k xs)) < suc (length xs)) × (slice_index (x ∷ xs) (cond b 0 (suc (place k xs))) ≡ k)
    go true e h r = (omega arith, eqb-true x k e)
    go false e h r = let f = r (omega arith) in (omega arith, f.1)

pub count_has : (xs : List ℕ) (i : ℕ) → i < length xs → 0 < count (slice_index xs i) xs
count_has [] i h = absurd (omega arith)
count_has (x ∷ xs) zero h = let e : bit (x == x) ≡ 1 = ap bit (eq-eqb x x refl) in omega arith
count_has (x ∷ xs) (suc i) h = let f = count_has xs i (omega arith) in omega arith

pub place_only : (xs : List ℕ) (i : ℕ) → i < length xs → count (slice_index xs i) xs ≤ 1 → place (slice_index xs i) xs ≡ i
place_only [] i h l = absurd (omega arith)
place_only (x ∷ xs) zero h l = ap (λ b. cond b 0 (suc (place x xs))) (eq-eqb x x refl)
place_only (x ∷ xs) (suc i) h l = go (x == slice_index xs i) l (count_has xs i (omega arith)) (place_only xs i (omega arith))
  where
    go : (b : Bool) → bit b + count (slice_index xs i) xs ≤ 1 → 0 < count (slice_index xs i) xs → (count (slice_index xs i) xs ≤ 1 → place (slice_index xs i) xs ≡ i) → cond b 0 (suc (place (slice_index xs i) xs)) ≡ suc i
    go true l p r = absurd (omega arith)
    go false l p r = ap suc (r (omega arith))

-- how many elements are below n
abbrev pub below : ℕ → List ℕ → ℕ
below n [] = 0
below n (x ∷ xs) = bit (nat_lt x n) + below n xs

bit_lt : (a b : ℕ) → a < b → bit (nat_lt a b) ≡ 1
bit_lt a b h = ap bit (lt-ltb a b h)

bit_ge : (a b : ℕ) → b ≤ a → bit (nat_lt a b) ≡ 0
bit_ge a b h = ap bit (le-ltb a b h)

bit_eq : (a b : ℕ) → a ≡ b → bit (a == b) ≡ 1
bit_eq a b h = ap bit (eq-eqb a b h)

bit_ne : (a b : ℕ) → (a ≢ b) → bit (a == b) ≡ 0
bit_ne a b h = ap bit (ne_eqb a b h)

bit_more : (x n : ℕ) → bit (nat_lt x (suc n)) ≡ bit (nat_lt x n) + bit (x == n)
bit_more x n = go (cases_order x n)
  where
    go : (x ≡ n) ⊎ ((x < n) ⊎ (n < x)) → bit (nat_lt x (suc n)) ≡ bit (nat_lt x n) + bit (x == n)
    go (inl e) = let p = bit_lt x (suc n) (omega arith) in let q = bit_ge x n (omega arith) in let r = bit_eq x n e in omega arith
    go (inr (inl l)) = let p = bit_lt x (suc n) (omega arith) in let q = bit_lt x n l in let r = bit_ne x n (omega arith) in omega arith
    go (inr (inr l)) = let p = bit_ge x (suc n) (omega arith) in let q = bit_ge x n (omega arith) in let r = bit_ne x n (omega arith) in omega arith

below_zero : (xs : List ℕ) → below 0 xs ≡ 0
below_zero [] = refl
below_zero (x ∷ xs) = let p = bit_ge x 0 (omega arith) in let r = below_zero xs in omega arith

below_suc : (n : ℕ) (xs : List ℕ) → below (suc n) xs ≡ below n xs + count n xs
below_suc n [] = refl
below_suc n (x ∷ xs) = let p = bit_more x n in let r = below_suc n xs in omega arith

pub bit_le : (b : Bool) → bit b ≤ 1
bit_le true = omega arith
bit_le false = omega arith

below_le : (n : ℕ) (xs : List ℕ) → below n xs ≤ length xs
below_le n [] = omega arith
below_le n (x ∷ xs) = let p = bit_le (nat_lt x n) in let r = below_le n xs in omega arith

below_all : (n : ℕ) (xs : List ℕ) → below n xs ≡ length xs → (i : ℕ) → i < length xs → slice_index xs i < n
below_all n [] e i h = absurd (omega arith)
below_all n (x ∷ xs) e zero h = go (cases_lt x n)
  where
    go : (x < n) ⊎ (n ≤ x) → x < n
    go (inl l) = l
    go (inr l) = let p = bit_ge x n l in let r = below_le n xs in absurd (omega arith)
below_all n (x ∷ xs) e (suc i) h = let p = bit_le (nat_lt x n) in let r = below_le n xs in below_all n xs (omega arith) i (omega arith)

pub below_from : (n : ℕ) (xs : List ℕ) → ((i : ℕ) → i < length xs → slice_index xs i < n) → below n xs ≡ length xs
below_from n [] h = refl
below_from n (x ∷ xs) h =
    let p = bit_lt x n (h 0 (omega arith)) in
    let r = below_from n xs (λ i l. h (suc i) (omega arith)) in
    omega arith

below_once : (n : ℕ) (xs : List ℕ) → ((k : ℕ) → k < n → count k xs ≡ 1) → below n xs ≡ n
below_once zero xs h = below_zero xs
below_once (suc n) xs h =
    let p = below_suc n xs in
    let q = h n (omega arith) in
    let r = below_once n xs (λ k l. h k (omega arith)) in
    omega arith

below_few : (n : ℕ) (xs : List ℕ) → ((k : ℕ) → k < n → count k xs ≤ 1) → below n xs ≤ n
below_few zero xs h = let p = below_zero xs in omega arith
below_few (suc n) xs h = let p = below_suc n xs in let q = h n (omega arith) in let r = below_few n xs (λ k l. h k (omega arith)) in omega arith

pub once_from : (n : ℕ) (xs : List ℕ) → ((k : ℕ) → k < n → count k xs ≤ 1) → below n xs ≡ n → (k : ℕ) → k < n → count k xs ≡ 1
once_from zero xs h e k l = absurd (omega arith)
once_from (suc n) xs h e k l = go (cases_lt k n) (once_from n xs (λ j s. h j (omega arith)))
  where
    p : below (suc n) xs ≡ below n xs + count n xs
    p = below_suc n xs

    q : count n xs ≤ 1
    q = h n (omega arith)

    r : below n xs ≤ n
    r = below_few n xs (λ j s. h j (omega arith))

    go : (k < n) ⊎ (n ≤ k) → (below n xs ≡ n → (j : ℕ) → j < n → count j xs ≡ 1) → count k xs ≡ 1
    go (inl s) ih = ih (omega (arith, p, q, r)) k s
    go (inr s) ih = let same : n ≡ k = omega arith in ap (λ j. count j xs) (sym same) ∙ omega (arith, p, q, r)

-- no two places have one number
abbrev pub Apart : List ℕ → Type 0
Apart xs = (i j : ℕ) → i < length xs → j < length xs → slice_index xs i ≡ slice_index xs j → i ≡ j

pub count_few : (xs : List ℕ) → Apart xs → (k : ℕ) → count k xs ≤ 1
count_few [] a k = omega arith
count_few (x ∷ xs) a k = go (x == k) refl (cases_lt 0 (count k xs)) (count_few xs (λ i j p q e. let s = a (suc i) (suc j) (omega arith) (omega arith) e in omega arith) k)
  where
    go : (b : Bool) → (x == k) ≡ b → (0 < count k xs) ⊎ (count k xs ≤ 0) → count k xs ≤ 1 → bit b + count k xs ≤ 1
    go true e (inl l) r =
        let f = place_found k xs l in
        let s = a 0 (suc (place k xs)) (omega arith) (omega arith) (eqb-true x k e ∙ sym f.1) in
        absurd (omega arith)
    go true e (inr l) r = omega arith
    go false e c r = omega arith

once_decides : (xs : List ℕ) (n : ℕ) → (once_below? n xs ≡ true → (k : ℕ) → k < n → count k xs ≡ 1) × (((k : ℕ) → k < n → count k xs ≡ 1) → once_below? n xs ≡ true)
unfolding once_below?
once_decides xs n = Decides-below_and (λ k. nat_eq (count k xs) 1) (λ k. count k xs ≡ 1) (λ m. once_below? m xs) (λ k. Decides-eqb (count k xs) 1) refl (λ m. refl) n

module _ (xs : List ℕ) (ok : arrangement? xs ≡ true) where
  pub arr_length : length xs ≡ 16
  unfolding arrangement?
  arr_length = eqb-true (length xs) 16 (and_parts (length xs == 16) (once_below? 16 xs) ok).0

  pub arr_once : (k : ℕ) → k < 16 → count k xs ≡ 1
  unfolding arrangement?
  arr_once = (once_decides xs 16).0 (and_parts (length xs == 16) (once_below? 16 xs) ok).1

  pub arr_low : (i : ℕ) → i < 16 → slice_index xs i < 16
  arr_low i h = let l = arr_length in below_all 16 xs (below_once 16 xs arr_once ∙ sym l) i (omega arith)

  pub arr_place : (k : ℕ) → k < 16 → (place k xs < 16) × (slice_index xs (place k xs) ≡ k)
  arr_place k h =
      let l = arr_length in
      let o = arr_once k h in
      let f = place_found k xs (omega arith) in
      (omega arith, f.1)

  pub arr_only : (i : ℕ) → i < 16 → place (slice_index xs i) xs ≡ i
  arr_only i h =
      let l = arr_length in
      let o = arr_once (slice_index xs i) (arr_low i h) in
      place_only xs i (omega arith) (omega arith)

  pub arr_apart : (i j : ℕ) → i < 16 → j < 16 → slice_index xs i ≡ slice_index xs j → i ≡ j
  arr_apart i j p q e = sym (arr_only i p) ∙ ap (λ k. place k xs) e ∙ arr_only j q

pub arrangement_once : (xs : List ℕ) → length xs ≡ 16 → ((k : ℕ) → k < 16 → count k xs ≡ 1) → arrangement? xs ≡ true
unfolding arrangement?
arrangement_once xs l once = and_from (length xs == 16) (once_below? 16 xs) (eq-eqb (length xs) 16 l) ((once_decides xs 16).1 once)

pub arrangement_from_counts : (xs : List ℕ) → length xs ≡ 16 → ((i : ℕ) → i < 16 → slice_index xs i < 16) → ((k : ℕ) → k < 16 → count k xs ≤ 1) → arrangement? xs ≡ true
arrangement_from_counts xs l low few =
    let all : below 16 xs ≡ 16 = below_from 16 xs (λ i h. low i (omega arith)) ∙ l in
    arrangement_once xs l (once_from 16 xs few all)

pub arrangement_from : (xs : List ℕ) → length xs ≡ 16 → ((i : ℕ) → i < 16 → slice_index xs i < 16) → Apart xs → arrangement? xs ≡ true
arrangement_from xs l low a = arrangement_from_counts xs l low (λ k h. count_few xs a k)

pub in_order_passes : arrangement? in_order_list ≡ true
unfolding arrangement? once_below?
in_order_passes = refl

-- one more element of the front
pub count_more : (k : ℕ) (xs : List ℕ) (i : ℕ) → i < length xs → count k (take (suc i) xs) ≡ count k (take i xs) + bit (slice_index xs i == k)
count_more k [] i h = absurd (omega arith)
count_more k (x ∷ xs) zero h = omega arith
count_more k (x ∷ xs) (suc i) h = let r = count_more k xs i (omega arith) in omega arith

pub count_front : (k : ℕ) (xs : List ℕ) (i : ℕ) → count k (take i xs) ≤ count k xs
count_front k xs zero = omega arith
count_front k [] (suc i) = omega arith
count_front k (x ∷ xs) (suc i) = let r = count_front k xs i in omega arith

pub get_or_through : (f g : List ℕ) (i : ℕ) → i < length f → slice_index (through f g) i ≡ slice_index g (slice_index f i)
get_or_through f g i h = get_or-map (λ k. slice_index g k) f i 0 0 h

pub get_or_inverted : (f : List ℕ) (k : ℕ) → k < 16 → slice_index (inverted f) k ≡ place k f
get_or_inverted f k h = get_or-map-range_with_len (λ j. place j f) 0 16 k k 0 h (omega arith)

pub length_inverted : (f : List ℕ) → length (inverted f) ≡ 16
length_inverted f = length-map-range_with_len (λ j. place j f) 0 16

pub through_passes : (f g : List ℕ) → arrangement? f ≡ true → arrangement? g ≡ true → arrangement? (through f g) ≡ true
through_passes f g p q =
    let l = arr_length f p in
    let low = arr_low f p in
    let only = arr_only g q in
    let n : length (through f g) ≡ 16 = length-map f (λ k. slice_index g k) ∙ l in
    let at = get_or_through f g in
    arrangement_from (through f g) n
    (λ i h. subst (λ k. k < 16) (sym (at i (omega arith))) (arr_low g q (slice_index f i) (low i h)))
    (λ i j a b e.
    let i' : i < 16 = omega arith in
    let j' : j < 16 = omega arith in
    arr_apart f p i j i' j' (sym (only (slice_index f i) (low i i')) ∙ ap (λ k. place k g) (sym (at i (omega arith)) ∙ e ∙ at j (omega arith)) ∙ only (slice_index f j) (low j j')))

pub inverted_passes : (f : List ℕ) → arrangement? f ≡ true → arrangement? (inverted f) ≡ true
inverted_passes f p =
    let at = get_or_inverted f in
    arrangement_from (inverted f) (length_inverted f)
    (λ i h. let l = (arr_place f p i h).0 in let e = at i h in omega arith)
    (λ i j a b e.
    let n = length_inverted f in
    let i' : i < 16 = omega arith in
    let j' : j < 16 = omega arith in
    sym (arr_place f p i i').1 ∙ ap (λ k. slice_index f k) (sym (at i i') ∙ e ∙ at j j') ∙ (arr_place f p j j').1)
