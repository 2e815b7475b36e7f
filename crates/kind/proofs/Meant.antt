-- The three kinds do what specs/Meanings.antt says. Assumes nothing.
use Rattle.std.proofs.Common.{◌≡◌, ℕ, suc, ◌+◌, ◌-◌, ◌*◌, ◌/◌, ◌%◌, ◌^◌, ◌<◌, true, List, get_or, ℤ, pos, negsuc, ◌+ℤ◌, sym, refl, ap, ◌∙◌, subst, inl, inr, arith, w32, to_z}
use mir.Val.{sel}
use Rattle.std.proofs.lemmas.List.FromFn.{get_or-range_with_len}
use Rattle.std.proofs.lemmas.Int.{of_z-to_z, to_z_pos, ints}
use Rattle.std.proofs.lemmas.Bool.{cases_lt, le-ltb, false_from_ne_true}
use Rattle.kind.specs.Arrangements.{arrangement?, once_below?, place, count, through, inverted}
use Rattle.kind.specs.BankMaps.{in_order}
use Rattle.kind.specs.Blocks.{zeros}
use Rattle.kind.specs.Meanings.{Bytes128, XorOf, BlocksXor, IsI32, bits, SumOf, DifferenceOf, TalliesAdd, Permutes, MapsCompose, ArrangementsPermute, OrderCounts}
use Rattle.kind.specs.Passing.{taken}
use Rattle.kind.specs.Xors.{xors}
use Rattle.kind.specs.Laws.Arrangements.{arr_length, arr_low, arr_place, arr_only, arr_apart, arrangement_once, count_has, count_few, get_or_through, get_or_inverted, through_passes, inverted_passes}
use Rattle.kind.specs.Laws.Passing.{taken_list, taken_other}
use Rattle.kind.specs.Laws.Xors.{block_length, block_bytes, block_passes, get_or_xors, xors_passes}

-- blocks

module _ (a b : List ℕ) (p : Bytes128 a) (q : Bytes128 b) where
  xors_meant : XorOf a b (xors a b)
  xors_meant =
      let r = xors_passes a b (block_passes a p.0 p.1) (block_passes b q.0 q.1) in
      record {
        made = (block_length (xors a b) r, block_bytes (xors a b) r);
        each = λ i h. get_or_xors a b i (omega arith) (p.0 ∙ sym q.0);
      }

block_itself : (a : List ℕ) → Bytes128 a → (taken zeros a).list ≡ a
block_itself a p = taken_list zeros a (block_passes a p.0 p.1)

xored_meant : (a b : List ℕ) → Bytes128 a → Bytes128 b → XorOf a b (xors (taken zeros a).list (taken zeros b).list)
xored_meant a b p q =
    subst (λ (x : List ℕ). XorOf a b (xors x (taken zeros b).list)) (sym (block_itself a p))
    (subst (λ (y : List ℕ). XorOf a b (xors a y)) (sym (block_itself b q)) (xors_meant a b p q))

pub blocks_xor_lem : BlocksXor
blocks_xor_lem = record {
  acting = λ f s p q. xored_meant s f q p;
  following = xored_meant;
  inverting = block_itself;
  difference = xored_meant;
  origin = refl;
  unit = refl;
}

-- tallies

-- 1 where a number is below 0, and so lies 2 ^ 32 below its bits
abbrev below_0 : ℤ → ℕ
below_0 (pos n) = 0
below_0 (negsuc n) = 1

bits_low : (z : ℤ) → IsI32 z → bits z < 2 ^ 32
bits_low (pos n) h = omega arith
bits_low (negsuc n) h = omega arith

bits_whole : (z : ℤ) → IsI32 z → z +ℤ pos (below_0 z * 2 ^ 32) ≡ pos (bits z)
bits_whole (pos n) h = omega (arith, ints)
bits_whole (negsuc n) h = omega (arith, ints)

number_made : (n : ℕ) → n < 2 ^ 32 → IsI32 (to_z w32 n)
number_made n h =
    elim (cases_lt n (2 ^ 31)) [
      | inl l ↦ (let e : to_z w32 n ≡ pos n = to_z_pos w32 n l in subst IsI32 (sym e) l)
      | inr l ↦ (let e : to_z w32 n ≡ negsuc (2 ^ 32 - suc n) = ap (λ b. sel b (pos n) (negsuc (2 ^ 32 - suc n))) (le-ltb n (2 ^ 31) l) in subst IsI32 (sym e) (omega arith))
    ]

module _ (a b : ℤ) (p : IsI32 a) (q : IsI32 b) where
  sum_meant : SumOf a b (to_z w32 ((bits a % 2 ^ 32 + bits b % 2 ^ 32) % 2 ^ 32))
  sum_meant =
      let n : ℕ = (bits a % 2 ^ 32 + bits b % 2 ^ 32) % 2 ^ 32 in
      let la = bits_low a p in
      let lb = bits_low b q in
      let low : n < 2 ^ 32 = omega arith in
      let back : bits (to_z w32 n) ≡ n = of_z-to_z w32 n low in
      let made : IsI32 (to_z w32 n) = number_made n low in
      let wa = bits_whole a p in
      let wb = bits_whole b q in
      let wr = bits_whole (to_z w32 n) made in
      record {
        made = made;
        by_bits = back ∙ omega arith;
        whole = (below_0 (to_z w32 n) + (bits a + bits b) / 2 ^ 32, below_0 a + below_0 b, omega (arith, ints));
      }

  difference_meant : DifferenceOf a b (to_z w32 ((bits a % 2 ^ 32 + (2 ^ 32 - bits b % 2 ^ 32)) % 2 ^ 32))
  difference_meant =
      let n : ℕ = (bits a % 2 ^ 32 + (2 ^ 32 - bits b % 2 ^ 32)) % 2 ^ 32 in
      let la = bits_low a p in
      let lb = bits_low b q in
      let low : n < 2 ^ 32 = omega arith in
      let back : bits (to_z w32 n) ≡ n = of_z-to_z w32 n low in
      let made : IsI32 (to_z w32 n) = number_made n low in
      let wa = bits_whole a p in
      let wb = bits_whole b q in
      let wr = bits_whole (to_z w32 n) made in
      record {
        made = made;
        by_bits = back ∙ omega arith;
        whole = (below_0 (to_z w32 n) + (bits a + (2 ^ 32 - bits b)) / 2 ^ 32 + below_0 b, below_0 a + 1, omega (arith, ints));
      }

pub tallies_add_lem : TalliesAdd
tallies_add_lem = record {
  acting = λ f s p q. sum_meant s f q p;
  following = sum_meant;
  inverting = λ f p.
      let e : (0 + (2 ^ 32 - bits f % 2 ^ 32)) % 2 ^ 32 ≡ (2 ^ 32 - bits f % 2 ^ 32) % 2 ^ 32 = omega arith in
      subst (λ n. DifferenceOf (pos 0) f (to_z w32 n)) e (difference_meant (pos 0) f (omega arith) p);
  difference = λ s t p q. difference_meant t s q p;
  origin = refl;
  unit = refl;
}

-- bank maps

pub arrangements_permute : ArrangementsPermute
arrangements_permute xs = (
  λ ok. record {
    places = arr_length xs ok;
    every = λ k h. let at = arr_place xs ok k h in (place k xs, at.0, at.1);
    apart = arr_apart xs ok;
  },
  λ p.
      let n = p.places in
      arrangement_once xs n (λ k h.
      let (i, l, e) = p.every k h in
      let some : 0 < count k xs = subst (λ j. 0 < count j xs) e (count_has xs i (omega arith)) in
      let few = count_few xs (λ a b la lb. p.apart a b (omega arith) (omega arith)) k in
      omega arith),
)

arranged : (f : List ℕ) → Permutes f → arrangement? f ≡ true
arranged f = (arrangements_permute f).1

map_itself : (f : List ℕ) → Permutes f → (taken in_order f).list ≡ f
map_itself f p = taken_list in_order f (arranged f p)

-- r permutes, and has at place `from i` the number `to i`
abbrev At : List ℕ → (ℕ → ℕ) → (ℕ → ℕ) → Type 0
At r from to = Permutes r × ((i : ℕ) → i < 16 → get_or r (from i) 0 ≡ to i)

through_meant : (f g : List ℕ) → Permutes f → Permutes g → At (through f g) (λ i. i) (λ i. get_or g (get_or f i 0) 0)
through_meant f g p q =
    let n = p.places in
    ((arrangements_permute (through f g)).0 (through_passes f g (arranged f p) (arranged g q)), λ i h. get_or_through f g i (omega arith))

inverted_meant : (f : List ℕ) → Permutes f → At (inverted f) (λ i. get_or f i 0) (λ i. i)
inverted_meant f p =
    let ok = arranged f p in
    ((arrangements_permute (inverted f)).0 (inverted_passes f ok), λ i h. get_or_inverted f (get_or f i 0) (arr_low f ok i h) ∙ arr_only f ok i h)

between_meant : (s t : List ℕ) → Permutes s → Permutes t → At (through (inverted s) t) (λ i. get_or s i 0) (λ i. get_or t i 0)
between_meant s t p q =
    let back = inverted_meant s p in
    let made = through_meant (inverted s) t back.0 q in
    (made.0, λ i h. made.1 (get_or s i 0) (arr_low s (arranged s p) i h) ∙ ap (λ k. get_or t k 0) (back.1 i h))

in_order_meant : At in_order.list (λ i. i) (λ i. i)
in_order_meant = ((arrangements_permute in_order.list).0 in_order.passes, λ i h. get_or-range_with_len 0 16 i 0 h ∙ omega arith)

pub maps_compose_lem : MapsCompose
maps_compose_lem = record {
  acting = λ f s p q. rw (map_itself s q, map_itself f p) (through_meant s f q p);
  following = λ f g p q. rw (map_itself f p, map_itself g q) (through_meant f g p q);
  inverting = λ f p. rw (map_itself f p) (inverted_meant f p);
  difference = λ s t p q. rw (map_itself s p, map_itself t q) (between_meant s t p q);
  origin = in_order_meant;
  unit = in_order_meant;
  otherwise = λ xs none. let e = taken_other in_order xs (false_from_ne_true (arrangement? xs) (λ ok. none ((arrangements_permute xs).0 ok))) in (e, e);
}

pub order_counts : OrderCounts
unfolding arrangement? once_below?
order_counts = (refl, refl)
