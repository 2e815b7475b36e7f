-- What the three kinds do, said of the plain values that go in and come out: bytes, numbers and places. Assumes nothing.
use Rattle.std.specs.Prelude.{◌≡◌, ℕ, ◌+◌, ◌-◌, ◌*◌, ◌%◌, ◌^◌, ◌<◌, true, cond, List, ◌∷◌, map, length, replicate, ℤ, pos, negsuc, ◌+ℤ◌, ◌-ℤ◌, ◌==◌, bit_xor, slice_index}
use Rattle.std.specs.Int.{w32}
use Rattle.std.proofs.Common.{of_z}
use Rattle.std.specs.List.{range_with_len}
use Rattle.kind.specs.Arrangements.{arrangement?}
use Rattle.kind.specs.BankMaps.{bank_map}
use Rattle.kind.specs.Blocks.{block}
use Rattle.kind.specs.Bytes.{bytes?}
use Rattle.kind.specs.Calls.{first_state, no_change, acted, composed, reversed, between}
use Rattle.kind.specs.Tallies.{tally}

-- 128 bytes
abbrev pub Bytes128 : List ℕ → Type 0
Bytes128 xs = (length xs ≡ 128) × (bytes? xs ≡ true)

-- r is 128 bytes, and has at each place the xor of what a and b have there
pub record XorOf (a b r : List ℕ) : Type 0 where
  pub made : Bytes128 r
  pub each : (i : ℕ) → i < 128 → slice_index r i ≡ bit_xor (slice_index a i) (slice_index b i)

-- Blocks change by XOR of equal places, and a change is its own inverse.
pub record BlocksXor : Type 0 where
  pub acting : (f s : List ℕ) → Bytes128 f → Bytes128 s → XorOf s f (acted block f s)
  pub following : (f g : List ℕ) → Bytes128 f → Bytes128 g → XorOf f g (composed block f g)
  pub inverting : (f : List ℕ) → Bytes128 f → reversed block f ≡ f
  pub difference : (s t : List ℕ) → Bytes128 s → Bytes128 t → XorOf s t (between block s t)
  pub origin : first_state block ≡ replicate 128 0
  pub unit : no_change block ≡ replicate 128 0

-- a number from -2 ^ 31 to 2 ^ 31 - 1; `negsuc n` is -1 - n
abbrev pub IsI32 : ℤ → Type 0
IsI32 (pos n) = n < 2 ^ 31
IsI32 (negsuc n) = n < 2 ^ 31

-- two's complement
abbrev pub bits : ℤ → ℕ
bits z = of_z w32 z

-- a and b differ by a multiple of 2 ^ 32
abbrev pub SameModulo : ℤ → ℤ → Type 0
SameModulo a b = (j : ℕ) × (k : ℕ) × (a +ℤ pos (j * 2 ^ 32) ≡ b +ℤ pos (k * 2 ^ 32))

-- r is a + b modulo 2 ^ 32
pub record SumOf (a b r : ℤ) : Type 0 where
  pub made : IsI32 r
  pub by_bits : bits r ≡ (bits a + bits b) % 2 ^ 32
  pub whole : SameModulo r (a +ℤ b)

-- r is a - b modulo 2 ^ 32
pub record DifferenceOf (a b r : ℤ) : Type 0 where
  pub made : IsI32 r
  pub by_bits : bits r ≡ (bits a + (2 ^ 32 - bits b)) % 2 ^ 32
  pub whole : SameModulo r (a -ℤ b)

-- Tallies add modulo 2 ^ 32.
pub record TalliesAdd : Type 0 where
  pub acting : (f s : ℤ) → IsI32 f → IsI32 s → SumOf s f (acted tally f s)
  pub following : (f g : ℤ) → IsI32 f → IsI32 g → SumOf f g (composed tally f g)
  pub inverting : (f : ℤ) → IsI32 f → DifferenceOf (pos 0) f (reversed tally f)
  pub difference : (s t : ℤ) → IsI32 s → IsI32 t → DifferenceOf t s (between tally s t)
  pub origin : first_state tally ≡ pos 0
  pub unit : no_change tally ≡ pos 0

-- 16 places, every number from 0 to 15 at one of them, and no two places with one number
pub record Permutes (f : List ℕ) : Type 0 where
  pub places : length f ≡ 16
  pub every : (k : ℕ) → k < 16 → (i : ℕ) × (i < 16) × (slice_index f i ≡ k)
  pub apart : (i j : ℕ) → i < 16 → j < 16 → slice_index f i ≡ slice_index f j → i ≡ j

-- Bank maps change by composition of permutations; what is none is taken for the one in order.
pub record MapsCompose : Type 0 where
  pub acting : (f s : List ℕ) → Permutes f → Permutes s → Permutes (acted bank_map f s) × ((i : ℕ) → i < 16 → slice_index (acted bank_map f s) i ≡ slice_index f (slice_index s i))
  pub following : (f g : List ℕ) → Permutes f → Permutes g → Permutes (composed bank_map f g) × ((i : ℕ) → i < 16 → slice_index (composed bank_map f g) i ≡ slice_index g (slice_index f i))
  pub inverting : (f : List ℕ) → Permutes f → Permutes (reversed bank_map f) × ((i : ℕ) → i < 16 → slice_index (reversed bank_map f) (slice_index f i) ≡ i)
  pub difference : (s t : List ℕ) → Permutes s → Permutes t → Permutes (between bank_map s t) × ((i : ℕ) → i < 16 → slice_index (between bank_map s t) (slice_index s i) ≡ slice_index t i)
  pub origin : Permutes (first_state bank_map) × ((i : ℕ) → i < 16 → slice_index (first_state bank_map) i ≡ i)
  pub unit : Permutes (no_change bank_map) × ((i : ℕ) → i < 16 → slice_index (no_change bank_map) i ≡ i)
  pub otherwise : (xs : List ℕ) → (Permutes xs → ⊥) → (bank_map.state xs ≡ bank_map.origin) × (bank_map.change xs ≡ bank_map.unit)

-- The test of an arrangement passes just those lists.
abbrev pub ArrangementsPermute : Type 0
ArrangementsPermute = (xs : List ℕ) → (arrangement? xs ≡ true → Permutes xs) × (Permutes xs → arrangement? xs ≡ true)

-- the map that exchanges a and b
abbrev pub exchange : ℕ → ℕ → List ℕ
exchange a b = map (λ k. cond (k == a) b (cond (k == b) a k)) (range_with_len 0 16)

-- The order of maps counts: exchanging 0 and 1 and then 1 and 2 sends 0, 1, 2 to 2, 0, 1, and the other way round to 1, 2, 0.
abbrev pub OrderCounts : Type 0
OrderCounts = (composed bank_map (exchange 0 1) (exchange 1 2) ≡ 2 ∷ 0 ∷ 1 ∷ range_with_len 3 13) × (composed bank_map (exchange 1 2) (exchange 0 1) ≡ 1 ∷ 2 ∷ 0 ∷ range_with_len 3 13)
