-- Arrangements: lists in which each number from 0 to 15 stands at just one of 16 places, and what is made of them.
-- Assumes nothing.
use Rattle.std.specs.Prelude.{ℕ, zero, suc, ◌+◌, Bool, true, cond, ◌&&◌, List, [], ◌∷◌, map, length, ◌==◌, slice_index}
use Rattle.std.specs.List.{range_with_len}

-- how often k stands in the list
abbrev pub count : ℕ → List ℕ → ℕ
count k [] = 0
count k (x ∷ xs) = cond (x == k) 1 0 + count k xs

-- the first place of k
abbrev pub place : ℕ → List ℕ → ℕ
place k [] = 0
place k (x ∷ xs) = cond (x == k) 0 (suc (place k xs))

-- each number below n stands just once
unfoldable pub once_below? : ℕ → List ℕ → Bool
once_below? zero xs = true
once_below? (suc n) xs = count n xs == 1 && once_below? n xs

-- sixteen places, and each number from 0 to 15 at just one of them
unfoldable pub arrangement? : List ℕ → Bool
arrangement? xs = length xs == 16 && once_below? 16 xs

-- each number at its own place
abbrev pub in_order_list : List ℕ
in_order_list = range_with_len 0 16

-- f followed by g: at place i the number that g has at place f i
abbrev pub through : List ℕ → List ℕ → List ℕ
through f g = map (λ k. slice_index g k) f

-- at place k the place of k in f
abbrev pub inverted : List ℕ → List ℕ
inverted f = map (λ k. place k f) (range_with_len 0 16)
