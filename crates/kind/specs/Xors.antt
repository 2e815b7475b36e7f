-- The XOR of two lists of bytes, place by place, and the lists of 128 bytes. Assumes nothing.
use Rattle.std.specs.Prelude.{ℕ, Bool, ◌&&◌, List, [], ◌∷◌, length, ◌==◌, bit_xor}
use Rattle.kind.specs.Bytes.{bytes?}

-- the xor of equal places
abbrev pub xors : List ℕ → List ℕ → List ℕ
xors [] ys = []
xors (x ∷ xs) [] = []
xors (x ∷ xs) (y ∷ ys) = bit_xor x y ∷ xors xs ys

-- 128 bytes
abbrev pub block? : List ℕ → Bool
block? bs = length bs == 128 && bytes? bs
