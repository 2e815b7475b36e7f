-- Lists of bytes, and the numbers that they write. Assumes nothing.
use Rattle.std.specs.Prelude.{ℕ, ◌+◌, ◌*◌, Bool, true, ◌&&◌, List, [], ◌∷◌, nat_lt, slice_index}

-- every number of the list is a byte
abbrev pub bytes? : List ℕ → Bool
bytes? [] = true
bytes? (x ∷ xs) = nat_lt x 256 && bytes? xs

-- the number that the first two, or the first four, bytes of a list write, least byte first
abbrev pub le16 : List ℕ → ℕ
le16 bs = slice_index bs 0 + slice_index bs 1 * 256

abbrev pub le32 : List ℕ → ℕ
le32 bs = slice_index bs 0 + slice_index bs 1 * 256 + slice_index bs 2 * 65536 + slice_index bs 3 * 16777216
