-- Bytes that a call writes to the front of an area. Assumes nothing.
use Rattle.std.specs.Prelude.{ℕ, List, ◌++◌, length, drop, Ok, Err, Result}
use Rattle.volume.specs.declared.refusal.Refusal.{Refusal}

-- the answer: how many
abbrev pub length_of : Result (List ℕ) Refusal → Result ℕ Refusal
length_of (Ok bs) = Ok (length bs)
length_of (Err e) = Err e

-- the area then; bytes beyond are untouched, and a refusal leaves all
abbrev pub area_after : List ℕ → Result (List ℕ) Refusal → List ℕ
area_after out (Ok bs) = bs ++ drop (length bs) out
area_after out (Err e) = out
