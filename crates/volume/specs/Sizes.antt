-- The sizes that a volume can have. Assumes nothing.
use Rattle.std.specs.Prelude.{ℕ, not, ◌||◌, Ok, Result, ◌==◌, nat_lt}
use Rattle.kind.specs.Answers.{and_then, refuse_if}
use Rattle.volume.specs.declared.refusal.Refusal.{Refusal}
use Rattle.volume.specs.declared.refusal.Refusal.TheVariants.{Cells, Heads, Capacity, Count}

-- so many cells and heads, and a log with space for so many records
abbrev pub sized : ℕ → ℕ → ℕ → Result (Unit {0}) Refusal
sized cells heads capacity =
    refuse_if (cells == 0 || nat_lt 4096 cells) Cells (
    refuse_if (not (heads == cells)) Heads (
    refuse_if (nat_lt 65535 capacity) Capacity (
    Ok tt)))

-- .. of which so many are written
abbrev pub sound : ℕ → ℕ → ℕ → ℕ → Result (Unit {0}) Refusal
sound cells heads capacity count =
    and_then (sized cells heads capacity) (λ _.
    refuse_if (nat_lt capacity count) Count (
    Ok tt))
