-- The number of each refusal. Assumes nothing.
use Rattle.std.specs.Prelude.{ℕ}
use Rattle.file.specs.Faults.{fault_number}
use Rattle.volume.specs.declared.refusal.Refusal.{Refusal}
use Rattle.volume.specs.declared.refusal.Refusal.TheVariants.{Cells, Heads, Capacity, Count, File, Area, Image, Cell, Moment, Ladder, Full, Unsound}

abbrev pub refusal_number : Refusal → ℕ
refusal_number Cells = 1
refusal_number Heads = 2
refusal_number Capacity = 3
refusal_number Count = 4
refusal_number (File f) = fault_number f
refusal_number Area = 11
refusal_number Image = 12
refusal_number Cell = 13
refusal_number Moment = 14
refusal_number (Ladder f) = 18
refusal_number Full = 19
refusal_number (Unsound w) = 20
