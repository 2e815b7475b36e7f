-- The numbers of a file's refusals, and a kind's fault at a record. Assumes nothing.
use Rattle.std.specs.Prelude.{ℕ}
use Rattle.kind.specs.declared.KindFault.{KindFault}
use Rattle.kind.specs.declared.KindFault.TheVariants.{NotAChange}
use Rattle.file.specs.declared.faults.AtRecord.{AtRecord}
use Rattle.file.specs.declared.faults.FileFault.{FileFault}
use Rattle.file.specs.declared.faults.FileFault.TheVariants.{Short, Letter, Version, Cells, Count, Length, Cell, Next, Change}

abbrev pub kind_number : KindFault → ℕ
kind_number NotAChange = 17

abbrev pub fault_number : FileFault → ℕ
fault_number Short = 5
fault_number Letter = 6
fault_number Version = 7
fault_number Cells = 8
fault_number Count = 9
fault_number Length = 10
fault_number (Cell n) = 15
fault_number (Next n) = 16
fault_number (Change n fault) = kind_number fault

-- a kind's fault at record n, alone and among the file's faults
abbrev pub at_record : ℕ → KindFault → AtRecord
at_record n fault = record { number = n; fault = fault }

abbrev pub change_at : AtRecord → FileFault
change_at a = Change a.number a.fault
