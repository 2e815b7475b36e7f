use Rattle.std.proofs.Common.{◌≡◌, length, Ok}
use Rattle.volume.specs.Loads.{took_to}
use Rattle.volume.specs.Memory.{held, KeepsLoans}
use Rattle.volume.proofs.Volume.take_records.Given as goal

abbrev pub invariant-loop-n : goal.invariant-loop-n
invariant-loop-n g l =
    (took_to g.K.Kind.model l.fn.file.bytes.now (held l.initial.self) (length l.yielded) ≡ Ok (held l.self))
    × (length l.self.heads.now ≡ length l.self.cells.now)
    × (l.self.count.now ≡ length l.yielded)
    × KeepsLoans l.initial.self l.self
