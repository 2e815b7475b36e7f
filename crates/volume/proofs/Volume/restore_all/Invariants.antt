use Rattle.std.proofs.Common.{◌≡◌}
use Rattle.volume.specs.Memory.{held, KeepsLoans}
use Rattle.volume.specs.Reverts.{put_all_back}
use Rattle.volume.proofs.Volume.restore_all.Given as goal

abbrev pub invariant-loop-i : goal.invariant-loop-i
invariant-loop-i g l =
    (held l.self ≡ put_all_back g.K.Kind.model l.from l.to (held l.initial.self) l.i)
    × KeepsLoans l.initial.self l.self
