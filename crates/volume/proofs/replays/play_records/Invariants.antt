use Rattle.std.proofs.Common.{◌≡◌, length}
use Rattle.volume.specs.Replays.{played_to}
use Rattle.volume.proofs.replays.play_records.Given as goal

abbrev pub invariant-loop-r : goal.invariant-loop-r
invariant-loop-r g l = l.image ≡ played_to g.K.Kind.model (length l.initial.image) l.records l.r-index
