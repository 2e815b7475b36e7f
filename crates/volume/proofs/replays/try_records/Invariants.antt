use Rattle.std.proofs.Common.{◌≡◌, Ok}
use Rattle.kind.specs.Answers.{each_below}
use Rattle.volume.specs.Replays.{cell_known}
use Rattle.volume.proofs.replays.try_records.Given as goal

abbrev pub invariant-loop-i : goal.invariant-loop-i
invariant-loop-i g l = each_below (cell_known g.K.Kind.model l.cells l.records) l.i ≡ Ok tt
