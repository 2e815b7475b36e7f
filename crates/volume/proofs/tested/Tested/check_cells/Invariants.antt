use Rattle.std.proofs.Common.{◌≡◌, Ok}
use Rattle.kind.specs.Answers.{each_below}
use Rattle.volume.specs.Checks.{cell_right}
use Rattle.volume.specs.Memory.{seen}
use Rattle.volume.proofs.tested.Tested.check_cells.Given as goal

abbrev pub invariant-loop-i : goal.invariant-loop-i
invariant-loop-i g l = each_below (cell_right g.K.Kind.model (seen l.self)) l.i ≡ Ok tt
