use Rattle.std.proofs.Common.{◌≡◌, Ok}
use Rattle.kind.specs.Answers.{each_below}
use Rattle.volume.specs.Memory.{seen}
use Rattle.volume.specs.Rolls.{across}
use Rattle.volume.proofs.tested.Tested.try_cells.Given as goal

abbrev pub invariant-loop-i : goal.invariant-loop-i
invariant-loop-i g l = each_below (across g.K.Kind.model (seen l.self) l.a l.b) l.i ≡ Ok tt
