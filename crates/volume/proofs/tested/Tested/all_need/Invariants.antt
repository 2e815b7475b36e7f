use Rattle.std.proofs.Common.{◌≡◌, ◌≤◌, Ok}
use Rattle.volume.specs.Memory.{seen}
use Rattle.volume.specs.Reverts.{all_needed}
use Rattle.volume.proofs.tested.Tested.all_need.Given as goal

abbrev pub invariant-loop-i : goal.invariant-loop-i
invariant-loop-i g l = (all_needed g.K.Kind.model l.from l.to (seen l.self) l.i ≡ Ok l.writes) × (l.writes ≤ l.i)
