use Rattle.std.proofs.Common.{◌≡◌}
use Rattle.volume.proofs.Fills.{filling}
use Rattle.volume.proofs.parts.fill_with.Given as goal

abbrev pub invariant-loop-x : goal.invariant-loop-x
invariant-loop-x g l = l.slice ≡ filling l.value l.x-index l.initial.slice
