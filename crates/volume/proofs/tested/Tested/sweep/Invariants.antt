use Rattle.volume.specs.Memory.{seen}
use Rattle.volume.proofs.Sweeps.{Swept_to}
use Rattle.volume.proofs.tested.Tested.sweep.Given as goal

abbrev pub invariant-loop-i : goal.invariant-loop-i
invariant-loop-i g l = Swept_to g.K.Kind.model (seen l.self) l.a l.b l.initial.image l.i l.image
