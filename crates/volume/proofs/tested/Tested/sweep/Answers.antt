use Rattle.std.proofs.Common.{arith}
use Rattle.volume.specs.Memory.{seen}
use Rattle.volume.proofs.Sweeps.{swept_all}
use Rattle.volume.proofs.tested.Tested.sweep.Goals as goal

pub returns : goal.returns
returns g c =
    swept_all g.K.Kind.model (seen c.args.self.now) c.args.a c.args.b c.args.image.now c.loop-i.i c.loop-i.image (omega arith) c.loop-i.invariant
