use Rattle.std.proofs.Common.{sym, ◌∙◌, arith}
use Rattle.volume.specs.Memory.{held}
use Rattle.volume.proofs.Restores.{still_sized}
use Rattle.volume.proofs.Volume.restore_all.Goals as goal

pub restore-requires : goal.restore-requires
restore-requires g c =
    let sized = still_sized g.K.Kind.model c.args.from c.args.to (held c.args.self.now) (held c.loop-i.self) c.loop-i.i c.loop-i.invariant.0 in
    record { there = omega arith; few = omega arith; paired = sized.1 ∙ c.requires.paired ∙ sym sized.0 }
