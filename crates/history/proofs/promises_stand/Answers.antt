use Rattle.history.proofs.Promised.{promises, promises_after_load}
use Rattle.history.proofs.promises_stand.Goals as goal

pub returns : goal.returns
returns g c = record { formatted = promises g.K.Kind.model g.K.Kind.laws; loaded = promises_after_load g.K.Kind.model g.K.Kind.laws }
