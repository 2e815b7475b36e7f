use Rattle.file.proofs.Tells.{recalls, lasts}
use Rattle.file.proofs.states.states_stand.Goals as goal

pub returns : goal.returns
returns g c = record { recalls = recalls g.K.Kind.model; lasts = lasts g.K.Kind.model }
