use Rattle.history.proofs.Sound.{checks_exactly_lem}
use Rattle.history.proofs.checks_exactly.Goals as goal

pub returns : goal.returns
returns g c = checks_exactly_lem g.K.Kind.model g.K.Kind.laws
