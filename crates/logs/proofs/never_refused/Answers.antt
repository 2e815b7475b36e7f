use Rattle.logs.proofs.Proved.{never_refused_lem}
use Rattle.logs.proofs.never_refused.Goals as goal

pub returns : goal.returns
returns g c = never_refused_lem g.K.Kind.model g.K.Kind.laws
