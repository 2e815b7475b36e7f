use Rattle.logs.proofs.Proved.{spans_right_lem}
use Rattle.logs.proofs.spans_right.Goals as goal

pub returns : goal.returns
returns g c = spans_right_lem g.K.Kind.model g.K.Kind.laws
