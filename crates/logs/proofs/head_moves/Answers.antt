use Rattle.logs.proofs.Proved.{head_moves_lem}
use Rattle.logs.proofs.head_moves.Goals as goal

pub returns : goal.returns
returns g c = head_moves_lem g.K.Kind.model
