use Rattle.logs.proofs.Proved.{each_record_lem}
use Rattle.logs.proofs.each_record.Goals as goal

pub returns : goal.returns
returns g c = each_record_lem g.K.Kind.model g.K.Kind.laws
