use Rattle.file.proofs.There.{records_there_lem}
use Rattle.file.proofs.records.records_there.Goals as goal

pub returns : goal.returns
returns c = records_there_lem
