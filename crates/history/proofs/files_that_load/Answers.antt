use Rattle.history.proofs.Filings.{files_that_load_lem}
use Rattle.history.proofs.files_that_load.Goals as goal

pub returns : goal.returns
returns g c = files_that_load_lem g.K.Kind.model g.K.Kind.laws
