-- The change of a record, from its bytes. Assumes nothing.
use Rattle.std.specs.Prelude.{ℕ, List, Result}
use Rattle.kind.specs.Answers.{refused_as}
use Rattle.kind.specs.Model.{Model}
use Rattle.file.specs.declared.faults.FileFault.{FileFault}
use Rattle.file.specs.declared.faults.FileFault.TheVariants.{Change}

module _ {PS PC : Type 0} (K : Model PS PC) where
  -- what the bytes of record n's change are read as; a kind's fault is the file's at that record
  abbrev pub change_read : ℕ → List ℕ → Result K.Change FileFault
  change_read n bytes = refused_as (Change n) (K.read_form bytes)
