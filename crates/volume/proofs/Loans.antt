-- That references stay the same goes along from call to call. Assumes nothing.
use Rattle.std.proofs.Common.{refl, ◌∙◌}
use Rattle.volume.specs.declared.Volume.{Volume}
use Rattle.volume.specs.Memory.{KeepsLoans}

pub stays : {T PS PC : Type 0} (a : Volume T PS PC) → KeepsLoans a a
stays a = record { cells = refl; heads = refl; records = refl; count = refl }

pub along : {T PS PC : Type 0} {a b c : Volume T PS PC} → KeepsLoans a b → KeepsLoans b c → KeepsLoans a c
along s t = record { cells = t.cells ∙ s.cells; heads = t.heads ∙ s.heads; records = t.records ∙ s.records; count = t.count ∙ s.count }
