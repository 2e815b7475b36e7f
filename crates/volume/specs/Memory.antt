-- The memory of a volume, which its caller lends. Assumes nothing.
use Rattle.std.specs.Prelude.{◌≡◌, ℕ, List}
use Rattle.kind.specs.declared.Kind.{Ghosts}
use Rattle.journal.specs.declared.record.Record.{Record}
use Rattle.volume.specs.declared.Volume.{Volume}
use Rattle.volume.specs.declared.tested.Tested.{Tested}

-- PS and PC are the plain types of the states and the changes
pub record Memory (PS PC : Type 0) : Type 0 where
  pub cells : List PS
  -- the number of each cell's newest record, or zero
  pub heads : List ℕ
  pub records : List (Record PC)
  -- how many records are written
  pub count : ℕ

abbrev pub memory : {PS PC : Type 0} → List PS → List ℕ → List (Record PC) → ℕ → Memory PS PC
memory cells heads records count = record { cells = cells; heads = heads; records = records; count = count }

-- what a volume holds
abbrev pub held : {T PS PC : Type 0} → Volume T PS PC → Memory PS PC
held v = memory v.cells.now v.heads.now v.records.now v.count.now

-- .. and what one that is read does
abbrev pub seen : {T PS PC : Type 0} {G : Ghosts T PS PC} → Tested T PS PC G → Memory PS PC
seen v = memory v.cells.now v.heads.now v.records.now v.count

-- the references that were lent are the same
pub record KeepsLoans {T PS PC : Type 0} (old new : Volume T PS PC) : Type 0 where
  pub cells : new.cells.ghost_name ≡ old.cells.ghost_name
  pub heads : new.heads.ghost_name ≡ old.heads.ghost_name
  pub records : new.records.ghost_name ≡ old.records.ghost_name
  pub count : new.count.ghost_name ≡ old.count.ghost_name
