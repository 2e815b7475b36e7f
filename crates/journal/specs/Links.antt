-- Records by their numbers, and the links from one to another of a cell. Assumes nothing.
use Rattle.std.specs.Prelude.{ℕ, ◌-◌, min, Bool, cond, ◌&&◌, ◌||◌, List, length, Ok, Err, Result, ◌==◌, nat_le, slice_index_or}
use Rattle.kind.specs.Model.{Model}
use Rattle.journal.specs.declared.record.Record.{Record}
use Rattle.journal.specs.declared.faults.LadderFault.{LadderFault}
use Rattle.journal.specs.declared.faults.LadderFault.TheVariants.{Link}

-- the place of record number n in the log, from 1 on
abbrev pub place_of : ℕ → ℕ
place_of n = n - 1

-- the highest number that a record can have where `count` are said to be written
abbrev pub newest : {C : Type 0} → List (Record C) → ℕ → ℕ
newest rs count = min count (length rs)

module _ {PS PC : Type 0} (K : Model PS PC) where
  -- what is read where there is no record: every use stands behind a test that there is one
  abbrev pub blank : Record PC
  blank = record { cell = 0; next = 0; skip = 0; length = 0; foot = 0; change = K.plain_change K.unit; fold = K.plain_change K.unit }

  abbrev pub numbered : List (Record PC) → ℕ → Record PC
  numbered rs n = slice_index_or rs (place_of n) blank

  -- a link is good if it is zero or names a record of the same cell, not above the limit
  abbrev pub good : List (Record PC) → ℕ → ℕ → ℕ → Bool
  good rs cell limit link = link == 0 || (nat_le link limit && (numbered rs link).cell == cell)

  -- the record that a link leads to; `holder` is the record that holds it, zero for a head
  abbrev pub follow : List (Record PC) → ℕ → ℕ → ℕ → ℕ → Result ℕ LadderFault
  follow rs cell limit holder link = cond (good rs cell limit link) (Ok link) (Err (Link cell holder))
