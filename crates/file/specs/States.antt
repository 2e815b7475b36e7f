-- A cell's state at a moment, from the bytes of a file. Assumes nothing.
use Rattle.std.specs.Prelude.{ℕ, zero, suc, min, cond, not, List, Some, None, Ok, Option, Result, ◌==◌, nat_le}
use Rattle.kind.specs.Answers.{refuse_if, and_then}
use Rattle.kind.specs.Model.{Model}
use Rattle.file.specs.declared.faults.FileFault.{FileFault}
use Rattle.file.specs.declared.faults.FileFault.TheVariants.{Cell, Next}
use Rattle.file.specs.Changes.{change_read}
use Rattle.file.specs.Header.{cells_at, header_of}
use Rattle.file.specs.Records.{Parts, parts_of, record_bytes}

module _ {PS PC : Type 0} (K : Model PS PC) where
  -- record n
  abbrev pub saved : List ℕ → ℕ → Parts
  saved f n = parts_of (record_bytes K.width f n)

  -- what record n says of a cell whose last record before it is `last`: its change, or nothing where it is another cell's
  abbrev pub change_for : ℕ → ℕ → ℕ → ℕ → Parts → Result (Option K.Change) FileFault
  change_for cells cell n last p =
      refuse_if (nat_le cells p.cell) (Cell n) (
      cond (p.cell == cell)
      (refuse_if (not (p.next == last)) (Next n) (and_then (change_read K n p.change) (λ c. Ok (Some c))))
      (Ok None))

  abbrev pub moved : Option K.Change → K.State → K.State
  moved None s = s
  moved (Some c) s = K.act c s

  -- the greatest number of a record of the cell among 1 to n, or 0
  abbrev pub last_of : List ℕ → ℕ → ℕ → ℕ
  last_of f cell zero = 0
  last_of f cell (suc n) = cond ((saved f (suc n)).cell == cell) (suc n) (last_of f cell n)

  -- the cell's state after records 1 to n: the origin acted on by its changes in order; or the first refusal
  abbrev pub replayed : List ℕ → ℕ → ℕ → Result K.State FileFault
  replayed f cell zero = Ok K.origin
  replayed f cell (suc n) =
      and_then (replayed f cell n) (λ s.
      and_then (change_for (cells_at f) cell (suc n) (last_of f cell n) (saved f (suc n))) (λ o.
      Ok (moved o s)))

  -- at a moment of a file of the kind; a moment past its count is taken for the count
  abbrev pub state_after : List ℕ → ℕ → ℕ → Result K.State FileFault
  state_after f cell moment = and_then (header_of K None f) (λ h. replayed f cell (min moment h.count))
