-- Replay: an image made from the records up to a moment. Assumes nothing.
use Rattle.std.specs.Prelude.{ℕ, zero, suc, ◌+◌, not, List, length, replicate, Ok, Result, ◌==◌, nat_le, nat_lt, slice_index_or, slice_set}
use Rattle.kind.specs.Answers.{and_then, each_below, refuse_if, refused_as}
use Rattle.kind.specs.Model.{Model}
use Rattle.journal.specs.declared.faults.LadderFault.{LadderFault}
use Rattle.journal.specs.declared.faults.LadderFault.TheVariants.{Cell}
use Rattle.journal.specs.declared.record.Record.{Record}
use Rattle.journal.specs.Links.{numbered}
use Rattle.volume.specs.declared.refusal.Refusal.{Refusal}
use Rattle.volume.specs.declared.refusal.Refusal.TheVariants.{Image, Moment, Ladder}
use Rattle.volume.specs.Calls.{origin}
use Rattle.volume.specs.Memory.{Memory}
use Rattle.volume.specs.Rolls.{acted}
use Rattle.volume.specs.Sizes.{sound}

module _ {PS PC : Type 0} (K : Model PS PC) where
  -- record i + 1 is of one of the cells
  abbrev pub cell_known : ℕ → List (Record PC) → ℕ → Result (Unit {0}) LadderFault
  cell_known cells rs i = refuse_if (nat_le cells (numbered K rs (i + 1)).cell) (Cell (i + 1)) (Ok tt)

  -- one record more
  abbrev pub played : List PS → Record PC → List PS
  played image r = slice_set image r.cell (acted K r.change (slice_index_or image r.cell (origin K)))

  -- the image after records 1 to n
  abbrev pub played_to : ℕ → List (Record PC) → ℕ → List PS
  played_to cells rs zero = replicate cells (origin K)
  played_to cells rs (suc n) = played (played_to cells rs n) (numbered K rs (suc n))

  -- every record is tried before the image changes
  abbrev pub remade : Memory PS PC → List PS → ℕ → Result (List PS) Refusal
  remade m image moment =
      and_then (sound (length m.cells) (length m.heads) (length m.records) m.count) (λ _.
      refuse_if (not (length image == length m.cells)) Image (
      refuse_if (nat_lt m.count moment) Moment (
      and_then (refused_as Ladder (each_below (cell_known (length image) m.records) moment)) (λ _.
      Ok (played_to (length image) m.records moment)))))

  unfoldable pub replayed : Memory PS PC → List PS → ℕ → Result (List PS) Refusal
  replayed m image moment = remade m image moment
