-- Save: the file of a volume. Assumes nothing.
use Rattle.std.specs.Prelude.{ℕ, List, map, length, take, Ok, Result, nat_lt}
use Rattle.kind.specs.Answers.{and_then, each_below, refuse_if, refused_as}
use Rattle.kind.specs.Model.{Model}
use Rattle.file.specs.Forms.{Line, file_form}
use Rattle.file.specs.Header.{file_length}
use Rattle.journal.specs.declared.record.Record.{Record}
use Rattle.volume.specs.declared.refusal.Refusal.{Refusal}
use Rattle.volume.specs.declared.refusal.Refusal.TheVariants.{Area, Ladder}
use Rattle.volume.specs.Memory.{Memory}
use Rattle.volume.specs.Replays.{cell_known}
use Rattle.volume.specs.Sizes.{sound}

module _ {PS PC : Type 0} (K : Model PS PC) where
  -- a record as the file has it: no jump link, no fold
  abbrev pub line_of : Record PC → Line K
  line_of r = record { next = r.next; cell = r.cell; change = K.change r.change }

  -- the first n records
  abbrev pub lines_of : List (Record PC) → ℕ → List (Line K)
  lines_of rs n = map line_of (take n rs)

  abbrev pub file_of : Memory PS PC → List ℕ
  file_of m = file_form K (length m.cells) (lines_of m.records m.count)

  -- into an area of so many bytes; every record is tried before anything is written
  abbrev pub laid_down : Memory PS PC → ℕ → Result (List ℕ) Refusal
  laid_down m area =
      and_then (sound (length m.cells) (length m.heads) (length m.records) m.count) (λ _.
      refuse_if (nat_lt area (file_length K.width m.count)) Area (
      and_then (refused_as Ladder (each_below (cell_known K (length m.cells) m.records) m.count)) (λ _.
      Ok (file_of m))))

  unfoldable pub saved : Memory PS PC → ℕ → Result (List ℕ) Refusal
  saved m area = laid_down m area
