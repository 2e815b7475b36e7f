-- What a file's header says, and why it is refused. Assumes nothing.
use Rattle.std.specs.Prelude.{◌≡◌, ℕ, ◌+◌, ◌*◌, ◌≤◌, Bool, false, not, ◌||◌, List, length, drop, Some, None, Ok, Err, Option, Result, ◌==◌, nat_lt, slice_index}
use Rattle.kind.specs.Answers.{refuse_if}
use Rattle.kind.specs.BankMaps.{bank_map}
use Rattle.kind.specs.Blocks.{block}
use Rattle.kind.specs.Bytes.{le16, le32}
use Rattle.kind.specs.Model.{Model}
use Rattle.kind.specs.Tallies.{tally}
use Rattle.file.specs.declared.faults.FileFault.{FileFault}
use Rattle.file.specs.declared.faults.FileFault.TheVariants.{Short, Letter, Version, Cells, Count, Length}
use Rattle.file.specs.declared.header.Header.{Header}
use Rattle.file.specs.declared.header.Handed.{Handed}
use Rattle.file.specs.declared.letters.BoardKind.{BoardKind}
use Rattle.file.specs.declared.letters.BoardKind.TheVariants.{Block, Tally, BankMap}
use Rattle.file.specs.Letters.{kind_of, width_of, width_under}

-- the letter, the version, the cells and the count in the first eight bytes
abbrev pub letter_at : List ℕ → ℕ
letter_at f = slice_index f 0

abbrev pub version_at : List ℕ → ℕ
version_at f = slice_index f 1

abbrev pub cells_at : List ℕ → ℕ
cells_at f = le16 (drop 2 f)

abbrev pub count_at : List ℕ → ℕ
count_at f = le32 (drop 4 f)

abbrev pub says : List ℕ → Header
says f = record { letter = letter_at f; cells = cells_at f; count = count_at f }

-- a load's cells have to be as many as the header's, and its room enough; others are handed neither
abbrev pub other_cells : Option Handed → ℕ → Bool
other_cells None n = false
other_cells (Some h) n = not (h.cells == n)

abbrev pub past_room : Option Handed → ℕ → Bool
past_room None n = false
past_room (Some h) n = nat_lt h.room n

-- so many bytes has a file of so many records
abbrev pub file_length : ℕ → ℕ → ℕ
file_length width count = 8 + count * (6 + width)

abbrev pub after_letter : ℕ → Option Handed → List ℕ → Result Header FileFault
after_letter width handed f =
    refuse_if (not (version_at f == 1)) Version (
    refuse_if (cells_at f == 0 || (nat_lt 4096 (cells_at f) || other_cells handed (cells_at f))) Cells (
    refuse_if (nat_lt 65535 (count_at f) || past_room handed (count_at f)) Count (
    refuse_if (not (length f == file_length width (count_at f))) Length (
    Ok (says f)))))

-- of a file of one kind
abbrev pub header_of : {PS PC : Type 0} → Model PS PC → Option Handed → List ℕ → Result Header FileFault
header_of K handed f =
    refuse_if (nat_lt (length f) 8) Short (
    refuse_if (not (letter_at f == K.letter)) Letter (
    after_letter K.width handed f))

-- of a file of any kind on board
abbrev pub by_kind : Option BoardKind → List ℕ → Result Header FileFault
by_kind None f = Err Letter
by_kind (Some k) f = after_letter (width_of k) None f

abbrev pub any_header : List ℕ → Result Header FileFault
any_header f = refuse_if (nat_lt (length f) 8) Short (by_kind (kind_of (letter_at f)) f)

-- a file is read by its letter as it is by that letter's kind
abbrev pub header_by : BoardKind → List ℕ → Result Header FileFault
header_by Block f = header_of block None f
header_by Tally f = header_of tally None f
header_by BankMap f = header_of bank_map None f

abbrev pub HeadersAgree : Type 0
HeadersAgree = (f : List ℕ) (k : BoardKind) → kind_of (letter_at f) ≡ Some k → any_header f ≡ header_by k f

-- how wide a change is under the file's letter
abbrev pub width_at : List ℕ → ℕ
width_at f = width_under (letter_at f)

-- the file is as long as its count says
pub record Whole (width : ℕ) (f : List ℕ) : Type 0 where
  pub narrow : width ≤ 256
  pub few_records : count_at f ≤ 65535
  pub long : length f ≡ file_length width (count_at f)

-- what a header that was not refused says of its file
pub record Fits (h : Header) (width : ℕ) (f : List ℕ) : Type 0 where
  pub letter : h.letter ≡ letter_at f
  pub cells : h.cells ≡ cells_at f
  pub count : h.count ≡ count_at f
  pub some_cells : 1 ≤ cells_at f
  pub few_cells : cells_at f ≤ 4096
  pub whole : Whole width f
