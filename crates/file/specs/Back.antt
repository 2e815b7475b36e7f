-- Header and records, written in turn, make a file, and reading gives back what was written. Assumes nothing.
use Rattle.std.specs.Prelude.{◌≡◌, ℕ, ◌+◌, ◌*◌, ◌^◌, ◌<◌, ◌≤◌, false, List, [], ◌∷◌, ◌++◌, length, drop, Ok, Option}
use Rattle.kind.specs.Model.{Model}
use Rattle.file.specs.declared.header.Handed.{Handed}
use Rattle.file.specs.declared.letters.BoardKind.{BoardKind}
use Rattle.file.specs.Letters.{letter_of, width_of}
use Rattle.file.specs.Header.{header_of, any_header, other_cells, past_room, file_length}
use Rattle.file.specs.Records.{parts_of, record_bytes}
use Rattle.file.specs.Forms.{header_form, Line, record_form, file_form, record_laid, written}

-- a header that keeps the limits, with as many bytes after it as its count asks for
pub record Sized (width cells count : ℕ) (rest : List ℕ) : Type 0 where
  pub some_cells : 1 ≤ cells
  pub few_cells : cells ≤ 4096
  pub few_records : count ≤ 65535
  pub long : length rest ≡ count * (6 + width)

abbrev pub AnyHeaderBack : Type 0
AnyHeaderBack = (k : BoardKind) (cells count : ℕ) (rest : List ℕ) → Sized (width_of k) cells count rest → any_header (header_form (letter_of k) cells count ++ rest) ≡ Ok (record { letter = letter_of k; cells = cells; count = count })

module _ {PS PC : Type 0} (K : Model PS PC) where
  -- also by a load, where it is handed as many cells and enough room
  abbrev pub HeaderBack : Type 0
  HeaderBack =
      (handed : Option Handed) (cells count : ℕ) (rest : List ℕ) → Sized K.width cells count rest → other_cells handed cells ≡ false → past_room handed count ≡ false →
      header_of K handed (header_form K.letter cells count ++ rest) ≡ Ok (record { letter = K.letter; cells = cells; count = count })

  -- a record's numbers fit their bytes
  pub record Numbered (r : Line K) : Type 0 where
    pub next : r.next < 2 ^ 32
    pub cell : r.cell < 2 ^ 16

  abbrev pub RecordBack : Type 0
  RecordBack = (r : Line K) → Numbered r → parts_of (record_form K r) ≡ record { next = r.next; cell = r.cell; change = K.change_form r.change }

  abbrev pub ChangeBack : Type 0
  ChangeBack = (r : Line K) → K.read_form (parts_of (record_form K r)).change ≡ Ok r.change

  -- each record of a file lies where it is looked for, and the file is as long as its count asks for
  abbrev pub Placed : Type 0
  Placed = (cells : ℕ) (before after : List (Line K)) (r : Line K) → record_bytes K.width (file_form K cells (before ++ (r ∷ after))) (length before + 1) ≡ record_form K r

  abbrev pub Long : Type 0
  Long = (cells : ℕ) (rs : List (Line K)) → length (file_form K cells rs) ≡ file_length K.width (length rs)

  -- the header and then record after record make the file
  pub record WrittenInTurn : Type 0 where
    pub begins : (cells count : ℕ) (out : List ℕ) → header_form K.letter cells count ++ drop 8 out ≡ written K cells count [] out
    pub goes_on : (cells count : ℕ) (rs : List (Line K)) (r : Line K) (out : List ℕ) → record_laid K (length rs + 1) r (written K cells count rs out) ≡ written K cells count (rs ++ (r ∷ [])) out
    pub ends : (cells : ℕ) (rs : List (Line K)) (out : List ℕ) → written K cells (length rs) rs out ≡ file_form K cells rs ++ drop (file_length K.width (length rs)) out
