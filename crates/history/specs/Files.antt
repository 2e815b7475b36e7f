-- The file of a history, and the entries that a file's records make. Assumes nothing.
use Rattle.std.specs.Prelude.{ℕ, zero, suc, not, List, [], ◌∷◌, ◌++◌, Some, Ok, Result, ◌==◌, nat_le}
use Rattle.kind.specs.Answers.{and_then, refuse_if}
use Rattle.kind.specs.Model.{Model}
use Rattle.file.specs.declared.faults.FileFault.{FileFault}
use Rattle.file.specs.declared.faults.FileFault.TheVariants.{Cell, Next}
use Rattle.file.specs.declared.header.Header.{Header}
use Rattle.file.specs.Changes.{change_read}
use Rattle.file.specs.Forms.{Line, file_form}
use Rattle.file.specs.Header.{header_of}
use Rattle.file.specs.Records.{Parts}
use Rattle.file.specs.States.{saved}
use Rattle.history.specs.History.{History, Entry, latest, last_number}

module _ {PS PC : Type 0} (K : Model PS PC) where
  -- the line of an entry after the entries `past`: the number of its cell's entry before it, its cell, and the difference that it made
  abbrev pub line : List (Entry K.State) → Entry K.State → Line K
  line past e = record { next = last_number 0 0 e.cell past; cell = e.cell; change = K.diff (latest K.origin e.cell past) e.state }

  abbrev pub lines_on : List (Entry K.State) → List (Entry K.State) → List (Line K)
  lines_on past [] = []
  lines_on past (e ∷ es) = line past e ∷ lines_on (past ++ e ∷ []) es

  abbrev pub file_of_history : History K.State → List ℕ
  file_of_history h = file_form K h.cells (lines_on [] h.entries)

  -- record n, of these parts, after the entries es: 15, 16 or 17, or one entry more, of the state that its change gives
  abbrev pub entry_read : ℕ → ℕ → Parts → List (Entry K.State) → Result (List (Entry K.State)) FileFault
  entry_read cells n p es =
      refuse_if (nat_le cells p.cell) (Cell n) (
      refuse_if (not (p.next == last_number 0 0 p.cell es)) (Next n) (
      and_then (change_read K n p.change) (λ g.
      Ok (es ++ record { cell = p.cell; state = K.act g (latest K.origin p.cell es) } ∷ []))))

  -- the entries of records 1 to n
  abbrev pub entries_read : ℕ → List ℕ → ℕ → Result (List (Entry K.State)) FileFault
  entries_read cells f zero = Ok []
  entries_read cells f (suc n) = and_then (entries_read cells f n) (entry_read cells (suc n) (saved K f (suc n)))

  -- the header of a file for a volume of these sizes
  abbrev pub header_read : History K.State → List ℕ → Result Header FileFault
  header_read h f = header_of K (Some (record { cells = h.cells; room = h.capacity })) f
