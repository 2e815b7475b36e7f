-- Recall: the byte form of a cell's state at a moment, from a file alone. Assumes nothing.
use Rattle.std.specs.Prelude.{ℕ, List, length, Some, None, Ok, Err, Option, Result, nat_le, nat_lt}
use Rattle.kind.specs.Answers.{and_then, refuse_if, refused_as}
use Rattle.kind.specs.BankMaps.{bank_map}
use Rattle.kind.specs.Blocks.{block}
use Rattle.kind.specs.Model.{Model}
use Rattle.kind.specs.Tallies.{tally}
use Rattle.file.specs.declared.faults.FileFault.TheVariants.{Short, Letter}
use Rattle.file.specs.declared.letters.BoardKind.{BoardKind}
use Rattle.file.specs.declared.letters.BoardKind.TheVariants.{Block, Tally, BankMap}
use Rattle.file.specs.Header.{header_of, letter_at}
use Rattle.file.specs.Letters.{kind_of}
use Rattle.file.specs.States.{state_after}
use Rattle.volume.specs.declared.refusal.Refusal.{Refusal}
use Rattle.volume.specs.declared.refusal.Refusal.TheVariants.{File, Area, Cell, Moment}

module _ {PS PC : Type 0} (K : Model PS PC) where
  -- for an area of so many bytes; cells and count are the header's
  abbrev pub told_from : List ℕ → ℕ → ℕ → ℕ → Result (List ℕ) Refusal
  told_from file cell moment area =
      and_then (refused_as File (header_of K None file)) (λ h.
      refuse_if (nat_lt area K.width) Area (
      refuse_if (nat_le h.cells cell) Cell (
      refuse_if (nat_lt h.count moment) Moment (
      and_then (refused_as File (state_after K file cell moment)) (λ s.
      Ok (K.state_form s))))))

  unfoldable pub recalled : List ℕ → ℕ → ℕ → ℕ → Result (List ℕ) Refusal
  recalled file cell moment area = told_from file cell moment area

-- from a file of any kind on board: by the kind that the file's letter stands for
abbrev pub recalled_by : Option BoardKind → List ℕ → ℕ → ℕ → ℕ → Result (List ℕ) Refusal
recalled_by None file cell moment area = Err (File Letter)
recalled_by (Some Block) file cell moment area = recalled block file cell moment area
recalled_by (Some Tally) file cell moment area = recalled tally file cell moment area
recalled_by (Some BankMap) file cell moment area = recalled bank_map file cell moment area

-- for an area of so many bytes
abbrev pub any_recalled : List ℕ → ℕ → ℕ → ℕ → Result (List ℕ) Refusal
any_recalled file cell moment area = refuse_if (nat_lt (length file) 8) (File Short) (recalled_by (kind_of (letter_at file)) file cell moment area)
