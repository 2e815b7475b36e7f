-- The kinds on board, their letters and widths, which are those of their models. Assumes nothing.
use Rattle.std.specs.Prelude.{◌≡◌, ℕ, cond, Some, None, Option, ◌==◌}
use Rattle.kind.specs.Blocks.{block}
use Rattle.kind.specs.Tallies.{tally}
use Rattle.kind.specs.BankMaps.{bank_map}
use Rattle.file.specs.declared.letters.BoardKind.{BoardKind}
use Rattle.file.specs.declared.letters.BoardKind.TheVariants.{Block, Tally, BankMap}

abbrev pub letter_of : BoardKind → ℕ
letter_of Block = block.letter
letter_of Tally = tally.letter
letter_of BankMap = bank_map.letter

abbrev pub width_of : BoardKind → ℕ
width_of Block = block.width
width_of Tally = tally.width
width_of BankMap = bank_map.width

-- the kind of a letter: B is 66, T is 84, M is 77
abbrev pub kind_of : ℕ → Option BoardKind
kind_of c = cond (c == 66) (Some Block) (cond (c == 84) (Some Tally) (cond (c == 77) (Some BankMap) None))

-- the width of a change under a letter, or 0 where no kind has it
abbrev pub some_width : Option BoardKind → ℕ
some_width None = 0
some_width (Some k) = width_of k

abbrev pub width_under : ℕ → ℕ
width_under c = some_width (kind_of c)

-- each kind's letter is known as that kind's, with its width, and no other letter is known
pub record LettersKnown : Type 0 where
  pub known : (k : BoardKind) → (kind_of (letter_of k) ≡ Some k) × (width_under (letter_of k) ≡ width_of k)
  pub only : (c : ℕ) (k : BoardKind) → kind_of c ≡ Some k → c ≡ letter_of k
