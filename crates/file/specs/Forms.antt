-- The bytes of headers, records and whole files. Assumes nothing.
use Rattle.std.specs.Prelude.{ℕ, ◌+◌, ◌/◌, ◌%◌, List, [], ◌∷◌, ◌++◌, length, take, drop}
use Rattle.kind.specs.Model.{Model}
use Rattle.file.specs.Header.{file_length}
use Rattle.file.specs.Records.{record_start}

-- a number in two, or in four, bytes, least byte first
abbrev pub le16_form : ℕ → List ℕ
le16_form n = (n % 256) ∷ (n / 256 % 256) ∷ []

abbrev pub le32_form : ℕ → List ℕ
le32_form n = (n % 256) ∷ (n / 256 % 256) ∷ (n / 65536 % 256) ∷ (n / 16777216 % 256) ∷ []

-- of a letter, cells and a count; the version is 1
abbrev pub header_form : ℕ → ℕ → ℕ → List ℕ
header_form letter cells count = letter ∷ 1 ∷ (le16_form cells ++ le32_form count)

-- a record of a kind: the number of its cell's record before it, its cell and its change
pub record Line {PS PC : Type 0} (K : Model PS PC) : Type 0 where
  pub next : ℕ
  pub cell : ℕ
  pub change : K.Change

module _ {PS PC : Type 0} (K : Model PS PC) where
  abbrev pub record_form : Line K → List ℕ
  record_form r = le32_form r.next ++ (le16_form r.cell ++ K.change_form r.change)

  abbrev pub records_form : List (Line K) → List ℕ
  records_form [] = []
  records_form (r ∷ rs) = record_form r ++ records_form rs

  abbrev pub file_form : ℕ → List (Line K) → List ℕ
  file_form cells rs = header_form K.letter cells (length rs) ++ records_form rs

  -- an area with a record written to it from byte `at` on
  abbrev pub laid_at : ℕ → Line K → List ℕ → List ℕ
  laid_at at r out = take at out ++ (record_form r ++ drop (at + (6 + K.width)) out)

  -- an area with record n of a file written to its place
  abbrev pub record_laid : ℕ → Line K → List ℕ → List ℕ
  record_laid n r out = laid_at (record_start K.width n) r out

  -- an area into which a header and then the first records of a file have been written
  abbrev pub written : ℕ → ℕ → List (Line K) → List ℕ → List ℕ
  written cells count rs out = header_form K.letter cells count ++ (records_form rs ++ drop (file_length K.width (length rs)) out)
