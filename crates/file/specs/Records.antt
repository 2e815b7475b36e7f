-- The records of a file: where each lies, and its parts. Assumes nothing.
use Rattle.std.specs.Prelude.{◌≡◌, ℕ, zero, suc, ◌+◌, ◌-◌, ◌*◌, ◌≤◌, ◌||◌, List, [], ◌∷◌, length, take, drop, Ok, Result, ◌==◌, nat_lt}
use Rattle.std.specs.Borrow.{Bor}
use Rattle.kind.specs.Answers.{refuse_if}
use Rattle.kind.specs.Bytes.{le16, le32}
use Rattle.file.specs.declared.faults.FileFault.{FileFault}
use Rattle.file.specs.declared.faults.FileFault.TheVariants.{Length}
use Rattle.file.specs.declared.records.SavedRecord.{SavedRecord}
use Rattle.file.specs.Header.{Whole, count_at, file_length}

-- where record n begins, from 1, and its bytes
abbrev pub record_start : ℕ → ℕ → ℕ
record_start width n = 8 + (n - 1) * (6 + width)

abbrev pub record_bytes : ℕ → List ℕ → ℕ → List ℕ
record_bytes width f n = take (6 + width) (drop (record_start width n) f)

-- the parts of a record, from its bytes
abbrev pub next_of : List ℕ → ℕ
next_of b = le32 b

abbrev pub cell_of : List ℕ → ℕ
cell_of b = le16 (drop 4 b)

abbrev pub change_of : List ℕ → List ℕ
change_of b = drop 6 b

-- a record with the bytes of its change, in the place of a reference to them
pub record Parts : Type 0 where
  pub next : ℕ
  pub cell : ℕ
  pub change : List ℕ

abbrev pub parts_of : List ℕ → Parts
parts_of b = record { next = next_of b; cell = cell_of b; change = change_of b }

abbrev pub parts_seen : SavedRecord → Parts
parts_seen r = record { next = r.next; cell = r.cell; change = r.change.now }

-- record n of a file that is long enough for it
abbrev pub record_at : ℕ → List ℕ → ℕ → Result Parts FileFault
record_at width f n = refuse_if (nat_lt 256 width || (n == 0 || nat_lt (length f) (file_length width n))) Length (Ok (parts_of (record_bytes width f n)))

-- records n + 1 to n + m, each with its number
abbrev pub numbered : ℕ → List ℕ → ℕ → ℕ → List (ℕ × Parts)
numbered width f n zero = []
numbered width f n (suc m) = (n + 1, parts_of (record_bytes width f (n + 1))) ∷ numbered width f (n + 1) m

-- part points into what whole points to, so many bytes from its start
pub record Lies (whole : Bor (List ℕ)) (at : ℕ) (part : Bor (List ℕ)) : Type 0 where
  pub block : part.ref_ptr.0 ≡ whole.ref_ptr.0
  pub offset : part.ref_ptr.1 ≡ at + whole.ref_ptr.1

-- a file that is as long as its count says has each of its records
abbrev pub RecordsThere : Type 0
RecordsThere = (width : ℕ) (f : List ℕ) (n : ℕ) → Whole width f → 1 ≤ n → n ≤ count_at f → record_at width f n ≡ Ok (parts_of (record_bytes width f n))
