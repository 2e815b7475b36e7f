-- What the item reader gives in turn. Assumes nothing.
use Rattle.std.specs.Prelude.{◌≡◌, ℕ, zero, suc, ◌+◌, ◌<◌, Bool, true, false, cond, List, Ok, Err, Result, ◌==◌, nat_le, nat_lt}
use Rattle.std.specs.Borrow.{Bor}
use Rattle.std.specs.Result.{result_map_both}
use Rattle.kind.specs.Answers.{refuse_if, and_then}
use Rattle.file.specs.declared.faults.FileFault.{FileFault}
use Rattle.file.specs.declared.faults.FileFault.TheVariants.{Cell}
use Rattle.file.specs.declared.header.Header.{Header}
use Rattle.file.specs.declared.items.Item.{Item}
use Rattle.file.specs.declared.items.Item.TheVariants.{Header as HeaderItem, Record as RecordItem, End}
use Rattle.file.specs.Header.{any_header, width_at}
use Rattle.file.specs.Records.{Parts, parts_of, parts_seen, record_bytes, record_start, Lies}

-- an item, with the bytes of a change in the place of the reference to them
pub data Shown : Type 0 where
  header : Header → Shown
  entry : Parts → Shown
  end : Shown

abbrev pub shown : Item → Shown
shown (HeaderItem h) = header h
shown (RecordItem r) = entry (parts_seen r)
shown End = end

abbrev pub seen : Result Item FileFault → Result Shown FileFault
seen r = result_map_both shown (λ e. e) r

-- record n, where its cell is one of so many
abbrev pub record_item : ℕ → ℕ → Parts → Result Shown FileFault
record_item cells n p = refuse_if (nat_le cells p.cell) (Cell n) (Ok (entry p))

-- the answer where n items have been given: the header, then the records from 1, then the end
abbrev pub item : List ℕ → ℕ → Result Shown FileFault
item f n =
    and_then (any_header f) (λ h.
    cond (n == 0) (Ok (header h)) (
    cond (nat_lt h.count n) (Ok end) (
    record_item h.cells n (parts_of (record_bytes (width_at f) f n)))))

-- how many items have been given after that answer
abbrev pub after : Result Shown FileFault → ℕ → ℕ
after (Ok (header h)) n = n + 1
after (Ok (entry p)) n = n + 1
after (Ok end) n = n
after (Err e) n = n

-- a record's change is the file's own stretch
abbrev pub Borrowed : Bor (List ℕ) → ℕ → Result Item FileFault → Type 0
Borrowed file n (Ok (HeaderItem h)) = Unit {0}
Borrowed file n (Ok (RecordItem r)) = Lies file (6 + record_start (width_at file.now) n) r.change
Borrowed file n (Ok End) = Unit {0}
Borrowed file n (Err e) = Unit {0}

-- how many items n calls have given
abbrev pub given_after : List ℕ → ℕ → ℕ
given_after f zero = 0
given_after f (suc n) = after (item f (given_after f n)) (given_after f n)

-- the answer to call n, from 0
abbrev pub answer : List ℕ → ℕ → Result Shown FileFault
answer f n = item f (given_after f n)

abbrev pub final : Result Shown FileFault → Bool
final (Ok (header h)) = false
final (Ok (entry p)) = false
final (Ok end) = true
final (Err e) = true

-- an end or a refusal is given again
abbrev pub Again : Type 0
Again = (f : List ℕ) (n : ℕ) → final (answer f n) ≡ true → answer f (suc n) ≡ answer f n

-- before that, each call gives the next item
abbrev pub InTurn : Type 0
InTurn = (f : List ℕ) (n : ℕ) → ((k : ℕ) → k < n → final (answer f k) ≡ false) → answer f n ≡ item f n
