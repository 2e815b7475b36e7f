-- Check: whether the memory is what writes after a format leave. Assumes nothing.
use Rattle.std.specs.Prelude.{ℕ, zero, suc, ◌+◌, ◌-◌, Bool, false, not, ◌&&◌, List, length, replicate, Ok, Err, Result, ◌==◌, nat_lt, slice_index, slice_index_or, slice_set}
use Rattle.kind.specs.Answers.{and_then, each_below, refuse_if, refused_as, kept}
use Rattle.kind.specs.Model.{Model}
use Rattle.journal.specs.declared.faults.LadderFault.{LadderFault}
use Rattle.journal.specs.declared.record.Record.{Record}
use Rattle.journal.specs.declared.walk.Stretch.{Stretch}
use Rattle.journal.specs.Appends.{planned}
use Rattle.journal.specs.Links.{numbered}
use Rattle.journal.specs.Spans.{spanned}
use Rattle.volume.specs.declared.refusal.Refusal.{Refusal}
use Rattle.volume.specs.declared.refusal.Refusal.TheVariants.{Unsound}
use Rattle.volume.specs.declared.refusal.Wrong.{Wrong}
use Rattle.volume.specs.declared.refusal.Wrong.TheVariants.{Record as WrongRecord, Head as WrongHead, Cell as WrongCell}
use Rattle.volume.specs.Calls.{origin}
use Rattle.volume.specs.Memory.{Memory}
use Rattle.volume.specs.Rolls.{acted}
use Rattle.volume.specs.Sizes.{sized, sound}

module _ {PS PC : Type 0} (K : Model PS PC) where
  -- the number of each cell's newest record among 1 to n
  abbrev pub newest_to : ℕ → List (Record PC) → ℕ → List ℕ
  newest_to cells rs zero = replicate cells 0
  newest_to cells rs (suc n) = slice_set (newest_to cells rs n) (numbered K rs (suc n)).cell (suc n)

  -- r is as the record that its cell, its change and the records before it make; folds are compared as what they are taken for
  abbrev pub as_planned : Record PC → Result (Record PC) LadderFault → Bool
  as_planned r (Ok p) = r.next == p.next && (r.skip == p.skip && (r.length == p.length && (r.foot == p.foot && K.same_change (K.change r.fold) (K.change p.fold))))
  as_planned r (Err e) = false

  abbrev pub right_record : ℕ → List (Record PC) → List ℕ → ℕ → Record PC → Bool
  right_record cells rs newest n r = nat_lt r.cell cells && as_planned r (planned K rs n (slice_index newest r.cell) r.cell r.change)

  -- record i + 1
  abbrev pub record_right : ℕ → List (Record PC) → ℕ → Result (Unit {0}) Wrong
  record_right cells rs i = refuse_if (not (right_record cells rs (newest_to cells rs i) (i + 1) (numbered K rs (i + 1)))) (WrongRecord (i + 1)) (Ok tt)

  -- the head of cell c
  abbrev pub head_right : List ℕ → List ℕ → ℕ → Result (Unit {0}) Wrong
  head_right newest heads c = refuse_if (not (slice_index heads c == slice_index newest c)) (WrongHead c) (Ok tt)

  -- the state of cell c: what all its changes make of the origin
  abbrev pub as_changed : PS → Result (Stretch PC) LadderFault → Bool
  as_changed s (Ok f) = K.same_state (K.state s) (K.state (acted K f.change (origin K)))
  as_changed s (Err e) = false

  abbrev pub cell_right : Memory PS PC → ℕ → Result (Unit {0}) Wrong
  cell_right m c = refuse_if (not (as_changed (slice_index_or m.cells c (origin K)) (spanned K m.records m.count (slice_index m.heads c) c 0 m.count))) (WrongCell c) (Ok tt)

  -- records, then heads, then cells
  abbrev pub judged : Memory PS PC → Result (Unit {0}) Wrong
  judged m =
      and_then (each_below (record_right (length m.cells) m.records) m.count) (λ _.
      and_then (each_below (head_right (newest_to (length m.cells) m.records m.count) m.heads) (length m.cells)) (λ _.
      each_below (cell_right m) (length m.cells)))

  -- how many records come before the lowest wrong one, of `count`
  abbrev pub before_wrong : ℕ → Result (Unit {0}) Wrong → ℕ
  before_wrong count (Ok x) = count
  before_wrong count (Err (WrongRecord n)) = n - 1
  before_wrong count (Err (WrongHead c)) = count
  before_wrong count (Err (WrongCell c)) = count

  -- the work row then: each cell's newest record among those before the lowest wrong one
  abbrev pub noted : Memory PS PC → List ℕ
  noted m = newest_to (length m.cells) m.records (before_wrong m.count (each_below (record_right (length m.cells) m.records) m.count))

  -- the work row is to be as many as the cells, like the heads
  abbrev pub workable : Memory PS PC → List ℕ → Result (Unit {0}) Refusal
  workable m work =
      and_then (sized (length m.cells) (length work) 0) (λ _.
      sound (length m.cells) (length m.heads) (length m.records) m.count)

  abbrev pub examined : Memory PS PC → List ℕ → Result (Unit {0}) Refusal
  examined m work = and_then (workable m work) (λ _. refused_as Unsound (judged m))

  -- the answer, and the work row at the end
  unfoldable pub checked : Memory PS PC → List ℕ → Result (Unit {0}) Refusal
  checked m work = examined m work

  unfoldable pub work_after : Memory PS PC → List ℕ → List ℕ
  work_after m work = kept work (and_then (workable m work) (λ _. Ok (noted m)))
