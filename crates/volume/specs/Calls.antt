-- What each call makes of a volume's memory, or why it refuses, the tests in the order in which they are tried. Assumes nothing.
use Rattle.std.specs.Prelude.{ℕ, ◌+◌, ◌||◌, List, length, replicate, Ok, Err, Result, nat_le, nat_lt, slice_index, slice_index_or, slice_set}
use Rattle.kind.specs.Answers.{and_then, refuse_if, refused_as}
use Rattle.kind.specs.Model.{Model}
use Rattle.journal.specs.declared.record.Record.{Record}
use Rattle.journal.specs.declared.walk.Stretch.{Stretch}
use Rattle.journal.specs.Appends.{planned}
use Rattle.journal.specs.Spans.{spanned}
use Rattle.volume.specs.declared.refusal.Refusal.{Refusal}
use Rattle.volume.specs.declared.refusal.Refusal.TheVariants.{Cell, Moment, Ladder, Full}
use Rattle.volume.specs.Memory.{Memory, memory}
use Rattle.volume.specs.Sizes.{sized, sound}

-- what a span answers: its steps, and what stands at the caller's place then
abbrev pub steps_of : {PC : Type 0} → Result (Stretch PC) Refusal → Result ℕ Refusal
steps_of (Ok s) = Ok s.steps
steps_of (Err e) = Err e

abbrev pub change_of : {PC : Type 0} → PC → Result (Stretch PC) Refusal → PC
change_of before (Ok s) = s.change
change_of before (Err e) = before

module _ {PS PC : Type 0} (K : Model PS PC) where
  abbrev pub origin : PS
  origin = K.plain_state K.origin

  abbrev pub difference : PS → PS → PC
  difference s t = K.plain_change (K.diff (K.state s) (K.state t))

  -- the records with one more, number `number`, after `count` of them
  unfoldable pub logged : List (Record PC) → ℕ → ℕ → ℕ → ℕ → PC → Result (List (Record PC)) Refusal
  logged rs count number head cell change =
      and_then (refused_as Ladder (planned K rs number head cell change)) (λ r.
      refuse_if (nat_le (length rs) count) Full (
      Ok (slice_set rs count r)))

  -- the change f of cell c is logged, and s put in its place
  abbrev pub changed_to : Memory PS PC → ℕ → PC → PS → Result (Memory PS PC) Refusal
  changed_to m c f s =
      and_then (logged m.records m.count (m.count + 1) (slice_index m.heads c) c f) (λ rs.
      Ok (memory (slice_set m.cells c s) (slice_set m.heads c (m.count + 1)) rs (m.count + 1)))

  -- every cell is the origin, every head and the count are zero; the records are untouched
  abbrev pub emptied : Memory PS PC → Memory PS PC
  emptied m = memory (replicate (length m.cells) origin) (replicate (length m.heads) 0) m.records 0

  -- format
  abbrev pub cleared : Memory PS PC → Result (Memory PS PC) Refusal
  cleared m =
      and_then (sized (length m.cells) (length m.heads) (length m.records)) (λ _.
      Ok (emptied m))

  -- write: the difference from the old state is logged, and the new one put in its place
  abbrev pub wrote : Memory PS PC → ℕ → PS → Result (Memory PS PC) Refusal
  wrote m cell s =
      and_then (sound (length m.cells) (length m.heads) (length m.records) m.count) (λ _.
      refuse_if (nat_le (length m.cells) cell) Cell (
      changed_to m cell (difference (slice_index_or m.cells cell origin) s) s))

  -- read: the state of a cell
  abbrev pub looked : Memory PS PC → ℕ → Result PS Refusal
  looked m cell =
      and_then (sound (length m.cells) (length m.heads) (length m.records) m.count) (λ _.
      refuse_if (nat_le (length m.cells) cell) Cell (
      Ok (slice_index_or m.cells cell origin)))

  -- span: the change of a cell from moment a to moment b, and the steps that it took to find it
  abbrev pub measured : Memory PS PC → ℕ → ℕ → ℕ → Result (Stretch PC) Refusal
  measured m cell a b =
      and_then (sound (length m.cells) (length m.heads) (length m.records) m.count) (λ _.
      refuse_if (nat_le (length m.cells) cell) Cell (
      refuse_if (nat_lt m.count a || nat_lt m.count b) Moment (
      refused_as Ladder (spanned K m.records m.count (slice_index m.heads cell) cell a b))))

  -- the same, shut, so that proofs about several calls need not look inside
  unfoldable pub formatted : Memory PS PC → Result (Memory PS PC) Refusal
  formatted m = cleared m

  unfoldable pub written : Memory PS PC → ℕ → PS → Result (Memory PS PC) Refusal
  written m cell s = wrote m cell s

  unfoldable pub state_read : Memory PS PC → ℕ → Result PS Refusal
  state_read m cell = looked m cell

  unfoldable pub change_between : Memory PS PC → ℕ → ℕ → ℕ → Result (Stretch PC) Refusal
  change_between m cell a b = measured m cell a b
