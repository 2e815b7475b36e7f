-- Roll: an image, moved from one moment to another. Assumes nothing.
use Rattle.std.specs.Prelude.{ℕ, not, ◌||◌, List, map, length, Ok, Err, Result, ◌==◌, nat_lt, slice_index, slice_index_or}
use Rattle.std.specs.List.{range_with_len}
use Rattle.kind.specs.Answers.{and_then, each_below, refuse_if, refused_as}
use Rattle.kind.specs.Model.{Model}
use Rattle.journal.specs.declared.faults.LadderFault.{LadderFault}
use Rattle.journal.specs.declared.walk.Stretch.{Stretch}
use Rattle.journal.specs.Spans.{spanned}
use Rattle.volume.specs.declared.refusal.Refusal.{Refusal}
use Rattle.volume.specs.declared.refusal.Refusal.TheVariants.{Image, Moment, Ladder}
use Rattle.volume.specs.Calls.{origin}
use Rattle.volume.specs.Memory.{Memory}
use Rattle.volume.specs.Sizes.{sound}

module _ {PS PC : Type 0} (K : Model PS PC) where
  -- what a change makes of a state, as it is laid down
  abbrev pub acted : PC → PS → PS
  acted f s = K.plain_state (K.act (K.change f) (K.state s))

  -- the change of cell c from moment a to moment b
  abbrev pub across : Memory PS PC → ℕ → ℕ → ℕ → Result (Stretch PC) LadderFault
  across m a b c = spanned K m.records m.count (slice_index m.heads c) c a b

  -- a state as its cell's span leaves it; no fault comes where every cell was tried before
  abbrev pub swept : Result (Stretch PC) LadderFault → PS → PS
  swept (Ok f) s = acted f.change s
  swept (Err e) s = s

  -- every cell is tried before any state changes
  abbrev pub moved : Memory PS PC → List PS → ℕ → ℕ → Result (List PS) Refusal
  moved m image a b =
      and_then (sound (length m.cells) (length m.heads) (length m.records) m.count) (λ _.
      refuse_if (not (length image == length m.cells)) Image (
      refuse_if (nat_lt m.count a || nat_lt m.count b) Moment (
      and_then (refused_as Ladder (each_below (across m a b) (length image))) (λ _.
      Ok (map (λ c. swept (across m a b c) (slice_index_or image c (origin K))) (range_with_len 0 (length image)))))))

  unfoldable pub rolled : Memory PS PC → List PS → ℕ → ℕ → Result (List PS) Refusal
  rolled m image a b = moved m image a b
