-- Revert: the cells written back to how they stood at a moment. Assumes nothing.
use Rattle.std.specs.Prelude.{ℕ, zero, suc, ◌+◌, Bool, cond, length, Ok, Err, Result, nat_lt, slice_index, slice_index_or}
use Rattle.kind.specs.Answers.{and_then, refuse_if, refused_as, kept}
use Rattle.kind.specs.Model.{Model}
use Rattle.journal.specs.Appends.{planned}
use Rattle.journal.specs.Spans.{spanned}
use Rattle.volume.specs.declared.refusal.Refusal.{Refusal}
use Rattle.volume.specs.declared.refusal.Refusal.TheVariants.{Moment, Ladder, Full}
use Rattle.volume.specs.Calls.{origin, difference, written}
use Rattle.volume.specs.Memory.{Memory}
use Rattle.volume.specs.Rolls.{acted}
use Rattle.volume.specs.Sizes.{sound}

-- what a revert answers: the count then
abbrev pub count_of : {PS PC : Type 0} → Result (Memory PS PC) Refusal → Result ℕ Refusal
count_of (Ok m) = Ok m.count
count_of (Err e) = Err e

module _ {PS PC : Type 0} (K : Model PS PC) where
  -- the state of cell c, as it is
  abbrev pub held_state : Memory PS PC → ℕ → PS
  held_state m c = slice_index_or m.cells c (origin K)

  -- .. and as its span from moment `from`, the count at the call, to moment `to` leaves it
  abbrev pub earlier_state : ℕ → ℕ → Memory PS PC → ℕ → Result PS Refusal
  earlier_state from to m c =
      and_then (refused_as Ladder (spanned K m.records from (slice_index m.heads c) c from to)) (λ f.
      Ok (acted K f.change (held_state m c)))

  abbrev pub alike : PS → PS → Bool
  alike s t = K.same_state (K.state s) (K.state t)

  -- how many writes cell c needs, none or one; the tests of the write are tried
  abbrev pub needed : ℕ → ℕ → Memory PS PC → ℕ → Result ℕ Refusal
  needed from to m c =
      and_then (earlier_state from to m c) (λ t.
      cond (alike (held_state m c) t) (Ok 0)
      (and_then (refused_as Ladder (planned K m.records (from + 1) (slice_index m.heads c) c (difference K (held_state m c) t))) (λ _. Ok 1)))

  -- how many the first n cells need
  abbrev pub all_needed : ℕ → ℕ → Memory PS PC → ℕ → Result ℕ Refusal
  all_needed from to m zero = Ok 0
  all_needed from to m (suc n) = and_then (all_needed from to m n) (λ k. and_then (needed from to m n) (λ j. Ok (k + j)))

  -- cell c written back, by an ordinary write where it stands otherwise
  abbrev pub put_back : ℕ → ℕ → Memory PS PC → ℕ → Memory PS PC
  put_back from to m c = kept m (and_then (earlier_state from to m c) (λ t. cond (alike (held_state m c) t) (Ok m) (written K m c t)))

  -- the first n cells, in order
  abbrev pub put_all_back : ℕ → ℕ → Memory PS PC → ℕ → Memory PS PC
  put_all_back from to m zero = m
  put_all_back from to m (suc n) = put_back from to (put_all_back from to m n) n

  -- every cell, and then the space, is tried before anything changes
  abbrev pub taken_back : Memory PS PC → ℕ → Result (Memory PS PC) Refusal
  taken_back m moment =
      and_then (sound (length m.cells) (length m.heads) (length m.records) m.count) (λ _.
      refuse_if (nat_lt m.count moment) Moment (
      and_then (all_needed m.count moment m (length m.cells)) (λ k.
      refuse_if (nat_lt (length m.records) (m.count + k)) Full (
      Ok (put_all_back m.count moment m (length m.cells))))))

  unfoldable pub reverted : Memory PS PC → ℕ → Result (Memory PS PC) Refusal
  reverted m moment = taken_back m moment
