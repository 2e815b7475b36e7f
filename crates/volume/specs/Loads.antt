-- Load: a volume filled from a file. Assumes nothing.
use Rattle.std.specs.Prelude.{ℕ, zero, suc, not, List, length, Some, Ok, Err, Result, ◌==◌, nat_le, slice_index, slice_index_or}
use Rattle.kind.specs.Answers.{and_then, refuse_if, refused_as, kept}
use Rattle.kind.specs.Model.{Model}
use Rattle.file.specs.declared.faults.FileFault.TheVariants.{Cell, Next}
use Rattle.file.specs.declared.header.Header.{Header}
use Rattle.file.specs.Changes.{change_read}
use Rattle.file.specs.Header.{header_of}
use Rattle.file.specs.Records.{Parts}
use Rattle.file.specs.States.{saved}
use Rattle.volume.specs.declared.refusal.Refusal.{Refusal}
use Rattle.volume.specs.declared.refusal.Refusal.TheVariants.{File}
use Rattle.volume.specs.Calls.{origin, changed_to, emptied}
use Rattle.volume.specs.Memory.{Memory}
use Rattle.volume.specs.Rolls.{acted}
use Rattle.volume.specs.Sizes.{sized}

module _ {PS PC : Type 0} (K : Model PS PC) where
  -- cell c changed by f, and the change logged
  abbrev pub entered : Memory PS PC → ℕ → PC → Result (Memory PS PC) Refusal
  entered m c f = changed_to K m c f (acted K f (slice_index_or m.cells c (origin K)))

  -- record n, of these parts, taken in: its next is to be the greatest lower record number of its cell
  abbrev pub took_parts : Memory PS PC → ℕ → Parts → Result (Memory PS PC) Refusal
  took_parts m n p =
      refuse_if (nat_le (length m.cells) p.cell) (File (Cell n)) (
      refuse_if (not (p.next == slice_index m.heads p.cell)) (File (Next n)) (
      and_then (refused_as File (change_read K n p.change)) (λ g.
      entered m p.cell (K.plain_change g))))

  abbrev pub took : List ℕ → Memory PS PC → ℕ → Result (Memory PS PC) Refusal
  took file m n = took_parts m n (saved K file n)

  -- records 1 to n, taken into m; and m as far as they were taken
  abbrev pub took_to : List ℕ → Memory PS PC → ℕ → Result (Memory PS PC) Refusal
  took_to file m zero = Ok m
  took_to file m (suc n) = and_then (took_to file m n) (λ w. took file w (suc n))

  abbrev pub reached : List ℕ → Memory PS PC → ℕ → Memory PS PC
  reached file m zero = m
  reached file m (suc n) = kept (reached file m n) (took_to file m (suc n))

  -- the header, for as many cells as there are and at most as many records as fit
  abbrev pub headed : Memory PS PC → List ℕ → Result Header Refusal
  headed m file =
      and_then (sized (length m.cells) (length m.heads) (length m.records)) (λ _.
      refused_as File (header_of K (Some (record { cells = length m.cells; room = length m.records })) file))

  abbrev pub filled : Memory PS PC → List ℕ → Result (Memory PS PC) Refusal
  filled m file = and_then (headed m file) (λ h. took_to file (emptied K m) h.count)

  -- what is left: where a record is refused, a formatted volume with the records before it in its log
  abbrev pub settled : Memory PS PC → Result (Memory PS PC) Refusal → Memory PS PC
  settled w (Ok x) = x
  settled w (Err e) = emptied K w

  abbrev pub left : Memory PS PC → List ℕ → Memory PS PC
  left m file = kept m (and_then (headed m file) (λ h. Ok (settled (reached file (emptied K m) h.count) (took_to file (emptied K m) h.count))))

  unfoldable pub loaded : Memory PS PC → List ℕ → Result (Memory PS PC) Refusal
  loaded m file = filled m file

  unfoldable pub load_leaves : Memory PS PC → List ℕ → Memory PS PC
  load_leaves m file = left m file
