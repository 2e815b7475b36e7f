-- A tally volume worked through: what the definitions of the calls give on it. Assumes nothing.
use Rattle.std.specs.Prelude.{◌≡◌, ℕ, List, [], ◌∷◌, map, take, drop, replicate, ℤ, pos, negsuc, Ok}
use Rattle.kind.specs.Tallies.{tally}
use Rattle.journal.specs.declared.record.Record.{Record}
use Rattle.journal.specs.declared.walk.Stretch.{Stretch}
use Rattle.journal.specs.Links.{blank}
use Rattle.volume.specs.Calls.{change_between}
use Rattle.volume.specs.Memory.{Memory, memory}
use Rattle.volume.specs.Replays.{replayed}
use Rattle.history.specs.Calls.{format, write, revert, run_all}

-- so many cells, space for seven records, and nothing known
abbrev pub bare : ℕ → Memory ℤ ℤ
bare cells = memory (replicate cells (pos 0)) (replicate cells 0) (replicate 7 (blank tally)) 0

-- two cells, formatted, and then five writes; negsuc 1 is -2, negsuc 4 is -5
abbrev pub begun : Memory ℤ ℤ
begun = run_all tally (bare 2) (format ∷ [])

abbrev pub five : Memory ℤ ℤ
five = run_all tally begun (write 0 (pos 5) ∷ write 1 (negsuc 1) ∷ write 0 (pos 3) ∷ write 0 (pos 3) ∷ write 0 (pos 10) ∷ [])

abbrev pub undone : Memory ℤ ℤ
undone = run_all tally five (revert 1 ∷ [])

-- one cell, written seven times
abbrev pub seven : Memory ℤ ℤ
seven = run_all tally (bare 1) (format ∷ write 0 (pos 1) ∷ write 0 (pos 2) ∷ write 0 (pos 3) ∷ write 0 (pos 4) ∷ write 0 (pos 5) ∷ write 0 (pos 6) ∷ write 0 (pos 7) ∷ [])

abbrev pub stretch : ℤ → ℕ → Stretch ℤ
stretch f n = record { change = f; steps = n }

-- the first n records
abbrev pub first : ℕ → Memory ℤ ℤ → List (Record ℤ)
first n m = take n m.records

pub record Worked : Type 0 where
  pub image_at_0 : replayed tally begun (pos 9 ∷ pos 9 ∷ []) 0 ≡ Ok (pos 0 ∷ pos 0 ∷ [])
  pub unit_at_0 : change_between tally begun 0 0 0 ≡ Ok (stretch (pos 0) 0)
  pub changes : map (λ r. r.change) (first 5 five) ≡ pos 5 ∷ negsuc 1 ∷ negsuc 1 ∷ pos 0 ∷ pos 7 ∷ []
  pub nexts : map (λ r. r.next) (first 5 five) ≡ 0 ∷ 0 ∷ 1 ∷ 3 ∷ 4 ∷ []
  pub skips : map (λ r. r.skip) (first 5 five) ≡ 0 ∷ 0 ∷ 1 ∷ 0 ∷ 4 ∷ []
  pub lengths : map (λ r. r.length) (first 5 five) ≡ 1 ∷ 1 ∷ 1 ∷ 3 ∷ 1 ∷ []
  pub feet : map (λ r. r.foot) (first 5 five) ≡ 1 ∷ 2 ∷ 3 ∷ 1 ∷ 5 ∷ []
  pub folds : map (λ r. r.fold) (first 5 five) ≡ pos 5 ∷ negsuc 1 ∷ negsuc 1 ∷ pos 3 ∷ pos 7 ∷ []
  pub from_1_to_5 : change_between tally five 0 1 5 ≡ Ok (stretch (pos 5) 3)
  pub from_5_to_1 : change_between tally five 0 5 1 ≡ Ok (stretch (negsuc 4) 3)
  pub from_1_to_3 : change_between tally five 0 1 3 ≡ Ok (stretch (negsuc 1) 3)
  pub from_0_to_5 : change_between tally five 0 0 5 ≡ Ok (stretch (pos 10) 2)
  -- the two records that a revert to moment 1 adds
  pub reverted_count : undone.count ≡ 7
  pub reverted_cells : map (λ r. r.cell) (drop 5 undone.records) ≡ 0 ∷ 1 ∷ []
  pub reverted_changes : map (λ r. r.change) (drop 5 undone.records) ≡ negsuc 4 ∷ pos 2 ∷ []
  pub reverted_nexts : map (λ r. r.next) (drop 5 undone.records) ≡ 5 ∷ 2 ∷ []
  pub record_6_skip : map (λ r. r.skip) (take 1 (drop 5 undone.records)) ≡ 5 ∷ []
  pub record_6_length : map (λ r. r.length) (take 1 (drop 5 undone.records)) ≡ 1 ∷ []
  pub seven_lengths : map (λ r. r.length) seven.records ≡ 1 ∷ 1 ∷ 3 ∷ 1 ∷ 1 ∷ 3 ∷ 7 ∷ []
  pub seven_skips : map (λ r. r.skip) seven.records ≡ 0 ∷ 1 ∷ 0 ∷ 3 ∷ 4 ∷ 3 ∷ 0 ∷ []
  pub seven_from_1_to_7 : change_between tally seven 0 1 7 ≡ Ok (stretch (pos 6) 4)
