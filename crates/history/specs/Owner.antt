-- What stands between the ten calls in a row that an owner of memory makes. Assumes nothing.
use Rattle.std.specs.Prelude.{ℕ, List, [], ◌∷◌}
use Rattle.kind.specs.Answers.{kept}
use Rattle.kind.specs.Model.{Model}
use Rattle.volume.specs.Memory.{Memory}
use Rattle.volume.specs.Rolls.{rolled}
use Rattle.history.specs.Calls.{format, write, revert, run_all}

module _ {PS PC : Type 0} (K : Model PS PC) (m : Memory PS PC) (c : ℕ) (s : PS) where
  -- the memory after a format, and a write of s to cell c
  abbrev pub after_write : Memory PS PC
  after_write = run_all K m (format ∷ write c s ∷ [])

  -- .. and a revert to moment a
  abbrev pub after_revert : ℕ → Memory PS PC
  after_revert a = run_all K m (format ∷ write c s ∷ revert a ∷ [])

  -- the image after a roll from moment a to moment b
  abbrev pub after_roll : List PS → ℕ → ℕ → List PS
  after_roll image a b = kept image (rolled K after_write image a b)
