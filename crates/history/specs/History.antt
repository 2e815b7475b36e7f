-- The plain history of a volume: a line for each write that was taken, and what it says of each moment. Assumes nothing.
use Rattle.std.specs.Prelude.{ℕ, ◌+◌, cond, List, [], ◌∷◌, ◌++◌, map, length, take, ◌==◌}
use Rattle.std.specs.List.{range_with_len}
use Rattle.kind.specs.Model.{Model}

-- a cell took a state
pub record Entry (S : Type 0) : Type 0 where
  pub cell : ℕ
  pub state : S

-- Moment m is the point after the first m entries.
pub record History (S : Type 0) : Type 0 where
  -- how many cells there are
  pub cells : ℕ
  -- how many entries there can be
  pub capacity : ℕ
  pub entries : List (Entry S)

abbrev pub count : {S : Type 0} → History S → ℕ
count h = length h.entries

abbrev pub emptied : {S : Type 0} → History S → History S
emptied h = record { cells = h.cells; capacity = h.capacity; entries = [] }

abbrev pub extended : {S : Type 0} → History S → List (Entry S) → History S
extended h es = record { cells = h.cells; capacity = h.capacity; entries = h.entries ++ es }

abbrev pub appended : {S : Type 0} → History S → ℕ → S → History S
appended h c s = extended h (record { cell = c; state = s } ∷ [])

-- the state of the last entry of cell c, or s where there is none
abbrev pub latest : {S : Type 0} → S → ℕ → List (Entry S) → S
latest s c [] = s
latest s c (e ∷ es) = latest (cond (e.cell == c) e.state s) c es

-- the number of the last entry of cell c, where `before` came before these, or `found` where there is none
abbrev pub last_number : {S : Type 0} → ℕ → ℕ → ℕ → List (Entry S) → ℕ
last_number before found c [] = found
last_number before found c (e ∷ es) = last_number (before + 1) (cond (e.cell == c) (before + 1) found) c es

-- the number of cell c's last entry, from 1 on, or zero
abbrev pub last_entry : {S : Type 0} → History S → ℕ → ℕ
last_entry h c = last_number 0 0 c h.entries

-- how many entries are of cell c
abbrev pub entries_of : {S : Type 0} → ℕ → List (Entry S) → ℕ
entries_of c [] = 0
entries_of c (e ∷ es) = cond (e.cell == c) 1 0 + entries_of c es

module _ {PS PC : Type 0} (K : Model PS PC) where
  -- cell c as it stood at moment m
  abbrev pub stood : History K.State → ℕ → ℕ → K.State
  stood h c m = latest K.origin c (take m h.entries)

  -- all cells as they stood at moment m
  abbrev pub image : History K.State → ℕ → List K.State
  image h m = map (λ c. stood h c m) (range_with_len 0 h.cells)
