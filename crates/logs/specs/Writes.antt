-- The writes of a journal, oldest first, what they do to a cell, and the log that they leave. Assumes nothing.
--
-- Write number n is the n-th of the list, from 1 on, and makes record number n. A moment is a number too: moment n is right
-- after write n, and moment 0 is before the first.
use Rattle.std.specs.Prelude.{ℕ, ◌+◌, ◌-◌, Bool, cond, List, [], ◌∷◌, ◌++◌, length, take, drop, ◌==◌, nat_lt}
use Rattle.kind.specs.Model.{Model}
use Rattle.journal.specs.declared.record.Record.{Record}
use Rattle.kind.specs.Answers.{kept}
use Rattle.journal.specs.Links.{blank}
use Rattle.journal.specs.Appends.{planned}

-- a change to a cell, as it lies in memory
pub record Write (C : Type 0) : Type 0 where
  pub cell : ℕ
  pub change : C

-- the number of the last write to a cell, where one more write, to this cell or to another, stands before those of which it is h
abbrev pub head_after : Bool → ℕ → ℕ
head_after here h = cond (nat_lt 0 h) (h + 1) (cond here 1 0)

-- the number of the last write to cell c, or 0
abbrev pub head_of : {C : Type 0} → List (Write C) → ℕ → ℕ
head_of [] c = 0
head_of (w ∷ ws) c = head_after (w.cell == c) (head_of ws c)

module _ {PS PC : Type 0} (K : Model PS PC) where
  abbrev pub change_to : ℕ → Write PC → List K.Change
  change_to c w = cond (w.cell == c) (K.change w.change ∷ []) []

  -- the changes of the writes to cell c
  abbrev pub changes_to : ℕ → List (Write PC) → List K.Change
  changes_to c [] = []
  changes_to c (w ∷ ws) = change_to c w ++ changes_to c ws

  -- the first change, followed by the second, and so on
  abbrev pub composed : List K.Change → K.Change
  composed [] = K.unit
  composed (f ∷ fs) = K.then f (composed fs)

  -- what the writes numbered above a and not above b did to cell c
  abbrev pub between : List (Write PC) → ℕ → ℕ → ℕ → K.Change
  between ws c a b = composed (changes_to c (take (b - a) (drop a ws)))

  -- how many writes are to cell c
  abbrev pub writes_to : List (Write PC) → ℕ → ℕ
  writes_to ws c = length (changes_to c ws)

  -- the record that one more write makes, after the writes `past` that left the log
  abbrev pub entered : List (Write PC) → List (Record PC) → Write PC → Record PC
  entered past log w = kept (blank K) (planned K log (length past + 1) (head_of past w.cell) w.cell w.change)

  -- the log after the writes ws, that come after the writes `past`
  abbrev pub log_on : List (Write PC) → List (Record PC) → List (Write PC) → List (Record PC)
  log_on past log [] = log
  log_on past log (w ∷ ws) = log_on (past ++ w ∷ []) (log ++ entered past log w ∷ []) ws

  -- the log that the writes leave
  abbrev pub log_of : List (Write PC) → List (Record PC)
  log_of ws = log_on [] [] ws
