-- What the journal makes of a log that writes left. Assumes nothing.
use Rattle.std.specs.Prelude.{◌≡◌, ℕ, ◌+◌, ◌*◌, ◌^◌, ◌<◌, ◌≤◌, cond, List, [], ◌∷◌, ◌++◌, length, take, Ok, ◌==◌}
use Rattle.kind.specs.Model.{Model}
use Rattle.journal.specs.declared.record.Record.{Record}
use Rattle.journal.specs.declared.walk.Stretch.{Stretch}
use Rattle.journal.specs.Appends.{planned}
use Rattle.journal.specs.Links.{numbered}
use Rattle.journal.specs.Spans.{spanned}
use Rattle.logs.specs.Writes.{Write, head_of, between, writes_to, log_of}

module _ {PS PC : Type 0} (K : Model PS PC) where
  -- the records rs begin with the log of the writes; those beyond may be anything
  abbrev pub Logs : List (Record PC) → List (Write PC) → Type 0
  Logs rs ws = take (length ws) rs ≡ log_of K ws

  -- With at most 65,535 records, one more write to any cell meets no bad link and no length past the limit. The log then grows by its record,
  -- which is of that cell and has that change, and leads on to the cell's head.
  abbrev pub NeverRefused : Type 0
  NeverRefused =
      (ws : List (Write PC)) (rs : List (Record PC)) → Logs rs ws → length ws ≤ 65535 →
      (c : ℕ) (f : PC) →
      (r : Record PC) × (planned K rs (length ws + 1) (head_of ws c) c f ≡ Ok r) × (r.next ≡ head_of ws c) × (r.cell ≡ c) × (r.change ≡ f)
      × (log_of K (ws ++ record { cell = c; change = f } ∷ []) ≡ log_of K ws ++ r ∷ [])

  -- A write becomes the head of its cell, and leaves the heads of the others.
  abbrev pub HeadMoves : Type 0
  HeadMoves =
      (ws : List (Write PC)) (w : Write PC) (c : ℕ) →
      head_of (ws ++ w ∷ []) c ≡ cond (w.cell == c) (length ws + 1) (head_of ws c)

  -- The span of a cell from moment a to moment b is answered. It is what the writes in between did to the cell, or, backwards, the inverse.
  -- A moment past the last write is as the last.
  abbrev pub SpansRight : Type 0
  SpansRight =
      (ws : List (Write PC)) (rs : List (Record PC)) → Logs rs ws → length ws ≤ 65535 →
      (c a b : ℕ) →
      (s : Stretch PC) × (spanned K rs (length ws) (head_of ws c) c a b ≡ Ok s)
      × (a ≤ b → K.change s.change ≡ between K ws c a b) × (b < a → K.change s.change ≡ K.inverse (between K ws c b a))

  -- It takes at most 6 * k steps, where k is the binary logarithm, rounded down, of one more than the number of writes to the cell.
  abbrev pub StepsFew : Type 0
  StepsFew =
      (ws : List (Write PC)) (rs : List (Record PC)) → Logs rs ws → length ws ≤ 65535 →
      (c a b : ℕ) (s : Stretch PC) → spanned K rs (length ws) (head_of ws c) c a b ≡ Ok s →
      (k : ℕ) → 2 ^ k ≤ writes_to K ws c + 1 → writes_to K ws c + 1 < 2 ^ (k + 1) →
      s.steps ≤ 6 * k

  -- Each record of the log is the one that its write makes after the writes before it.
  abbrev pub EachRecord : Type 0
  EachRecord =
      (us : List (Write PC)) (w : Write PC) (vs : List (Write PC)) (rs : List (Record PC)) → Logs rs (us ++ w ∷ vs) → length (us ++ w ∷ vs) ≤ 65535 →
      (planned K rs (length us + 1) (head_of us w.cell) w.cell w.change ≡ Ok (numbered K rs (length us + 1)))
      × ((numbered K rs (length us + 1)).cell ≡ w.cell) × ((numbered K rs (length us + 1)).change ≡ w.change)
      × ((numbered K rs (length us + 1)).next ≡ head_of us w.cell)
