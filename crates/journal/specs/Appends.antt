-- The record that logs one more change of a cell. Assumes nothing.
use Rattle.std.specs.Prelude.{ℕ, ◌+◌, ◌-◌, cond, List, Ok, Result, ◌==◌, nat_lt}
use Rattle.kind.specs.Answers.{and_then, refuse_if}
use Rattle.kind.specs.Model.{Model}
use Rattle.journal.specs.declared.record.Record.{Record}
use Rattle.journal.specs.declared.faults.LadderFault.{LadderFault}
use Rattle.journal.specs.declared.faults.LadderFault.TheVariants.{Length}
use Rattle.journal.specs.Links.{newest, numbered, follow}
use Rattle.journal.specs.Spans.{followed}

-- a record that reaches over itself alone
abbrev pub lone : {C : Type 0} → ℕ → ℕ → ℕ → C → Record C
lone cell number next change = record { cell = cell; next = next; skip = next; length = 1; foot = number; change = change; fold = change }

module _ {PS PC : Type 0} (K : Model PS PC) where
  -- a record that reaches over p, which is record `next`, and over q, which p skips to
  abbrev pub join : ℕ → ℕ → Record PC → Record PC → PC → Record PC
  join cell next p q change =
      record { cell = cell; next = next; skip = q.skip; length = 1 + p.length + q.length; foot = q.foot; change = change; fold = followed K (followed K q.fold p.fold) change }

  abbrev pub joined : ℕ → ℕ → Record PC → Record PC → PC → Result (Record PC) LadderFault
  joined cell next p q change = refuse_if (nat_lt 65535 (1 + p.length + q.length)) (Length cell next) (Ok (join cell next p q change))

  -- record `number`, on top of record `next`: joined to p and q where their lengths are equal
  abbrev pub over : List (Record PC) → ℕ → ℕ → ℕ → PC → Result (Record PC) LadderFault
  over rs number next cell change =
      and_then (follow K rs cell (next - 1) next (numbered K rs next).skip) (λ second.
      cond (second == 0) (Ok (lone cell number next change))
      (cond ((numbered K rs next).length == (numbered K rs second).length) (joined cell next (numbered K rs next) (numbered K rs second) change)
      (Ok (lone cell number next change))))

  -- record `number`, which logs the change of a cell with this head
  abbrev pub planned : List (Record PC) → ℕ → ℕ → ℕ → PC → Result (Record PC) LadderFault
  planned rs number head cell change =
      and_then (follow K rs cell (newest rs (number - 1)) 0 head) (λ next.
      cond (next == 0) (Ok (lone cell number next change)) (over rs number next cell change))
