-- A walk along the links of a cell, and the span between two moments, which takes two walks. Assumes nothing.
use Rattle.std.specs.Prelude.{ℕ, zero, suc, ◌+◌, ◌-◌, cond, List, Ok, Result, nat_le, nat_lt}
use Rattle.kind.specs.Answers.{and_then}
use Rattle.kind.specs.Model.{Model}
use Rattle.journal.specs.declared.record.Record.{Record}
use Rattle.journal.specs.declared.walk.Walked.{Walked}
use Rattle.journal.specs.declared.walk.Stop.{Stop}
use Rattle.journal.specs.declared.walk.Stretch.{Stretch}
use Rattle.journal.specs.declared.faults.LadderFault.{LadderFault}
use Rattle.journal.specs.Links.{newest, numbered, follow}

-- from a record on the way to moment `end`: the link that is followed, and what is taken. A record whose foot is above
-- `end` reaches over nothing older than that, so the walk skips and takes the fold.
abbrev pub way : {C : Type 0} → ℕ → Record C → ℕ
way end r = cond (nat_lt end r.foot) r.skip r.next

abbrev pub taking : {C : Type 0} → ℕ → Record C → C
taking end r = cond (nat_lt end r.foot) r.fold r.change

module _ {PS PC : Type 0} (K : Model PS PC) where
  -- f followed by g, as it is laid down
  abbrev pub followed : PC → PC → PC
  followed f g = K.plain_change (K.then (K.change f) (K.change g))

  -- a walk that stands at record n and has taken nothing
  abbrev pub started : ℕ → Walked PC
  started n = record { place = n; taken = K.plain_change K.unit; steps = 0 }

  -- the walk w, gone on to record n
  abbrev pub moved : List (Record PC) → ℕ → Walked PC → ℕ → Result (Walked PC) LadderFault
  moved rs end w n = Ok (record { place = n; taken = followed (taking end (numbered K rs w.place)) w.taken; steps = w.steps + 1 })

  -- one step of a walk to `end`
  abbrev pub step : List (Record PC) → ℕ → ℕ → Walked PC → Result (Walked PC) LadderFault
  step rs cell end w = and_then (follow K rs cell (w.place - 1) w.place (way end (numbered K rs w.place))) (moved rs end w)

  -- at most n steps: the walk stops at zero or at a record not above `end`
  abbrev pub walk : ℕ → List (Record PC) → ℕ → ℕ → Walked PC → Result (Walked PC) LadderFault
  walk zero rs cell end w = Ok w
  walk (suc n) rs cell end w = cond (nat_le w.place end) (Ok w) (and_then (step rs cell end w) (walk n rs cell end))

  -- each step leads to a lower record, so that `place` steps are enough
  abbrev pub reach : List (Record PC) → ℕ → ℕ → Walked PC → Result (Walked PC) LadderFault
  reach rs cell end w = walk w.place rs cell end w

  -- the changes after moment `low` up to moment `high`: from the head to `high`, then on to `low`
  abbrev pub ascent : List (Record PC) → ℕ → ℕ → ℕ → ℕ → ℕ → Result (Stretch PC) LadderFault
  ascent rs count head cell low high =
      and_then (follow K rs cell (newest rs count) 0 head) (λ n.
      and_then (reach rs cell high (started n)) (λ top.
      and_then (reach rs cell low (started top.place)) (λ rest.
      Ok (record { change = rest.taken; steps = top.steps + rest.steps }))))

  abbrev pub turned : Stretch PC → Result (Stretch PC) LadderFault
  turned s = Ok (record { change = K.plain_change (K.inverse (K.change s.change)); steps = s.steps })

  -- the change of a cell from moment a to moment b; backwards it is the inverse
  abbrev pub spanned : List (Record PC) → ℕ → ℕ → ℕ → ℕ → ℕ → Result (Stretch PC) LadderFault
  spanned rs count head cell a b = cond (nat_le a b) (ascent rs count head cell a b) (and_then (ascent rs count head cell b a) turned)

-- where a walk stopped, whatever it took
abbrev pub stop_of : {C : Type 0} → Result (Walked C) LadderFault → Result Stop LadderFault
stop_of r = and_then r (λ w. Ok (record { place = w.place; steps = w.steps }))
