use Rattle.std.proofs.Common.{◌≡◌, ◌+◌, ◌≤◌}
use Rattle.journal.specs.Spans.{reach, started}
use Rattle.journal.proofs.walk.Chain.walk.Given as goal

-- the rest of the walk gives what the whole gives
abbrev pub invariant-loop-at : goal.invariant-loop-at
invariant-loop-at g l =
    let K = g.K.Kind.model in
    (reach K l.self.records.now l.self.cell l.end l.at ≡ reach K l.self.records.now l.self.cell l.end (started K l.start))
    × (l.at.steps + l.at.place ≤ l.start)

abbrev pub decreases-loop-at : goal.decreases-loop-at
decreases-loop-at g l = l.at.place
