use Rattle.std.proofs.Common.{◌≡◌, ◌+◌, ◌≤◌}
use Rattle.journal.specs.Spans.{reach, started, stop_of}
use Rattle.journal.proofs.walk.Chain.descend.Given as goal

-- the rest of the walk stops where the whole stops, whatever was taken
abbrev pub invariant-loop-place : goal.invariant-loop-place
invariant-loop-place g l =
    let K = g.K.Kind.model in
    (stop_of (reach K l.self.records.now l.self.cell l.end (record { place = l.place; taken = K.plain_change K.unit; steps = l.steps }))
    ≡ stop_of (reach K l.self.records.now l.self.cell l.end (started K l.start)))
    × (l.steps + l.place ≤ l.start)

abbrev pub decreases-loop-place : goal.decreases-loop-place
decreases-loop-place g l = l.place
