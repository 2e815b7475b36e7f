use Rattle.std.proofs.Common.{◌≡◌, length, Ok}
use Rattle.kind.specs.Answers.{each_below}
use Rattle.volume.specs.Checks.{newest_to, record_right}
use Rattle.volume.proofs.tested.Tested.check_records.Given as goal

abbrev pub invariant-loop-i : goal.invariant-loop-i
invariant-loop-i g l =
    let K = g.K.Kind.model in
    let cells = length l.initial.work in
    (l.work ≡ newest_to K cells l.self.records.now l.i) × (each_below (record_right K cells l.self.records.now) l.i ≡ Ok tt)
