use Rattle.std.proofs.Common.{◌≡◌, length, Ok}
use Rattle.file.specs.States.{last_of, replayed}
use Rattle.file.proofs.states.replayed.Given as goal

abbrev pub invariant-loop-n : goal.invariant-loop-n
invariant-loop-n g l =
    let K = g.K.Kind.model in
    let i = length l.yielded in
    (Ok (K.state l.state) ≡ replayed K l.fn.file.bytes.now l.cell i) × (l.last ≡ last_of K l.fn.file.bytes.now l.cell i) × (l.state ≡ K.plain_state (K.state l.state))
