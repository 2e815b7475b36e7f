use Rattle.std.proofs.Common.{◌≡◌, length, Ok}
use Rattle.kind.specs.Answers.{each_below}
use Rattle.volume.specs.Checks.{head_right}
use Rattle.volume.proofs.checks.check_heads.Given as goal

abbrev pub invariant-loop-i : goal.invariant-loop-i
invariant-loop-i g l = each_below (head_right g.K.Kind.model l.newest l.heads) (length l.yielded) ≡ Ok tt
