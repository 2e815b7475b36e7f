use Rattle.std.proofs.Common.{◌≡◌}
use Rattle.file.specs.Items.{given_after}
use Rattle.file.proofs.items.nth_answer.Given as goal

abbrev pub invariant-loop : goal.invariant-loop
invariant-loop l = (l.items.file.now ≡ l.file) × (l.items.given ≡ given_after l.file l.counter)
