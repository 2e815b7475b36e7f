use Rattle.std.proofs.Common.{◌≡◌, ℕ, ◌+◌, ◌*◌, ◌/◌, ◌%◌, ◌<◌, get_or}
use Rattle.std.specs.Char.{digit_char}
use Rattle.script.proofs.hexadecimal.read_exact.Given as goal

abbrev pub invariant-loop-i : goal.invariant-loop-i
invariant-loop-i l = (k : ℕ) → k < l.i → (digit_char (get_or l.out k 0 / 16) ≡ get_or l.t (2 * k) 0) × (digit_char (get_or l.out k 0 % 16) ≡ get_or l.t (2 * k + 1) 0)
