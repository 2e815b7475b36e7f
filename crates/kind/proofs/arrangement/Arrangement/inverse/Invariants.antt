use Rattle.std.proofs.Common.{◌≡◌, ℕ, ◌<◌, length, get_or}
use Rattle.kind.proofs.arrangement.Arrangement.inverse.Given as goal

abbrev pub invariant-loop-place : goal.invariant-loop-place
invariant-loop-place l = record { long : length l.pages ≡ 16; placed : (k : ℕ) → k < l.place → get_or l.pages (get_or l.self.pages k 0) 0 ≡ k }
