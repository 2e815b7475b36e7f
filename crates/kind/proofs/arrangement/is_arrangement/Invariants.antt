use Rattle.std.proofs.Common.{◌≡◌, ℕ, ◌<◌, false, length, get_or, take}
use Rattle.kind.specs.Arrangements.{count}
use Rattle.kind.specs.Laws.Arrangements.{bit}
use Rattle.kind.proofs.arrangement.is_arrangement.Given as goal

abbrev pub invariant-loop-page : goal.invariant-loop-page
invariant-loop-page l = (length l.seen ≡ 16) × ((k : ℕ) → k < 16 → count k (take l.page-index l.pages) ≡ bit (get_or l.seen k false)) × ((j : ℕ) → j < l.page-index → get_or l.pages j 0 < 16)
