-- What calls in a row leave in the memory that its owner lent. Assumes nothing.
use Rattle.std.specs.Prelude.{ℕ}
use Rattle.kind.specs.Answers.{kept}
use Rattle.kind.specs.Model.{Model}
use Rattle.volume.specs.Calls.{written}
use Rattle.volume.specs.Memory.{Memory}

-- a write of s to cell c and then one of t; a refused one leaves the memory as it is
abbrev pub after_two : {PS PC : Type 0} → Model PS PC → Memory PS PC → ℕ → PS → PS → Memory PS PC
after_two K m c s t = kept (kept m (written K m c s)) (written K (kept m (written K m c s)) c t)
