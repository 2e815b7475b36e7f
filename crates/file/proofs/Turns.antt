-- One call of the item reader after another. Assumes nothing.
use Rattle.std.proofs.Common.{◌≡◌, ℕ, zero, suc, ◌+◌, ◌<◌, true, false, List, Ok, Err, Result, refl, ap, ◌∙◌, add-one, arith}
use Rattle.file.specs.declared.faults.FileFault.{FileFault}
use Rattle.file.specs.Items.{Shown, header, entry, end, item, after, final, given_after, answer, Again, InTurn}

after_final : (r : Result Shown FileFault) (n : ℕ) → final r ≡ true → after r n ≡ n
after_final (Ok (header h)) n e = cc
after_final (Ok (entry p)) n e = cc
after_final (Ok end) n e = refl
after_final (Err d) n e = refl

after_more : (r : Result Shown FileFault) (n : ℕ) → final r ≡ false → after r n ≡ n + 1
after_more (Ok (header h)) n e = refl
after_more (Ok (entry p)) n e = refl
after_more (Ok end) n e = cc
after_more (Err d) n e = cc

pub again : Again
again f n e = ap (item f) (after_final (item f (given_after f n)) (given_after f n) e)

given_all : (f : List ℕ) (n : ℕ) → ((k : ℕ) → k < n → final (answer f k) ≡ false) → given_after f n ≡ n
given_all f zero h = refl
given_all f (suc n) h = after_more (answer f n) (given_after f n) (h n (omega arith)) ∙ ap (λ m. m + 1) (given_all f n (λ k l. h k (omega arith))) ∙ add-one n

pub in_turn : InTurn
in_turn f n h = ap (item f) (given_all f n h)
