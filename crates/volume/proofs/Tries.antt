-- A loop that tries one after the other and leaves by `?` at the first refusal. Assumes nothing.
use Rattle.std.proofs.Common.{◌≡◌, ℕ, ◌+◌, ◌<◌, ◌≤◌, Ok, Err, Result, sym, ap, ◌∙◌, add-one, arith}
use Rattle.kind.specs.Answers.{each_below}
use Rattle.kind.proofs.Tried.{each_more, each_stops}

-- r is what the try at i answered
module _ {A E : Type 0} (f : ℕ → Result A E) (i : ℕ) (r : Result A E) (before : each_below f i ≡ Ok tt) (is : r ≡ f i) where
  -- where the loop leaves
  pub tries_stop : (n : ℕ) (e : E) → i < n → r ≡ Err e → Err e ≡ each_below f n
  tries_stop n e l q = sym (each_stops f n i e l before (sym is ∙ q))

  pub tries_more : (x : A) → r ≡ Ok x → each_below f (i + 1) ≡ Ok tt
  tries_more x q = ap (each_below f) (add-one i) ∙ each_more f i x before (sym is ∙ q)

pub tries_all : {A E : Type 0} (f : ℕ → Result A E) (i n : ℕ) → each_below f i ≡ Ok tt → i ≤ n → n ≤ i → Ok tt ≡ each_below f n
tries_all f i n before l h = let all : i ≡ n = omega arith in sym before ∙ ap (each_below f) all
