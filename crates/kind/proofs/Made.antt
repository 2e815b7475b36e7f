-- An array made by a closure that changes nothing, element by element. Assumes nothing.
use Rattle.std.proofs.Common.{◌≡◌, ℕ, zero, suc, ◌+◌, ◌<◌, List, get_or, ◌∙◌, subst, arith}
use Rattle.std.specs.Array.{IsFromFnResult, IsFromFnResultFrom}
use Rattle.std.specs.Fn.{Mut, Called}

module _ {F B : Type 0} (g : Mut F (ℕ × Unit {0}) B) (f : F) (h : ℕ → B) (step : (i : ℕ) (y : B) (q : F) → Called g f (i, tt) y q → (y ≡ h i) × (q ≡ f)) (ys : List B) (d : B) where
  made_from : (i n : ℕ) → IsFromFnResultFrom g f ys i n → (k j : ℕ) → k < n → i + k ≡ j → get_or ys j d ≡ h j
  made_from i zero all k j l e = absurd (omega arith)
  made_from i (suc n) (q, y, at, e, rest) zero j l s =
      let same : i ≡ j = omega arith in
      subst (λ m. get_or ys m d ≡ h m) same (at.1 d ∙ (step i y q e).0)
  made_from i (suc n) (q, y, at, e, rest) (suc k) j l s = made_from (i + 1) n (subst (λ p. IsFromFnResultFrom g p ys (i + 1) n) (step i y q e).1 rest) k j (omega arith) (omega arith)

  pub made_each : (n : ℕ) → IsFromFnResult g f ys n → (k : ℕ) → k < n → get_or ys k d ≡ h k
  made_each n r k l = made_from 0 n r.each k k l (omega arith)
