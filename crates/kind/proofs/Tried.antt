-- Tests that are tried one after the other: the first refusal is the answer. Assumes nothing.
use Rattle.std.proofs.Common.{◌≡◌, ℕ, zero, suc, ◌<◌, Ok, Err, Result, sym, refl, ap, ◌∙◌, inl, inr, arith}
use Rattle.std.proofs.lemmas.Bool.{cases_lt}
use Rattle.kind.specs.Answers.{and_then, each_below}

module _ {A E : Type 0} (f : ℕ → Result A E) where
  -- none refuses
  pub each_ok : (n : ℕ) → ((i : ℕ) → i < n → (x : A) × (f i ≡ Ok x)) → each_below f n ≡ Ok tt
  each_ok zero all = refl
  each_ok (suc n) all =
      ap (λ r. and_then r (λ _. and_then (f n) (λ _. Ok tt))) (each_ok n (λ i l. all i (omega arith)))
      ∙ ap (λ r. and_then r (λ _. Ok tt)) (all n (omega arith)).1

  -- one more that does not refuse, or does
  pub each_more : (n : ℕ) (x : A) → each_below f n ≡ Ok tt → f n ≡ Ok x → each_below f (suc n) ≡ Ok tt
  each_more n x e q = ap (λ r. and_then r (λ _. and_then (f n) (λ _. Ok tt))) e ∙ ap (λ r. and_then r (λ _. Ok tt)) q

  pub each_stops : (n i : ℕ) (e : E) → i < n → each_below f i ≡ Ok tt → f i ≡ Err e → each_below f n ≡ Err e
  each_stops zero i e l p q = absurd (omega arith)
  each_stops (suc n) i e l p q =
      elim (cases_lt i n) [
        | inl m ↦ ap (λ r. and_then r (λ _. and_then (f n) (λ _. Ok tt))) (each_stops n i e m p q)
        | inr o ↦
            (let same : i ≡ n = omega arith in
            ap (λ r. and_then r (λ _. and_then (f n) (λ _. Ok tt))) (ap (each_below f) (sym same) ∙ p)
            ∙ ap (λ r. and_then r (λ _. Ok tt)) (ap f (sym same) ∙ q))
      ]

  -- what did not refuse at all refuses at none
  each_one : (n : ℕ) → each_below f (suc n) ≡ Ok tt → (each_below f n ≡ Ok tt) × ((x : A) × (f n ≡ Ok x))
  each_one n e = go (each_below f n) refl e
    where
      last : (r : Result A E) → f n ≡ r → and_then {B = Unit {0}} r (λ _. Ok tt) ≡ Ok tt → (x : A) × (f n ≡ Ok x)
      last (Ok x) q e = (x, q)
      last (Err y) q e = let z : ◌≡◌ {A = ℕ} 0 1 = cc in absurd (omega arith)

      go : (r : Result (Unit {0}) E) → each_below f n ≡ r → and_then {B = Unit {0}} r (λ _. and_then (f n) (λ _. Ok tt)) ≡ Ok tt → (each_below f n ≡ Ok tt) × ((x : A) × (f n ≡ Ok x))
      go (Ok x) q e = (q, last (f n) refl e)
      go (Err y) q e = let z : ◌≡◌ {A = ℕ} 0 1 = cc in absurd (omega arith)

  pub each_at : (n i : ℕ) → each_below f n ≡ Ok tt → i < n → (x : A) × (f i ≡ Ok x)
  each_at zero i e l = absurd (omega arith)
  each_at (suc n) i e l =
      elim (cases_lt i n) [
        | inl m ↦ each_at n i (each_one n e).0 m
        | inr o ↦ (let same : n ≡ i = omega arith in ((each_one n e).1.0, ap f (sym same) ∙ (each_one n e).1.1))
      ]

-- the first n are tried alike
pub each_same : {A E : Type 0} (f g : ℕ → Result A E) (n : ℕ) → ((i : ℕ) → i < n → f i ≡ g i) → each_below f n ≡ each_below g n
each_same f g zero all = refl
each_same f g (suc n) all =
    ap (λ r. and_then r (λ _. and_then (f n) (λ _. Ok tt))) (each_same f g n (λ i l. all i (omega arith)))
    ∙ ap (λ r. and_then (each_below g n) (λ _. and_then r (λ _. Ok tt))) (all n (omega arith))
