-- Two answers with a relation between what they give. Assumes nothing.
use Rattle.std.proofs.Common.{◌≡◌, Bool, true, false, cond, Ok, Err, Result, refl, ap, subst}
use Rattle.kind.specs.Answers.{and_then}

-- both are given, with P between them, or both refused for the same
abbrev pub Related : {A B E : Type 0} → (A → B → Type 0) → Result A E → Result B E → Type 0
Related P (Ok x) (Ok y) = P x y
Related P (Ok x) (Err e) = ⊥
Related P (Err e) (Ok y) = ⊥
Related P (Err e) (Err f) = e ≡ f

module _ {A B E : Type 0} (P : A → B → Type 0) where
  -- what comes next
  pub related_then : {C D : Type 0} (Q : C → D → Type 0) (r : Result A E) (s : Result B E) (f : A → Result C E) (g : B → Result D E) →
      Related P r s → ((x : A) (y : B) → r ≡ Ok x → P x y → Related Q (f x) (g y)) → Related Q (and_then r f) (and_then s g)
  related_then Q (Ok x) (Ok y) f g h k = k x y refl h
  related_then Q (Ok x) (Err e) f g h k = absurd h
  related_then Q (Err e) (Ok y) f g h k = absurd h
  related_then Q (Err e) (Err e') f g h k = h

  -- .. after the same answer
  pub related_on : {C : Type 0} (r s : Result C E) (f : C → Result A E) (g : C → Result B E) → r ≡ s → ((x : C) → r ≡ Ok x → Related P (f x) (g x)) → Related P (and_then r f) (and_then s g)
  related_on (Ok x) s f g e k = subst (λ t. Related P (f x) (and_then t g)) e (k x refl)
  related_on (Err y) s f g e k = subst (λ t. Related P (Err y) (and_then t g)) e refl

  -- .. by the same test
  pub related_cond : (b c : Bool) (r r' : Result A E) (s s' : Result B E) → b ≡ c → (b ≡ true → Related P r s) → (b ≡ false → Related P r' s') → Related P (cond b r r') (cond c s s')
  related_cond true c r r' s s' e h k = subst (λ d. Related P r (cond d s s')) e (h refl)
  related_cond false c r r' s s' e h k = subst (λ d. Related P r' (cond d s s')) e (k refl)

  -- where both are given
  pub related_ok : (r : Result A E) (s : Result B E) (x : A) (y : B) → Related P r s → r ≡ Ok x → s ≡ Ok y → P x y
  related_ok r s x y h e d = subst (λ t. Related P (Ok x) t) d (subst (λ t. Related P t s) e h)

-- the same answer
pub related_same : {A E : Type 0} (r s : Result A E) → Related (λ (x y : A). x ≡ y) r s → r ≡ s
related_same (Ok x) (Ok y) h = ap Ok h
related_same (Ok x) (Err e) h = absurd h
related_same (Err e) (Ok y) h = absurd h
related_same (Err e) (Err f) h = ap Err h
