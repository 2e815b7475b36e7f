-- What an answer that is no refusal says of its parts, and what a call replies that a test may refuse. Assumes nothing.
use Rattle.std.proofs.Common.{◌≡◌, ℕ, zero, suc, ◌+◌, ◌<◌, ◌≤◌, Bool, true, false, cond, Ok, Err, Result, refl, ap, subst, arith}
use Rattle.kind.specs.Answers.{and_then, refuse_if, refused_as}
use Rattle.volume.specs.declared.refusal.Refusal.{Refusal}
use Rattle.history.specs.Calls.{Reply, refused}

pub then_ok : {A B E : Type 0} (r : Result A E) (k : A → Result B E) (y : B) → and_then r k ≡ Ok y → (x : A) × (r ≡ Ok x) × (k x ≡ Ok y)
then_ok (Ok x) k y e = (x, refl, e)
then_ok (Err q) k y e = absurd cc

pub as_ok : {A E F : Type 0} (g : E → F) (r : Result A E) (y : A) → refused_as g r ≡ Ok y → r ≡ Ok y
as_ok g (Ok x) y e = let s : x ≡ y = cc in ap Ok s
as_ok g (Err q) y e = absurd cc

pub test_ok : {A E : Type 0} (t : Bool) (e : E) (r : Result A E) (y : A) → refuse_if t e r ≡ Ok y → (t ≡ false) × (r ≡ Ok y)
test_ok true e r y q = absurd cc
test_ok false e r y q = (refl, q)

-- f replies with the refusal
pub reply_if : {S C A : Type 0} (f : Result A Refusal → Reply S C) (t : Bool) (e : Refusal) (r : Result A Refusal) (x : Reply S C) →
    f (Err e) ≡ refused e → (t ≡ false → f r ≡ x) → f (refuse_if t e r) ≡ cond t (refused e) x
reply_if f true e r x bad h = bad
reply_if f false e r x bad h = h refl

-- what holds from the first to the n-th
pub from_first : (P : ℕ → Type 0) (n : ℕ) → ((i : ℕ) → i < n → P (i + 1)) → (m : ℕ) → 1 ≤ m → m ≤ n → P m
from_first P n all zero l low = absurd (omega arith)
from_first P n all (suc i) l low = let one : i + 1 ≡ suc i = omega arith in subst P one (all i (omega arith))
