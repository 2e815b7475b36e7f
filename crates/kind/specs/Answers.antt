-- What an act that may refuse answers, and what it leaves: used by the definitions of every call. Assumes nothing.
use Rattle.std.specs.Prelude.{ℕ, zero, suc, Bool, cond, Ok, Err, Result}

-- refused for e where the test holds, and otherwise what comes next
abbrev pub refuse_if : {A E : Type 0} → Bool → E → Result A E → Result A E
refuse_if t e r = cond t (Err e) r

-- go on with the value; a refusal stays
abbrev pub and_then : {A B E : Type 0} → Result A E → (A → Result B E) → Result B E
and_then (Ok x) f = f x
and_then (Err e) f = Err e

-- a refusal in the words of the next layer
abbrev pub refused_as : {A E F : Type 0} → (E → F) → Result A E → Result A F
refused_as g (Ok x) = Ok x
refused_as g (Err e) = Err (g e)

-- tried at 0, 1, .. n - 1 in order: the first refusal
abbrev pub each_below : {A E : Type 0} → (ℕ → Result A E) → ℕ → Result (Unit {0}) E
each_below f zero = Ok tt
each_below f (suc n) = and_then (each_below f n) (λ _. and_then (f n) (λ _. Ok tt))

-- of an act that gives what is there after it, or refuses: the answer b, and what is there then, where a was there before
abbrev pub told : {A B E : Type 0} → B → Result A E → Result B E
told b (Ok x) = Ok b
told b (Err e) = Err e

abbrev pub kept : {A E : Type 0} → A → Result A E → A
kept a (Ok x) = x
kept a (Err e) = a
