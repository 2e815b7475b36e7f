-- What is read of a word that writes a number, and of one that does not.
use Rattle.std.proofs.Common.{◌≡◌, ℕ, ◌^◌, ◌<◌, true, List, Result, Ok, Err, sym, ap, ◌∙◌, rules}
use Rattle.std.proofs.lemmas.Str.Parse.{IsNumeralModel, numerals_by_fold, tells_all_ascii_digits}
use Rattle.std.proofs.lemmas.Bool.{and_parts, and_from, lt-ltb, ltb-true, cond-true, cond-false, not_from_true, not_from_false, false_from_ne_true}
use Rattle.std.specs.Str.Parse.{IsNumeral, digits_value, digits_value_after, without_leading_plus}
use Rattle.std.specs.Str.{all_ascii_digits}
use Rattle.std.specs.Result.{OkIff}
use Rattle.std.specs.Prelude.{MatchResult}
use Rattle.script.specs.declared.error.ScriptError.{ScriptError}
use Rattle.script.specs.declared.error.ScriptError.TheVariants.{Number}
use Rattle.script.specs.Arguments.{decimal, decimal?}

own : IsNumeralModel (λ ds. all_ascii_digits ds ≡ true) (digits_value 10)
own = numerals_by_fold _ tells_all_ascii_digits (digits_value_after 10) (search rules)

-- a word that writes a number below 2 ^ 32
abbrev Writes : List ℕ → Type 0
Writes w = IsNumeral 10 (without_leading_plus w) × (digits_value 10 (without_leading_plus w) < 2 ^ 32)

tested : (w : List ℕ) → Writes w → decimal? w ≡ true
tested w h = and_from _ _ (lt-ltb _ _ h.0.0) (and_from _ _ (own.from _ h.0.1) (lt-ltb _ _ h.1))

told : (w : List ℕ) → decimal? w ≡ true → Writes w
told w t =
    let more = and_parts _ _ (and_parts _ _ t).1 in
    ((ltb-true _ _ (and_parts _ _ t).0, own.to _ more.0), ltb-true _ _ more.1)

pub number_read : (w : List ℕ) (n : ℕ) → Writes w × (n ≡ digits_value 10 (without_leading_plus w)) → Ok n ≡ decimal w
number_read w n h = ap Ok h.1 ∙ sym (cond-false _ _ _ (not_from_true _ (tested w h.0)))

pub number_refused : (w : List ℕ) → (Writes w → ⊥) → Err Number ≡ decimal w
number_refused w h = sym (cond-true _ _ _ (not_from_false _ (false_from_ne_true _ (λ t. h (told w t)))))

-- what is read of a word, with the one error that a script has for it
pub number_told : {E : Type 0} (w : List ℕ) (r : Result ℕ E) (s : Result ℕ ScriptError) → OkIff r (Writes w) (digits_value 10 (without_leading_plus w)) → MatchResult r (λ n. s ≡ Ok n) (λ _. s ≡ Err Number) → s ≡ decimal w
number_told w (Ok n) s h e = e ∙ number_read w n h
number_told w (Err _) s h e = e ∙ number_refused w h
