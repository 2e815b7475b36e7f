-- The arguments of a command: what is read of the words that follow its name, in order.
use Rattle.std.specs.Prelude.{ℕ, Bool, not, ◌&&◌, List, [], ◌∷◌, length, Some, None, Ok, Err, Option, Result, nat_lt}
use Rattle.kind.specs.Answers.{refuse_if, and_then}
use Rattle.std.specs.Str.Parse.{digits_value, without_leading_plus}
use Rattle.std.specs.Str.{all_ascii_digits}
use Rattle.script.specs.declared.error.ScriptError.{ScriptError}
use Rattle.script.specs.declared.error.ScriptError.TheVariants.{Missing, Extra, Number}

abbrev pub Text : Type 0
Text = List ℕ

-- what is read, and the words after it
abbrev pub Read : Type 0 → Type 0
Read A = Result (A × List Text) ScriptError

abbrev pub word : List Text → Read Text
word [] = Err Missing
word (w ∷ ws) = Ok (w, ws)

-- one decimal digit or more, a plus before them or not, and below 2 ^ 32
abbrev pub decimal? : Text → Bool
decimal? w = nat_lt 0 (length (without_leading_plus w)) && (all_ascii_digits (without_leading_plus w) && nat_lt (digits_value 10 (without_leading_plus w)) 4294967296)

abbrev pub decimal : Text → Result ℕ ScriptError
decimal w = refuse_if (not (decimal? w)) Number (Ok (digits_value 10 (without_leading_plus w)))

abbrev pub number : List Text → Read ℕ
number ws = and_then (word ws) (λ p. and_then (decimal p.0) (λ n. Ok (n, p.1)))

-- no word is left
abbrev pub ended : List Text → Result (Unit {0}) ScriptError
ended [] = Ok tt
ended (w ∷ ws) = Err Extra

-- a number that may be left out, and nothing after it
abbrev pub number_or_none : List Text → Result (Option ℕ) ScriptError
number_or_none [] = Ok None
number_or_none (w ∷ ws) = and_then (decimal w) (λ n. and_then (ended ws) (λ _. Ok (Some n)))

-- the whole of the arguments: a word; a number; two numbers; a number and a word
abbrev pub only_word : List Text → Result Text ScriptError
only_word ws = and_then (word ws) (λ w. and_then (ended w.1) (λ _. Ok w.0))

abbrev pub only_number : List Text → Result ℕ ScriptError
only_number ws = and_then (number ws) (λ n. and_then (ended n.1) (λ _. Ok n.0))

abbrev pub two_numbers : List Text → Result (ℕ × ℕ) ScriptError
two_numbers ws = and_then (number ws) (λ m. and_then (number m.1) (λ n. and_then (ended n.1) (λ _. Ok (m.0, n.0))))

abbrev pub number_and_word : List Text → Result (ℕ × Text) ScriptError
number_and_word ws = and_then (number ws) (λ n. and_then (word n.1) (λ w. and_then (ended w.1) (λ _. Ok (n.0, w.0))))
