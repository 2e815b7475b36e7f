-- How states and changes are written: tallies in decimal, the others in hexadecimal.
use Rattle.std.specs.Prelude.{◌≡◌, ℕ, List, Result, MatchResult}
use Rattle.kind.specs.Model.{Model}
use Rattle.script.specs.Hex.{hex_of, NoHex}
use Rattle.script.specs.declared.error.ScriptError.{ScriptError}

-- two lowercase digits for each byte of the form
abbrev pub state_hex : {S C : Type 0} → Model S C → S → List ℕ
state_hex K s = hex_of (K.state_form (K.state s))

abbrev pub change_hex : {S C : Type 0} → Model S C → C → List ℕ
change_hex K f = hex_of (K.change_form (K.change f))

-- r is the n bytes that the word writes, and an error where it writes no n bytes
abbrev pub ReadsHex : ℕ → List ℕ → Result (List ℕ) ScriptError → Type 0
ReadsHex n word r = MatchResult r (λ bs. hex_of bs ≡ word) (λ _. NoHex n word)
