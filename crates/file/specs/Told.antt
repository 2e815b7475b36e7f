-- What a cell's state in a file comes to, said without going through the file. Assumes nothing.
use Rattle.std.specs.Prelude.{◌≡◌, ℕ, zero, suc, ◌<◌, ◌≤◌, Bool, true, false, cond, List, [], ◌∷◌, ◌++◌, Ok, ◌==◌}
use Rattle.std.specs.Result.{result_ok}
use Rattle.std.specs.Option.{option_to_list}
use Rattle.kind.specs.Model.{Model}
use Rattle.file.specs.States.{saved, last_of, replayed}

module _ {PS PC : Type 0} (K : Model PS PC) where
  -- whether record k is the cell's
  abbrev pub own : List ℕ → ℕ → ℕ → Bool
  own f cell k = (saved K f k).cell == cell

  -- the changes of the cell's records among 1 to n, in order
  abbrev pub changes : List ℕ → ℕ → ℕ → List K.Change
  changes f cell zero = []
  changes f cell (suc n) = changes f cell n ++ cond (own f cell (suc n)) (option_to_list (result_ok (K.read_form (saved K f (suc n)).change))) []

  abbrev pub acted : K.State → List K.Change → K.State
  acted s [] = s
  acted s (c ∷ cs) = acted (K.act c s) cs

  -- a state that is not refused is the origin acted on by the cell's changes
  abbrev pub Recalls : Type 0
  Recalls = (f : List ℕ) (cell n : ℕ) (s : K.State) → replayed K f cell n ≡ Ok s → s ≡ acted K.origin (changes f cell n)

  -- m is the greatest number of a record of the cell among 1 to n, or 0 where there is none
  pub record Greatest (f : List ℕ) (cell n m : ℕ) : Type 0 where
    pub within : m ≤ n
    pub its : 0 < m → own f cell m ≡ true
    pub beyond : (k : ℕ) → m < k → k ≤ n → own f cell k ≡ false

  -- that is what the next of the cell's records is held to
  abbrev pub Lasts : Type 0
  Lasts = (f : List ℕ) (cell n : ℕ) → Greatest f cell n (last_of K f cell n)
