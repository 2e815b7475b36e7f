-- The lists of numbers that pass a test, as a type of their own, and what other lists are taken for. Assumes nothing.
use Rattle.std.specs.Prelude.{◌≡◌, ℕ, Bool, true, false, cond, List, Ok, Err, Result, refl}
use Rattle.std.specs.Str.{bytes_eq}
use Rattle.kind.specs.declared.KindFault.{KindFault}
use Rattle.kind.specs.declared.KindFault.TheVariants.{NotAChange}

pub record Passing (ok : List ℕ → Bool) : Type 0 where
  pub list : List ℕ
  pub passes : ok list ≡ true

pub either_passes : (ok : List ℕ → Bool) (xs z : List ℕ) → ok z ≡ true → ok (cond (ok xs) xs z) ≡ true
either_passes ok xs z h = go (ok xs) refl
  where
    go : (b : Bool) → ok xs ≡ b → ok (cond b xs z) ≡ true
    go true e = e
    go false e = h

-- what a list is taken for: itself where it passes, and otherwise z
abbrev pub taken : {ok : List ℕ → Bool} → Passing ok → List ℕ → Passing ok
taken {ok} z xs = record { list = cond (ok xs) xs z.list; passes = either_passes ok xs z.list z.passes }

-- whether two have one list
abbrev pub same_list : {ok : List ℕ → Bool} → Passing ok → Passing ok → Bool
same_list x y = bytes_eq x.list y.list

-- a list is read as itself where it passes, and is no change otherwise
abbrev pub read_list : {ok : List ℕ → Bool} → Passing ok → List ℕ → Result (Passing ok) KindFault
read_list {ok} z xs = cond (ok xs) (Ok (taken z xs)) (Err NotAChange)
