-- What `change_for` tells of its record: whose it is, and what was read. Assumes nothing.
use Rattle.std.proofs.Common.{◌≡◌, ℕ, Bool, true, false, cond, not, eqb, leb, Some, None, Ok, Err, Option, Result, refl}
use Rattle.kind.specs.Answers.{refuse_if, and_then, refused_as}
use Rattle.kind.specs.Model.{Model}
use Rattle.kind.specs.declared.KindFault.{KindFault}
use Rattle.file.specs.declared.faults.FileFault.{FileFault}
use Rattle.file.specs.declared.faults.FileFault.TheVariants.{Cell, Next, Change}
use Rattle.file.specs.Records.{Parts}
use Rattle.file.specs.States.{change_for}

module _ {C : Type 0} (n : ℕ) where
  abbrev read_with : Result C KindFault → Result (Option C) FileFault
  read_with R = and_then (refused_as (Change n) R) (λ c. Ok (Some c))

  abbrev tried : Bool → Bool → Bool → Result C KindFault → Result (Option C) FileFault
  tried high own other R = refuse_if high (Cell n) (cond own (refuse_if other (Next n) (read_with R)) (Ok None))

  read_some : (R : Result C KindFault) (c : C) → Ok (Some c) ≡ read_with R → R ≡ Ok c
  read_some (Ok d) c h = cc
  read_some (Err k) c h = cc

  read_none : (R : Result C KindFault) → Ok None ≡ read_with R → true ≡ false
  read_none (Ok d) h = cc
  read_none (Err k) h = cc

  some_own : (high own other : Bool) (R : Result C KindFault) (c : C) → Ok (Some c) ≡ tried high own other R → (own ≡ true) × (R ≡ Ok c)
  some_own true own other R c h = (cc, cc)
  some_own false true true R c h = (cc, cc)
  some_own false true false R c h = (refl, read_some R c h)
  some_own false false other R c h = (cc, cc)

  none_own : (high own other : Bool) (R : Result C KindFault) → Ok None ≡ tried high own other R → own ≡ false
  none_own true own other R h = cc
  none_own false true true R h = cc
  none_own false true false R h = read_none R h
  none_own false false other R h = refl

module _ {PS PC : Type 0} (K : Model PS PC) (cells cell n last : ℕ) (p : Parts) where
  pub own_some : (c : K.Change) → Ok (Some c) ≡ change_for K cells cell n last p → (eqb p.cell cell ≡ true) × (K.read_form p.change ≡ Ok c)
  own_some c = some_own n (leb cells p.cell) (eqb p.cell cell) (not (eqb p.next last)) (K.read_form p.change) c

  pub own_none : Ok None ≡ change_for K cells cell n last p → eqb p.cell cell ≡ false
  own_none = none_own n (leb cells p.cell) (eqb p.cell cell) (not (eqb p.next last)) (K.read_form p.change)
