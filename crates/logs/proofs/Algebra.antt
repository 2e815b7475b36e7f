-- The change from one to another of the changes that start at one state. Assumes nothing.
use Rattle.std.proofs.Common.{◌≡◌, List, [], ◌∷◌, ◌++◌, sym, ap, ◌∙◌}
use Rattle.kind.specs.Model.{Model, Laws}
use Rattle.logs.specs.Writes.{composed}

-- what leads on from where x leads, to where y leads
abbrev pub onward : {PS PC : Type 0} (K : Model PS PC) → K.Change → K.Change → K.Change
onward K x y = K.then (K.inverse x) y

module _ {PS PC : Type 0} (K : Model PS PC) (L : Laws K) where
  pub composed_append : (fs gs : List K.Change) → composed K (fs ++ gs) ≡ K.then (composed K fs) (composed K gs)
  composed_append [] gs = sym (L.unit_then (composed K gs))
  composed_append (f ∷ fs) gs = ap (K.then f) (composed_append fs gs) ∙ sym (L.assoc f (composed K fs) (composed K gs))

  -- x, followed by what leads on from x
  pub onward_reaches : (x y : K.Change) → K.then x (onward K x y) ≡ y
  onward_reaches x y = sym (L.assoc x (K.inverse x) y) ∙ ap (λ z. K.then z y) (L.inverse_right x) ∙ L.unit_then y

  pub onward_is : (x f : K.Change) → onward K x (K.then x f) ≡ f
  onward_is x f = sym (L.assoc (K.inverse x) x f) ∙ ap (λ z. K.then z f) (L.inverse_left x) ∙ L.unit_then f

  pub onward_joins : (x y z : K.Change) → K.then (onward K x y) (onward K y z) ≡ onward K x z
  onward_joins x y z = L.assoc (K.inverse x) y (onward K y z) ∙ ap (K.then (K.inverse x)) (onward_reaches y z)

  pub onward_same : (x : K.Change) → onward K x x ≡ K.unit
  onward_same x = L.inverse_left x

  inverse_only : (f g : K.Change) → K.then f g ≡ K.unit → K.inverse f ≡ g
  inverse_only f g e = sym (L.then_unit (K.inverse f)) ∙ ap (K.then (K.inverse f)) (sym e) ∙ onward_is f g

  pub onward_back : (x y : K.Change) → K.inverse (onward K x y) ≡ onward K y x
  onward_back x y = inverse_only (onward K x y) (onward K y x) (onward_joins x y x ∙ onward_same x)
