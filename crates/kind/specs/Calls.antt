-- What the calls of a kind answer, of the plain values that are handed in. Assumes nothing.
use Rattle.kind.specs.Model.{Model}

module _ {PS PC : Type 0} (K : Model PS PC) where
  -- the origin and the unit, as they lie in memory
  abbrev pub first_state : PS
  first_state = K.plain_state K.origin

  abbrev pub no_change : PC
  no_change = K.plain_change K.unit

  -- the action of f on s
  abbrev pub acted : PC → PS → PS
  acted f s = K.plain_state (K.act (K.change f) (K.state s))

  -- f followed by g
  abbrev pub composed : PC → PC → PC
  composed f g = K.plain_change (K.then (K.change f) (K.change g))

  -- the inverse of f
  abbrev pub reversed : PC → PC
  reversed f = K.plain_change (K.inverse (K.change f))

  -- the difference from s to t
  abbrev pub between : PS → PS → PC
  between s t = K.plain_change (K.diff (K.state s) (K.state t))
