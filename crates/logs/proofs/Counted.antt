-- How many writes to a cell there are up to a moment, and what they did to it. Assumes nothing.
use Rattle.std.proofs.Common.{◌≡◌, ℕ, zero, suc, ◌+◌, ◌-◌, ◌<◌, ◌≤◌, Bool, true, false, cond, eqb, ltb, List, [], ◌∷◌, ◌++◌, length, take, drop, sym, refl, ap, ◌∙◌, inl, inr, arith}
use Rattle.std.proofs.lemmas.List.{append_assoc, append-nil, length-append, length_push, nil_from_length, take-append-drop, take-take, drop-take, take_all, take_at}
use Rattle.std.proofs.lemmas.Bool.Decides.{nat_tests}
use Rattle.std.proofs.lemmas.Bool.{cases_lt, cases_Bool, cond-true, cond-false, lt-ltb, le-ltb, eq-eqb, ne_eqb}
use Rattle.kind.specs.Model.{Model, Laws}
use Rattle.logs.specs.Writes.{Write, head_after, head_of, change_to, changes_to, composed, between, writes_to}
use Rattle.logs.proofs.Algebra.{onward, onward_is, composed_append}

pub take_split : {X : Type 0} (a b : ℕ) (xs : List X) → a ≤ b → take b xs ≡ take a xs ++ take (b - a) (drop a xs)
take_split a b xs h =
    let e : a + (b - a) ≡ b = omega arith in
    sym (take-append-drop a (take b xs))
    ∙ ap (λ ys. ys ++ drop a (take b xs)) (take-take a b xs h)
    ∙ ap (λ n. take a xs ++ drop a (take n xs)) (sym e)
    ∙ ap (λ ys. take a xs ++ ys) (drop-take a (b - a) xs)

-- m is the number at which the depth comes to be i, or 0 if i is
pub record Place (D : ℕ → ℕ) (i m : ℕ) : Type 0 where
  pub deep : D m ≡ i
  pub first : 0 < m → D (m - 1) < D m

module _ {PS PC : Type 0} (K : Model PS PC) where
  -- the changes to cell c up to moment m: how many, and what they come to
  abbrev pub depth : List (Write PC) → ℕ → ℕ → ℕ
  depth ws c m = length (changes_to K c (take m ws))

  abbrev pub total : List (Write PC) → ℕ → ℕ → K.Change
  total ws c m = composed K (changes_to K c (take m ws))

  changes_to_append : (c : ℕ) (us vs : List (Write PC)) → changes_to K c (us ++ vs) ≡ changes_to K c us ++ changes_to K c vs
  changes_to_append c [] vs = refl
  changes_to_append c (u ∷ us) vs =
      ap (λ fs. change_to K c u ++ fs) (changes_to_append c us vs) ∙ sym (append_assoc (change_to K c u) (changes_to K c us) (changes_to K c vs))

  split : (ws : List (Write PC)) (c a b : ℕ) → a ≤ b → changes_to K c (take b ws) ≡ changes_to K c (take a ws) ++ changes_to K c (take (b - a) (drop a ws))
  split ws c a b h = ap (changes_to K c) (take_split a b ws h) ∙ changes_to_append c (take a ws) (take (b - a) (drop a ws))

  pub depth_rises : (ws : List (Write PC)) (c a b : ℕ) → a ≤ b → depth ws c a ≤ depth ws c b
  depth_rises ws c a b h =
      let e : depth ws c b ≡ depth ws c a + length (changes_to K c (take (b - a) (drop a ws))) =
      ap length (split ws c a b h) ∙ length-append (changes_to K c (take a ws)) (changes_to K c (take (b - a) (drop a ws))) in
      omega arith

  still_up : (ws : List (Write PC)) (c a b : ℕ) → a ≤ b → depth ws c a ≡ depth ws c b → total ws c a ≡ total ws c b
  still_up ws c a b h same =
      let more : List K.Change = changes_to K c (take (b - a) (drop a ws)) in
      let e : depth ws c b ≡ depth ws c a + length more = ap length (split ws c a b h) ∙ length-append (changes_to K c (take a ws)) more in
      let none : more ≡ [] = nil_from_length more (omega arith) in
      ap (composed K) (sym (append-nil (changes_to K c (take a ws))) ∙ ap (λ fs. changes_to K c (take a ws) ++ fs) (sym none) ∙ sym (split ws c a b h))

  -- with no write to the cell in between, nothing is done to it
  pub total_still : (ws : List (Write PC)) (c a b : ℕ) → depth ws c a ≡ depth ws c b → total ws c a ≡ total ws c b
  total_still ws c a b same =
      elim (cases_lt a b) [
        | inl h ↦ still_up ws c a b (omega arith) same
        | inr h ↦ sym (still_up ws c b a h (sym same))
      ]

  pub total_joins : Laws K → (ws : List (Write PC)) (c a b : ℕ) → a ≤ b → total ws c b ≡ K.then (total ws c a) (between K ws c a b)
  total_joins L ws c a b h = ap (composed K) (split ws c a b h) ∙ composed_append K L (changes_to K c (take a ws)) (changes_to K c (take (b - a) (drop a ws)))

  pub between_is : (L : Laws K) (ws : List (Write PC)) (c a b : ℕ) → a ≤ b → between K ws c a b ≡ onward K (total ws c a) (total ws c b)
  between_is L ws c a b h = sym (ap (onward K (total ws c a)) (total_joins L ws c a b h) ∙ onward_is K L (total ws c a) (between K ws c a b))

  -- nothing comes after the last write
  pub depth_all : (ws : List (Write PC)) (c : ℕ) → depth ws c (length ws) ≡ writes_to K ws c
  depth_all ws c = ap (λ us. length (changes_to K c us)) (take_all (length ws) ws (omega arith))

  pub depth_last : (ws : List (Write PC)) (c m : ℕ) → depth ws c m ≤ depth ws c (length ws)
  depth_last ws c m =
      elim (cases_lt (length ws) m) [
        | inr h ↦ depth_rises ws c m (length ws) h
        | inl h ↦ omega (arith, depth_all ws c, ap (λ us. length (changes_to K c us)) (take_all m ws (omega arith)))
      ]

  -- one more write in front
  depth_cons : (w : Write PC) (ws : List (Write PC)) (c n : ℕ) → 1 ≤ n → depth (w ∷ ws) c n ≡ length (change_to K c w) + depth ws c (n - 1)
  depth_cons w ws c zero h = absurd (omega arith)
  depth_cons w ws c (suc m) h =
      let e : m ≡ suc m - 1 = omega arith in
      length-append (change_to K c w) (changes_to K c (take m ws)) ∙ ap (λ k. length (change_to K c w) + depth ws c k) e

  -- one more write behind
  pub changes_to_push : (c : ℕ) (ws : List (Write PC)) (w : Write PC) → changes_to K c (ws ++ w ∷ []) ≡ changes_to K c ws ++ change_to K c w
  changes_to_push c ws w = changes_to_append c ws (w ∷ []) ∙ ap (λ fs. changes_to K c ws ++ fs) (append-nil (change_to K c w))

  here_one : (c : ℕ) (w : Write PC) → eqb w.cell c ≡ true → change_to K c w ≡ K.change w.change ∷ []
  here_one c w e = cond-true (eqb w.cell c) (K.change w.change ∷ []) [] e

  here_none : (c : ℕ) (w : Write PC) → eqb w.cell c ≡ false → change_to K c w ≡ []
  here_none c w e = cond-false (eqb w.cell c) (K.change w.change ∷ []) [] e

  -- no more changes than writes
  change_one : (c : ℕ) (w : Write PC) → length (change_to K c w) ≤ 1
  change_one c w = grind (arith, nat_tests)

  pub changes_few : (c : ℕ) (ws : List (Write PC)) → length (changes_to K c ws) ≤ length ws
  changes_few c [] = omega arith
  changes_few c (w ∷ ws) = omega (arith, length-append (change_to K c w) (changes_to K c ws), change_one c w, changes_few c ws)

  -- the moments around a write
  module _ (c : ℕ) (past : List (Write PC)) (w : Write PC) (rest : List (Write PC)) where
    abbrev all : List (Write PC)
    all = past ++ w ∷ rest

    pub before : take (length past) (past ++ w ∷ rest) ≡ past
    before = take_at past (w ∷ rest) (length past) refl

    after : take (length past + 1) (past ++ w ∷ rest) ≡ past ++ w ∷ []
    after =
        ap (take (length past + 1)) (sym (append_assoc past (w ∷ []) rest))
        ∙ take_at (past ++ w ∷ []) rest (length past + 1) (length_push past w)

    changes_after : changes_to K c (take (length past + 1) all) ≡ changes_to K c (take (length past) all) ++ change_to K c w
    changes_after = ap (changes_to K c) after ∙ changes_to_push c past w ∙ ap (λ us. changes_to K c us ++ change_to K c w) (sym before)

    pub depth_few : depth (past ++ w ∷ rest) c (length past) ≤ length past
    depth_few = omega (arith, ap (λ us. length (changes_to K c us)) before, changes_few c past)

    -- a write to the cell
    pub depth_up : w.cell ≡ c → depth (past ++ w ∷ rest) c (length past + 1) ≡ depth (past ++ w ∷ rest) c (length past) + 1
    depth_up e =
        ap length changes_after ∙ length-append (changes_to K c (take (length past) all)) (change_to K c w)
        ∙ ap (λ fs. depth all c (length past) + length fs) (here_one c w (eq-eqb w.cell c e))

    pub total_up : Laws K → w.cell ≡ c → total (past ++ w ∷ rest) c (length past + 1) ≡ K.then (total (past ++ w ∷ rest) c (length past)) (K.change w.change)
    total_up L e =
        ap (composed K) changes_after ∙ composed_append K L (changes_to K c (take (length past) all)) (change_to K c w)
        ∙ ap (λ fs. K.then (total all c (length past)) (composed K fs)) (here_one c w (eq-eqb w.cell c e))
        ∙ ap (K.then (total all c (length past))) (L.then_unit (K.change w.change))

    -- a write to another
    pub depth_same : (w.cell ≡ c → ⊥) → depth (past ++ w ∷ rest) c (length past + 1) ≡ depth (past ++ w ∷ rest) c (length past)
    depth_same differ =
        ap length changes_after ∙ length-append (changes_to K c (take (length past) all)) (change_to K c w)
        ∙ ap (λ fs. depth all c (length past) + length fs) (here_none c w (ne_eqb w.cell c differ)) ∙ omega arith

  -- the head stands at the depth of the last moment, and is a write to the cell
  pub head_place : (c : ℕ) (past rest : List (Write PC)) → Place (depth (past ++ rest) c) (depth (past ++ rest) c (length past)) (head_of past c)
  head_place c [] rest = record { deep = refl; first = λ l. absurd (omega arith) }
  head_place c (w ∷ past) rest =
      let h : ℕ = head_of past c in
      let ih = head_place c past rest in
      let x : ℕ = length (change_to K c w) in
      let D : ℕ → ℕ = depth (past ++ rest) c in
      let D' : ℕ → ℕ = depth (w ∷ (past ++ rest)) c in
      let here : Bool = eqb w.cell c in
      let all : D' (suc (length past)) ≡ x + D (length past) = length-append (change_to K c w) (changes_to K c (take (length past) (past ++ rest))) in
      elim (cases_lt 0 h) [
        | inl l ↦
            (let e : head_after here h ≡ h + 1 = cond-true (ltb 0 h) (h + 1) (cond here 1 0) (lt-ltb 0 h l) in
            let up : h + 1 - 1 ≡ h = omega arith in
            let at : D' (h + 1) ≡ x + D h = depth_cons w (past ++ rest) c (h + 1) (omega arith) ∙ ap (λ n. x + D n) up in
            let before : D' (h + 1 - 1) ≡ x + D (h - 1) = ap D' up ∙ depth_cons w (past ++ rest) c h l in
            rw e (record { deep = omega (arith, ih.deep); first = λ _. omega (arith, ih.first l) }))
        | inr o ↦
            (let z : h ≡ 0 = omega arith in
            let e : head_after here h ≡ cond here 1 0 = cond-false (ltb 0 h) (h + 1) (cond here 1 0) (le-ltb 0 h o) in
            let none : D (length past) ≡ 0 = sym ih.deep ∙ ap D z in
            elim (cases_Bool here) [
              | inl t ↦
                  (let e' : head_after here h ≡ 1 = e ∙ cond-true here 1 0 t in
                  let one : x ≡ 1 = ap length (here_one c w t) in
                  let at : D' 1 ≡ x + D 0 = depth_cons w (past ++ rest) c 1 (omega arith) in
                  rw e' (record { deep = omega arith; first = λ _. omega arith }))
              | inr t ↦
                  (let e' : head_after here h ≡ 0 = e ∙ cond-false here 1 0 t in
                  let nil : x ≡ 0 = ap length (here_none c w t) in
                  rw e' (record { deep = omega arith; first = λ l. absurd (omega arith) }))
            ])
      ]
