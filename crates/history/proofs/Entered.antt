-- The writes that a history's entries amount to, and what they come to. Assumes nothing.
use Rattle.std.proofs.Common.{◌≡◌, ℕ, zero, suc, ◌+◌, Bool, true, false, cond, eqb, ltb, List, [], ◌∷◌, ◌++◌, length, take, sym, refl, ap, ◌∙◌, inl, inr, arith, length-append}
use Rattle.std.proofs.lemmas.List.{append_assoc, append-nil}
use Rattle.std.proofs.lemmas.Bool.Decides.{nat_tests}
use Rattle.std.proofs.lemmas.Bool.{cases_Bool, cond-true, cond-false, eqb-true}
use Rattle.kind.specs.Model.{Model, Laws}
use Rattle.logs.specs.Writes.{Write, head_of, change_to, changes_to, composed, writes_to}
use Rattle.logs.proofs.Algebra.{composed_append, onward, onward_reaches}
use Rattle.logs.proofs.Counted.{total}
use Rattle.history.specs.History.{Entry, latest, last_number, entries_of}

-- one entry more, or many
pub latest_append : {S : Type 0} (s : S) (c : ℕ) (xs ys : List (Entry S)) → latest s c (xs ++ ys) ≡ latest (latest s c xs) c ys
latest_append s c [] ys = refl
latest_append s c (x ∷ xs) ys = latest_append (cond (eqb x.cell c) x.state s) c xs ys

pub last_append : {S : Type 0} (before found c : ℕ) (xs ys : List (Entry S)) → last_number before found c (xs ++ ys) ≡ last_number (before + length xs) (last_number before found c xs) c ys
last_append before found c [] ys = (let z : before ≡ before + 0 = omega arith in ap (λ k. last_number k found c ys) z)
last_append before found c (x ∷ xs) ys =
    let z : before + 1 + length xs ≡ before + suc (length xs) = omega arith in
    last_append (before + 1) (cond (eqb x.cell c) (before + 1) found) c xs ys ∙ ap (λ k. last_number k (last_number before found c (x ∷ xs)) c ys) z

-- a choice between two values goes through f
pub through : {A B : Type 0} (f : A → B) (t : Bool) (x y : A) → f (cond t x y) ≡ cond t (f x) (f y)
through f true x y = refl
through f false x y = refl

module _ {PS PC : Type 0} (K : Model PS PC) where
  -- the write that makes entry e after the entries `past`
  abbrev pub write_of : List (Entry K.State) → Entry K.State → Write PC
  write_of past e = record { cell = e.cell; change = K.plain_change (K.diff (latest K.origin e.cell past) e.state) }

  abbrev pub writes_on : List (Entry K.State) → List (Entry K.State) → List (Write PC)
  writes_on past [] = []
  writes_on past (e ∷ es) = write_of past e ∷ writes_on (past ++ e ∷ []) es

  abbrev pub writes : List (Entry K.State) → List (Write PC)
  writes es = writes_on [] es

  append_on : (past xs ys : List (Entry K.State)) → writes_on past (xs ++ ys) ≡ writes_on past xs ++ writes_on (past ++ xs) ys
  append_on past [] ys = ap (λ p. writes_on p ys) (sym (append-nil past))
  append_on past (x ∷ xs) ys =
      ap (λ (us : List (Write PC)). write_of past x ∷ us)
      (append_on (past ++ x ∷ []) xs ys ∙ ap (λ p. writes_on (past ++ x ∷ []) xs ++ writes_on p ys) (append_assoc past (x ∷ []) xs))

  pub writes_append : (xs ys : List (Entry K.State)) → writes (xs ++ ys) ≡ writes xs ++ writes_on xs ys
  writes_append xs ys = append_on [] xs ys

  length_on : (past es : List (Entry K.State)) → length (writes_on past es) ≡ length es
  length_on past [] = refl
  length_on past (e ∷ es) = ap suc (length_on (past ++ e ∷ []) es)

  pub writes_length : (es : List (Entry K.State)) → length (writes es) ≡ length es
  writes_length es = length_on [] es

  pub take_on : (m : ℕ) (past es : List (Entry K.State)) → take m (writes_on past es) ≡ writes_on past (take m es)
  take_on zero past es = refl
  take_on (suc m) past [] = refl
  take_on (suc m) past (e ∷ es) = ap (λ (us : List (Write PC)). write_of past e ∷ us) (take_on m (past ++ e ∷ []) es)

  -- how many are to a cell, and which is the last
  count_on : (c : ℕ) (past es : List (Entry K.State)) → writes_to K (writes_on past es) c ≡ entries_of c es
  count_on c past [] = refl
  count_on c past (e ∷ es) =
      let w : Write PC = write_of past e in
      let one : length (change_to K c w) ≡ cond (eqb e.cell c) 1 0 = through length (eqb e.cell c) (K.change w.change ∷ []) [] in
      omega (arith, one, length-append (change_to K c w) (changes_to K c (writes_on (past ++ e ∷ []) es)), count_on c (past ++ e ∷ []) es)

  pub writes_count : (es : List (Entry K.State)) (c : ℕ) → writes_to K (writes es) c ≡ entries_of c es
  writes_count es c = count_on c [] es

  last_on : (c before found : ℕ) (past es : List (Entry K.State)) →
      last_number before found c es ≡ cond (ltb 0 (head_of (writes_on past es) c)) (before + head_of (writes_on past es) c) found
  last_on c before found past [] = refl
  last_on c before found past (e ∷ es) =
      let rest = last_on c (before + 1) (cond (eqb e.cell c) (before + 1) found) (past ++ e ∷ []) es in
      grind (arith, nat_tests)

  pub writes_head : (es : List (Entry K.State)) (c : ℕ) → head_of (writes es) c ≡ last_number 0 0 c es
  writes_head es c = (let all = last_on c 0 0 [] es in grind (arith, nat_tests))

  -- acting with all of them
  module _ (L : Laws K) where
    one_acts : (c : ℕ) (past : List (Entry K.State)) (e : Entry K.State) →
        K.act (composed K (change_to K c (write_of past e))) (latest K.origin c past) ≡ cond (eqb e.cell c) e.state (latest K.origin c past)
    one_acts c past e =
        let here : Bool = eqb e.cell c in
        let w : Write PC = write_of past e in
        let s : K.State = latest K.origin c past in
        elim (cases_Bool here) [
          | inl t ↦
              ap (λ fs. K.act (composed K fs) s) (cond-true here (K.change w.change ∷ []) [] t)
              ∙ ap (λ f. K.act f s) (L.then_unit (K.change w.change) ∙ L.change_plain (K.diff (latest K.origin e.cell past) e.state))
              ∙ ap (λ x. K.act (K.diff (latest K.origin x past) e.state) s) (eqb-true e.cell c t)
              ∙ L.diff_acts s e.state ∙ sym (cond-true here e.state s t)
          | inr t ↦
              ap (λ fs. K.act (composed K fs) s) (cond-false here (K.change w.change ∷ []) [] t)
              ∙ L.unit_acts s ∙ sym (cond-false here e.state s t)
        ]

    acts_on : (c : ℕ) (past es : List (Entry K.State)) →
        K.act (composed K (changes_to K c (writes_on past es))) (latest K.origin c past) ≡ latest (latest K.origin c past) c es
    acts_on c past [] = L.unit_acts (latest K.origin c past)
    acts_on c past (e ∷ es) =
        let w : Write PC = write_of past e in
        let s : K.State = latest K.origin c past in
        let rest : List K.Change = changes_to K c (writes_on (past ++ e ∷ []) es) in
        let now : latest K.origin c (past ++ e ∷ []) ≡ cond (eqb e.cell c) e.state s = latest_append K.origin c past (e ∷ []) in
        ap (λ f. K.act f s) (composed_append K L (change_to K c w) rest)
        ∙ L.then_acts (composed K (change_to K c w)) (composed K rest) s
        ∙ ap (K.act (composed K rest)) (one_acts c past e ∙ sym now)
        ∙ acts_on c (past ++ e ∷ []) es
        ∙ ap (λ x. latest x c es) now

    -- what the writes up to a moment come to, acting on the origin, is how the cell stood
    pub total_acts : (es : List (Entry K.State)) (c m : ℕ) → K.act (total K (writes es) c m) K.origin ≡ latest K.origin c (take m es)
    total_acts es c m = ap (λ us. K.act (composed K (changes_to K c us)) K.origin) (take_on m [] es) ∙ acts_on c [] (take m es)

    -- what leads from one moment to another takes the cell from how it stood at the one to how it stood at the other
    pub onward_acts : (es : List (Entry K.State)) (c a b : ℕ) →
        K.act (onward K (total K (writes es) c a) (total K (writes es) c b)) (latest K.origin c (take a es)) ≡ latest K.origin c (take b es)
    onward_acts es c a b =
        let x : K.Change = total K (writes es) c a in
        let y : K.Change = total K (writes es) c b in
        ap (K.act (onward K x y)) (sym (total_acts es c a)) ∙ sym (L.then_acts x (onward K x y) K.origin)
        ∙ ap (λ f. K.act f K.origin) (onward_reaches K L x y) ∙ total_acts es c b
