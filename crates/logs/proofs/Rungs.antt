-- What each record of a cell's ladder is, and that a record planned on such a ladder is such a record. Assumes nothing.
use Rattle.std.proofs.Common.{◌≡◌, ℕ, ◌+◌, ◌-◌, ◌<◌, ◌≤◌, cond, eqb, ltb, List, length, Ok, Err, Result, sym, refl, ap, ◌∙◌, inl, inr, arith}
use Rattle.std.proofs.lemmas.Bool.Decides.{nat_tests}
use Rattle.std.proofs.lemmas.Bool.{cases_lt, cases_eq, le-ltb, eq-eqb, ne_eqb, cond-true, cond-false}
use Rattle.kind.specs.Model.{Model, Laws}
use Rattle.journal.specs.declared.record.Record.{Record}
use Rattle.journal.specs.declared.faults.LadderFault.{LadderFault}
use Rattle.journal.specs.declared.faults.LadderFault.TheVariants.{Length}
use Rattle.kind.specs.Answers.{and_then}
use Rattle.journal.specs.Links.{newest, numbered, follow}
use Rattle.journal.specs.Spans.{followed}
use Rattle.journal.specs.Appends.{lone, joined, over, planned}
use Rattle.logs.proofs.Algebra.{onward, onward_is, onward_joins}
use Rattle.logs.proofs.Counted.{Place}
use Rattle.logs.proofs.Reaches.{reach, reach_limit, reach_some, reach_one, reach_over}

-- D tells how many writes to the cell there are up to a moment, and T what they come to
pub record Story {PS PC : Type 0} (K : Model PS PC) (D : ℕ → ℕ) (T : ℕ → K.Change) : Type 0 where
  pub begins : D 0 ≡ 0
  pub rises : (a b : ℕ) → a ≤ b → D a ≤ D b
  pub still : (a b : ℕ) → D a ≡ D b → T a ≡ T b

module _ {PS PC : Type 0} (K : Model PS PC) (D : ℕ → ℕ) (T : ℕ → K.Change) where
  -- r is record n of cell c
  pub record Rung (c n : ℕ) (r : Record PC) : Type 0 where
    pub of_cell : r.cell ≡ c
    pub to_next : Place D (D n - 1) r.next
    pub to_skip : Place D (D n - reach (D n)) r.skip
    pub at_foot : Place D (D n - reach (D n) + 1) r.foot
    pub reaches : r.length ≡ reach (D n)
    pub changes : K.change r.change ≡ onward K (T r.next) (T n)
    pub folds : K.change r.fold ≡ onward K (T r.skip) (T n)

  -- up to number n, the records of cell c are as they should be
  abbrev pub Faithful : ℕ → List (Record PC) → ℕ → Type 0
  Faithful c rs n = (m : ℕ) → 1 ≤ m → m ≤ n → D (m - 1) < D m → Rung c m (numbered K rs m)

module _ {PS PC : Type 0} (K : Model PS PC) (L : Laws K) (D : ℕ → ℕ) (T : ℕ → K.Change) (S : Story K D T) where
  -- where a place stands
  pub place_low : (i m n : ℕ) → Place D i m → i ≤ D n → m ≤ n
  place_low i m n p h =
      elim (cases_lt n m) [
        | inl l ↦ absurd (omega (arith, p.deep, p.first (omega arith), S.rises n (m - 1) (omega arith)))
        | inr o ↦ o
      ]

  pub place_under : (i m n : ℕ) → Place D i m → i < D n → m < n
  place_under i m n p h =
      elim (cases_lt m n) [
        | inl l ↦ l
        | inr o ↦ absurd (omega (arith, p.deep, S.rises n m o))
      ]

  pub place_some : (i m : ℕ) → Place D i m → 1 ≤ m → 1 ≤ i
  place_some i m p l = omega (arith, p.deep, p.first l)

  pub place_none : (i m : ℕ) → Place D i m → m ≡ 0 → i ≡ 0
  place_none i m p z = sym p.deep ∙ ap D z ∙ S.begins

  -- a link to a place is followed
  pub link_good : (c : ℕ) (rs : List (Record PC)) (n : ℕ) → Faithful K D T c rs n →
      (limit holder link i : ℕ) → limit ≤ n → link ≤ limit → Place D i link → follow K rs c limit holder link ≡ Ok link
  link_good c rs n F limit holder link i low below p =
      let cell : 1 ≤ link → (numbered K rs link).cell ≡ c = λ l. (F link l (omega arith) (p.first l)).of_cell in
      grind (arith, nat_tests)

  -- one more write to the cell, after n writes of which the last to the cell is h
  module _ (c n h : ℕ) (f : PC) (head : Place D (D n) h) (up : D (n + 1) ≡ D n + 1) (adds : T (n + 1) ≡ K.then (T n) (K.change f)) where
    head_depth : D h ≡ D n
    head_depth = head.deep

    new_change : K.change f ≡ onward K (T h) (T (n + 1))
    new_change =
        sym (onward_is K L (T n) (K.change f)) ∙ ap (onward K (T n)) (sym adds) ∙ ap (λ x. onward K x (T (n + 1))) (S.still n h (sym head_depth))

    here : D (n + 1 - 1) < D (n + 1)
    here = let e : n + 1 - 1 ≡ n = omega arith in omega (arith, ap D e)

    lone_rung : reach (D n + 1) ≡ 1 → Rung K D T c (n + 1) (lone c (n + 1) h f)
    lone_rung one =
        let one' : reach (D (n + 1)) ≡ 1 = ap reach up ∙ one in
        record {
          of_cell = refl;
          to_next = record { deep = omega arith; first = head.first };
          to_skip = record { deep = omega arith; first = head.first };
          at_foot = record { deep = omega arith; first = λ _. here };
          reaches = sym one';
          changes = new_change;
          folds = new_change;
        }

    merged_rung : (p q : Record PC) → Rung K D T c h p → 1 ≤ p.skip → Rung K D T c p.skip q → reach (D n + 1) ≡ 1 + p.length + q.length →
        Rung K D T c (n + 1)
        (record { cell = c; next = h; skip = q.skip; length = 1 + p.length + q.length; foot = q.foot; change = f; fold = followed K (followed K q.fold p.fold) f })
    merged_rung p q P m Q wide =
        let s : ℕ = p.skip in
        let wide' : reach (D (n + 1)) ≡ 1 + p.length + q.length = ap reach up ∙ wide in
        let some : 1 ≤ D h - reach (D h) = place_some (D h - reach (D h)) s P.to_skip m in
        let ps : D s ≡ D h - reach (D h) = P.to_skip.deep in
        let pl : p.length ≡ reach (D h) = P.reaches in
        let ql : q.length ≡ reach (D s) = Q.reaches in
        let qs : D q.skip ≡ D s - reach (D s) = Q.to_skip.deep in
        let qf : D q.foot ≡ D s - reach (D s) + 1 = Q.at_foot.deep in
        record {
          of_cell = refl;
          to_next = record { deep = omega arith; first = head.first };
          to_skip = record { deep = omega arith; first = Q.to_skip.first };
          at_foot = record { deep = omega arith; first = Q.at_foot.first };
          reaches = sym wide';
          changes = new_change;
          folds =
              L.change_plain (K.then (K.change (followed K q.fold p.fold)) (K.change f))
              ∙ ap (λ x. K.then x (K.change f)) (L.change_plain (K.then (K.change q.fold) (K.change p.fold)))
              ∙ ap (λ x. K.then (K.then x (K.change p.fold)) (K.change f)) Q.folds
              ∙ ap (λ x. K.then (K.then (onward K (T q.skip) (T s)) x) (K.change f)) P.folds
              ∙ ap (λ x. K.then (K.then (onward K (T q.skip) (T s)) (onward K (T s) (T h))) x) new_change
              ∙ ap (λ x. K.then x (onward K (T h) (T (n + 1)))) (onward_joins K L (T q.skip) (T s) (T h))
              ∙ onward_joins K L (T q.skip) (T h) (T (n + 1));
        }

    module _ (rs : List (Record PC)) (F : Faithful K D T c rs n) (fits : n ≤ length rs) (room : D n ≤ 65535) where
      -- the record that is planned
      pub record Planned : Type 0 where
        pub made : Record PC
        pub answer : planned K rs (n + 1) h c f ≡ Ok made
        pub leads : made.next ≡ h
        pub of_cell : made.cell ≡ c
        pub logs : made.change ≡ f
        pub rung : Rung K D T c (n + 1) made

      low : h ≤ n
      low = place_low (D n) h n head (omega arith)

      from_head : planned K rs (n + 1) h c f ≡ cond (eqb h 0) (Ok (lone c (n + 1) h f)) (over K rs (n + 1) h c f)
      from_head =
          ap (λ r. and_then r (λ next. cond (eqb next 0) (Ok (lone c (n + 1) next f)) (over K rs (n + 1) next c f)))
          (link_good c rs n F (newest rs (n + 1 - 1)) 0 h (D n) (omega arith) (omega (arith, low, fits)) head)

      planned_first : h ≡ 0 → Planned
      planned_first z =
          record {
            made = lone c (n + 1) h f;
            answer = from_head ∙ cond-true (eqb h 0) (Ok (lone c (n + 1) h f)) (over K rs (n + 1) h c f) (eq-eqb h 0 z);
            leads = refl;
            of_cell = refl;
            logs = refl;
            rung = lone_rung (let e : D n ≡ 0 = place_none (D n) h head z in ap (λ d. reach (d + 1)) e);
          }

      module _ (l : 1 ≤ h) where
        -- the head, and the record that it skips to
        abbrev p : Record PC
        p = numbered K rs h

        abbrev q : Record PC
        q = numbered K rs p.skip

        P : Rung K D T c h p
        P = F h l low (head.first l)

        some : 1 ≤ D h
        some = omega (arith, place_some (D n) h head l, head_depth)

        below : p.skip < h
        below = place_under (D h - reach (D h)) p.skip h P.to_skip (omega (arith, some, reach_some (D h) some))

        abbrev alone : Result (Record PC) LadderFault
        alone = Ok (lone c (n + 1) h f)

        abbrev choice : Result (Record PC) LadderFault
        choice = cond (eqb p.length q.length) (joined K c h p q f) alone

        from_next : planned K rs (n + 1) h c f ≡ cond (eqb p.skip 0) alone choice
        from_next =
            from_head ∙ cond-false (eqb h 0) (Ok (lone c (n + 1) h f)) (over K rs (n + 1) h c f) (ne_eqb h 0 (λ z. omega arith))
            ∙ ap (λ r. and_then r (λ second. cond (eqb second 0) alone (cond (eqb p.length (numbered K rs second).length) (joined K c h p (numbered K rs second) f) alone)))
            (link_good c rs n F (h - 1) h p.skip (D h - reach (D h)) (omega (arith, low)) (omega (arith, below)) P.to_skip)

        by_itself : planned K rs (n + 1) h c f ≡ alone → reach (D n + 1) ≡ 1 → Planned
        by_itself e one = record { made = lone c (n + 1) h f; answer = e; leads = refl; of_cell = refl; logs = refl; rung = lone_rung one }

        -- the depth of the head, and of where it skips to
        jumps : D p.skip ≡ D n - reach (D n)
        jumps = P.to_skip.deep ∙ ap (λ d. d - reach d) head_depth

        planned_low : p.skip ≡ 0 → Planned
        planned_low z =
            by_itself (from_next ∙ cond-true (eqb p.skip 0) alone choice (eq-eqb p.skip 0 z))
            (reach_one (D n) (D p.skip) jumps (λ _ m _. let e : D p.skip ≡ 0 = ap D z ∙ S.begins in omega arith))

        module _ (m : 1 ≤ p.skip) where
          Q : Rung K D T c p.skip q
          Q = F p.skip m (omega (arith, low, below)) (P.to_skip.first m)

          from_both : planned K rs (n + 1) h c f ≡ choice
          from_both = from_next ∙ cond-false (eqb p.skip 0) alone choice (ne_eqb p.skip 0 (λ z. omega arith))

          p_length : p.length ≡ reach (D n)
          p_length = P.reaches ∙ ap reach head_depth

          planned_apart : (p.length ≡ q.length → ⊥) → Planned
          planned_apart differ =
              by_itself (from_both ∙ cond-false (eqb p.length q.length) (joined K c h p q f) alone (ne_eqb p.length q.length differ))
              (reach_one (D n) (D p.skip) jumps (λ _ _ e. differ (p_length ∙ e ∙ sym Q.reaches)))

          planned_joined : p.length ≡ q.length → Planned
          planned_joined same =
              let deep : 1 ≤ D p.skip = omega (arith, P.to_skip.first m) in
              let wide : reach (D n + 1) ≡ 1 + p.length + q.length =
              reach_over (D n) (D p.skip) jumps (omega (arith, some, head_depth)) deep (sym p_length ∙ same ∙ Q.reaches) ∙ omega (arith, p_length, Q.reaches) in
              let short : 1 + p.length + q.length ≤ 65535 = omega (arith, reach_limit (D n + 1) (omega arith) (omega arith)) in
              let big : Record PC = record { cell = c; next = h; skip = q.skip; length = 1 + p.length + q.length; foot = q.foot; change = f; fold = followed K (followed K q.fold p.fold) f } in
              record {
                made = big;
                answer =
                    from_both ∙ cond-true (eqb p.length q.length) (joined K c h p q f) alone (eq-eqb p.length q.length same)
                    ∙ cond-false (ltb 65535 (1 + p.length + q.length)) (Err (Length c h)) (Ok big) (le-ltb 65535 (1 + p.length + q.length) short);
                leads = refl;
                of_cell = refl;
                logs = refl;
                rung = merged_rung p q P m Q wide;
              }

        planned_over : Planned
        planned_over =
            elim (cases_lt 0 p.skip) [
              | inr o ↦ planned_low (omega arith)
              | inl m ↦ elim (cases_eq p.length q.length) [
                | inl same ↦ planned_joined m same
                | inr differ ↦ planned_apart m differ
              ]
            ]

      pub planned_right : Planned
      planned_right =
          elim (cases_lt 0 h) [
            | inr o ↦ planned_first (omega arith)
            | inl l ↦ planned_over l
          ]
