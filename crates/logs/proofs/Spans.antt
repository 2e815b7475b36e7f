-- What a walk over a cell's ladder takes, where it stops and in how many steps; and a span, which is two walks. Assumes nothing.
use Rattle.std.proofs.Common.{◌≡◌, ℕ, zero, suc, ◌+◌, ◌-◌, ◌*◌, ◌^◌, ◌<◌, ◌≤◌, min, ltb, leb, List, length, Ok, Result, sym, refl, ap, ◌∙◌, subst, inl, inr, arith}
use Rattle.std.proofs.lemmas.Bool.{cases_lt, le-leb, lt-leb, lt-ltb, le-ltb, cond-true, cond-false}
use Rattle.kind.specs.Model.{Model, Laws}
use Rattle.journal.specs.declared.faults.LadderFault.{LadderFault}
use Rattle.journal.specs.declared.record.Record.{Record}
use Rattle.journal.specs.declared.walk.Walked.{Walked}
use Rattle.journal.specs.declared.walk.Stretch.{Stretch}
use Rattle.kind.specs.Answers.{and_then}
use Rattle.journal.specs.Links.{newest, numbered}
use Rattle.journal.specs.Spans.{way, taking, followed, started, moved, step, walk, ascent, turned, spanned}
use Rattle.journal.specs.Spans.{reach as reached}
use Rattle.steps.specs.Chain.{jump, uncut, next, steps, stops}
use Rattle.steps.proofs.Turns.{next_jumps, next_back}
use Rattle.steps.proofs.Proved.{uncut_within_lem, walk_goes_on_lem, walk_stays_lem, walk_arrives_lem, two_walks_bounded_lem}
use Rattle.logs.proofs.Algebra.{onward, onward_joins, onward_same, onward_back}
use Rattle.logs.proofs.Counted.{Place}
use Rattle.logs.proofs.Reaches.{reach, reach_stays}
use Rattle.logs.proofs.Rungs.{Story, Rung, Faithful, place_low, place_under, link_good}

module _ {PS PC : Type 0} (K : Model PS PC) (L : Laws K) (D : ℕ → ℕ) (T : ℕ → K.Change) (S : Story K D T)
    (c : ℕ) (rs : List (Record PC)) (n : ℕ) (F : Faithful K D T c rs n) (fits : n ≤ length rs) where
  -- the lengths of the cell's records, at each depth
  abbrev pub lens : List ℕ
  lens = uncut (D n)

  lens_length : length lens ≡ D n
  lens_length = (uncut_within_lem (D n)).1

  -- one step down, from a record above the end
  module _ (end : ℕ) (w : Walked PC) (low : w.place ≤ n) (at : Place D (D w.place) w.place) (up : end < w.place) where
    abbrev r : Record PC
    r = numbered K rs w.place

    abbrev j : ℕ
    j = D w.place

    rung : Rung K D T c w.place r
    rung = F w.place (omega arith) low (at.first (omega arith))

    above : D end < j
    above = omega (arith, at.first (omega arith), S.rises end (w.place - 1) (omega arith))

    known : j ≤ D n
    known = S.rises w.place n low

    jumps : jump lens j ≡ j - reach j
    jumps = ap (λ x. j - x) (reach_stays (D n) j (omega (arith, above)) known)

    -- the link that is followed leads where the walk by depths goes
    leads : Place D (next lens j (D end)) (way end r)
    leads =
        elim (cases_lt end r.foot) [
          | inl h ↦
              (let e : way end r ≡ r.skip = cond-true (ltb end r.foot) r.skip r.next (lt-ltb end r.foot h) in
              let short : D end ≤ jump lens j = omega (arith, jumps, S.rises end (r.foot - 1) (omega arith), rung.at_foot.first (omega arith), rung.at_foot.deep) in
              let e' : next lens j (D end) ≡ j - reach j = next_jumps lens j (D end) short ∙ jumps in
              subst (λ x. Place D (next lens j (D end)) x) (sym e) (subst (λ x. Place D x r.skip) (sym e') rung.to_skip))
          | inr h ↦
              (let e : way end r ≡ r.next = cond-false (ltb end r.foot) r.skip r.next (le-ltb end r.foot h) in
              let past : jump lens j < D end = omega (arith, jumps, S.rises r.foot end h, rung.at_foot.deep) in
              let e' : next lens j (D end) ≡ j - 1 = next_back lens j (D end) past in
              subst (λ x. Place D (next lens j (D end)) x) (sym e) (subst (λ x. Place D x r.next) (sym e') rung.to_next))
        ]

    gains : K.change (taking end r) ≡ onward K (T (way end r)) (T w.place)
    gains =
        elim (cases_lt end r.foot) [
          | inl h ↦
              (let t = lt-ltb end r.foot h in
              ap K.change (cond-true (ltb end r.foot) r.fold r.change t) ∙ rung.folds
              ∙ ap (λ x. onward K (T x) (T w.place)) (sym (cond-true (ltb end r.foot) r.skip r.next t)))
          | inr h ↦
              (let t = le-ltb end r.foot h in
              ap K.change (cond-false (ltb end r.foot) r.fold r.change t) ∙ rung.changes
              ∙ ap (λ x. onward K (T x) (T w.place)) (sym (cond-false (ltb end r.foot) r.skip r.next t)))
        ]

    goes_on : (next lens j (D end) < j) × (D end ≤ next lens j (D end)) × (steps lens j (D end) ≡ 1 + steps lens (next lens j (D end)) (D end)) × (stops lens j (D end) ≡ stops lens (next lens j (D end)) (D end))
    goes_on = walk_goes_on_lem lens (D n) (uncut_within_lem (D n)).0 j (D end) (omega (arith, lens_length, known)) above

    down : way end r < w.place
    down = place_under K L D T S (next lens j (D end)) (way end r) w.place leads goes_on.0

    abbrev v : Walked PC
    v = record { place = way end r; taken = followed K (taking end r) w.taken; steps = w.steps + 1 }

    stepped : step K rs c end w ≡ Ok v
    stepped =
        ap (λ x. and_then x (moved K rs end w)) (link_good K L D T S c rs n F (w.place - 1) w.place (way end r) (next lens j (D end)) (omega arith) (omega (arith, down)) leads)

    v_takes : K.change v.taken ≡ K.then (onward K (T (way end r)) (T w.place)) (K.change w.taken)
    v_takes = L.change_plain (K.then (K.change (taking end r)) (K.change w.taken)) ∙ ap (λ x. K.then x (K.change w.taken)) gains

  -- where a walk to `end` arrives
  pub record Arrived (fuel end : ℕ) (w : Walked PC) : Type 0 where
    pub got : Walked PC
    pub answer : walk K fuel rs c end w ≡ Ok got
    pub place : Place D (min (D w.place) (D end)) got.place
    pub takes : K.change got.taken ≡ K.then (onward K (T got.place) (T w.place)) (K.change w.taken)
    pub counts : got.steps ≡ w.steps + steps lens (D w.place) (D end)

  stay : (fuel end : ℕ) (w : Walked PC) → walk K fuel rs c end w ≡ Ok w → w.place ≤ end → Place D (D w.place) w.place → Arrived fuel end w
  stay fuel end w e h at =
      let lower : D w.place ≤ D end = S.rises w.place end h in
      record {
        got = w;
        answer = e;
        place = record { deep = omega arith; first = at.first };
        takes = sym (ap (λ x. K.then x (K.change w.taken)) (onward_same K L (T w.place)) ∙ L.unit_then (K.change w.taken));
        counts = omega (arith, (walk_stays_lem lens (D w.place) (D end) lower).0);
      }

  pub walk_right : (fuel end : ℕ) (w : Walked PC) → w.place ≤ fuel → w.place ≤ n → Place D (D w.place) w.place → Arrived fuel end w
  walk_right zero end w small low at = stay zero end w refl (omega arith) at
  walk_right (suc fuel) end w small low at =
      elim (cases_lt end w.place) [
        | inr h ↦ stay (suc fuel) end w (cond-true (leb w.place end) (Ok w) (and_then (step K rs c end w) (walk K fuel rs c end)) (le-leb w.place end h)) h at
        | inl h ↦
            (let u : Walked PC = v end w low at h in
            let to : Place D (next lens (D w.place) (D end)) u.place = leads end w low at h in
            let less : u.place < w.place = down end w low at h in
            let on = goes_on end w low at h in
            let A : Arrived fuel end u = walk_right fuel end u (omega arith) (omega arith) (record { deep = refl; first = to.first }) in
            let x : K.Change = K.change w.taken in
            let deeper : D u.place ≡ next lens (D w.place) (D end) = to.deep in
            record {
              got = A.got;
              answer =
                  cond-false (leb w.place end) (Ok w) (and_then (step K rs c end w) (walk K fuel rs c end)) (lt-leb w.place end h)
                  ∙ ap (λ y. and_then y (walk K fuel rs c end)) (stepped end w low at h) ∙ A.answer;
              place = record { deep = A.place.deep ∙ omega arith; first = A.place.first };
              takes =
                  A.takes ∙ ap (K.then (onward K (T A.got.place) (T u.place))) (v_takes end w low at h)
                  ∙ sym (L.assoc (onward K (T A.got.place) (T u.place)) (onward K (T u.place) (T w.place)) x)
                  ∙ ap (λ y. K.then y x) (onward_joins K L (T A.got.place) (T u.place) (T w.place));
              counts = A.counts ∙ ap (λ d. w.steps + 1 + steps lens d (D end)) deeper ∙ omega arith;
            })
      ]

  -- a walk that starts at a place, with nothing taken
  walk_from : (start end : ℕ) → start ≤ n → Place D (D start) start → Arrived start end (started K start)
  walk_from start end low at = walk_right start end (started K start) (omega arith) low at

  -- the changes between two moments; h is the cell's head, and nothing comes after n
  module _ (h : ℕ) (head : Place D (D n) h) (last : (m : ℕ) → D m ≤ D n) where
    pub record Found (r : Result (Stretch PC) LadderFault) (a b : ℕ) : Type 0 where
      pub got : Stretch PC
      pub answer : r ≡ Ok got
      pub is : K.change got.change ≡ onward K (T a) (T b)
      pub few : (k : ℕ) → 2 ^ k ≤ D n + 1 → D n + 1 < 2 ^ (k + 1) → got.steps ≤ 6 * k

    abbrev Climbed : ℕ → ℕ → Type 0
    Climbed low high = Found (ascent K rs n h c low high) low high

    abbrev pub Spanned : ℕ → ℕ → Type 0
    Spanned a b = Found (spanned K rs n h c a b) a b

    under : h ≤ n
    under = place_low K L D T S (D n) h n head (omega arith)

    -- from the two walks
    module _ (low high : ℕ) (up : low ≤ high) (A : Arrived h high (started K h)) (B : Arrived A.got.place low (started K A.got.place)) where
      abbrev m : ℕ
      m = A.got.place

      order : D low ≤ D high
      order = S.rises low high up

      top : D m ≡ D high
      top = A.place.deep ∙ omega (arith, head.deep, last high)

      bottom : D B.got.place ≡ D low
      bottom = B.place.deep ∙ omega (arith, order, top)

      climbs : ascent K rs n h c low high ≡ Ok (record { change = B.got.taken; steps = A.got.steps + B.got.steps })
      climbs =
          ap (λ x. and_then x (λ s. and_then (reached K rs c high (started K s)) (λ t. and_then (reached K rs c low (started K t.place)) (λ rest. Ok (record { change = rest.taken; steps = t.steps + rest.steps })))))
          (link_good K L D T S c rs n F (newest rs n) 0 h (D n) (omega arith) (omega (arith, under, fits)) head)
          ∙ ap (λ x. and_then x (λ t. and_then (reached K rs c low (started K t.place)) (λ rest. Ok (record { change = rest.taken; steps = t.steps + rest.steps })))) A.answer
          ∙ ap (λ x. and_then x (λ rest. Ok (record { change = rest.taken; steps = A.got.steps + rest.steps }))) B.answer

      comes_to : K.change B.got.taken ≡ onward K (T low) (T high)
      comes_to =
          B.takes ∙ ap (K.then (onward K (T B.got.place) (T m))) (L.change_plain K.unit) ∙ L.then_unit (onward K (T B.got.place) (T m))
          ∙ ap (λ x. onward K x (T m)) (S.still B.got.place low bottom) ∙ ap (onward K (T low)) (S.still m high top)

      steps_few_lem : (k : ℕ) → 2 ^ k ≤ D n + 1 → D n + 1 < 2 ^ (k + 1) → A.got.steps + B.got.steps ≤ 6 * k
      steps_few_lem k small big =
          let grown = (uncut_within_lem (D n)).0 in
          let whole : length lens ≡ D h = lens_length ∙ sym head.deep in
          let stop : stops lens (length lens) (D high) ≡ D m = walk_arrives_lem lens (D n) grown (length lens) (D high) (omega arith) ∙ omega (arith, whole, A.place.deep) in
          let first : A.got.steps ≡ steps lens (length lens) (D high) = A.counts ∙ omega arith ∙ ap (λ d. steps lens d (D high)) (sym whole) in
          let second : B.got.steps ≡ steps lens (stops lens (length lens) (D high)) (D low) = B.counts ∙ omega arith ∙ ap (λ d. steps lens d (D low)) (sym stop) in
          omega (arith, first, second, two_walks_bounded_lem lens (D n) grown (D high) (D low) k order small big)

      climbed : Climbed low high
      climbed = record { got = record { change = B.got.taken; steps = A.got.steps + B.got.steps }; answer = climbs; is = comes_to; few = steps_few_lem }

    second_walk : (low high : ℕ) → low ≤ high → Arrived h high (started K h) → Climbed low high
    second_walk low high up A =
        climbed low high up A
        (walk_from A.got.place low (place_low K L D T S (min (D h) (D high)) A.got.place n A.place (omega (arith, last high))) (record { deep = refl; first = A.place.first }))

    pub climb_right : (low high : ℕ) → low ≤ high → Climbed low high
    climb_right low high up = second_walk low high up (walk_from h high under (record { deep = refl; first = head.first }))

    -- a span in either direction
    span_up : (a b : ℕ) → a ≤ b → Climbed a b → Spanned a b
    span_up a b up C =
        record {
          got = C.got;
          answer = cond-true (leb a b) (ascent K rs n h c a b) (and_then (ascent K rs n h c b a) (turned K)) (le-leb a b up) ∙ C.answer;
          is = C.is;
          few = C.few;
        }

    span_down : (a b : ℕ) → b < a → Climbed b a → Spanned a b
    span_down a b up C =
        record {
          got = record { change = K.plain_change (K.inverse (K.change C.got.change)); steps = C.got.steps };
          answer =
              cond-false (leb a b) (ascent K rs n h c a b) (and_then (ascent K rs n h c b a) (turned K)) (lt-leb a b up)
              ∙ ap (λ x. and_then x (turned K)) C.answer;
          is = L.change_plain (K.inverse (K.change C.got.change)) ∙ ap K.inverse C.is ∙ onward_back K L (T b) (T a);
          few = C.few;
        }

    pub span_right : (a b : ℕ) → Spanned a b
    span_right a b =
        elim (cases_lt b a) [
          | inl h ↦ span_down a b h (climb_right b a (omega arith))
          | inr h ↦ span_up a b h (climb_right a b h)
        ]
