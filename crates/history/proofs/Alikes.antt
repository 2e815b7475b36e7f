-- What the journal gives on two logs whose changes and folds count alike. Assumes nothing.
use Rattle.std.proofs.Common.{◌≡◌, ℕ, zero, suc, ◌+◌, ◌-◌, ◌<◌, ◌≤◌, cond, ltb, leb, List, length, Ok, Err, Result, sym, refl, ap, ◌∙◌, subst, inl, inr, arith}
use Rattle.std.proofs.lemmas.Bool.{cases_lt, cases_Bool, leb-false, lt-leb, le-leb, cond-true, cond-false}
use Rattle.kind.specs.Answers.{and_then}
use Rattle.kind.specs.Model.{Model, Laws}
use Rattle.journal.specs.declared.faults.LadderFault.{LadderFault}
use Rattle.journal.specs.declared.record.Record.{Record}
use Rattle.journal.specs.declared.walk.Stretch.{Stretch}
use Rattle.journal.specs.declared.walk.Walked.{Walked}
use Rattle.journal.specs.Appends.{planned}
use Rattle.journal.specs.Links.{newest, numbered, follow}
use Rattle.journal.specs.Spans.{way, taking, followed, started, moved, step, walk, reach, ascent, turned, spanned}
use Rattle.logs.proofs.Related.{Related, related_then, related_on, related_cond}
use Rattle.logs.proofs.Same.{Likeness, follow_low, follow_same}
use Rattle.logs.proofs.Same.{planned_alike as planned_by}
use Rattle.history.specs.Soundness.{Alike}

module _ {PS PC : Type 0} (K : Model PS PC) (L : Laws K) where
  pub record AlikeStretch (s t : Stretch PC) : Type 0 where
    pub change : K.change s.change ≡ K.change t.change
    pub steps : s.steps ≡ t.steps

  record AlikeWalked (s t : Walked PC) : Type 0 where
    pub place : s.place ≡ t.place
    pub taken : K.change s.taken ≡ K.change t.taken
    pub steps : s.steps ≡ t.steps

  followed_alike : (f f' g g' : PC) → K.change f ≡ K.change f' → K.change g ≡ K.change g' → K.change (followed K f g) ≡ K.change (followed K f' g')
  followed_alike f f' g g' p q = ap (λ x. K.change (K.plain_change (K.then x (K.change g)))) p ∙ ap (λ x. K.change (K.plain_change (K.then (K.change f') x))) q

  -- changes that are taken for the same
  abbrev Same : PC → PC → Type 0
  Same f g = K.change f ≡ K.change g

  likeness : Likeness K (Alike K) Same
  likeness =
      record {
        cell = λ r s a. a.cell;
        skip = λ r s a. a.skip;
        length = λ r s a. a.length;
        lones = λ c number next f g q. record { cell = refl; next = refl; skip = refl; length = refl; foot = refl; change = q; fold = q };
        joins = λ c next p p' q q' f g a b e. record {
          cell = refl;
          next = refl;
          skip = b.skip;
          length = ap (λ k. 1 + k + q.length) a.length ∙ ap (λ k. 1 + p'.length + k) b.length;
          foot = b.foot;
          change = e;
          fold = followed_alike (followed K q.fold p.fold) (followed K q'.fold p'.fold) f g (followed_alike q.fold q'.fold p.fold p'.fold b.fold a.fold) e;
        };
      }

  module _ (rs ss : List (Record PC)) (n : ℕ) (fits : n ≤ length rs) (fits' : n ≤ length ss) (same : (m : ℕ) → 1 ≤ m → m ≤ n → Alike K (numbered K rs m) (numbered K ss m)) where
    -- record n + 1
    pub planned_alike : (h c : ℕ) (f g : PC) → K.change f ≡ K.change g → Related (Alike K) (planned K rs (n + 1) h c f) (planned K ss (n + 1) h c g)
    planned_alike h c f g q = planned_by K (Alike K) Same likeness rs ss n fits fits' same h c f g q

    low_after : (c limit holder link m : ℕ) → follow K rs c limit holder link ≡ Ok m → m ≤ limit
    low_after c limit holder link m e = follow_low K (Alike K) Same likeness rs ss n fits fits' same c limit holder link m e

    same_after : (c limit holder link link' : ℕ) → limit ≤ n → link ≡ link' → follow K rs c limit holder link ≡ follow K ss c limit holder link'
    same_after c limit holder link link' low e = follow_same K (Alike K) Same likeness rs ss n fits fits' same c limit holder link link' low e

    -- walks
    step_alike : (c end : ℕ) (w w' : Walked PC) → AlikeWalked w w' → 1 ≤ w.place → w.place ≤ n → Related AlikeWalked (step K rs c end w) (step K ss c end w')
    step_alike c end w w' q l low =
        let place : w.place ≡ w'.place = q.place in
        let r : Record PC = numbered K rs w.place in
        let s : Record PC = numbered K ss w.place in
        let A = same w.place l low in
        let foot : ltb end r.foot ≡ ltb end s.foot = ap (ltb end) A.foot in
        let link : way end r ≡ way end s = ap (λ b. cond b r.skip r.next) foot ∙ ap (λ x. cond (ltb end s.foot) x r.next) A.skip ∙ ap (cond (ltb end s.foot) s.skip) A.next in
        let takes : K.change (taking end r) ≡ K.change (taking end s) = elim (cases_Bool (ltb end s.foot)) [
          | inl t ↦ ap K.change (cond-true (ltb end r.foot) r.fold r.change (foot ∙ t)) ∙ A.fold ∙ sym (ap K.change (cond-true (ltb end s.foot) s.fold s.change t))
          | inr t ↦ ap K.change (cond-false (ltb end r.foot) r.fold r.change (foot ∙ t)) ∙ A.change ∙ sym (ap K.change (cond-false (ltb end s.foot) s.fold s.change t))
        ] in
        related_on AlikeWalked (follow K rs c (w.place - 1) w.place (way end r)) (follow K ss c (w'.place - 1) w'.place (way end (numbered K ss w'.place))) (moved K rs end w) (moved K ss end w')
        (same_after c (w.place - 1) w.place (way end r) (way end s) (omega arith) link ∙ ap (λ k. follow K ss c (k - 1) k (way end (numbered K ss k))) place)
        (λ x e.
        record {
          place = refl;
          taken = followed_alike (taking end r) (taking end (numbered K ss w'.place)) w.taken w'.taken (takes ∙ ap (λ k. K.change (taking end (numbered K ss k))) place) q.taken;
          steps = ap (λ k. k + 1) q.steps;
        })

    step_low : (c end : ℕ) (w u : Walked PC) → step K rs c end w ≡ Ok u → u.place ≤ w.place - 1
    step_low c end w u e = go (follow K rs c (w.place - 1) w.place (way end (numbered K rs w.place))) refl e
      where
        go : (r : Result ℕ LadderFault) → follow K rs c (w.place - 1) w.place (way end (numbered K rs w.place)) ≡ r → and_then r (moved K rs end w) ≡ Ok u → u.place ≤ w.place - 1
        go (Ok m) q e =
            let low = low_after c (w.place - 1) w.place (way end (numbered K rs w.place)) m q in
            let same' : m ≡ u.place = cc in
            omega arith
        go (Err f) q e = absurd cc

    walk_alike : (fuel c end : ℕ) (w w' : Walked PC) → AlikeWalked w w' → w.place ≤ n → Related AlikeWalked (walk K fuel rs c end w) (walk K fuel ss c end w')
    walk_alike zero c end w w' q low = q
    walk_alike (suc fuel) c end w w' q low =
        related_cond AlikeWalked (leb w.place end) (leb w'.place end) (Ok w) _ (Ok w') _ (ap (λ k. leb k end) q.place) (λ _. q)
        (λ t.
        let up : end < w.place = leb-false w.place end t in
        related_then AlikeWalked AlikeWalked (step K rs c end w) (step K ss c end w') (walk K fuel rs c end) (walk K fuel ss c end) (step_alike c end w w' q (omega arith) low)
        (λ x y e j. walk_alike fuel c end x y j (omega (arith, step_low c end w x e))))

    reach_alike : (c end k k' : ℕ) → k ≡ k' → k ≤ n → Related AlikeWalked (reach K rs c end (started K k)) (reach K ss c end (started K k'))
    reach_alike c end k k' e low =
        subst (λ x. Related AlikeWalked (reach K rs c end (started K k)) (reach K ss c end (started K x))) e
        (walk_alike k c end (started K k) (started K k) (record { place = refl; taken = refl; steps = refl }) low)

    walk_low : (fuel c end : ℕ) (w u : Walked PC) → walk K fuel rs c end w ≡ Ok u → u.place ≤ w.place
    walk_low zero c end w u e = let s : w ≡ u = cc in omega (arith, ap (λ (x : Walked PC). x.place) s)
    walk_low (suc fuel) c end w u e =
        elim (cases_lt end w.place) [
          | inr o ↦
              (let e' : Ok w ≡ Ok u = sym (cond-true (leb w.place end) (Ok w) (and_then (step K rs c end w) (walk K fuel rs c end)) (le-leb w.place end o)) ∙ e in
              let s : w ≡ u = cc in omega (arith, ap (λ (x : Walked PC). x.place) s))
          | inl m ↦ go (step K rs c end w) refl (sym (cond-false (leb w.place end) (Ok w) (and_then (step K rs c end w) (walk K fuel rs c end)) (lt-leb w.place end m)) ∙ e) (λ x q. walk_low fuel c end x u q)
        ]
      where
        go : (r : Result (Walked PC) LadderFault) → step K rs c end w ≡ r → and_then r (walk K fuel rs c end) ≡ Ok u →
            ((x : Walked PC) → walk K fuel rs c end x ≡ Ok u → u.place ≤ x.place) → u.place ≤ w.place
        go (Ok x) q e ih = omega (arith, step_low c end w x q, ih x e)
        go (Err f) q e ih = absurd cc

    ascent_alike : (h c low high : ℕ) → Related AlikeStretch (ascent K rs n h c low high) (ascent K ss n h c low high)
    ascent_alike h c low high =
        let limit : newest rs n ≡ newest ss n = omega arith in
        let bound : newest rs n ≤ n = omega arith in
        related_on AlikeStretch (follow K rs c (newest rs n) 0 h) (follow K ss c (newest ss n) 0 h) _ _
        (same_after c (newest rs n) 0 h h bound refl ∙ ap (λ k. follow K ss c k 0 h) limit)
        (λ x e.
        let start : x ≤ n = omega (arith, low_after c (newest rs n) 0 h x e) in
        related_then AlikeWalked AlikeStretch (reach K rs c high (started K x)) (reach K ss c high (started K x)) _ _ (reach_alike c high x x refl start)
        (λ a b e' q.
        related_then AlikeWalked AlikeStretch (reach K rs c low (started K a.place)) (reach K ss c low (started K b.place)) _ _
        (reach_alike c low a.place b.place q.place (omega (arith, walk_low x c high (started K x) a e')))
        (λ s t _ k. record { change = k.taken; steps = omega (arith, q.steps, k.steps) })))

    pub spanned_alike : (h c a b : ℕ) → Related AlikeStretch (spanned K rs n h c a b) (spanned K ss n h c a b)
    spanned_alike h c a b =
        related_cond AlikeStretch (leb a b) (leb a b) _ _ _ _ refl (λ _. ascent_alike h c a b)
        (λ _. related_then AlikeStretch AlikeStretch (ascent K rs n h c b a) (ascent K ss n h c b a) (turned K) (turned K) (ascent_alike h c b a)
        (λ s t _ q. record { change = ap (λ f. K.change (K.plain_change (K.inverse f))) q.change; steps = q.steps }))
