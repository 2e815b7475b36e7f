-- What is planned on two logs whose records are alike. Assumes nothing.
use Rattle.std.proofs.Common.{◌≡◌, ℕ, ◌+◌, ◌-◌, ◌≤◌, eqb, ltb, List, length, Ok, Err, refl, ap, ◌∙◌, arith, cond}
use Rattle.std.proofs.lemmas.Bool.{eqb-false}
use Rattle.std.proofs.lemmas.Bool.Decides.{nat_tests}
use Rattle.kind.specs.Model.{Model}
use Rattle.journal.specs.declared.record.Record.{Record}
use Rattle.journal.specs.declared.faults.LadderFault.TheVariants.{Link, Length}
use Rattle.journal.specs.Links.{newest, numbered, good, follow}
use Rattle.journal.specs.Appends.{lone, join, over, planned}
use Rattle.logs.proofs.Related.{Related, related_on, related_cond, related_same}

module _ {PS PC : Type 0} (K : Model PS PC) where
  -- when records count as alike, where changes do by Q
  pub record Likeness (P : Record PC → Record PC → Type 0) (Q : PC → PC → Type 0) : Type 0 where
    pub cell : (r s : Record PC) → P r s → r.cell ≡ s.cell
    pub skip : (r s : Record PC) → P r s → r.skip ≡ s.skip
    pub length : (r s : Record PC) → P r s → r.length ≡ s.length
    pub lones : (c number next : ℕ) (f g : PC) → Q f g → P (lone c number next f) (lone c number next g)
    pub joins : (c next : ℕ) (p p' q q' : Record PC) (f g : PC) → P p p' → P q q' → Q f g → P (join K c next p q f) (join K c next p' q' g)

  module _ (P : Record PC → Record PC → Type 0) (Q : PC → PC → Type 0) (S : Likeness P Q) (rs ss : List (Record PC)) (n : ℕ) (fits : n ≤ length rs) (fits' : n ≤ length ss)
      (same : (m : ℕ) → 1 ≤ m → m ≤ n → P (numbered K rs m) (numbered K ss m)) where
    pub follow_low : (c limit holder link m : ℕ) → follow K rs c limit holder link ≡ Ok m → m ≤ limit
    follow_low c limit holder link m e = grind (arith, nat_tests)

    good_same : (c limit link : ℕ) → limit ≤ n → good K rs c limit link ≡ good K ss c limit link
    good_same c limit link low =
        let cells : 1 ≤ link → link ≤ n → (numbered K rs link).cell ≡ (numbered K ss link).cell = λ l m. S.cell (numbered K rs link) (numbered K ss link) (same link l m) in
        grind (arith, nat_tests)

    pub follow_same : (c limit holder link link' : ℕ) → limit ≤ n → link ≡ link' → follow K rs c limit holder link ≡ follow K ss c limit holder link'
    follow_same c limit holder link link' low e = ap (λ b. cond b (Ok link) (Err (Link c holder))) (good_same c limit link low) ∙ ap (follow K ss c limit holder) e

    over_alike : (number next c : ℕ) (f g : PC) → 1 ≤ next → next ≤ n → Q f g → Related P (over K rs number next c f) (over K ss number next c g)
    over_alike number next c f g l low q =
        let r : Record PC = numbered K rs next in
        let s : Record PC = numbered K ss next in
        let p : P r s = same next l low in
        let one : P (lone c number next f) (lone c number next g) = S.lones c number next f g q in
        related_on P (follow K rs c (next - 1) next r.skip) (follow K ss c (next - 1) next s.skip) _ _ (follow_same c (next - 1) next r.skip s.skip (omega arith) (S.skip r s p))
        (λ x e. related_cond P (eqb x 0) (eqb x 0) _ _ _ _ refl (λ _. one)
        (λ t.
        let below : x ≤ next - 1 = follow_low c (next - 1) next r.skip x e in
        let r' : Record PC = numbered K rs x in
        let s' : Record PC = numbered K ss x in
        let p' : P r' s' = same x (omega (arith, eqb-false x 0 t)) (omega arith) in
        let deep : r.length ≡ s.length = S.length r s p in
        let deep' : r'.length ≡ s'.length = S.length r' s' p' in
        let wide : 1 + r.length + r'.length ≡ 1 + s.length + s'.length = omega arith in
        related_cond P (eqb r.length r'.length) (eqb s.length s'.length) _ _ _ _ (ap (λ k. eqb k r'.length) deep ∙ ap (eqb s.length) deep')
        (λ _. related_cond P (ltb 65535 (1 + r.length + r'.length)) (ltb 65535 (1 + s.length + s'.length)) (Err (Length c next)) _ (Err (Length c next)) _ (ap (ltb 65535) wide)
        (λ _. refl) (λ _. S.joins c next r s r' s' f g p p' q))
        (λ _. one)))

    -- record n + 1
    pub planned_alike : (h c : ℕ) (f g : PC) → Q f g → Related P (planned K rs (n + 1) h c f) (planned K ss (n + 1) h c g)
    planned_alike h c f g q =
        let limit : newest rs (n + 1 - 1) ≡ newest ss (n + 1 - 1) = omega arith in
        let low : newest ss (n + 1 - 1) ≤ n = omega arith in
        related_on P (follow K rs c (newest rs (n + 1 - 1)) 0 h) (follow K ss c (newest ss (n + 1 - 1)) 0 h) _ _
        (ap (λ k. follow K rs c k 0 h) limit ∙ follow_same c (newest ss (n + 1 - 1)) 0 h h low refl)
        (λ x e. related_cond P (eqb x 0) (eqb x 0) _ _ _ _ refl (λ _. S.lones c (n + 1) x f g q)
        (λ t.
        let below : x ≤ newest rs (n + 1 - 1) = follow_low c (newest rs (n + 1 - 1)) 0 h x e in
        over_alike (n + 1) x c f g (omega (arith, eqb-false x 0 t)) (omega arith) q))

  -- the same records
  equal : Likeness (λ r s. r ≡ s) (λ f g. f ≡ g)
  equal =
      record {
        cell = λ r s e. ap (λ (x : Record PC). x.cell) e;
        skip = λ r s e. ap (λ (x : Record PC). x.skip) e;
        length = λ r s e. ap (λ (x : Record PC). x.length) e;
        lones = λ c number next f g e. ap (lone c number next) e;
        joins = λ c next p p' q q' f g e e' d. ap (λ p. join K c next p q f) e ∙ ap (λ q. join K c next p' q f) e' ∙ ap (join K c next p' q') d;
      }

  pub planned_same : (rs ss : List (Record PC)) (n : ℕ) → n ≤ length rs → n ≤ length ss → ((m : ℕ) → 1 ≤ m → m ≤ n → numbered K rs m ≡ numbered K ss m) →
      (h c : ℕ) (f : PC) → planned K rs (n + 1) h c f ≡ planned K ss (n + 1) h c f
  planned_same rs ss n fits fits' same h c f =
      related_same (planned K rs (n + 1) h c f) (planned K ss (n + 1) h c f) (planned_alike (λ r s. r ≡ s) (λ f g. f ≡ g) equal rs ss n fits fits' same h c f f refl)
