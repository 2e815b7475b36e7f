-- The memory that a history leaves, up to what the cells are taken for and to what lies beyond the count. Assumes nothing.
use Rattle.std.proofs.Common.{◌≡◌, Result, cond, false, true, Bool, ℕ, ◌<◌, ◌≤◌, not, ◌||◌, eqb, ltb, List, [], ◌∷◌, ◌++◌, length, get_or, replicate, Ok, Err, sym, refl, ap, ◌∙◌, subst, arith}
use Rattle.std.proofs.lemmas.List.{get_or-replicate, length-replicate, take_all}
use Rattle.std.proofs.lemmas.Bool.Decides.{nat_tests}
use Rattle.std.proofs.lemmas.Bool.{cond-false, or_parts, eqb-true, eqb-false, le-ltb, ltb-false, not-false}
use Rattle.kind.specs.Answers.{and_then, refuse_if, kept}
use Rattle.kind.specs.Model.{Model, Laws}
use Rattle.logs.specs.Theorems.{Logs}
use Rattle.logs.specs.Writes.{head_of}
use Rattle.volume.specs.Calls.{origin, emptied}
use Rattle.volume.specs.Memory.{Memory}
use Rattle.volume.specs.Sizes.{sized, sound}
use Rattle.volume.specs.declared.refusal.Refusal.{Refusal}
use Rattle.volume.specs.declared.refusal.Refusal.TheVariants.{Cells, Heads, Capacity, Count}
use Rattle.history.specs.History.{History, Entry, count, latest, stood}
use Rattle.history.specs.Promises.{fresh}
use Rattle.history.proofs.Entered.{writes, writes_length}
use Rattle.history.proofs.Results.{then_ok, test_ok}

-- sizes that are accepted
pub record Sizes (cells heads capacity : ℕ) : Type 0 where
  pub some_cells : 1 ≤ cells
  pub few_cells : cells ≤ 4096
  pub even : heads ≡ cells
  pub few_records : capacity ≤ 65535

pub sized_ok : {a b c : ℕ} → Sizes a b c → sized a b c ≡ Ok tt
sized_ok {a} {b} {c} z = grind (arith, nat_tests)

pub sound_ok : {a b c n : ℕ} → Sizes a b c → n ≤ c → sound a b c n ≡ Ok tt
sound_ok {a} {b} {c} {n} z h = ap (λ r. and_then r (λ _. refuse_if (ltb c n) Count (Ok tt))) (sized_ok z) ∙ cond-false (ltb c n) (Err Count) (Ok tt) (le-ltb c n h)

-- .. are the only ones
pub sized_only : (a b c : ℕ) (x : Unit {0}) → sized a b c ≡ Ok x → Sizes a b c
sized_only a b c x e =
    let p = test_ok (eqb a 0 || ltb 4096 a) Cells (refuse_if (not (eqb b a)) Heads (refuse_if (ltb 65535 c) Capacity (Ok tt))) x e in
    let q = test_ok (not (eqb b a)) Heads (refuse_if (ltb 65535 c) Capacity (Ok tt)) x p.1 in
    let r = test_ok (ltb 65535 c) Capacity (Ok tt) x q.1 in
    let parts = or_parts (eqb a 0) (ltb 4096 a) p.0 in
    record {
      some_cells = omega (arith, eqb-false a 0 parts.0);
      few_cells = ltb-false 4096 a parts.1;
      even = eqb-true b a (not-false (eqb b a) q.0);
      few_records = ltb-false 65535 c r.0;
    }

pub sound_only : (a b c n : ℕ) (x : Unit {0}) → sound a b c n ≡ Ok x → Sizes a b c × (n ≤ c)
sound_only a b c n x e =
    let (y, p, q) = then_ok (sized a b c) (λ _. refuse_if (ltb c n) Count (Ok tt)) x e in
    (sized_only a b c y p, ltb-false c n (test_ok (ltb c n) Count (Ok tt) x q).0)

-- every entry is of one of n cells
abbrev pub Owned : {S : Type 0} → ℕ → List (Entry S) → Type 0
Owned n [] = Unit {0}
Owned n (e ∷ es) = (e.cell < n) × Owned n es

pub owned_append : {S : Type 0} (n : ℕ) (xs ys : List (Entry S)) → Owned n xs → Owned n ys → Owned n (xs ++ ys)
owned_append n [] ys p q = q
owned_append n (x ∷ xs) ys p q = (p.0, owned_append n xs ys p.1 q)

pub owned_at : {S : Type 0} (n : ℕ) (xs : List (Entry S)) (e : Entry S) (ys : List (Entry S)) → Owned n (xs ++ e ∷ ys) → e.cell < n
owned_at n [] e ys p = p.0
owned_at n (x ∷ xs) e ys p = owned_at n xs e ys p.1

module _ {PS PC : Type 0} (K : Model PS PC) where
  pub record Canonical (h : History K.State) (v : Memory PS PC) : Type 0 where
    pub all_cells : length v.cells ≡ h.cells
    pub all_records : length v.records ≡ h.capacity
    pub sizes : Sizes (length v.cells) (length v.heads) (length v.records)
    pub counts : v.count ≡ count h
    pub fits : count h ≤ h.capacity
    pub owned : Owned h.cells h.entries
    pub states : (c : ℕ) → c < h.cells → K.state (get_or v.cells c (origin K)) ≡ latest K.origin c h.entries
    pub heads : (c : ℕ) → c < h.cells → get_or v.heads c 0 ≡ head_of (writes K h.entries) c
    pub logs : Logs K v.records (writes K h.entries)

  pub sound_is : {h : History K.State} {v : Memory PS PC} → Canonical h v → sound (length v.cells) (length v.heads) (length v.records) v.count ≡ Ok tt
  sound_is {h} {v} C = sound_ok C.sizes (omega (arith, C.counts, C.fits, C.all_records))

  -- a call that a test may refuse, where the history then stays as it is
  pub taken_if : {h : History K.State} {v : Memory PS PC} (g : History K.State) (t b : Bool) (e : Refusal) (r : Result (Memory PS PC) Refusal) →
      Canonical h v → (t ≡ true → b ≡ false) → (t ≡ false → Canonical (cond b g h) (kept v r)) → Canonical (cond b g h) (kept v (refuse_if t e r))
  taken_if {h} {v} g true b e r C stays more = subst (λ x. Canonical (cond x g h) v) (sym (stays refl)) C
  taken_if g false b e r C stays more = more refl

  pub writes_few : {h : History K.State} {v : Memory PS PC} → Canonical h v → length (writes K h.entries) ≤ 65535
  writes_few {h} {v} C = omega (arith, writes_length K h.entries, C.fits, C.all_records, C.sizes.few_records)

  -- the present
  pub present : (h : History K.State) (c : ℕ) → stood K h c (count h) ≡ latest K.origin c h.entries
  present h c = ap (latest K.origin c) (take_all (count h) h.entries (omega arith))

  -- what a format leaves
  pub blank_canonical : Laws K → (m : Memory PS PC) → Sizes (length m.cells) (length m.heads) (length m.records) →
      Canonical (fresh (length m.cells) (length m.records)) (emptied K m)
  blank_canonical L m z =
      let n : ℕ = length m.cells in
      let same : length (replicate n (origin K)) ≡ n = length-replicate n (origin K) in
      let zeros : List ℕ = replicate (length m.heads) 0 in
      let same' : length zeros ≡ length m.heads = length-replicate {A = ℕ} (length m.heads) 0 in
      record {
        all_cells = same;
        all_records = refl;
        sizes = record {
          some_cells = omega (arith, z.some_cells);
          few_cells = omega (arith, z.few_cells);
          even = same' ∙ z.even ∙ sym same;
          few_records = z.few_records;
        };
        counts = refl;
        fits = omega arith;
        owned = tt;
        states = λ c l. ap K.state (get_or-replicate n c (origin K) (origin K) l) ∙ L.state_plain K.origin;
        heads = λ c l. get_or-replicate (length m.heads) c 0 0 (omega (arith, z.even));
        logs = refl;
      }

  pub empty_canonical : Laws K → {h : History K.State} {v : Memory PS PC} → Canonical h v → Canonical (record { cells = h.cells; capacity = h.capacity; entries = [] }) (emptied K v)
  empty_canonical L {h} {v} C =
      subst (λ n. Canonical (fresh n h.capacity) (emptied K v)) C.all_cells
      (subst (λ n. Canonical (fresh (length v.cells) n) (emptied K v)) C.all_records (blank_canonical L v C.sizes))
