-- A memory that check accepts is rebuilt by writes. Assumes nothing.
use Rattle.std.proofs.Common.{◌≡◌, cond, ℕ, zero, suc, ◌+◌, ◌-◌, ◌<◌, ◌≤◌, true, not, eqb, ltb, List, [], ◌∷◌, ◌++◌, map, length, get_or, set, Ok, Err, Result, sym, refl, ap, ◌∙◌, subst, inl, inr, arith}
use Rattle.std.proofs.lemmas.List.{ext_get_or, get_or-map, length-map, length_push, get_or-replicate, get_or-set_same, get_or-set_other}
use Rattle.std.proofs.lemmas.Bool.{cases_lt, and_parts, eqb-true, ltb-true, not-false}
use Rattle.kind.specs.Answers.{and_then, each_below, refused_as, kept}
use Rattle.kind.specs.Model.{Model, Laws}
use Rattle.kind.proofs.Tried.{each_at}
use Rattle.journal.specs.declared.faults.LadderFault.{LadderFault}
use Rattle.journal.specs.declared.record.Record.{Record}
use Rattle.journal.specs.declared.walk.Stretch.{Stretch}
use Rattle.journal.specs.Appends.{planned}
use Rattle.journal.specs.Links.{blank, numbered}
use Rattle.journal.specs.Spans.{spanned}
use Rattle.logs.proofs.Proved.{never_refused_lem}
use Rattle.logs.proofs.Related.{related_ok}
use Rattle.volume.specs.Calls.{origin, emptied}
use Rattle.volume.specs.Checks.{newest_to, as_planned, right_record, record_right, head_right, as_changed, cell_right, judged, workable, checked}
use Rattle.volume.specs.Memory.{Memory}
use Rattle.volume.specs.Rolls.{acted}
use Rattle.volume.specs.Sizes.{sized, sound}
use Rattle.volume.specs.declared.refusal.Refusal.{Refusal}
use Rattle.volume.specs.declared.refusal.Refusal.TheVariants.{Unsound}
use Rattle.volume.specs.declared.refusal.Wrong.{Wrong}
use Rattle.history.specs.Calls.{Call, write, run, run_all}
use Rattle.history.specs.History.{History, count, appended}
use Rattle.history.specs.Promises.{fresh}
use Rattle.history.specs.Soundness.{Asked, asks, Alike, CountsAs, LeftByWrites}
use Rattle.history.proofs.Alikes.{AlikeStretch, planned_alike, spanned_alike}
use Rattle.history.proofs.Canonical.{Sizes, sized_only, sound_only, Canonical, blank_canonical, writes_few}
use Rattle.history.proofs.Images.{set_read}
use Rattle.history.proofs.Newest.{newest_length, cell_made}
use Rattle.history.proofs.Results.{then_ok, as_ok, test_ok, from_first}
use Rattle.history.proofs.Spanned.{got, spans}
use Rattle.history.proofs.Written.{f, r, plans, ws, after, formats, write_taken, write_canonical}

run_append : {PS PC : Type 0} (K : Model PS PC) (m : Memory PS PC) (ks js : List (Call PS)) → run_all K m (ks ++ js) ≡ run_all K (run_all K m ks) js
run_append K m [] js = refl
run_append K m (k ∷ ks) js = run_append K (run K m k) ks js

asks_append : {PS : Type 0} (xs ys : List (Asked PS)) → asks (xs ++ ys) ≡ asks xs ++ asks ys
asks_append [] ys = refl
asks_append {PS} (x ∷ xs) ys = ap (λ (ks : List (Call PS)). write x.cell x.state ∷ ks) (asks_append xs ys)

module _ {PS PC : Type 0} (K : Model PS PC) (L : Laws K) where
  -- the record that is planned, where one is as planned
  as_parts : (r : Record PC) (p : Result (Record PC) LadderFault) → as_planned K r p ≡ true → (s : Record PC) × (p ≡ Ok s) × (r.next ≡ s.next) × (r.skip ≡ s.skip) × (r.length ≡ s.length) × (r.foot ≡ s.foot) × (K.change r.fold ≡ K.change s.fold)
  as_parts r (Ok s) e =
      let a = and_parts _ _ e in
      let b = and_parts _ _ a.1 in
      let c = and_parts _ _ b.1 in
      let d = and_parts _ _ c.1 in
      (s, refl, eqb-true r.next s.next a.0, eqb-true r.skip s.skip b.0, eqb-true r.length s.length c.0, eqb-true r.foot s.foot d.0, (L.change_exact (K.change r.fold) (K.change s.fold)).0 d.1)
  as_parts r (Err q) e = absurd cc

  changed_parts : (s : PS) (p : Result (Stretch PC) LadderFault) → as_changed K s p ≡ true → (t : Stretch PC) × (p ≡ Ok t) × (K.state s ≡ K.state (acted K t.change (origin K)))
  changed_parts s (Ok t) e = (t, refl, (L.state_exact (K.state s) (K.state (acted K t.change (origin K)))).0 e)
  changed_parts s (Err q) e = absurd cc

  module _ (v : Memory PS PC) (z : Sizes (length v.cells) (length v.heads) (length v.records)) (fits : v.count ≤ length v.records) (fine : judged K v ≡ Ok tt) where
    abbrev n : ℕ
    n = length v.cells

    abbrev news : ℕ → List ℕ
    news m = newest_to K n v.records m

    abbrev heads_judged : Result (Unit {0}) Wrong
    heads_judged = each_below (head_right K (news v.count) v.heads) n

    abbrev cells_judged : Result (Unit {0}) Wrong
    cells_judged = each_below (cell_right K v) n

    records_fine : each_below (record_right K n v.records) v.count ≡ Ok tt
    records_fine = let t = then_ok (each_below (record_right K n v.records) v.count) (λ _. and_then heads_judged (λ _. cells_judged)) tt fine in t.1

    later_fine : and_then heads_judged (λ _. cells_judged) ≡ Ok tt
    later_fine = (then_ok (each_below (record_right K n v.records) v.count) (λ _. and_then heads_judged (λ _. cells_judged)) tt fine).2

    heads_fine : heads_judged ≡ Ok tt
    heads_fine = (then_ok heads_judged (λ _. cells_judged) tt later_fine).1

    cells_fine : cells_judged ≡ Ok tt
    cells_fine = (then_ok heads_judged (λ _. cells_judged) tt later_fine).2

    -- record i + 1 is right
    abbrev at : ℕ → Record PC
    at i = numbered K v.records (i + 1)

    right : (i : ℕ) → i < v.count → right_record K n v.records (news i) (i + 1) (at i) ≡ true
    right i l =
        let x = each_at (record_right K n v.records) v.count i records_fine l in
        not-false (right_record K n v.records (news i) (i + 1) (at i)) (test_ok (not (right_record K n v.records (news i) (i + 1) (at i))) _ (Ok tt) x.0 x.1).0

    -- the writes that make the first m records
    abbrev new_state : Memory PS PC → ℕ → PS
    new_state w i = acted K (at i).change (get_or w.cells (at i).cell (origin K))

    abbrev rebuilt : ℕ → Memory PS PC
    rebuilt zero = emptied K v
    rebuilt (suc m) = run K (rebuilt m) (write (at m).cell (new_state (rebuilt m) m))

    abbrev asked : ℕ → List (Asked PS)
    asked zero = []
    asked (suc m) = asked m ++ record { cell = (at m).cell; state = new_state (rebuilt m) m } ∷ []

    asked_makes : (m : ℕ) → run_all K (emptied K v) (asks (asked m)) ≡ rebuilt m
    asked_makes zero = refl
    asked_makes (suc m) =
        let a : Asked PS = record { cell = (at m).cell; state = new_state (rebuilt m) m } in
        ap (run_all K (emptied K v)) (asks_append (asked m) (a ∷ []))
        ∙ run_append K (emptied K v) (asks (asked m)) (asks (a ∷ []))
        ∙ ap (λ w. run K w (write (at m).cell (new_state (rebuilt m) m))) (asked_makes m)

    -- what they have made is as it lies there
    record Made (m : ℕ) : Type 0 where
      pub history : History K.State
      pub cells : history.cells ≡ n
      pub capacity : history.capacity ≡ length v.records
      pub counts : count history ≡ m
      pub canonical : Canonical K history (rebuilt m)
      pub alike : (i : ℕ) → i < m → Alike K (at i) (numbered K (rebuilt m).records (i + 1))
      pub heads : (c : ℕ) → c < n → get_or (rebuilt m).heads c 0 ≡ get_or (news m) c 0

    alike_up : (m : ℕ) (M : Made m) (k : ℕ) → 1 ≤ k → k ≤ m → Alike K (numbered K v.records k) (numbered K (rebuilt m).records k)
    alike_up m M k l low = from_first (λ i. Alike K (numbered K v.records i) (numbered K (rebuilt m).records i)) m M.alike k l low

    made_none : Made zero
    made_none =
        record {
          history = fresh n (length v.records);
          cells = refl;
          capacity = refl;
          counts = refl;
          canonical = blank_canonical K L v z;
          alike = λ i l. absurd (omega arith);
          heads = λ c l. get_or-replicate {A = ℕ} (length v.heads) c 0 0 (omega (arith, z.even)) ∙ sym (get_or-replicate {A = ℕ} n c 0 0 l);
        }

    made_more : (m : ℕ) → m < v.count → Made m → Made (suc m)
    made_more m l M =
        let C = M.canonical in
        let h : History K.State = M.history in
        let w : Memory PS PC = rebuilt m in
        let x : Record PC = at m in
        let c : ℕ = x.cell in
        let s : PS = new_state w m in
        let one : m + 1 ≡ suc m = omega arith in
        let parts = and_parts (ltb c n) (as_planned K x (planned K v.records (m + 1) (get_or (news m) c 0) c x.change)) (right m l) in
        let low : c < n = ltb-true c n parts.0 in
        let in' : c < h.cells = omega (arith, M.cells) in
        let room : count h < h.capacity = omega (arith, M.counts, M.capacity) in
        let (p, plan, e-next, e-skip, e-length, e-foot, e-fold) = as_parts x (planned K v.records (m + 1) (get_or (news m) c 0) c x.change) parts.1 in
        let g : PC = f K L C c s in
        let y : Record PC = r K L C c s in' in
        let seen : w.count ≡ m = C.counts ∙ M.counts in
        let old : PS = get_or w.cells c (origin K) in
        let to : K.state s ≡ K.act (K.change x.change) (K.state old) = L.state_plain (K.act (K.change x.change) (K.state old)) in
        let change : K.change x.change ≡ K.change g =
        L.faithful (K.change x.change) (K.diff (K.state old) (K.state s)) (K.state old) (sym to ∙ sym (L.diff_acts (K.state old) (K.state s)))
        ∙ sym (L.change_plain (K.diff (K.state old) (K.state s))) in
        let plan' : planned K w.records (m + 1) (get_or (news m) c 0) c g ≡ Ok y =
        ap (λ k. planned K w.records (k + 1) (get_or (news m) c 0) c g) (sym seen)
        ∙ ap (λ k. planned K w.records (w.count + 1) k c g) (sym (M.heads c low)) ∙ plans K L C c s in' in
        let both : Alike K p y =
        related_ok (Alike K) (planned K v.records (m + 1) (get_or (news m) c 0) c x.change) (planned K w.records (m + 1) (get_or (news m) c 0) c g) p y
        (planned_alike K L v.records w.records m (omega (arith, fits)) (omega (arith, C.all_records, M.capacity, fits)) (alike_up m M) (get_or (news m) c 0) c x.change g change) plan plan' in
        let N = never_refused_lem K L (ws K L C c s) w.records C.logs (writes_few K C) c g in
        let mine : Alike K x y = record {
          cell = sym N.3;
          next = e-next ∙ both.next;
          skip = e-skip ∙ both.skip;
          length = e-length ∙ both.length;
          foot = e-foot ∙ both.foot;
          change = change ∙ sym (ap K.change N.4);
          fold = e-fold ∙ both.fold;
        } in
        let new : Memory PS PC = after K L C c s in' in
        let taken : run K w (write c s) ≡ new = ap (kept w) (write_taken K L C c s in' room) in
        let spot : w.count < length w.records = omega (arith, C.all_records, M.capacity) in
        record {
          history = appended h c (K.state s);
          cells = M.cells;
          capacity = M.capacity;
          counts = length_push h.entries (record { cell = c; state = K.state s }) ∙ ap (λ k. k + 1) M.counts ∙ one;
          canonical = subst (λ u. Canonical K (appended h c (K.state s)) u) (sym taken) (write_canonical K L C c s in' room);
          alike = λ i low'. subst (λ u. Alike K (at i) (numbered K u.records (i + 1))) (sym taken)
              (elim (cases_lt i m) [
                | inl old' ↦ subst (λ q. Alike K (at i) q) (sym (get_or-set_other w.records w.count (i + 1 - 1) y (blank K) (λ e. omega arith))) (M.alike i old')
                | inr now' ↦
                    (let same : i ≡ m = omega arith in
                    let place : i + 1 - 1 ≡ w.count = omega arith in
                    subst (λ q. Alike K (at i) q) (sym (ap (λ k. get_or (set w.records w.count y) k (blank K)) place ∙ get_or-set_same w.records w.count y (blank K) spot))
                    (subst (λ k. Alike K (at k) y) (sym same) mine))
              ]);
          heads = λ d low'. ap (λ u. get_or u.heads d 0) taken
              ∙ ap (λ k. get_or (set w.heads c k) d 0) (ap (λ k. k + 1) seen ∙ one)
              ∙ set_read (λ (k : ℕ). k) w.heads c d (suc m) 0 (omega (arith, C.sizes.even, C.all_cells))
              ∙ ap (cond (eqb c d) (suc m)) (M.heads d low')
              ∙ sym (ap (λ k. get_or (set (news m) k (suc m)) d 0) (ap (λ k. (numbered K v.records k).cell) (sym one))
              ∙ set_read (λ (k : ℕ). k) (news m) c d (suc m) 0 (omega (arith, newest_length K n v.records m)));
        }

    made : (m : ℕ) → m ≤ v.count → Made m
    made zero l = made_none
    made (suc m) l = made_more m (omega arith) (made m (omega arith))

    -- heads and cells are as they lie there, too
    module _ (M : Made v.count) where
      abbrev all : Memory PS PC
      all = rebuilt v.count

      seen : all.count ≡ v.count
      seen = M.canonical.counts ∙ M.counts

      head_at : (c : ℕ) → c < n → get_or v.heads c 0 ≡ get_or all.heads c 0
      head_at c l =
          let x = each_at (head_right K (news v.count) v.heads) n c heads_fine l in
          eqb-true (get_or v.heads c 0) (get_or (news v.count) c 0)
          (not-false (eqb (get_or v.heads c 0) (get_or (news v.count) c 0)) (test_ok (not (eqb (get_or v.heads c 0) (get_or (news v.count) c 0))) _ (Ok tt) x.0 x.1).0)
          ∙ sym (M.heads c l)

      heads_same : v.heads ≡ all.heads
      heads_same =
          let C = M.canonical in
          ext_get_or 0 v.heads all.heads (z.even ∙ sym (C.sizes.even ∙ C.all_cells ∙ M.cells)) (λ c l. head_at c (omega (arith, z.even)))

      state_at_lem : (c : ℕ) → c < n → K.state (get_or v.cells c (origin K)) ≡ K.state (get_or all.cells c (origin K))
      state_at_lem c l =
          let C = M.canonical in
          let in' : c < M.history.cells = omega (arith, M.cells) in
          let s : PS = get_or v.cells c (origin K) in
          let mine : Result (Stretch PC) LadderFault = spanned K v.records v.count (get_or v.heads c 0) c 0 v.count in
          let x = each_at (cell_right K v) n c cells_fine l in
          let (t, is, e) = changed_parts s mine (not-false (as_changed K s mine) (test_ok (not (as_changed K s mine)) _ (Ok tt) x.0 x.1).0) in
          let g : Stretch PC = got K L C c in' 0 all.count in
          let other : spanned K all.records v.count (get_or v.heads c 0) c 0 v.count ≡ Ok g =
          ap (λ k. spanned K all.records k (get_or v.heads c 0) c 0 k) (sym seen) ∙ ap (λ k. spanned K all.records all.count k c 0 all.count) (head_at c l)
          ∙ spans K L C c in' 0 all.count in
          let both : AlikeStretch K L t g =
          related_ok (AlikeStretch K L) mine (spanned K all.records v.count (get_or v.heads c 0) c 0 v.count) t g
          (spanned_alike K L v.records all.records v.count fits (omega (arith, C.all_records, M.capacity, fits)) (alike_up v.count M) (get_or v.heads c 0) c 0 v.count) is other in
          e ∙ ap (λ q. K.state (K.plain_state (K.act q (K.state (origin K))))) both.change ∙ cell_made K L C c in'

      cells_same : map K.state v.cells ≡ map K.state all.cells
      cells_same =
          let C = M.canonical in
          let a = length-map v.cells K.state in
          let b = length-map all.cells K.state in
          let size : length all.cells ≡ n = C.all_cells ∙ M.cells in
          ext_get_or K.origin (map K.state v.cells) (map K.state all.cells) (a ∙ sym (b ∙ size))
          (λ c l.
          get_or-map K.state v.cells c (origin K) K.origin (omega arith) ∙ state_at_lem c (omega arith)
          ∙ sym (get_or-map K.state all.cells c (origin K) K.origin (omega arith)))

      counts_as : CountsAs K v all
      counts_as = record { count = sym seen; heads = heads_same; cells = cells_same; records = M.alike }

    pub left : LeftByWrites K v
    left =
        record {
          start = emptied K v;
          formats = formats K v z;
          writes = asked v.count;
          counts = subst (CountsAs K v) (sym (asked_makes v.count)) (counts_as (made v.count (omega arith)));
        }

  -- what an accepted check says of sizes and judgement
  pub checked_parts : (v : Memory PS PC) (work : List ℕ) → checked K v work ≡ Ok tt →
      Sizes (length v.cells) (length v.heads) (length v.records) × (v.count ≤ length v.records) × (length work ≡ length v.cells) × (judged K v ≡ Ok tt)
  unfolding checked
  checked_parts v work e =
      let sounds : Result (Unit {0}) Refusal = sound (length v.cells) (length v.heads) (length v.records) v.count in
      let (x, p, q) = then_ok (workable K v work) (λ _. refused_as Unsound (judged K v)) tt e in
      let (y, p₁, p₂) = then_ok (sized (length v.cells) (length work) 0) (λ _. sounds) x p in
      let row = sized_only (length v.cells) (length work) 0 y p₁ in
      let both = sound_only (length v.cells) (length v.heads) (length v.records) v.count x p₂ in
      (both.0, both.1, row.even, as_ok Unsound (judged K v) tt q)
