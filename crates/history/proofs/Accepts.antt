-- A memory that counts as what writes leave is accepted by check. Assumes nothing.
use Rattle.std.proofs.Common.{◌≡◌, ℕ, zero, suc, ◌+◌, ◌<◌, ◌≤◌, true, not, eqb, ltb, List, length, get_or, set, Ok, Err, Result, sym, ap, ◌∙◌, subst, arith, lit≤}
use Rattle.std.proofs.lemmas.List.{get_or-map, length-map}
use Rattle.std.proofs.lemmas.Bool.{cond-false, and_from, eq-eqb, lt-ltb, not_from_true}
use Rattle.kind.specs.Answers.{and_then, each_below, refused_as}
use Rattle.kind.specs.Model.{Model, Laws}
use Rattle.kind.proofs.Tried.{each_ok}
use Rattle.journal.specs.declared.faults.LadderFault.{LadderFault}
use Rattle.journal.specs.declared.record.Record.{Record}
use Rattle.journal.specs.declared.walk.Stretch.{Stretch}
use Rattle.journal.specs.Appends.{planned}
use Rattle.journal.specs.Links.{numbered}
use Rattle.journal.specs.Spans.{spanned}
use Rattle.logs.proofs.Related.{Related}
use Rattle.volume.specs.Calls.{origin}
use Rattle.volume.specs.Checks.{newest_to, as_planned, right_record, record_right, head_right, as_changed, cell_right, judged, checked}
use Rattle.volume.specs.Memory.{Memory}
use Rattle.volume.specs.Rolls.{acted}
use Rattle.volume.specs.Sizes.{sound}
use Rattle.volume.specs.declared.refusal.Refusal.TheVariants.{Unsound}
use Rattle.volume.specs.declared.refusal.Wrong.TheVariants.{Record as WrongRecord, Head as WrongHead, Cell as WrongCell}
use Rattle.history.specs.History.{History, count}
use Rattle.history.specs.Soundness.{Alike, CountsAs}
use Rattle.history.proofs.Alikes.{AlikeStretch, planned_alike, spanned_alike}
use Rattle.history.proofs.Canonical.{Sizes, sized_ok, sound_ok, Canonical}
use Rattle.history.proofs.Newest.{newest_all, record_plan, record_low, cell_made}
use Rattle.history.proofs.Results.{from_first}
use Rattle.history.proofs.Spanned.{got, spans}

module _ {PS PC : Type 0} (K : Model PS PC) (L : Laws K) where
  -- a record that says the same as the planned one
  as_alike : (r : Record PC) (p : Result (Record PC) LadderFault) (s : Record PC) → Alike K r s → Related (Alike K) p (Ok s) → as_planned K r p ≡ true
  as_alike r (Ok p) s a b =
      and_from _ _ (eq-eqb r.next p.next (a.next ∙ sym b.next))
      (and_from _ _ (eq-eqb r.skip p.skip (a.skip ∙ sym b.skip))
      (and_from _ _ (eq-eqb r.length p.length (a.length ∙ sym b.length))
      (and_from _ _ (eq-eqb r.foot p.foot (a.foot ∙ sym b.foot)) ((L.change_exact (K.change r.fold) (K.change p.fold)).1 (a.fold ∙ sym b.fold)))))
  as_alike r (Err e) s a b = absurd b

  changed_alike : (s : PS) (p : Result (Stretch PC) LadderFault) (t : Stretch PC) → Related (AlikeStretch K L) p (Ok t) → K.state (acted K t.change (origin K)) ≡ K.state s → as_changed K s p ≡ true
  changed_alike s (Ok p) t a e =
      (L.state_exact (K.state s) (K.state (acted K p.change (origin K)))).1
      (sym (ap (λ f. K.state (K.plain_state (K.act f (K.state (origin K))))) a.change ∙ e))
  changed_alike s (Err x) t a e = absurd a

  module _ {h : History K.State} {w : Memory PS PC} (C : Canonical K h w) (v : Memory PS PC) (A : CountsAs K v w)
      (z : Sizes (length v.cells) (length v.heads) (length v.records)) (fits : v.count ≤ length v.records) where
    abbrev n : ℕ
    n = length v.cells

    size : length v.cells ≡ length w.cells
    size = sym (length-map v.cells K.state) ∙ ap length A.cells ∙ length-map w.cells K.state

    counts : v.count ≡ count h
    counts = A.count ∙ C.counts

    fits' : v.count ≤ length w.records
    fits' = omega (arith, counts, C.fits, C.all_records)

    -- record m, for m up to the count
    alike : (m : ℕ) → 1 ≤ m → m ≤ v.count → Alike K (numbered K v.records m) (numbered K w.records m)
    alike m l low = from_first (λ k. Alike K (numbered K v.records k) (numbered K w.records k)) v.count A.records m l low

    newest_same : (m : ℕ) → m ≤ v.count → newest_to K n v.records m ≡ newest_to K (length w.cells) w.records m
    newest_same zero l = ap (λ k. newest_to K k v.records zero) size
    newest_same (suc m) l =
        ap (λ xs. set xs (numbered K v.records (suc m)).cell (suc m)) (newest_same m (omega arith))
        ∙ ap (λ c. set (newest_to K (length w.cells) w.records m) c (suc m)) (alike (suc m) (omega arith) l).cell

    record_fine : (i : ℕ) → i < v.count → record_right K n v.records i ≡ Ok tt
    record_fine i l =
        let r : Record PC = numbered K v.records (i + 1) in
        let s : Record PC = numbered K w.records (i + 1) in
        let a : Alike K r s = A.records i l in
        let news : List ℕ = newest_to K n v.records i in
        let olds : List ℕ = newest_to K (length w.cells) w.records i in
        let plan : planned K w.records (i + 1) (get_or olds s.cell 0) s.cell s.change ≡ Ok s = record_plan K L C i (omega (arith, counts)) in
        let same : planned K v.records (i + 1) (get_or news r.cell 0) r.cell r.change ≡ planned K v.records (i + 1) (get_or olds s.cell 0) s.cell r.change =
        ap (λ xs. planned K v.records (i + 1) (get_or xs r.cell 0) r.cell r.change) (newest_same i (omega arith))
        ∙ ap (λ c. planned K v.records (i + 1) (get_or olds c 0) c r.change) a.cell in
        let both : Related (Alike K) (planned K v.records (i + 1) (get_or olds s.cell 0) s.cell r.change) (Ok s) =
        subst (Related (Alike K) (planned K v.records (i + 1) (get_or olds s.cell 0) s.cell r.change)) plan
        (planned_alike K L v.records w.records i (omega (arith, fits)) (omega (arith, fits')) (λ m lo hi. alike m lo (omega arith)) (get_or olds s.cell 0) s.cell r.change s.change a.change) in
        let low : r.cell < n = omega (arith, a.cell, record_low K L C i (omega (arith, counts)), size) in
        let right : right_record K n v.records news (i + 1) r ≡ true =
        and_from (ltb r.cell n) (as_planned K r (planned K v.records (i + 1) (get_or news r.cell 0) r.cell r.change)) (lt-ltb r.cell n low)
        (ap (as_planned K r) same ∙ as_alike r (planned K v.records (i + 1) (get_or olds s.cell 0) s.cell r.change) s a both) in
        cond-false (not (right_record K n v.records news (i + 1) r)) (Err (WrongRecord (i + 1))) (Ok tt) (not_from_true (right_record K n v.records news (i + 1) r) right)

    head_fine : (c : ℕ) → c < n → head_right K (newest_to K n v.records v.count) v.heads c ≡ Ok tt
    head_fine c l =
        let in' : c < h.cells = omega (arith, size, C.all_cells) in
        let news : List ℕ = newest_to K n v.records v.count in
        let same : get_or v.heads c 0 ≡ get_or news c 0 =
        ap (λ xs. get_or xs c 0) A.heads ∙ C.heads c in' ∙ sym (newest_all K L C c in')
        ∙ sym (ap (λ xs. get_or xs c 0) (newest_same v.count (omega arith)) ∙ ap (λ k. get_or (newest_to K (length w.cells) w.records k) c 0) A.count) in
        cond-false (not (eqb (get_or v.heads c 0) (get_or news c 0))) (Err (WrongHead c)) (Ok tt)
        (not_from_true (eqb (get_or v.heads c 0) (get_or news c 0)) (eq-eqb (get_or v.heads c 0) (get_or news c 0) same))

    cell_fine : (c : ℕ) → c < n → cell_right K v c ≡ Ok tt
    cell_fine c l =
        let in' : c < h.cells = omega (arith, size, C.all_cells) in
        let s : PS = get_or v.cells c (origin K) in
        let u : PS = get_or w.cells c (origin K) in
        let mine : Result (Stretch PC) LadderFault = spanned K v.records v.count (get_or v.heads c 0) c 0 v.count in
        let same : K.state u ≡ K.state s =
        sym (get_or-map K.state w.cells c (origin K) K.origin (omega (arith, size))) ∙ ap (λ xs. get_or xs c K.origin) (sym A.cells)
        ∙ get_or-map K.state v.cells c (origin K) K.origin l in
        let other : spanned K w.records v.count (get_or v.heads c 0) c 0 v.count ≡ Ok (got K L C c in' 0 w.count) =
        ap (λ k. spanned K w.records k (get_or v.heads c 0) c 0 k) A.count ∙ ap (λ xs. spanned K w.records w.count (get_or xs c 0) c 0 w.count) A.heads
        ∙ spans K L C c in' 0 w.count in
        let both : Related (AlikeStretch K L) mine (Ok (got K L C c in' 0 w.count)) =
        subst (Related (AlikeStretch K L) mine) other (spanned_alike K L v.records w.records v.count fits fits' alike (get_or v.heads c 0) c 0 v.count) in
        let right : as_changed K s mine ≡ true = changed_alike s mine (got K L C c in' 0 w.count) both (cell_made K L C c in' ∙ same) in
        cond-false (not (as_changed K s mine)) (Err (WrongCell c)) (Ok tt) (not_from_true (as_changed K s mine) right)

    pub records_fine : each_below (record_right K n v.records) v.count ≡ Ok tt
    records_fine = each_ok (record_right K n v.records) v.count (λ i l. (tt, record_fine i l))

    fine : judged K v ≡ Ok tt
    fine =
        ap (λ r. and_then r (λ _. and_then (each_below (head_right K (newest_to K n v.records v.count) v.heads) n) (λ _. each_below (cell_right K v) n))) records_fine
        ∙ ap (λ r. and_then r (λ _. each_below (cell_right K v) n)) (each_ok (head_right K (newest_to K n v.records v.count) v.heads) n (λ c l. (tt, head_fine c l)))
        ∙ each_ok (cell_right K v) n (λ c l. (tt, cell_fine c l))

    pub accepts : (work : List ℕ) → length work ≡ length v.cells → checked K v work ≡ Ok tt
    unfolding checked
    accepts work e =
        let y : Sizes n (length work) 0 = record { some_cells = z.some_cells; few_cells = z.few_cells; even = e; few_records = lit≤ tt } in
        ap (λ r. and_then (and_then r (λ _. sound n (length v.heads) (length v.records) v.count)) (λ _. refused_as Unsound (judged K v))) (sized_ok y)
        ∙ ap (λ r. and_then r (λ _. refused_as Unsound (judged K v))) (sound_ok z fits)
        ∙ ap (refused_as Unsound) fine
