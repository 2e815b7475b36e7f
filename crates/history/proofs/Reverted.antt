-- What revert makes of the memory that a history leaves. Assumes nothing.
use Rattle.std.proofs.Common.{◌≡◌, true, ℕ, zero, suc, ◌+◌, ◌<◌, ◌≤◌, Bool, cond, ◌&&◌, eqb, ltb, leb, List, [], ◌∷◌, ◌++◌, length, get_or, Ok, Err, Result, sym, refl, ap, ◌∙◌, subst, inl, inr, arith}
use Rattle.std.proofs.lemmas.List.{append-nil, append_assoc, length-append}
use Rattle.std.proofs.lemmas.Bool.Decides.{nat_tests}
use Rattle.std.proofs.lemmas.Bool.{cases_Bool, cond-true, cond-false, ne_eqb, lt-ltb, ltb-false}
use Rattle.kind.specs.Answers.{and_then, refuse_if, refused_as, kept}
use Rattle.kind.specs.Model.{Model, Laws}
use Rattle.journal.specs.declared.walk.Stretch.{Stretch}
use Rattle.journal.specs.Appends.{planned}
use Rattle.journal.specs.Spans.{spanned}
use Rattle.logs.specs.Theorems.{Logs}
use Rattle.logs.specs.Writes.{head_of}
use Rattle.logs.proofs.Logs.{logs_front}
use Rattle.logs.proofs.Proved.{never_refused_lem, span}
use Rattle.volume.specs.Calls.{difference, written}
use Rattle.volume.specs.Memory.{Memory}
use Rattle.volume.specs.Reverts.{held_state, earlier_state, alike, needed, all_needed, put_back, put_all_back, reverted, count_of}
use Rattle.volume.specs.Rolls.{acted}
use Rattle.volume.specs.declared.refusal.Refusal.{Refusal}
use Rattle.volume.specs.declared.refusal.Refusal.TheVariants.{Moment, Ladder, Full}
use Rattle.history.specs.Calls.{Reply, counted, refused, reply, revert, restoring, restored, run, fed, replied, predicted}
use Rattle.history.specs.History.{History, Entry, count, extended, latest, last_number, stood}
use Rattle.history.proofs.Canonical.{Owned, owned_append, Canonical, sound_is, taken_if, writes_few, present}
use Rattle.history.proofs.Entered.{writes, writes_on, writes_append, writes_length, writes_head, latest_append, last_append, through, onward_acts}
use Rattle.history.proofs.Results.{reply_if}
use Rattle.history.proofs.Written.{write_taken, write_canonical, after}

-- entries of lower cells say nothing of cell n
last_none : {S : Type 0} (n before found : ℕ) (ys : List (Entry S)) → Owned n ys → last_number before found n ys ≡ found
last_none n before found [] o = refl
last_none n before found (y ∷ ys) o =
    last_none n (before + 1) (cond (eqb y.cell n) (before + 1) found) ys o.1
    ∙ cond-false (eqb y.cell n) (before + 1) found (ne_eqb y.cell n (λ e. omega (arith, o.0)))

latest_none : {S : Type 0} (s : S) (n : ℕ) (ys : List (Entry S)) → Owned n ys → latest s n ys ≡ s
latest_none s n [] o = refl
latest_none s n (y ∷ ys) o =
    latest_none (cond (eqb y.cell n) y.state s) n ys o.1
    ∙ cond-false (eqb y.cell n) y.state s (ne_eqb y.cell n (λ e. omega (arith, o.0)))

owned_more : {S : Type 0} (n m : ℕ) (xs : List (Entry S)) → n ≤ m → Owned n xs → Owned m xs
owned_more n m [] l o = tt
owned_more n m (x ∷ xs) l o = (omega (arith, o.0), owned_more n m xs l o.1)

module _ {PS PC : Type 0} (K : Model PS PC) (L : Laws K) {h : History K.State} {v : Memory PS PC} (C : Canonical K h v) (to : ℕ) where
  abbrev es : List (Entry K.State)
  es = h.entries

  abbrev from : ℕ
  from = count h

  abbrev same? : ℕ → Bool
  same? c = K.same_state (stood K h c (count h)) (stood K h c to)

  restoring_owned : (n : ℕ) → Owned n (restoring K h to n)
  restoring_owned zero = tt
  restoring_owned (suc n) =
      let e : Entry K.State = record { cell = n; state = stood K h n to } in
      let old = owned_more n (suc n) (restoring K h to n) (omega arith) (restoring_owned n) in
      elim (cases_Bool (same? n)) [
        | inl t ↦ subst (λ xs. Owned (suc n) (restoring K h to n ++ xs)) (sym (cond-true (same? n) [] (e ∷ []) t)) (owned_append (suc n) (restoring K h to n) [] old tt)
        | inr t ↦ subst (λ xs. Owned (suc n) (restoring K h to n ++ xs)) (sym (cond-false (same? n) [] (e ∷ []) t)) (owned_append (suc n) (restoring K h to n) (e ∷ []) old (omega arith, tt))
      ]

  -- a memory whose log begins with that of the history, and which has the cell as the history has it
  module _ (m : Memory PS PC) (c : ℕ) (logs : Logs K m.records (writes K es)) (head : get_or m.heads c 0 ≡ head_of (writes K es) c)
      (state : K.state (held_state K m c) ≡ stood K h c (count h)) where
    abbrev back : Stretch PC
    back = (span K L (writes K es) m.records logs (writes_few K C) c from to).got

    spans_back : spanned K m.records from (get_or m.heads c 0) c from to ≡ Ok back
    spans_back =
        ap (λ x. spanned K m.records from x c from to) head
        ∙ ap (λ n. spanned K m.records n (head_of (writes K es) c) c from to) (sym (writes_length K es))
        ∙ (span K L (writes K es) m.records logs (writes_few K C) c from to).answer

    abbrev t : PS
    t = acted K back.change (held_state K m c)

    earlier_is : earlier_state K from to m c ≡ Ok t
    earlier_is = ap (λ r. and_then (refused_as Ladder r) (λ f. Ok (acted K f.change (held_state K m c)))) spans_back

    t_is : K.state t ≡ stood K h c to
    t_is =
        L.state_plain (K.act (K.change back.change) (K.state (held_state K m c)))
        ∙ ap (K.act (K.change back.change)) state
        ∙ ap (λ f. K.act f (stood K h c (count h))) (span K L (writes K es) m.records logs (writes_few K C) c from to).is
        ∙ onward_acts K L es c from to

    alike_is : alike K (held_state K m c) t ≡ same? c
    alike_is = ap (λ s. K.same_state s (K.state t)) state ∙ ap (K.same_state (stood K h c (count h))) t_is

  -- how many writes are needed
  needs : (c : ℕ) → c < h.cells → needed K from to v c ≡ Ok (cond (same? c) 0 1)
  needs c in' =
      let now : K.state (held_state K v c) ≡ stood K h c (count h) = C.states c in' ∙ sym (present K h c) in
      let s : PS = held_state K v c in
      let u : PS = t v c C.logs (C.heads c in') now in
      let f : PC = difference K s u in
      let plan : Result ℕ Refusal = and_then (refused_as Ladder (planned K v.records (from + 1) (get_or v.heads c 0) c f)) (λ _. Ok 1) in
      let fine : plan ≡ Ok 1 =
      ap (λ x. and_then (refused_as Ladder (planned K v.records (from + 1) x c f)) (λ _. Ok 1)) (C.heads c in')
      ∙ ap (λ n. and_then (refused_as Ladder (planned K v.records (n + 1) (head_of (writes K es) c) c f)) (λ _. Ok 1)) (sym (writes_length K es))
      ∙ ap (λ r. and_then (refused_as Ladder r) (λ _. Ok 1)) (never_refused_lem K L (writes K es) v.records C.logs (writes_few K C) c f).1 in
      ap (λ r. and_then r (λ x. cond (alike K s x) (Ok 0) (and_then (refused_as Ladder (planned K v.records (from + 1) (get_or v.heads c 0) c (difference K s x))) (λ _. Ok 1))))
      (earlier_is v c C.logs (C.heads c in') now)
      ∙ ap (λ b. cond b (Ok 0) plan) (alike_is v c C.logs (C.heads c in') now)
      ∙ ap (cond (same? c) (Ok 0)) fine ∙ sym (through Ok (same? c) 0 1)

  restoring_more : (n : ℕ) → length (restoring K h to (suc n)) ≡ length (restoring K h to n) + cond (same? n) 0 1
  restoring_more n =
      let e : Entry K.State = record { cell = n; state = stood K h n to } in
      length-append (restoring K h to n) (cond (same? n) [] (e ∷ [])) ∙ ap (λ k. length (restoring K h to n) + k) (through length (same? n) [] (e ∷ []))

  all_needs : (n : ℕ) → n ≤ h.cells → all_needed K from to v n ≡ Ok (length (restoring K h to n))
  all_needs zero l = refl
  all_needs (suc n) l =
      ap (λ r. and_then r (λ k. and_then (needed K from to v n) (λ j. Ok (k + j)))) (all_needs n (omega arith))
      ∙ ap (λ r. and_then r (λ j. Ok (length (restoring K h to n) + j))) (needs n (omega arith))
      ∙ ap Ok (sym (restoring_more n))

  -- the cells are put back one after the other
  abbrev pub back_to : ℕ → History K.State
  back_to n = extended h (restoring K h to n)

  puts_back : (n : ℕ) → n ≤ h.cells → from + length (restoring K h to n) ≤ h.capacity → Canonical K (back_to n) (put_all_back K from to v n)
  puts_back zero l fits = subst (λ xs. Canonical K (record { cells = h.cells; capacity = h.capacity; entries = xs }) v) (sym (append-nil es)) C
  puts_back (suc n) l fits =
      let new : List (Entry K.State) = restoring K h to n in
      let m : Memory PS PC = put_all_back K from to v n in
      let size = restoring_more n in
      let in' : n < h.cells = omega arith in
      let D : Canonical K (back_to n) m = puts_back n (omega arith) (omega arith) in
      let logs : Logs K m.records (writes K es) = logs_front K L (writes K es) (writes_on K es new) m.records (subst (Logs K m.records) (writes_append K es new) D.logs) in
      let head : get_or m.heads n 0 ≡ head_of (writes K es) n =
      D.heads n in' ∙ writes_head K (es ++ new) n ∙ last_append 0 0 n es new ∙ last_none n (0 + length es) (last_number 0 0 n es) new (restoring_owned n) ∙ sym (writes_head K es n) in
      let state : K.state (held_state K m n) ≡ stood K h n (count h) =
      D.states n in' ∙ latest_append K.origin n es new ∙ latest_none (latest K.origin n es) n new (restoring_owned n) ∙ sym (present K h n) in
      let u : PS = t m n logs head state in
      let e : Entry K.State = record { cell = n; state = stood K h n to } in
      let done : put_back K from to m n ≡ kept m (cond (same? n) (Ok m) (written K m n u)) =
      ap (λ r. kept m (and_then r (λ x. cond (alike K (held_state K m n) x) (Ok m) (written K m n x)))) (earlier_is m n logs head state)
      ∙ ap (λ b. kept m (cond b (Ok m) (written K m n u))) (alike_is m n logs head state) in
      elim (cases_Bool (same? n)) [
        | inl q ↦
            subst (λ w. Canonical K (back_to (suc n)) w) (sym (done ∙ ap (kept m) (cond-true (same? n) (Ok m) (written K m n u) q)))
            (subst (λ xs. Canonical K (extended h xs) m) (sym (ap (λ xs. new ++ xs) (cond-true (same? n) [] (e ∷ []) q) ∙ append-nil new)) D)
        | inr q ↦
            (let one : ◌≡◌ {A = ℕ} (cond (same? n) 0 1) 1 = cond-false (same? n) 0 1 q in
            let room : count (back_to n) < h.capacity = omega (arith, length-append es new) in
            let w : Memory PS PC = after K L D n u in' in
            let E : Canonical K (extended (back_to n) (record { cell = n; state = K.state u } ∷ [])) w = write_canonical K L D n u in' room in
            let same : (es ++ new) ++ record { cell = n; state = K.state u } ∷ [] ≡ es ++ (new ++ cond (same? n) [] (e ∷ [])) =
            append_assoc es new (record { cell = n; state = K.state u } ∷ [])
            ∙ ap (λ s. es ++ (new ++ record { cell = n; state = s } ∷ [])) (t_is m n logs head state)
            ∙ ap (λ xs. es ++ (new ++ xs)) (sym (cond-false (same? n) [] (e ∷ []) q)) in
            subst (λ x. Canonical K (back_to (suc n)) x) (sym (done ∙ ap (kept m) (cond-false (same? n) (Ok m) (written K m n u) q ∙ write_taken K L D n u in' room)))
            (subst (λ xs. Canonical K (record { cells = h.cells; capacity = h.capacity; entries = xs }) w) same E))
      ]

  -- the whole call
  abbrev after_space : ℕ → ℕ → Result (Memory PS PC) Refusal
  after_space n k = refuse_if (ltb (length v.records) (n + k)) Full (Ok (put_all_back K n to v (length v.cells)))

  abbrev after_moment : ℕ → Result (Memory PS PC) Refusal
  after_moment n = and_then (all_needed K n to v (length v.cells)) (after_space n)

  abbrev all : List (Entry K.State)
  all = restored K h to

  checked : reverted K v to ≡ refuse_if (ltb from to) Moment (after_moment from)
  unfolding reverted
  checked =
      ap (λ r. and_then r (λ _. refuse_if (ltb v.count to) Moment (after_moment v.count))) (sound_is K C)
      ∙ ap (λ n. refuse_if (ltb n to) Moment (after_moment n)) C.counts

  revert_late : from < to → reverted K v to ≡ Err Moment
  revert_late late = checked ∙ cond-true (ltb from to) (Err Moment) (after_moment from) (lt-ltb from to late)

  abbrev final : Memory PS PC
  final = put_all_back K from to v h.cells

  abbrev full? : Bool
  full? = ltb h.capacity (from + length all)

  all_tried : after_moment from ≡ refuse_if full? Full (Ok final)
  all_tried =
      ap (λ n. and_then (all_needed K from to v n) (λ k. refuse_if (ltb (length v.records) (from + k)) Full (Ok (put_all_back K from to v n)))) C.all_cells
      ∙ ap (λ r. and_then r (λ k. refuse_if (ltb (length v.records) (from + k)) Full (Ok final))) (all_needs h.cells (omega arith))
      ∙ ap (λ n. refuse_if (ltb n (from + length all)) Full (Ok final)) C.all_records

  abbrev taken? : Bool
  taken? = leb to from && leb (from + length all) h.capacity

  pub revert_keeps : Canonical K (fed K h (revert to)) (run K v (revert to))
  revert_keeps =
      subst (λ r. Canonical K (cond taken? (extended h all) h) (kept v r)) (sym checked)
      (taken_if K (extended h all) (ltb from to) taken? Moment (after_moment from) C (λ t. grind (arith, nat_tests))
      (λ t. subst (λ r. Canonical K (cond taken? (extended h all) h) (kept v r)) (sym all_tried)
      (taken_if K (extended h all) full? taken? Full (Ok final) C (λ t'. grind (arith, nat_tests))
      (λ t'.
      let yes : taken? ≡ true = grind (arith, nat_tests) in
      subst (λ b. Canonical K (cond b (extended h all) h) final) (sym yes) (puts_back h.cells (omega arith) (ltb-false h.capacity (from + length all) t'))))))

  pub revert_told : replied K v (revert to) ≡ predicted K h (revert to)
  revert_told =
      let shown : Result (Memory PS PC) Refusal → Reply K.State K.Change = λ r. reply counted (count_of r) in
      let there : Reply K.State K.Change = counted (from + length all) in
      ap shown checked
      ∙ reply_if shown (ltb from to) Moment (after_moment from) (cond full? (refused Full) there) refl
      (λ _. ap shown all_tried ∙ reply_if shown full? Full (Ok final) there refl
      (λ t. ap (λ n. counted n) ((puts_back h.cells (omega arith) (ltb-false h.capacity (from + length all) t)).counts ∙ length-append es all)))
