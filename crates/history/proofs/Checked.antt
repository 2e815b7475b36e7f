-- What check answers on the memory that a history leaves. Assumes nothing.
use Rattle.std.proofs.Common.{◌≡◌, ℕ, ◌≤◌, not, eqb, List, map, length, Ok, Err, Result, sym, refl, ap, ◌∙◌, inl, inr, arith, lit≤}
use Rattle.std.proofs.lemmas.Bool.Decides.{nat_tests}
use Rattle.std.proofs.lemmas.Bool.{cases_eq, cond-true, cond-false, eq-eqb, ne_eqb, not_from_true, not_from_false}
use Rattle.std.specs.List.{range_with_len}
use Rattle.kind.specs.Answers.{and_then, refused_as, kept}
use Rattle.kind.specs.Model.{Model, Laws}
use Rattle.volume.specs.Checks.{judged, before_wrong, noted, workable, checked, work_after}
use Rattle.volume.specs.Memory.{Memory}
use Rattle.volume.specs.Sizes.{sized, sound}
use Rattle.volume.specs.declared.refusal.Refusal.{Refusal}
use Rattle.volume.specs.declared.refusal.Refusal.TheVariants.{Heads, Unsound}
use Rattle.history.specs.Calls.{Reply, row, refused, reply, check, replied, predicted}
use Rattle.history.specs.History.{History, last_entry}
use Rattle.history.specs.Soundness.{CountsAs}
use Rattle.history.proofs.Accepts.{records_fine, accepts}
use Rattle.history.proofs.Canonical.{Sizes, sized_ok, Canonical, sound_is}
use Rattle.history.proofs.Entered.{writes_head}
use Rattle.history.proofs.Images.{by_cells}
use Rattle.history.proofs.Newest.{newest_length, newest, newest_all}

module _ {PS PC : Type 0} (K : Model PS PC) (L : Laws K) {h : History K.State} {v : Memory PS PC} (C : Canonical K h v) where
  itself : CountsAs K v v
  itself =
      record {
        count = refl;
        heads = refl;
        cells = refl;
        records = λ i l. record { cell = refl; next = refl; skip = refl; length = refl; foot = refl; change = refl; fold = refl };
      }

  fits : v.count ≤ length v.records
  fits = omega (arith, C.counts, C.fits, C.all_records)

  -- the work row
  noted_is : noted K v ≡ map (last_entry h) (range_with_len 0 h.cells)
  noted_is =
      ap (λ r. newest K L C (before_wrong K v.count r)) (records_fine K L C v itself C.sizes fits)
      ∙ by_cells 0 (newest K L C v.count) (last_entry h) h.cells (newest_length K (length v.cells) v.records v.count ∙ C.all_cells)
      (λ c l. newest_all K L C c l ∙ writes_head K h.entries c)

  module _ (work : List ℕ) where
    abbrev rest : Result (Unit {0}) Refusal
    rest = sound (length v.cells) (length v.heads) (length v.records) v.count

    work_odd : (length work ≡ h.cells → ⊥) → workable K v work ≡ Err Heads
    work_odd n =
        let some : 1 ≤ length v.cells = C.sizes.some_cells in
        let few : length v.cells ≤ 4096 = C.sizes.few_cells in
        let all : length v.cells ≡ h.cells = C.all_cells in
        let no_work : sized (length v.cells) (length work) 0 ≡ Err Heads = grind (arith, nat_tests) in
        ap (λ r. and_then r (λ _. rest)) no_work

    work_even : length work ≡ h.cells → workable K v work ≡ Ok tt
    work_even e =
        let z : Sizes (length v.cells) (length work) 0 =
        record { some_cells = C.sizes.some_cells; few_cells = C.sizes.few_cells; even = e ∙ sym C.all_cells; few_records = lit≤ tt } in
        ap (λ r. and_then r (λ _. rest)) (sized_ok z) ∙ sound_is K C

    row_even : length work ≡ h.cells → work_after K v work ≡ map (last_entry h) (range_with_len 0 h.cells)
    unfolding work_after
    row_even e = ap (λ r. kept work (and_then r (λ _. Ok (noted K v)))) (work_even e) ∙ noted_is

    pub check_told : replied K v (check work) ≡ predicted K h (check work)
    unfolding checked
    check_told =
        let R : Type 0 = Reply K.State K.Change in
        let shown : Result (Unit {0}) Refusal → R = reply (λ _. row (work_after K v work)) in
        let there : R = row (map (last_entry h) (range_with_len 0 h.cells)) in
        elim (cases_eq (length work) h.cells) [
          | inr n ↦
              ap shown (ap (λ r. and_then r (λ _. refused_as Unsound (judged K v))) (work_odd n))
              ∙ sym (cond-true (not (eqb (length work) h.cells)) (refused Heads) there (not_from_false (eqb (length work) h.cells) (ne_eqb (length work) h.cells n)))
          | inl e ↦
              ap shown (accepts K L C v itself C.sizes fits work (e ∙ sym C.all_cells)) ∙ ap (λ ns. row ns) (row_even e)
              ∙ sym (cond-false (not (eqb (length work) h.cells)) (refused Heads) there (not_from_true (eqb (length work) h.cells) (eq-eqb (length work) h.cells e)))
        ]
