-- What roll answers on the memory that a history leaves. Assumes nothing.
use Rattle.std.proofs.Common.{◌≡◌, ℕ, ◌<◌, ◌≤◌, Bool, cond, not, ◌||◌, eqb, ltb, List, map, length, get_or, Ok, Err, Result, sym, refl, ap, ◌∙◌, arith}
use Rattle.std.proofs.lemmas.List.FromFn.{length-map-range_with_len, get_or-map-range_with_len}
use Rattle.std.proofs.lemmas.List.{get_or-map, length-map}
use Rattle.std.proofs.lemmas.Bool.{cond-false, or_from, eq-eqb, eqb-true, le-ltb, not_from_true, not-false}
use Rattle.std.specs.List.{range_with_len}
use Rattle.kind.specs.Answers.{and_then, each_below, refuse_if, refused_as}
use Rattle.kind.specs.Model.{Model, Laws}
use Rattle.kind.proofs.Tried.{each_ok}
use Rattle.volume.specs.Calls.{origin}
use Rattle.volume.specs.Memory.{Memory}
use Rattle.volume.specs.Rolls.{across, swept, rolled}
use Rattle.volume.specs.declared.refusal.Refusal.{Refusal}
use Rattle.volume.specs.declared.refusal.Refusal.TheVariants.{Image, Moment, Ladder}
use Rattle.history.specs.Calls.{Reply, states, refused, reply, roll, replied, predicted}
use Rattle.history.specs.History.{History, count, stood, image}
use Rattle.history.specs.Promises.{Rolls}
use Rattle.history.proofs.Canonical.{Canonical, sound_is}
use Rattle.history.proofs.Images.{map_by_cells}
use Rattle.history.proofs.Results.{reply_if}
use Rattle.history.proofs.Spanned.{spans, got, got_is, onward_diff}

module _ {PS PC : Type 0} (K : Model PS PC) (L : Laws K) {h : History K.State} {v : Memory PS PC} (C : Canonical K h v) (im : List PS) (a b : ℕ) where
  abbrev final : List PS
  final = map (λ c. swept K (across K v a b c) (get_or im c (origin K))) (range_with_len 0 (length im))

  abbrev all : Result (List PS) Refusal
  all = and_then (refused_as Ladder (each_below (across K v a b) (length im))) (λ _. Ok final)

  abbrev odd? : Bool
  odd? = not (eqb (length im) h.cells)

  abbrev late? : Bool
  late? = ltb (count h) a || ltb (count h) b

  checked : rolled K v im a b ≡ refuse_if odd? Image (refuse_if late? Moment all)
  unfolding rolled
  checked =
      ap (λ r. and_then r (λ _. refuse_if (not (eqb (length im) (length v.cells))) Image (refuse_if (ltb v.count a || ltb v.count b) Moment all))) (sound_is K C)
      ∙ ap (λ n. refuse_if (not (eqb (length im) n)) Image (refuse_if (ltb v.count a || ltb v.count b) Moment all)) C.all_cells
      ∙ ap (λ n. refuse_if odd? Image (refuse_if (ltb n a || ltb n b) Moment all)) C.counts

  module _ (even : length im ≡ h.cells) where
    tried : all ≡ Ok final
    tried =
        ap (λ r. and_then (refused_as Ladder r) (λ _. Ok final))
        (each_ok (across K v a b) (length im) (λ c l. let in' : c < h.cells = omega arith in (got K L C c in' a b, spans K L C c in' a b)))

    -- each state is acted on by the difference of how its cell stood
    abbrev moved : ℕ → K.State
    moved c = K.act (K.diff (stood K h c a) (stood K h c b)) (K.state (get_or im c (origin K)))

    final_at : (c : ℕ) → c < h.cells → K.state (get_or final c (origin K)) ≡ moved c
    final_at c l =
        ap K.state (get_or-map-range_with_len (λ c. swept K (across K v a b c) (get_or im c (origin K))) 0 (length im) c c (origin K) (omega arith) (omega arith))
        ∙ ap (λ r. K.state (swept K r (get_or im c (origin K)))) (spans K L C c l a b)
        ∙ L.state_plain (K.act (K.change (got K L C c l a b).change) (K.state (get_or im c (origin K))))
        ∙ ap (λ f. K.act f (K.state (get_or im c (origin K)))) (got_is K L C c l a b ∙ onward_diff K L C c a b)

    final_by : (f : ℕ → K.State) → ((c : ℕ) → c < h.cells → moved c ≡ f c) → map K.state final ≡ map f (range_with_len 0 h.cells)
    final_by f is =
        map_by_cells K.state (origin K) K.origin final f h.cells (length-map-range_with_len (λ c. swept K (across K v a b c) (get_or im c (origin K))) 0 (length im) ∙ even)
        (λ c l. final_at c l ∙ is c l)

  pub roll_told : replied K v (roll im a b) ≡ predicted K h (roll im a b)
  roll_told =
      let shown : Result (List PS) Refusal → Reply K.State K.Change = reply (λ ss. states (map K.state ss)) in
      let there : Reply K.State K.Change = states (map (λ c. K.act (K.diff (stood K h c a) (stood K h c b)) (K.state (get_or im c (origin K)))) (range_with_len 0 h.cells)) in
      ap shown checked
      ∙ reply_if shown odd? Image (refuse_if late? Moment all) (cond late? (refused Moment) there) refl
      (λ t.
      let even : length im ≡ h.cells = eqb-true (length im) h.cells (not-false (eqb (length im) h.cells) t) in
      reply_if shown late? Moment all there refl (λ _. ap shown (tried even) ∙ ap (λ ss. states ss) (final_by even (moved even) (λ _ _. refl))))

  pub rolls_there : map K.state im ≡ image K h a → a ≤ count h → b ≤ count h → Rolls K h v im a b
  rolls_there same x y =
      let even : length im ≡ h.cells = sym (length-map im K.state) ∙ ap length same ∙ length-map-range_with_len (λ c. stood K h c a) 0 h.cells in
      let at : (c : ℕ) → c < h.cells → K.state (get_or im c (origin K)) ≡ stood K h c a = λ c l.
      sym (get_or-map K.state im c (origin K) K.origin (omega arith)) ∙ ap (λ ss. get_or ss c K.origin) same
      ∙ get_or-map-range_with_len (λ c. stood K h c a) 0 h.cells c c K.origin l (omega arith) in
      record {
        moved = final;
        answered =
            checked ∙ cond-false odd? (Err Image) (refuse_if late? Moment all) (not_from_true (eqb (length im) h.cells) (eq-eqb (length im) h.cells even))
            ∙ cond-false late? (Err Moment) all (or_from (ltb (count h) a) (ltb (count h) b) (le-ltb (count h) a x) (le-ltb (count h) b y)) ∙ tried even;
        there = final_by even (λ c. stood K h c b) (λ c l. ap (K.act (K.diff (stood K h c a) (stood K h c b))) (at c l) ∙ L.diff_acts (stood K h c a) (stood K h c b));
      }
