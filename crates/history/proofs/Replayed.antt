-- What replay answers on the memory that a history leaves. Assumes nothing.
use Rattle.std.proofs.Common.{◌≡◌, ℕ, zero, suc, ◌+◌, ◌<◌, ◌≤◌, Bool, cond, not, eqb, ltb, leb, List, [], ◌∷◌, map, length, get_or, take, set, Ok, Err, Result, sym, refl, ap, ◌∙◌, arith}
use Rattle.std.proofs.lemmas.List.{length-set, length-replicate, get_or-replicate}
use Rattle.std.proofs.lemmas.Bool.{cond-false, eq-eqb, eqb-true, le-ltb, ltb-false, lt-leb, not_from_true, not-false}
use Rattle.kind.specs.Answers.{and_then, each_below, refuse_if, refused_as}
use Rattle.kind.specs.Model.{Model, Laws}
use Rattle.kind.proofs.Tried.{each_ok}
use Rattle.journal.specs.declared.faults.LadderFault.TheVariants.{Cell}
use Rattle.journal.specs.declared.record.Record.{Record}
use Rattle.journal.specs.Links.{numbered}
use Rattle.volume.specs.Calls.{origin}
use Rattle.volume.specs.Memory.{Memory}
use Rattle.volume.specs.Replays.{cell_known, played_to, replayed}
use Rattle.volume.specs.Rolls.{acted}
use Rattle.volume.specs.declared.refusal.Refusal.{Refusal}
use Rattle.volume.specs.declared.refusal.Refusal.TheVariants.{Image, Moment, Ladder}
use Rattle.history.specs.Calls.{Reply, states, refused, reply, replay, replied, predicted}
use Rattle.history.specs.History.{History, count, latest, stood, image}
use Rattle.history.specs.Promises.{Replays}
use Rattle.history.proofs.Canonical.{Canonical, sound_is}
use Rattle.history.proofs.Entered.{latest_append}
use Rattle.history.proofs.Images.{map_by_cells, set_read}
use Rattle.history.proofs.Nth.{Nth, nth}
use Rattle.history.proofs.Results.{reply_if}

module _ {PS PC : Type 0} (K : Model PS PC) (L : Laws K) {h : History K.State} {v : Memory PS PC} (C : Canonical K h v) where
  abbrev pub played_up : ℕ → List PS
  played_up n = played_to K h.cells v.records n

  played_length : (n : ℕ) → length (played_up n) ≡ h.cells
  played_length zero = length-replicate h.cells (origin K)
  played_length (suc n) = length-set (played_up n) _ _ ∙ played_length n

  -- after n records each cell is as it stood at moment n
  played_at : (n : ℕ) → n ≤ count h → (c : ℕ) → c < h.cells → K.state (get_or (played_up n) c (origin K)) ≡ stood K h c n
  played_at zero l c in' = ap K.state (get_or-replicate h.cells c (origin K) (origin K) in') ∙ L.state_plain K.origin
  played_at (suc n) l c in' =
      let N : Nth K L C n = nth K L C n (omega arith) in
      let one : suc n ≡ n + 1 = omega arith in
      let r : Record PC = numbered K v.records (suc n) in
      let d : ℕ = N.entry.cell in
      let cell : r.cell ≡ d = ap (λ k. (numbered K v.records k).cell) one ∙ N.cell in
      let change : K.change r.change ≡ K.diff (stood K h d n) N.entry.state = ap (λ k. K.change (numbered K v.records k).change) one ∙ N.change in
      let past : List PS = played_up n in
      let new : PS = acted K r.change (get_or past r.cell (origin K)) in
      let size = played_length n in
      let now : stood K h c (suc n) ≡ cond (eqb d c) N.entry.state (stood K h c n) = ap (λ k. latest K.origin c (take k h.entries)) one ∙ ap (latest K.origin c) N.next ∙ latest_append K.origin c (take n h.entries) (N.entry ∷ []) in
      let made : K.state new ≡ N.entry.state =
      L.state_plain (K.act (K.change r.change) (K.state (get_or past r.cell (origin K))))
      ∙ ap (λ k. K.act (K.change r.change) (K.state (get_or past k (origin K)))) cell
      ∙ ap (K.act (K.change r.change)) (played_at n (omega arith) d N.owned)
      ∙ ap (λ f. K.act f (stood K h d n)) change ∙ L.diff_acts (stood K h d n) N.entry.state in
      ap (λ k. K.state (get_or (set past k new) c (origin K))) cell
      ∙ set_read K.state past d c new (origin K) (omega (arith, N.owned))
      ∙ ap (λ s. cond (eqb d c) s (K.state (get_or past c (origin K)))) made
      ∙ ap (cond (eqb d c) N.entry.state) (played_at n (omega arith) c in') ∙ sym now

  pub known : (n : ℕ) → n ≤ count h → each_below (cell_known K h.cells v.records) n ≡ Ok tt
  known n l =
      each_ok (cell_known K h.cells v.records) n
      (λ i low.
      let N : Nth K L C i = nth K L C i (omega arith) in
      let in' : (numbered K v.records (i + 1)).cell < h.cells = omega (arith, N.cell, N.owned) in
      (tt, cond-false (leb h.cells (numbered K v.records (i + 1)).cell) (Err (Cell (i + 1))) (Ok tt) (lt-leb h.cells (numbered K v.records (i + 1)).cell in')))

  played_stands : (n : ℕ) → n ≤ count h → map K.state (played_up n) ≡ image K h n
  played_stands n l = map_by_cells K.state (origin K) K.origin (played_up n) (λ c. stood K h c n) h.cells (played_length n) (λ c low. played_at n l c low)

  module _ (im : List PS) (m : ℕ) where
    abbrev tries : ℕ → Result (List PS) Refusal
    tries n = and_then (refused_as Ladder (each_below (cell_known K n v.records) m)) (λ _. Ok (played_to K n v.records m))

    abbrev odd? : Bool
    odd? = not (eqb (length im) h.cells)

    abbrev timed : Result (List PS) Refusal
    timed = refuse_if (ltb (count h) m) Moment (tries (length im))

    checked : replayed K v im m ≡ refuse_if odd? Image timed
    unfolding replayed
    checked =
        ap (λ r. and_then r (λ _. refuse_if (not (eqb (length im) (length v.cells))) Image (refuse_if (ltb v.count m) Moment (tries (length im))))) (sound_is K C)
        ∙ ap (λ n. refuse_if (not (eqb (length im) n)) Image (refuse_if (ltb v.count m) Moment (tries (length im)))) C.all_cells
        ∙ ap (λ n. refuse_if odd? Image (refuse_if (ltb n m) Moment (tries (length im)))) C.counts

    made : length im ≡ h.cells → m ≤ count h → tries (length im) ≡ Ok (played_up m)
    made even l = ap tries even ∙ ap (λ r. and_then (refused_as Ladder r) (λ _. Ok (played_up m))) (known m l)

    pub replay_told : replied K v (replay im m) ≡ predicted K h (replay im m)
    replay_told =
        let shown : Result (List PS) Refusal → Reply K.State K.Change = reply (λ ss. states (map K.state ss)) in
        let there : Reply K.State K.Change = states (image K h m) in
        ap shown checked
        ∙ reply_if shown odd? Image timed (cond (ltb (count h) m) (refused Moment) there) refl
        (λ t. reply_if shown (ltb (count h) m) Moment (tries (length im)) there refl
        (λ t'.
        let low : m ≤ count h = ltb-false (count h) m t' in
        ap shown (made (eqb-true (length im) h.cells (not-false (eqb (length im) h.cells) t)) low) ∙ ap (λ ss. states ss) (played_stands m low)))

    pub replays_there : length im ≡ h.cells → m ≤ count h → Replays K h v im m
    replays_there even l =
        record {
          made = played_up m;
          answered =
              checked ∙ cond-false odd? (Err Image) timed (not_from_true (eqb (length im) h.cells) (eq-eqb (length im) h.cells even))
              ∙ cond-false (ltb (count h) m) (Err Moment) (tries (length im)) (le-ltb (count h) m l) ∙ made even l;
          there = played_stands m l;
        }
