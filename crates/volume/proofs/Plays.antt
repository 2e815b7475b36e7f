-- Records played one after the other, each of which was tried. Assumes nothing.
use Rattle.std.proofs.Common.{◌≡◌, ℕ, ◌+◌, ◌<◌, ◌≤◌, leb, List, length, take, get_or, Ok, Err, sym, ap, ◌∙◌, add-one, arith, length-take-le}
use Rattle.std.proofs.lemmas.List.{get_or_default, get_or-take}
use Rattle.std.proofs.lemmas.Bool.Decides.{nat_tests}
use Rattle.std.proofs.lemmas.Bool.{le-leb, lt-leb}
use Rattle.kind.specs.Answers.{each_below, refuse_if}
use Rattle.kind.specs.Model.{Model}
use Rattle.kind.proofs.Tried.{each_at, each_more, each_stops}
use Rattle.journal.specs.declared.faults.LadderFault.TheVariants.{Cell}
use Rattle.journal.specs.declared.record.Record.{Record}
use Rattle.journal.specs.Links.{place_of, blank, numbered}
use Rattle.volume.specs.Replays.{cell_known, played, played_to}

module _ {PS PC : Type 0} (K : Model PS PC) (rs : List (Record PC)) (i : ℕ) where
  -- a walk along the first `moment` records is at record i + 1
  pub item_at : (moment : ℕ) (walked : List (Record PC)) (r : Record PC) → walked ≡ take moment rs → moment ≤ length rs → i < length walked → r ≡ get_or walked i r → r ≡ numbered K rs (i + 1)
  item_at moment walked r same l h e =
      let long : length walked ≡ moment = ap length same ∙ length-take-le moment rs l in
      let low : i < moment = omega arith in
      let there : i < length rs = omega arith in
      let place : i ≡ place_of (i + 1) = omega arith in
      e ∙ ap (λ xs. get_or xs i r) same ∙ get_or-take moment rs i r low ∙ get_or_default rs i r (blank K) there ∙ ap (λ k. get_or rs k (blank K)) place

  -- .. is of no cell, or of one: r is that record
  module _ (cells : ℕ) (r : Record PC) (before : each_below (cell_known K cells rs) i ≡ Ok tt) (is : r ≡ numbered K rs (i + 1)) where
    pub known_stop : (moment : ℕ) → i < moment → cells ≤ r.cell → Err (Cell (i + 1)) ≡ each_below (cell_known K cells rs) moment
    known_stop moment l h =
        let out = ap (leb cells) (ap (λ x. x.cell) (sym is)) ∙ le-leb cells r.cell h in
        sym (each_stops (cell_known K cells rs) moment i (Cell (i + 1)) l before (ap (λ b. refuse_if b (Cell (i + 1)) (Ok tt)) out))

    pub known_more : r.cell < cells → each_below (cell_known K cells rs) (i + 1) ≡ Ok tt
    known_more h =
        let low = ap (leb cells) (ap (λ x. x.cell) (sym is)) ∙ lt-leb cells r.cell h in
        ap (each_below (cell_known K cells rs)) (add-one i) ∙ each_more (cell_known K cells rs) i tt before (ap (λ b. refuse_if b (Cell (i + 1)) (Ok tt)) low)

  known_low : (cells : ℕ) → cell_known K cells rs i ≡ Ok tt → (numbered K rs (i + 1)).cell < cells
  known_low cells e = grind (arith, nat_tests)

  -- .. is of one of the cells
  pub tried_low : (cells moment : ℕ) (r : Record PC) → each_below (cell_known K cells rs) moment ≡ Ok tt → i < moment → r ≡ numbered K rs (i + 1) → r.cell < cells
  tried_low cells moment r e l q =
      let low = known_low cells (each_at (cell_known K cells rs) moment i e l).1 in
      omega (arith, ap (λ x. x.cell) q)

  pub plays_more : (cells : ℕ) (image after : List PS) (r : Record PC)
      → image ≡ played_to K cells rs i → r ≡ numbered K rs (i + 1) → after ≡ played K image r → after ≡ played_to K cells rs (i + 1)
  plays_more cells image after r e q a =
      a ∙ ap (λ x. played K x r) e ∙ ap (played K (played_to K cells rs i)) (q ∙ ap (numbered K rs) (add-one i)) ∙ sym (ap (played_to K cells rs) (add-one i))
