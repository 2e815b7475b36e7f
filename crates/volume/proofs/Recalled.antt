-- A recall that no test refuses. Assumes nothing.
use Rattle.std.proofs.Common.{◌≡◌, ℕ, ◌<◌, ◌≤◌, false, ltb, leb, List, None, Ok, Err, Result, sym, ap, ◌∙◌}
use Rattle.std.specs.Result.{result_map_both}
use Rattle.std.proofs.lemmas.Bool.{le-ltb, lt-leb}
use Rattle.kind.specs.Model.{Model, Laws}
use Rattle.file.specs.declared.faults.FileFault.{FileFault}
use Rattle.file.specs.declared.header.Header.{Header}
use Rattle.file.specs.Header.{header_of}
use Rattle.file.specs.States.{state_after}
use Rattle.volume.specs.Recalls.{told_from}

module _ {PS PC : Type 0} (K : Model PS PC) (laws : Laws K) where
  -- the state that a plain answer stands for
  state_was : (p : PS) (r : Result K.State FileFault) → Ok p ≡ result_map_both K.plain_state (λ e. e) r → r ≡ Ok (K.state p)
  state_was p (Ok s) h = let e : p ≡ K.plain_state s = cc in ap (λ s. Ok s) (sym (laws.state_plain s)) ∙ ap (λ p. Ok (K.state p)) (sym e)
  state_was p (Err d) h = cc

  pub told_right : (f : List ℕ) (cell moment area : ℕ) (h : Header) (p : PS) → Ok h ≡ header_of K None f → K.width ≤ area → cell < h.cells → moment ≤ h.count → Ok p ≡ result_map_both K.plain_state (λ e. e) (state_after K f cell moment) → told_from K f cell moment area ≡ Ok (K.state_form (K.state p))
  told_right f cell moment area h p eh wide low soon es =
      let e0 = sym eh in
      let e1 : ltb area K.width ≡ false = le-ltb area K.width wide in
      let e2 : leb h.cells cell ≡ false = lt-leb h.cells cell low in
      let e3 : ltb h.count moment ≡ false = le-ltb h.count moment soon in
      let e4 = state_was p (state_after K f cell moment) es in
      rw (e4, e0, e1, e2, e3)
