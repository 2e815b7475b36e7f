-- The newest record of each cell, and what is planned and read of the records, in the memory that a history leaves. Assumes nothing.
use Rattle.std.proofs.Common.{◌≡◌, ℕ, zero, suc, ◌+◌, ◌<◌, ◌≤◌, cond, eqb, List, [], ◌∷◌, length, get_or, take, set, Ok, sym, ap, ◌∙◌, arith}
use Rattle.std.proofs.lemmas.List.{length-set, length-take, length-replicate, get_or-replicate, take_all}
use Rattle.kind.specs.Model.{Model, Laws}
use Rattle.journal.specs.declared.record.Record.{Record}
use Rattle.journal.specs.declared.walk.Stretch.{Stretch}
use Rattle.journal.specs.Appends.{planned}
use Rattle.journal.specs.Links.{numbered}
use Rattle.logs.specs.Writes.{head_of}
use Rattle.logs.proofs.Proved.{head_moves_lem}
use Rattle.volume.specs.Calls.{origin}
use Rattle.volume.specs.Checks.{newest_to}
use Rattle.volume.specs.Memory.{Memory}
use Rattle.volume.specs.Rolls.{acted}
use Rattle.history.specs.History.{History, Entry, count, stood}
use Rattle.history.proofs.Canonical.{Canonical, present}
use Rattle.history.proofs.Entered.{writes, write_of, writes_append, writes_length}
use Rattle.history.proofs.Images.{set_read}
use Rattle.history.proofs.Nth.{Nth, nth}
use Rattle.history.proofs.Spanned.{got, got_is, onward_diff}

pub newest_length : {PS PC : Type 0} (K : Model PS PC) (cells : ℕ) (rs : List (Record PC)) (n : ℕ) → length (newest_to K cells rs n) ≡ cells
newest_length K cells rs zero = length-replicate {A = ℕ} cells 0
newest_length K cells rs (suc n) = length-set (newest_to K cells rs n) (numbered K rs (suc n)).cell (suc n) ∙ newest_length K cells rs n

module _ {PS PC : Type 0} (K : Model PS PC) (L : Laws K) {h : History K.State} {v : Memory PS PC} (C : Canonical K h v) where
  abbrev es : List (Entry K.State)
  es = h.entries

  abbrev pub newest : ℕ → List ℕ
  newest n = newest_to K (length v.cells) v.records n

  newest_at : (n : ℕ) → n ≤ count h → (c : ℕ) → c < h.cells → get_or (newest n) c 0 ≡ head_of (writes K (take n es)) c
  newest_at zero l c in' = get_or-replicate {A = ℕ} (length v.cells) c 0 0 (omega (arith, C.all_cells))
  newest_at (suc n) l c in' =
      let N : Nth K L C n = nth K L C n (omega arith) in
      let one : suc n ≡ n + 1 = omega arith in
      let us : List (Entry K.State) = take n es in
      let d : ℕ = N.entry.cell in
      let cell : (numbered K v.records (suc n)).cell ≡ d = ap (λ k. (numbered K v.records k).cell) one ∙ N.cell in
      let size : length (writes K us) ≡ n = writes_length K us ∙ length-take n es ∙ omega arith in
      let long : length (newest n) ≡ h.cells = newest_length K (length v.cells) v.records n ∙ C.all_cells in
      let now : head_of (writes K (take (suc n) es)) c ≡ cond (eqb d c) (suc n) (head_of (writes K us) c) =
      ap (λ k. head_of (writes K (take k es)) c) one ∙ ap (λ xs. head_of (writes K xs) c) N.next ∙ ap (λ ws. head_of ws c) (writes_append K us (N.entry ∷ []))
      ∙ head_moves_lem K (writes K us) (write_of K us N.entry) c ∙ ap (λ k. cond (eqb d c) k (head_of (writes K us) c)) (ap (λ k. k + 1) size ∙ sym one) in
      ap (λ k. get_or (set (newest n) k (suc n)) c 0) cell
      ∙ set_read (λ (k : ℕ). k) (newest n) d c (suc n) 0 (omega (arith, N.owned))
      ∙ ap (cond (eqb d c) (suc n)) (newest_at n (omega arith) c in') ∙ sym now

  pub newest_all : (c : ℕ) → c < h.cells → get_or (newest v.count) c 0 ≡ head_of (writes K es) c
  newest_all c in' =
      ap (λ n. get_or (newest n) c 0) C.counts ∙ newest_at (count h) (omega arith) c in'
      ∙ ap (λ xs. head_of (writes K xs) c) (take_all (count h) es (omega arith))

  -- record i + 1
  abbrev pub numbers : ℕ → Record PC
  numbers i = numbered K v.records (i + 1)

  pub record_plan : (i : ℕ) → i < count h → planned K v.records (i + 1) (get_or (newest i) (numbers i).cell 0) (numbers i).cell (numbers i).change ≡ Ok (numbers i)
  record_plan i l =
      let N : Nth K L C i = nth K L C i l in
      ap (λ c. planned K v.records (i + 1) (get_or (newest i) c 0) c (numbers i).change) N.cell
      ∙ ap (λ x. planned K v.records (i + 1) x N.entry.cell (numbers i).change) (newest_at i (omega arith) N.entry.cell N.owned) ∙ N.planned_so

  pub record_low : (i : ℕ) → i < count h → (numbers i).cell < length v.cells
  record_low i l = let N : Nth K L C i = nth K L C i l in omega (arith, N.cell, N.owned, C.all_cells)

  pub cell_made : (c : ℕ) (in' : c < h.cells) → K.state (acted K (got K L C c in' 0 v.count).change (origin K)) ≡ K.state (get_or v.cells c (origin K))
  cell_made c in' =
      let f : Stretch PC = got K L C c in' 0 v.count in
      L.state_plain (K.act (K.change f.change) (K.state (origin K)))
      ∙ ap (K.act (K.change f.change)) (L.state_plain K.origin)
      ∙ ap (λ g. K.act g K.origin) (got_is K L C c in' 0 v.count ∙ onward_diff K L C c 0 v.count)
      ∙ L.diff_acts K.origin (stood K h c v.count)
      ∙ ap (stood K h c) C.counts ∙ present K h c ∙ sym (C.states c in')
