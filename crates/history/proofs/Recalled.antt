-- What the file of a history says, record by record: its entries, and each cell at each moment. Assumes nothing.
use Rattle.std.proofs.Common.{◌≡◌, ℕ, zero, suc, ◌+◌, ◌*◌, ◌<◌, ◌≤◌, min, Bool, false, cond, not, eqb, ltb, leb, List, [], ◌∷◌, ◌++◌, length, get_or, take, drop, Some, None, Ok, Err, Option, Result, sym, refl, ap, ◌∙◌, subst, inl, inr, arith}
use Rattle.std.proofs.Math.Seq.{split_at}
use Rattle.std.proofs.lemmas.List.{length-append, length-take, take_more}
use Rattle.std.proofs.lemmas.Bool.Decides.{nat_tests}
use Rattle.std.proofs.lemmas.Bool.{cases_Bool, cond-true, cond-false, eqb-true, eq-eqb, lt-leb, le-ltb, not_from_true}
use Rattle.kind.specs.Answers.{and_then, refuse_if, refused_as}
use Rattle.kind.specs.Model.{Model, Laws}
use Rattle.file.specs.declared.faults.FileFault.{FileFault}
use Rattle.file.specs.declared.faults.FileFault.TheVariants.{Cell, Next, Change}
use Rattle.file.specs.declared.header.Handed.{Handed}
use Rattle.file.specs.declared.header.Header.{Header}
use Rattle.file.specs.Changes.{change_read}
use Rattle.file.specs.Forms.{Line, header_form, record_form, records_form, file_form}
use Rattle.file.specs.Header.{cells_at, other_cells, past_room, header_of}
use Rattle.file.specs.Records.{Parts, parts_of, record_bytes}
use Rattle.file.specs.States.{saved, change_for, moved, last_of, replayed, state_after}
use Rattle.file.proofs.Backs.{header_back, record_back, placed, long}
use Rattle.volume.specs.Memory.{Memory}
use Rattle.volume.specs.Recalls.{recalled}
use Rattle.volume.specs.declared.refusal.Refusal.{Refusal}
use Rattle.volume.specs.declared.refusal.Refusal.TheVariants.{File, Area, Cell as NoCell, Moment}
use Rattle.history.specs.Files.{line, lines_on, file_of_history, entry_read, entries_read}
use Rattle.history.specs.History.{History, Entry, count, latest, last_number, stood}
use Rattle.history.proofs.Canonical.{Owned, owned_at, Canonical}
use Rattle.history.proofs.Entered.{latest_append, last_append}
use Rattle.history.proofs.Filed.{lines_append, lines_length}
use Rattle.history.proofs.Loaded.{passed}
use Rattle.history.proofs.Nth.{no_entry}

-- the last entry's number is no more than the entries
last_low : {S : Type 0} (before found c : ℕ) (xs : List (Entry S)) → found ≤ before → last_number before found c xs ≤ before + length xs
last_low before found c [] l = omega arith
last_low before found c (x ∷ xs) l =
    let b : Bool = eqb x.cell c in
    let new : cond b (before + 1) found ≤ before + 1 = grind (arith, nat_tests) in
    let r = last_low (before + 1) (cond b (before + 1) found) c xs new in
    omega arith

module _ {PS PC : Type 0} (K : Model PS PC) (L : Laws K) where
  -- a history that a volume can have
  pub record Fit (h : History K.State) : Type 0 where
    pub some_cells : 1 ≤ h.cells
    pub few_cells : h.cells ≤ 4096
    pub few_entries : count h ≤ 65535
    pub owned : Owned h.cells h.entries

  pub fit : {h : History K.State} {v : Memory PS PC} → Canonical K h v → Fit h
  fit {h} {v} C =
      record {
        some_cells = omega (arith, C.sizes.some_cells, C.all_cells);
        few_cells = omega (arith, C.sizes.few_cells, C.all_cells);
        few_entries = omega (arith, C.fits, C.all_records, C.sizes.few_records);
        owned = C.owned;
      }

  module _ (h : History K.State) (W : Fit h) where
    abbrev es : List (Entry K.State)
    es = h.entries

    abbrev lines : List (Line K)
    lines = lines_on K [] es

    abbrev pub F : List ℕ
    F = file_of_history K h

    all : length lines ≡ count h
    all = lines_length K [] es

    rest_long : length (records_form K lines) ≡ length lines * (6 + K.width)
    rest_long =
        let whole = long K L h.cells lines in
        let both = length-append (header_form K.letter h.cells (length lines)) (records_form K lines) in
        omega (arith, whole, both)

    -- the header is read back
    pub header_is : (handed : Option Handed) → other_cells handed h.cells ≡ false → past_room handed (count h) ≡ false →
        header_of K handed F ≡ Ok (record { letter = K.letter; cells = h.cells; count = count h })
    header_is handed p q =
        header_back K handed h.cells (length lines) (records_form K lines)
        (record { some_cells = W.some_cells; few_cells = W.few_cells; few_records = omega (arith, all, W.few_entries); long = rest_long })
        p (ap (past_room handed) all ∙ q)
        ∙ ap (λ n. Ok (record { letter = K.letter; cells = h.cells; count = n })) all

    cells_is : cells_at F ≡ h.cells
    cells_is =
        let P = passed K None F (record { letter = K.letter; cells = h.cells; count = count h }) (header_is None refl refl) in
        ap (λ (x : Header). x.cells) P.is

    -- entry n + 1, and its record in the file
    pub record NthLine (n : ℕ) : Type 0 where
      pub entry : Entry K.State
      pub next : take (n + 1) es ≡ take n es ++ entry ∷ []
      pub owned : entry.cell < h.cells
      pub parts : saved K F (suc n) ≡ record { next = last_number 0 0 entry.cell (take n es); cell = entry.cell; change = K.change_form (K.diff (latest K.origin entry.cell (take n es)) entry.state) }

    pub nth_line : (n : ℕ) → n < count h → NthLine n
    nth_line n l =
        let us : List (Entry K.State) = take n es in
        let e : Entry K.State = get_or es n (no_entry K) in
        let vs : List (Entry K.State) = drop (suc n) es in
        let cut : es ≡ us ++ e ∷ vs = split_at es n (no_entry K) l in
        let whole : lines ≡ lines_on K [] us ++ line K us e ∷ lines_on K (us ++ e ∷ []) vs = ap (lines_on K []) cut ∙ lines_append K [] us (e ∷ vs) in
        let short : length us ≡ n = length-take n es ∙ omega arith in
        let size : length (lines_on K [] us) + 1 ≡ suc n = ap (λ k. k + 1) (lines_length K [] us ∙ short) ∙ omega arith in
        let low : e.cell < h.cells = owned_at h.cells us e vs (subst (Owned h.cells) cut W.owned) in
        let bytes : record_bytes K.width F (suc n) ≡ record_form K (line K us e) =
        ap (λ ls. record_bytes K.width (file_form K h.cells ls) (suc n)) whole
        ∙ ap (record_bytes K.width (file_form K h.cells (lines_on K [] us ++ line K us e ∷ lines_on K (us ++ e ∷ []) vs))) (sym size)
        ∙ placed K L h.cells (lines_on K [] us) (lines_on K (us ++ e ∷ []) vs) (line K us e) in
        record {
          entry = e;
          next = take_more es n (no_entry K) l;
          owned = low;
          parts = ap parts_of bytes ∙ record_back K (line K us e) (record { next = omega (arith, last_low 0 0 e.cell us (omega arith), W.few_entries); cell = omega (arith, W.few_cells) });
        }

    -- the entries are read back
    pub entries_back : (n : ℕ) → n ≤ count h → entries_read K h.cells F n ≡ Ok (take n es)
    entries_back zero l = refl
    entries_back (suc n) l =
        let N = nth_line n l in
        let e : Entry K.State = N.entry in
        let us : List (Entry K.State) = take n es in
        let one : n + 1 ≡ suc n = omega arith in
        let g : K.Change = K.diff (latest K.origin e.cell us) e.state in
        let x : ℕ = last_number 0 0 e.cell us in
        let on : K.Change → Result (List (Entry K.State)) FileFault = λ g. Ok (us ++ record { cell = e.cell; state = K.act g (latest K.origin e.cell us) } ∷ []) in
        let read : Result (List (Entry K.State)) FileFault = and_then (change_read K (suc n) (K.change_form g)) on in
        ap (λ r. and_then r (entry_read K h.cells (suc n) (saved K F (suc n)))) (entries_back n (omega arith))
        ∙ ap (λ p. entry_read K h.cells (suc n) p us) N.parts
        ∙ cond-false (leb h.cells e.cell) (Err (Cell (suc n))) (refuse_if (not (eqb x x)) (Next (suc n)) read) (lt-leb h.cells e.cell N.owned)
        ∙ cond-false (not (eqb x x)) (Err (Next (suc n))) read (not_from_true (eqb x x) (eq-eqb x x refl))
        ∙ ap (λ r. and_then (refused_as (Change (suc n)) r) on) (L.read_back g)
        ∙ ap (λ s. Ok (us ++ record { cell = e.cell; state = s } ∷ [])) (L.diff_acts (latest K.origin e.cell us) e.state)
        ∙ ap Ok (sym N.next ∙ ap (λ k. take k es) one)

    -- a cell's last record, and its state
    lasts : (c n : ℕ) → n ≤ count h → last_of K F c n ≡ last_number 0 0 c (take n es)
    lasts c zero l = refl
    lasts c (suc n) l =
        let N = nth_line n l in
        let e : Entry K.State = N.entry in
        let one : n + 1 ≡ suc n = omega arith in
        let short : 0 + length (take n es) + 1 ≡ suc n = omega (arith, length-take n es) in
        ap (λ (p : Parts). cond (eqb p.cell c) (suc n) (last_of K F c n)) N.parts
        ∙ ap (cond (eqb e.cell c) (suc n)) (lasts c n (omega arith))
        ∙ ap (λ k. cond (eqb e.cell c) k (last_number 0 0 c (take n es))) (sym short)
        ∙ sym (last_append 0 0 c (take n es) (e ∷ [])) ∙ ap (last_number 0 0 c) (sym N.next ∙ ap (λ k. take k es) one)

    cell_back : (c n : ℕ) → n ≤ count h → replayed K F c n ≡ Ok (stood K h c n)
    cell_back c zero l = refl
    cell_back c (suc n) l =
        let N = nth_line n l in
        let e : Entry K.State = N.entry in
        let us : List (Entry K.State) = take n es in
        let one : n + 1 ≡ suc n = omega arith in
        let g : K.Change = K.diff (latest K.origin e.cell us) e.state in
        let x : ℕ = last_number 0 0 e.cell us in
        let s : K.State = latest K.origin c us in
        let b : Bool = eqb e.cell c in
        let read : Result (Option K.Change) FileFault = and_then (change_read K (suc n) (K.change_form g)) (λ c. Ok (Some c)) in
        let own : Result (Option K.Change) FileFault = refuse_if (not (eqb x (last_of K F c n))) (Next (suc n)) read in
        let end : Option K.Change → Result K.State FileFault = λ o. Ok (moved K o s) in
        let now : stood K h c (suc n) ≡ cond b e.state s = ap (λ k. latest K.origin c (take k es)) (sym one) ∙ ap (latest K.origin c) N.next ∙ latest_append K.origin c us (e ∷ []) in
        ap (λ r. and_then r (λ s. and_then (change_for K (cells_at F) c (suc n) (last_of K F c n) (saved K F (suc n))) (λ o. Ok (moved K o s)))) (cell_back c n (omega arith))
        ∙ ap (λ p. and_then (change_for K (cells_at F) c (suc n) (last_of K F c n) p) end) N.parts
        ∙ ap (λ k. and_then (refuse_if (leb k e.cell) (Cell (suc n)) (cond b own (Ok None))) end) cells_is
        ∙ ap (λ r. and_then r end) (cond-false (leb h.cells e.cell) (Err (Cell (suc n))) (cond b own (Ok None)) (lt-leb h.cells e.cell N.owned))
        ∙ elim (cases_Bool b) [
          | inr t ↦ ap (λ r. and_then r end) (cond-false b own (Ok None) t) ∙ ap Ok (sym (now ∙ cond-false b e.state s t))
          | inl t ↦
              (let c_is : e.cell ≡ c = eqb-true e.cell c t in
              let same : x ≡ last_of K F c n = ap (λ k. last_number 0 0 k us) c_is ∙ sym (lasts c n (omega arith)) in
              ap (λ r. and_then r end) (cond-true b own (Ok None) t)
              ∙ ap (λ r. and_then r end) (cond-false (not (eqb x (last_of K F c n))) (Err (Next (suc n))) read (not_from_true (eqb x (last_of K F c n)) (eq-eqb x (last_of K F c n) same)))
              ∙ ap (λ r. and_then (and_then (refused_as (Change (suc n)) r) (λ c. Ok (Some c))) end) (L.read_back g)
              ∙ ap (λ k. Ok (K.act (K.diff (latest K.origin k us) e.state) s)) c_is
              ∙ ap Ok (L.diff_acts s e.state ∙ sym (now ∙ cond-true b e.state s t)))
        ]

    pub recall_back : (c m area : ℕ) → c < h.cells → m ≤ count h → K.width ≤ area → recalled K F c m area ≡ Ok (K.state_form (stood K h c m))
    unfolding recalled
    recall_back c m area in' l wide =
        let hd : Header = record { letter = K.letter; cells = h.cells; count = count h } in
        let tail : Result (List ℕ) Refusal = and_then (refused_as File (state_after K F c m)) (λ s. Ok (K.state_form s)) in
        let head = header_is None refl refl in
        let least : min m (count h) ≡ m = omega arith in
        let state : state_after K F c m ≡ Ok (stood K h c m) =
        ap (λ r. and_then r (λ h. replayed K F c (min m h.count))) head ∙ ap (replayed K F c) least ∙ cell_back c m l in
        ap (λ r. and_then (refused_as File r) (λ h. refuse_if (ltb area K.width) Area (refuse_if (leb h.cells c) NoCell (refuse_if (ltb h.count m) Moment tail)))) head
        ∙ cond-false (ltb area K.width) (Err Area) (refuse_if (leb hd.cells c) NoCell (refuse_if (ltb hd.count m) Moment tail)) (le-ltb area K.width wide)
        ∙ cond-false (leb h.cells c) (Err NoCell) (refuse_if (ltb (count h) m) Moment tail) (lt-leb h.cells c in')
        ∙ cond-false (ltb (count h) m) (Err Moment) tail (le-ltb (count h) m l)
        ∙ ap (λ r. and_then (refused_as File r) (λ s. Ok (K.state_form s))) state
