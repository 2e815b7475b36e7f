-- A load accepts just the saves of volumes that writes leave. Assumes nothing.
use Rattle.std.proofs.Common.{◌≡◌, ℕ, ◌+◌, ◌≤◌, true, not, ◌&&◌, ◌||◌, eqb, ltb, List, [], ◌∷◌, ◌++◌, length, Some, None, Ok, Err, Result, sym, refl, ap, ◌∙◌, subst, arith}
use Rattle.std.proofs.lemmas.List.{append_assoc, append-nil, length_push, take_all}
use Rattle.std.proofs.lemmas.Bool.{cond_both, cond-true, and_from, eqb-true, lt-ltb, le-ltb, eq-eqb, not_from_true, not-false, or_parts}
use Rattle.kind.specs.Answers.{and_then, refused_as}
use Rattle.kind.specs.Bytes.{bytes?}
use Rattle.kind.specs.Model.{Model, Laws}
use Rattle.file.specs.declared.faults.FileFault.{FileFault}
use Rattle.file.specs.declared.header.Handed.{Handed}
use Rattle.file.specs.declared.header.Header.{Header}
use Rattle.file.specs.Forms.{file_form}
use Rattle.file.specs.Header.{cells_at, count_at, file_length, header_of}
use Rattle.file.proofs.Backs.{long}
use Rattle.volume.specs.Calls.{formatted, emptied}
use Rattle.volume.specs.Loads.{headed, took_to, loaded}
use Rattle.volume.specs.Memory.{Memory}
use Rattle.volume.specs.Saves.{saved}
use Rattle.volume.specs.Sizes.{sized}
use Rattle.volume.specs.declared.refusal.Refusal.{Refusal}
use Rattle.volume.specs.declared.refusal.Refusal.TheVariants.{File}
use Rattle.history.specs.Calls.{write, run_all, fed, fed_all}
use Rattle.history.specs.Files.{lines_on, file_of_history, entries_read, header_read}
use Rattle.history.specs.Filing.{SavedAfterWrites, Loads, FilesThatLoad}
use Rattle.history.specs.History.{History, Entry, count, appended}
use Rattle.history.specs.Promises.{fresh}
use Rattle.history.specs.Soundness.{Asked, asks}
use Rattle.history.proofs.Canonical.{sized_only, Owned, Canonical, blank_canonical}
use Rattle.history.proofs.Decoded.{file_back}
use Rattle.history.proofs.Filed.{lines_length, save_made, save_only}
use Rattle.history.proofs.Loaded.{passed, with_entries, Tells, all_tell, heads_tell, count_fits, entries_length}
use Rattle.history.proofs.Promised.{keeps_all}
use Rattle.history.proofs.Results.{then_ok, as_ok}
use Rattle.history.proofs.Recalled.{Fit, fit, header_is, entries_back}
use Rattle.history.proofs.Written.{formats, formats_only}

module _ {PS PC : Type 0} (K : Model PS PC) (L : Laws K) where
  -- no write changes the number of cells
  asks_cells : (ws : List (Asked PS)) (h : History K.State) → (fed_all K h (asks ws)).cells ≡ h.cells
  asks_cells [] h = refl
  asks_cells (w ∷ ws) h =
      asks_cells ws (fed K h (write w.cell w.state))
      ∙ cond_both (ltb w.cell h.cells && ltb (count h) h.capacity) (appended h w.cell (K.state w.state)) h (λ g. g.cells ≡ h.cells) (λ _. refl) (λ _. refl)

  -- the writes that make entries
  abbrev asked_of : List (Entry K.State) → List (Asked PS)
  asked_of [] = []
  asked_of (e ∷ es) = record { cell = e.cell; state = K.plain_state e.state } ∷ asked_of es

  asked_makes : (h : History K.State) (past es : List (Entry K.State)) → Owned h.cells es → length past + length es ≤ h.capacity →
      fed_all K (with_entries K L h past) (asks (asked_of es)) ≡ with_entries K L h (past ++ es)
  asked_makes h past [] o l = ap (with_entries K L h) (sym (append-nil past))
  asked_makes h past (e ∷ es) o l =
      let g : History K.State = with_entries K L h past in
      let s : PS = K.plain_state e.state in
      let one : fed K g (write e.cell s) ≡ with_entries K L h (past ++ e ∷ []) =
      cond-true (ltb e.cell h.cells && ltb (length past) h.capacity) (appended g e.cell (K.state s)) g
      (and_from (ltb e.cell h.cells) (ltb (length past) h.capacity) (lt-ltb e.cell h.cells o.0) (lt-ltb (length past) h.capacity (omega arith)))
      ∙ ap (λ x. with_entries K L h (past ++ record { cell = e.cell; state = x } ∷ [])) (L.state_plain e.state) in
      ap (λ x. fed_all K x (asks (asked_of es))) one
      ∙ asked_makes h (past ++ e ∷ []) es o.1 (omega (arith, length_push past e))
      ∙ ap (with_entries K L h) (append_assoc past (e ∷ []) es)

  -- what a load that is accepted read
  told_ok : (h : History K.State) (r : Result (List (Entry K.State)) FileFault) (t : Result (Memory PS PC) Refusal) (w : Memory PS PC) → Tells K L h r t → t ≡ Ok w →
      (es : List (Entry K.State)) × (r ≡ Ok es) × Canonical K (with_entries K L h es) w
  told_ok h (Ok es) (Ok u) w D e = let s : u ≡ w = cc in (es, refl, subst (Canonical K (with_entries K L h es)) s D)
  told_ok h (Ok es) (Err y) w D e = absurd D
  told_ok h (Err x) (Ok u) w D e = absurd D
  told_ok h (Err x) (Err y) w D e = absurd cc

  told_made : (h : History K.State) (r : Result (List (Entry K.State)) FileFault) (t : Result (Memory PS PC) Refusal) (es : List (Entry K.State)) → Tells K L h r t → r ≡ Ok es →
      (w : Memory PS PC) × (t ≡ Ok w) × Canonical K (with_entries K L h es) w
  told_made h (Ok us) (Ok u) es D e = let s : us ≡ es = cc in (u, refl, subst (λ xs. Canonical K (with_entries K L h xs) u) s D)
  told_made h (Ok us) (Err y) es D e = absurd D
  told_made h (Err x) (Ok u) es D e = absurd D
  told_made h (Err x) (Err y) es D e = absurd cc

  -- the save of a volume whose file is f
  saves_it : {h : History K.State} {w : Memory PS PC} (f : List ℕ) → Canonical K h w → file_of_history K h ≡ f → (area : ℕ) → length f ≤ area → saved K w area ≡ Ok f
  saves_it {h} f C same area l =
      let size : length (file_of_history K h) ≡ file_length K.width (count h) =
      long K L h.cells (lines_on K [] h.entries) ∙ ap (file_length K.width) (lines_length K [] h.entries) in
      save_made K L C area (omega (arith, ap length same, size)) ∙ ap Ok same

  module _ (f : List ℕ) (octets : bytes? f ≡ true) where
    only_saves : (m w : Memory PS PC) → loaded K m f ≡ Ok w → SavedAfterWrites K m f × ((area : ℕ) → length f ≤ area → saved K w area ≡ Ok f)
    unfolding loaded
    only_saves m w e =
        let h : History K.State = fresh (length m.cells) (length m.records) in
        let handed : Handed = record { cells = length m.cells; room = length m.records } in
        let (hd, p, q) = then_ok (headed K m f) (λ hd. took_to K f (emptied K m) hd.count) w e in
        let (x, a, b) = then_ok (sized (length m.cells) (length m.heads) (length m.records)) (λ _. refused_as File (header_of K (Some handed) f)) hd p in
        let z = sized_only (length m.cells) (length m.heads) (length m.records) x a in
        let head : header_read K h f ≡ Ok hd = as_ok File (header_of K (Some handed) f) hd b in
        let E = blank_canonical K L m z in
        let P = passed K (Some handed) f hd head in
        let fits = count_fits K L h m z refl refl E f hd head in
        let (es, r, C) = told_ok h (entries_read K h.cells f hd.count) (took_to K f (emptied K m) hd.count) w (all_tell K L h m z refl refl E f hd.count fits) q in
        let tests = or_parts (eqb (cells_at f) 0) (ltb 4096 (cells_at f) || not (eqb (length m.cells) (cells_at f))) P.cells in
        let cells : length m.cells ≡ cells_at f =
        eqb-true (length m.cells) (cells_at f) (not-false (eqb (length m.cells) (cells_at f)) (or_parts (ltb 4096 (cells_at f)) (not (eqb (length m.cells) (cells_at f))) tests.1).1) in
        let same : file_of_history K (with_entries K L h es) ≡ f = file_back K L f octets (length m.cells) (Some handed) hd es P cells r in
        let made : fed_all K h (asks (asked_of es)) ≡ with_entries K L h es = asked_makes h [] es C.owned (omega (arith, entries_length K L h.cells f hd.count es r)) in
        let D : Canonical K (with_entries K L h es) (run_all K (emptied K m) (asks (asked_of es))) =
        subst (λ g. Canonical K g (run_all K (emptied K m) (asks (asked_of es)))) made (keeps_all K L (asks (asked_of es)) E) in (
          record { start = emptied K m; formats = formats K m z; writes = asked_of es; area = length f; saves = saves_it f D same (length f) (omega arith) },
          saves_it f C same,
        )

    all_saves : (m m' start : Memory PS PC) → SavedAfterWrites K m' f → formatted K m ≡ Ok start → length m.cells ≡ length m'.cells → count_at f ≤ length m.records → Loads K m f
    unfolding loaded
    all_saves m m' start W e cells room =
        let z = (formats_only K m start e).0 in
        let only = formats_only K m' W.start W.formats in
        let h₀ : History K.State = fresh (length m'.cells) (length m'.records) in
        let g : History K.State = fed_all K h₀ (asks W.writes) in
        let C : Canonical K g (run_all K W.start (asks W.writes)) = keeps_all K L (asks W.writes) (subst (λ w. Canonical K h₀ w) only.1 (blank_canonical K L m' only.0)) in
        let is : file_of_history K g ≡ f = save_only K L C W.area f W.saves in
        let G : Fit K L g = fit K L C in
        let h : History K.State = fresh (length m.cells) (length m.records) in
        let handed : Handed = record { cells = length m.cells; room = length m.records } in
        let same_cells : g.cells ≡ length m.cells = asks_cells W.writes h₀ ∙ sym cells in
        let hd : Header = record { letter = K.letter; cells = g.cells; count = count g } in
        let plain = passed K None (file_of_history K g) hd (header_is K L g G None refl refl) in
        let counted : count_at f ≡ count g = ap count_at (sym is) ∙ ap (λ (x : Header). x.count) plain.is in
        let head : header_read K h f ≡ Ok hd =
        ap (header_of K (Some handed)) (sym is)
        ∙ header_is K L g G (Some handed) (not_from_true (eqb (length m.cells) g.cells) (eq-eqb (length m.cells) g.cells (sym same_cells)))
        (le-ltb (length m.records) (count g) (omega (arith, counted))) in
        let E = blank_canonical K L m z in
        let all : entries_read K h.cells f (count g) ≡ Ok g.entries =
        ap (λ n. entries_read K n f (count g)) (sym same_cells) ∙ ap (λ x. entries_read K g.cells x (count g)) (sym is)
        ∙ entries_back K L g G (count g) (omega arith) ∙ ap Ok (take_all (count g) g.entries (omega arith)) in
        let fits = count_fits K L h m z refl refl E f hd head in
        let (w, made, D) = told_made h (entries_read K h.cells f (count g)) (took_to K f (emptied K m) (count g)) g.entries (all_tell K L h m z refl refl E f (count g) fits) all in
        let same : file_of_history K (with_entries K L h g.entries) ≡ f = ap (λ n. file_form K n (lines_on K [] g.entries)) (sym same_cells) ∙ is in
        record {
          made = w;
          accepted =
              ap (λ r. and_then r (λ hd. took_to K f (emptied K m) hd.count)) (heads_tell K L h m z refl refl E f ∙ ap (refused_as File) head) ∙ made;
          again = saves_it f D same;
        }

  pub files_that_load_lem : FilesThatLoad K
  files_that_load_lem f octets = record { only_saves = only_saves f octets; all_saves = all_saves f octets }
