-- What load makes of the memory that a history leaves. Assumes nothing.
use Rattle.std.proofs.Common.{◌≡◌, ℕ, zero, suc, ◌+◌, ◌<◌, ◌≤◌, Bool, true, false, not, ◌||◌, eqb, ltb, leb, List, [], ◌∷◌, ◌++◌, length, get_or, Some, Ok, Err, Option, Result, sym, refl, ap, ◌∙◌, subst, arith}
use Rattle.std.proofs.lemmas.List.{length_push}
use Rattle.std.proofs.lemmas.Bool.{or_parts, leb-false, ltb-false}
use Rattle.kind.specs.Answers.{and_then, refuse_if, refused_as, kept}
use Rattle.kind.specs.Model.{Model, Laws}
use Rattle.file.specs.declared.faults.FileFault.{FileFault}
use Rattle.file.specs.declared.faults.FileFault.TheVariants.{Short, Letter, Version, Cells, Count, Length, Cell, Next}
use Rattle.file.specs.declared.header.Handed.{Handed}
use Rattle.file.specs.declared.header.Header.{Header}
use Rattle.file.specs.Changes.{change_read}
use Rattle.file.specs.Header.{letter_at, version_at, cells_at, count_at, says, other_cells, past_room, file_length, after_letter, header_of}
use Rattle.file.specs.Records.{Parts}
use Rattle.file.specs.States.{saved}
use Rattle.volume.specs.Calls.{origin, difference, logged, emptied}
use Rattle.volume.specs.Loads.{entered, took_parts, took, took_to, reached, headed, settled, loaded, load_leaves}
use Rattle.volume.specs.Memory.{Memory}
use Rattle.volume.specs.Reverts.{count_of}
use Rattle.volume.specs.Rolls.{acted}
use Rattle.volume.specs.Sizes.{sized}
use Rattle.volume.specs.declared.refusal.Refusal.{Refusal}
use Rattle.volume.specs.declared.refusal.Refusal.TheVariants.{File}
use Rattle.history.specs.Calls.{Reply, counted, refused, reply, load, run, refilled, fed_file, fed, replied, predicted}
use Rattle.history.specs.Files.{entry_read, entries_read, header_read}
use Rattle.history.specs.History.{History, Entry, count, appended, latest, last_number}
use Rattle.history.specs.Promises.{fresh}
use Rattle.history.proofs.Canonical.{Sizes, sized_ok, sized_only, Canonical, blank_canonical, empty_canonical}
use Rattle.history.proofs.Entered.{writes_head}
use Rattle.history.proofs.Results.{then_ok, test_ok, as_ok}
use Rattle.history.proofs.Written.{moved, tried_taken, after, write_canonical}

-- the tests that an accepted header passed
pub record Passed {PS PC : Type 0} (K : Model PS PC) (handed : Option Handed) (f : List ℕ) (hd : Header) : Type 0 where
  pub is : says f ≡ hd
  pub long_enough : ltb (length f) 8 ≡ false
  pub letter : not (eqb (letter_at f) K.letter) ≡ false
  pub version : not (eqb (version_at f) 1) ≡ false
  pub cells : (eqb (cells_at f) 0 || (ltb 4096 (cells_at f) || other_cells handed (cells_at f))) ≡ false
  pub count : (ltb 65535 (count_at f) || past_room handed (count_at f)) ≡ false
  pub length : not (eqb (length f) (file_length K.width (count_at f))) ≡ false

pub passed : {PS PC : Type 0} (K : Model PS PC) (handed : Option Handed) (f : List ℕ) (hd : Header) → header_of K handed f ≡ Ok hd → Passed K handed f hd
passed K handed f hd e =
    let a = test_ok (ltb (length f) 8) Short _ hd e in
    let b = test_ok (not (eqb (letter_at f) K.letter)) Letter (after_letter K.width handed f) hd a.1 in
    let c = test_ok (not (eqb (version_at f) 1)) Version _ hd b.1 in
    let d = test_ok (eqb (cells_at f) 0 || (ltb 4096 (cells_at f) || other_cells handed (cells_at f))) Cells _ hd c.1 in
    let g = test_ok (ltb 65535 (count_at f) || past_room handed (count_at f)) Count _ hd d.1 in
    let k = test_ok (not (eqb (length f) (file_length K.width (count_at f)))) Length (Ok (says f)) hd g.1 in
    let s : ◌≡◌ {A = Result Header FileFault} (Ok (says f)) (Ok hd) = k.1 in
    record { is = cc; long_enough = a.0; letter = b.0; version = c.0; cells = d.0; count = g.0; length = k.0 }

module _ {PS PC : Type 0} (K : Model PS PC) (L : Laws K) where
  -- the history of these sizes with these entries
  abbrev pub with_entries : History K.State → List (Entry K.State) → History K.State
  with_entries h es = record { cells = h.cells; capacity = h.capacity; entries = es }

  -- what is read from a file tells what is taken into the memory
  abbrev pub Tells : History K.State → Result (List (Entry K.State)) FileFault → Result (Memory PS PC) Refusal → Type 0
  Tells h (Ok es) (Ok w) = Canonical K (with_entries h es) w
  Tells h (Ok es) (Err r) = ⊥
  Tells h (Err e) (Ok w) = ⊥
  Tells h (Err e) (Err r) = File e ≡ r

  -- a test that both make
  tells_if : (h : History K.State) (t t' : Bool) (e : FileFault) (r : Result (List (Entry K.State)) FileFault) (r' : Result (Memory PS PC) Refusal) →
      t ≡ t' → (t ≡ false → Tells h r r') → Tells h (refuse_if t e r) (refuse_if t' (File e) r')
  tells_if h true t' e r r' s k = subst (λ b. Tells h (Err e) (refuse_if b (File e) r')) s refl
  tells_if h false t' e r r' s k = subst (λ b. Tells h r (refuse_if b (File e) r')) s (k refl)

  -- one change entered
  module _ {h : History K.State} {w : Memory PS PC} (C : Canonical K h w) (c : ℕ) (in' : c < h.cells) (some : count h < h.capacity) (g : K.Change) where
    abbrev f : PC
    f = K.plain_change g

    abbrev old : PS
    old = get_or w.cells c (origin K)

    abbrev s : PS
    s = acted K f old

    s_is : K.state s ≡ K.act g (K.state old)
    s_is = L.state_plain (K.act (K.change f) (K.state old)) ∙ ap (λ x. K.act x (K.state old)) (L.change_plain g)

    same : f ≡ difference K old s
    same =
        ap K.plain_change
        (L.faithful g (K.diff (K.state old) (K.act g (K.state old))) (K.state old) (sym (L.diff_acts (K.state old) (K.act g (K.state old))))
        ∙ ap (K.diff (K.state old)) (sym s_is))

    enters : entered K w c f ≡ Ok (after K L C c s in')
    enters =
        ap (λ x. and_then (logged K w.records w.count (w.count + 1) (get_or w.heads c 0) c x) (moved K L C c s)) same
        ∙ tried_taken K L C c s in' some

    enters_canonical : Canonical K (appended h c (K.act g (latest K.origin c h.entries))) (after K L C c s in')
    enters_canonical =
        subst (λ x. Canonical K (appended h c x) (after K L C c s in')) (s_is ∙ ap (K.act g) (C.states c in')) (write_canonical K L C c s in' some)

  -- one record taken
  module _ {h : History K.State} {w : Memory PS PC} (C : Canonical K h w) (some : count h < h.capacity) (n : ℕ) (p : Parts) where
    abbrev es : List (Entry K.State)
    es = h.entries

    abbrev c : ℕ
    c = p.cell

    abbrev read_on : K.Change → Result (List (Entry K.State)) FileFault
    read_on g = Ok (es ++ record { cell = c; state = K.act g (latest K.origin c es) } ∷ [])

    abbrev take_on : K.Change → Result (Memory PS PC) Refusal
    take_on g = entered K w c (K.plain_change g)

    changes_tell : c < h.cells → (r : Result K.Change FileFault) → Tells h (and_then r read_on) (and_then (refused_as File r) take_on)
    changes_tell in' (Ok g) = subst (λ r. Tells h (read_on g) r) (sym (enters C c in' some g)) (enters_canonical C c in' some g)
    changes_tell in' (Err e) = refl

    abbrev tested : Result (List (Entry K.State)) FileFault
    tested = and_then (change_read K n p.change) read_on

    abbrev tested' : Result (Memory PS PC) Refusal
    tested' = and_then (refused_as File (change_read K n p.change)) take_on

    nexts_tell : c < h.cells → Tells h (refuse_if (not (eqb p.next (last_number 0 0 c es))) (Next n) tested) (refuse_if (not (eqb p.next (get_or w.heads c 0))) (File (Next n)) tested')
    nexts_tell in' =
        tells_if h (not (eqb p.next (last_number 0 0 c es))) (not (eqb p.next (get_or w.heads c 0))) (Next n) tested tested'
        (ap (λ k. not (eqb p.next k)) (sym (C.heads c in' ∙ writes_head K es c))) (λ _. changes_tell in' (change_read K n p.change))

    takes_tell : Tells h (entry_read K h.cells n p es) (took_parts K w n p)
    takes_tell =
        tells_if h (leb h.cells c) (leb (length w.cells) c) (Cell n) _ _ (ap (λ k. leb k c) (sym C.all_cells)) (λ t. nexts_tell (leb-false h.cells c t))

  -- an entry for each record
  entry_length : (cells n : ℕ) (p : Parts) (es fs : List (Entry K.State)) → entry_read K cells n p es ≡ Ok fs → length fs ≡ length es + 1
  entry_length cells n p es fs e =
      let a = test_ok (leb cells p.cell) (Cell n) _ fs e in
      let b = test_ok (not (eqb p.next (last_number 0 0 p.cell es))) (Next n) _ fs a.1 in
      let (g, _, q) = then_ok (change_read K n p.change) (λ g. Ok (es ++ record { cell = p.cell; state = K.act g (latest K.origin p.cell es) } ∷ [])) fs b.1 in
      let x : Entry K.State = record { cell = p.cell; state = K.act g (latest K.origin p.cell es) } in
      let same' : es ++ x ∷ [] ≡ fs = cc in
      ap length (sym same') ∙ length_push es x

  pub entries_length : (cells : ℕ) (f : List ℕ) (n : ℕ) (es : List (Entry K.State)) → entries_read K cells f n ≡ Ok es → length es ≡ n
  entries_length cells f zero es e = let s : [] ≡ es = cc in ap length (sym s)
  entries_length cells f (suc n) es e =
      let (fs, p, q) = then_ok (entries_read K cells f n) (entry_read K cells (suc n) (saved K f (suc n))) es e in
      let a = entries_length cells f n fs p in
      let b = entry_length cells (suc n) (saved K f (suc n)) fs es q in
      omega arith

  -- all of them
  module _ (h : History K.State) (v : Memory PS PC) (z : Sizes (length v.cells) (length v.heads) (length v.records)) (all_cells : length v.cells ≡ h.cells)
      (all_records : length v.records ≡ h.capacity) (E : Canonical K (with_entries h []) (emptied K v)) (f : List ℕ) where
    abbrev pub start : Memory PS PC
    start = emptied K v

    next_tells : (n : ℕ) → n < h.capacity → (r : Result (List (Entry K.State)) FileFault) (t : Result (Memory PS PC) Refusal) →
        ((es : List (Entry K.State)) → r ≡ Ok es → length es ≡ n) → Tells h r t →
        Tells h (and_then r (entry_read K h.cells (suc n) (saved K f (suc n)))) (and_then t (λ w. took K f w (suc n)))
    next_tells n l (Ok es) (Ok w) size D = takes_tell D (let e = size es refl in omega arith) (suc n) (saved K f (suc n))
    next_tells n l (Ok es) (Err x) size D = absurd D
    next_tells n l (Err x) (Ok w) size D = absurd D
    next_tells n l (Err x) (Err y) size D = D

    pub all_tell : (n : ℕ) → n ≤ h.capacity → Tells h (entries_read K h.cells f n) (took_to K f start n)
    all_tell zero l = E
    all_tell (suc n) l = next_tells n l (entries_read K h.cells f n) (took_to K f start n) (λ es e. entries_length h.cells f n es e) (all_tell n (omega arith))

    -- as far as they were taken
    some_entries : (r : Result (List (Entry K.State)) FileFault) (t : Result (Memory PS PC) Refusal) (m : Memory PS PC) →
        Tells h r t → ((es : List (Entry K.State)) × Canonical K (with_entries h es) m) → (es : List (Entry K.State)) × Canonical K (with_entries h es) (kept m t)
    some_entries (Ok es) (Ok w) m D old = (es, D)
    some_entries (Ok es) (Err y) m D old = absurd D
    some_entries (Err x) (Ok w) m D old = absurd D
    some_entries (Err x) (Err y) m D old = old

    reached_canonical : (n : ℕ) → n ≤ h.capacity → (es : List (Entry K.State)) × Canonical K (with_entries h es) (reached K f start n)
    reached_canonical zero l = ([], E)
    reached_canonical (suc n) l = some_entries (entries_read K h.cells f (suc n)) (took_to K f start (suc n)) (reached K f start n) (all_tell (suc n) l) (reached_canonical n (omega arith))

    -- the header
    abbrev handed : Handed
    handed = record { cells = length v.cells; room = length v.records }

    pub heads_tell : headed K v f ≡ refused_as File (header_read K h f)
    heads_tell =
        ap (λ r. and_then r (λ _. refused_as File (header_of K (Some handed) f))) (sized_ok z)
        ∙ ap (λ n. refused_as File (header_of K (Some (record { cells = n; room = length v.records })) f)) all_cells
        ∙ ap (λ n. refused_as File (header_of K (Some (record { cells = h.cells; room = n })) f)) all_records

    pub count_fits : (hd : Header) → header_read K h f ≡ Ok hd → hd.count ≤ h.capacity
    count_fits hd e =
        let P = passed K (Some (record { cells = h.cells; room = h.capacity })) f hd e in
        let parts = or_parts (ltb 65535 (count_at f)) (ltb h.capacity (count_at f)) P.count in
        omega (arith, ltb-false h.capacity (count_at f) parts.1, ap (λ (x : Header). x.count) P.is)

    abbrev R : Type 0
    R = Reply K.State K.Change

    told_so : (r : Result (List (Entry K.State)) FileFault) (t : Result (Memory PS PC) Refusal) → Tells h r t → reply {S = K.State} {C = K.Change} counted (count_of t) ≡ reply (λ es. counted (length es)) (refused_as File r)
    told_so (Ok es) (Ok w) D = ap (λ n. counted n) D.counts
    told_so (Ok es) (Err y) D = absurd D
    told_so (Err x) (Ok w) D = absurd D
    told_so (Err x) (Err y) D = ap (λ e. refused e) (sym D)

    by_header : (r : Result Header FileFault) → header_read K h f ≡ r →
        reply {S = K.State} {C = K.Change} counted (count_of (and_then (refused_as File r) (λ hd. took_to K f start hd.count)))
        ≡ reply (λ es. counted (length es)) (refused_as File (and_then r (λ hd. entries_read K h.cells f hd.count)))
    by_header (Ok hd) e = told_so (entries_read K h.cells f hd.count) (took_to K f start hd.count) (all_tell hd.count (count_fits hd e))
    by_header (Err x) e = refl

    settles : (n : ℕ) → n ≤ h.capacity → (r : Result (List (Entry K.State)) FileFault) (t : Result (Memory PS PC) Refusal) → Tells h r t → Canonical K (refilled K h r) (settled K (reached K f start n) t)
    settles n l (Ok es) (Ok w) D = D
    settles n l (Ok es) (Err y) D = absurd D
    settles n l (Err x) (Ok w) D = absurd D
    settles n l (Err x) (Err y) D = empty_canonical K L (reached_canonical n l).1

    left_so : (r : Result Header FileFault) → header_read K h f ≡ r → Canonical K h v →
        Canonical K (fed_file K h f r) (kept v (and_then (refused_as File r) (λ hd. Ok (settled K (reached K f start hd.count) (took_to K f start hd.count)))))
    left_so (Ok hd) e C = settles hd.count (count_fits hd e) (entries_read K h.cells f hd.count) (took_to K f start hd.count) (all_tell hd.count (count_fits hd e))
    left_so (Err x) e C = C

    load_is_told : replied K v (load f) ≡ predicted K h (load f)
    unfolding loaded
    load_is_told = ap (λ r. reply counted (count_of (and_then r (λ hd. took_to K f start hd.count)))) heads_tell ∙ by_header (header_read K h f) refl

    load_keeps_it : Canonical K h v → Canonical K (fed K h (load f)) (run K v (load f))
    unfolding load_leaves
    load_keeps_it C =
        subst (λ r. Canonical K (fed K h (load f)) (kept v (and_then r (λ hd. Ok (settled K (reached K f start hd.count) (took_to K f start hd.count)))))) (sym heads_tell)
        (left_so (header_read K h f) refl C)

  -- a load into any memory whose sizes and whose file's header are accepted
  pub load_starts : (m : Memory PS PC) (f : List ℕ) (hd : Header) → headed K m f ≡ Ok hd →
      Canonical K (fed_file K (fresh (length m.cells) (length m.records)) f (Ok hd)) (load_leaves K m f)
  unfolding load_leaves
  load_starts m f hd e =
      let h : History K.State = fresh (length m.cells) (length m.records) in
      let start : Memory PS PC = emptied K m in
      let handed : Handed = record { cells = length m.cells; room = length m.records } in
      let (x, a, b) = then_ok (sized (length m.cells) (length m.heads) (length m.records)) (λ _. refused_as File (header_of K (Some handed) f)) hd e in
      let z = sized_only (length m.cells) (length m.heads) (length m.records) x a in
      let E = blank_canonical K L m z in
      let fits = count_fits h m z refl refl E f hd (as_ok File (header_of K (Some handed) f) hd b) in
      subst (λ r. Canonical K (fed_file K h f (Ok hd)) (kept m (and_then r (λ hd. Ok (settled K (reached K f start hd.count) (took_to K f start hd.count)))))) (sym e)
      (settles h m z refl refl E f hd.count fits (entries_read K h.cells f hd.count) (took_to K f start hd.count) (all_tell h m z refl refl E f hd.count fits))

  pub load_answers : (m : Memory PS PC) (f : List ℕ) (hd : Header) → headed K m f ≡ Ok hd → replied K m (load f) ≡ predicted K (fresh (length m.cells) (length m.records)) (load f)
  load_answers m f hd e =
      let handed : Handed = record { cells = length m.cells; room = length m.records } in
      let (x, a, b) = then_ok (sized (length m.cells) (length m.heads) (length m.records)) (λ _. refused_as File (header_of K (Some handed) f)) hd e in
      let z = sized_only (length m.cells) (length m.heads) (length m.records) x a in
      load_is_told (fresh (length m.cells) (length m.records)) m z refl refl (blank_canonical K L m z) f

  pub load_told : {h : History K.State} {v : Memory PS PC} → Canonical K h v → (f : List ℕ) → replied K v (load f) ≡ predicted K h (load f)
  load_told {h} {v} C f = load_is_told h v C.sizes C.all_cells C.all_records (empty_canonical K L C) f

  pub load_keeps : {h : History K.State} {v : Memory PS PC} → Canonical K h v → (f : List ℕ) → Canonical K (fed K h (load f)) (run K v (load f))
  load_keeps {h} {v} C f = load_keeps_it h v C.sizes C.all_cells C.all_records (empty_canonical K L C) f C
