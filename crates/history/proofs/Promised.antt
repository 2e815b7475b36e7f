-- Every call keeps the memory that its history leaves, and answers what the history predicts. Assumes nothing.
use Rattle.std.proofs.Common.{◌≡◌, ℕ, ◌+◌, ◌<◌, Bool, true, cond, ◌&&◌, ◌||◌, ltb, leb, List, [], ◌∷◌, map, length, Ok, Result, sym, refl, ap, ◌∙◌, subst, arith}
use Rattle.std.proofs.lemmas.Bool.Decides.{nat_tests}
use Rattle.std.proofs.lemmas.Bool.{leb-false}
use Rattle.std.specs.List.{range_with_len}
use Rattle.kind.specs.Answers.{told, kept}
use Rattle.kind.specs.Model.{Model, Laws}
use Rattle.journal.specs.declared.walk.Stretch.{Stretch}
use Rattle.volume.specs.Calls.{origin}
use Rattle.volume.specs.Memory.{Memory}
use Rattle.volume.specs.Recalls.{recalled}
use Rattle.volume.specs.declared.refusal.Refusal.{Refusal}
use Rattle.volume.specs.declared.refusal.Refusal.TheVariants.{Cell, Moment, Full}
use Rattle.history.specs.Calls.{Call, format, write, read, span, roll, replay, revert, check, save, load, Reply, counted, state, change, refused, reply, run, run_all, fed, fed_all, replied, predicted}
use Rattle.history.specs.History.{History, count, appended, last_entry, stood, image}
use Rattle.history.specs.Promises.{fresh, KeptPromises, Promises, PromisesAfterLoad}
use Rattle.history.proofs.Canonical.{Canonical, taken_if, present, blank_canonical, empty_canonical}
use Rattle.history.proofs.Checked.{check_told}
use Rattle.history.proofs.Entered.{writes_head}
use Rattle.history.proofs.Filed.{save_told, save_only}
use Rattle.history.proofs.Images.{by_cells, map_by_cells}
use Rattle.history.proofs.Loaded.{load_told, load_keeps, load_starts, load_answers}
use Rattle.history.proofs.Recalled.{fit, recall_back}
use Rattle.history.proofs.Replayed.{replay_told, replays_there}
use Rattle.history.proofs.Reverted.{revert_told, revert_keeps}
use Rattle.history.proofs.Results.{reply_if}
use Rattle.history.proofs.Rolled.{roll_told, rolls_there}
use Rattle.history.proofs.Spanned.{found, looks, walked, timed, measures, walks, got_is, onward_diff, spans_stand, spans_compose}
use Rattle.history.proofs.Written.{formats, formats_only, after, tried, tested, tries, write_canonical}

module _ {PS PC : Type 0} (K : Model PS PC) (L : Laws K) where
  module _ {h : History K.State} {v : Memory PS PC} (C : Canonical K h v) where
    cells_stand : map K.state v.cells ≡ image K h (count h)
    cells_stand =
        map_by_cells K.state (origin K) K.origin v.cells (λ c. stood K h c (count h)) h.cells C.all_cells (λ c l. C.states c l ∙ sym (present K h c))

    heads_stand : v.heads ≡ map (last_entry h) (range_with_len 0 h.cells)
    heads_stand = by_cells 0 v.heads (last_entry h) h.cells (C.sizes.even ∙ C.all_cells) (λ c l. C.heads c l ∙ writes_head K h.entries c)

    -- write
    write_keeps : (c : ℕ) (s : PS) → Canonical K (fed K h (write c s)) (run K v (write c s))
    write_keeps c s =
        let some : Bool = ltb c h.cells && ltb (count h) h.capacity in
        let g : History K.State = appended h c (K.state s) in
        subst (λ r. Canonical K (cond some g h) (kept v r)) (sym (tested K L C c s))
        (taken_if K g (leb h.cells c) some Cell (tried K L C c s) C (λ t. grind (arith, nat_tests))
        (λ t.
        let in' : c < h.cells = leb-false h.cells c t in
        subst (λ r. Canonical K (cond some g h) (kept v r)) (sym (tries K L C c s in'))
        (taken_if K g (leb h.capacity (count h)) some Full (Ok (after K L C c s in')) C (λ t'. grind (arith, nat_tests))
        (λ t'.
        let room : count h < h.capacity = leb-false h.capacity (count h) t' in
        let yes : some ≡ true = grind (arith, nat_tests) in
        subst (λ b. Canonical K (cond b g h) (after K L C c s in')) (sym yes) (write_canonical K L C c s in' room)))))

    abbrev R : Type 0
    R = Reply K.State K.Change

    write_told : (c : ℕ) (s : PS) → replied K v (write c s) ≡ predicted K h (write c s)
    write_told c s =
        let shown : Result (Memory PS PC) Refusal → R = λ r. reply counted (told (v.count + 1) r) in
        let full? : Bool = leb h.capacity (count h) in
        ap shown (tested K L C c s)
        ∙ reply_if shown (leb h.cells c) Cell (tried K L C c s) (cond full? (refused Full) (counted (count h + 1))) refl
        (λ t.
        let in' : c < h.cells = leb-false h.cells c t in
        ap shown (tries K L C c s in')
        ∙ reply_if shown full? Full (Ok (after K L C c s in')) (counted (count h + 1)) refl (λ _. ap (λ n. counted (n + 1)) C.counts))

    -- read
    read_told : (c : ℕ) → replied K v (read c) ≡ predicted K h (read c)
    read_told c =
        let shown : Result PS Refusal → R = reply (λ s. state (K.state s)) in
        ap shown (looks K L C c)
        ∙ reply_if shown (leb h.cells c) Cell (found K L C c) (state (stood K h c (count h))) refl
        (λ t. ap (λ s. state s) (C.states c (leb-false h.cells c t) ∙ sym (present K h c)))

    -- span
    span_told : (c a b : ℕ) → replied K v (span c a b) ≡ predicted K h (span c a b)
    span_told c a b =
        let shown : Result (Stretch PC) Refusal → R = reply (λ s. change (K.change s.change)) in
        let late? : Bool = ltb (count h) a || ltb (count h) b in
        let f : R = change (K.diff (stood K h c a) (stood K h c b)) in
        ap shown (measures K L C c a b)
        ∙ reply_if shown (leb h.cells c) Cell (timed K L C c a b) (cond late? (refused Moment) f) refl
        (λ t.
        let in' : c < h.cells = leb-false h.cells c t in
        reply_if shown late? Moment (walked K L C c a b) f refl
        (λ _. ap shown (walks K L C c in' a b) ∙ ap (λ g. change g) (got_is K L C c in' a b ∙ onward_diff K L C c a b)))

    answers : (k : Call PS) → replied K v k ≡ predicted K h k
    answers format = ap (reply (λ m. _)) (formats K v C.sizes)
    answers (write c s) = write_told c s
    answers (read c) = read_told c
    answers (span c a b) = span_told c a b
    answers (roll im a b) = roll_told K L C im a b
    answers (replay im m) = replay_told K L C im m
    answers (revert m) = revert_told K L C m
    answers (check work) = check_told K L C work
    answers (save n) = save_told K L C n
    answers (load f) = load_told K L C f

    keeps : (k : Call PS) → Canonical K (fed K h k) (run K v k)
    keeps format =
        subst (λ r. Canonical K (fed K h format) (kept v r)) (sym (formats K v C.sizes))
        (empty_canonical K L C)
    keeps (write c s) = write_keeps c s
    keeps (read c) = C
    keeps (span c a b) = C
    keeps (roll im a b) = C
    keeps (replay im m) = C
    keeps (revert m) = revert_keeps K L C m
    keeps (check work) = C
    keeps (save n) = C
    keeps (load f) = load_keeps K L C f

    pub kept_promises : KeptPromises K h v
    kept_promises =
        record {
          stands = record { counts = C.counts; cells = cells_stand; heads = heads_stand; answers = answers };
          spans = λ c x y in' p q. spans_stand K L C c x y in' p q;
          compose = λ c x y z in' p q r. spans_compose K L C c x y z in' p q r;
          rolls = λ im x y same p q. rolls_there K L C im x y same p q;
          recalls = λ f room c x area e in' p wide.
              ap (λ bs. recalled K bs c x area) (sym (save_only K L C room f e)) ∙ recall_back K L h (fit K L C) c x area in' p wide;
          replays = λ im x even p. replays_there K L C im x even p;
        }

  pub keeps_all : (ks : List (Call PS)) {h : History K.State} {v : Memory PS PC} → Canonical K h v → Canonical K (fed_all K h ks) (run_all K v ks)
  keeps_all [] C = C
  keeps_all (k ∷ ks) C = keeps_all ks (keeps C k)

  pub promises : Promises K
  promises m v e ks =
      let only = formats_only K m v e in
      kept_promises (keeps_all ks (subst (λ w. Canonical K (fresh (length m.cells) (length m.records)) w) only.1 (blank_canonical K L m only.0)))

  pub promises_after_load : PromisesAfterLoad K
  promises_after_load m f hd e = (load_answers K L m f hd e, λ ks. kept_promises (keeps_all ks (load_starts K L m f hd e)))
