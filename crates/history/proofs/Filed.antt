-- What save answers on the memory that a history leaves: the file of the history. Assumes nothing.
use Rattle.std.proofs.Common.{◌≡◌, ℕ, zero, suc, ◌+◌, ◌-◌, ◌≤◌, ltb, List, [], ◌∷◌, ◌++◌, map, length, get_or, take, Ok, Err, Result, sym, refl, ap, ◌∙◌, arith}
use Rattle.std.proofs.lemmas.List.{append-nil, append_assoc, take_all, take_more, map-append}
use Rattle.std.proofs.lemmas.Bool.{cond-false, le-ltb}
use Rattle.kind.specs.Answers.{and_then, each_below, refuse_if, refused_as}
use Rattle.kind.specs.Model.{Model, Laws}
use Rattle.file.specs.Forms.{Line, file_form}
use Rattle.file.specs.Header.{file_length}
use Rattle.journal.specs.declared.record.Record.{Record}
use Rattle.journal.specs.Links.{blank, numbered}
use Rattle.volume.specs.Memory.{Memory}
use Rattle.volume.specs.Replays.{cell_known}
use Rattle.volume.specs.Saves.{line_of, lines_of, file_of, saved}
use Rattle.volume.specs.declared.refusal.Refusal.{Refusal}
use Rattle.volume.specs.declared.refusal.Refusal.TheVariants.{Area, Ladder}
use Rattle.history.specs.Calls.{bytes, reply, save, replied, predicted}
use Rattle.history.specs.Files.{line, lines_on, file_of_history}
use Rattle.history.specs.History.{History, Entry, count}
use Rattle.history.proofs.Canonical.{Canonical, sound_is}
use Rattle.history.proofs.Entered.{writes_head}
use Rattle.history.proofs.Nth.{Nth, nth}
use Rattle.history.proofs.Replayed.{known}
use Rattle.history.proofs.Results.{test_ok, reply_if}

module _ {PS PC : Type 0} (K : Model PS PC) where
  pub lines_append : (past xs ys : List (Entry K.State)) → lines_on K past (xs ++ ys) ≡ lines_on K past xs ++ lines_on K (past ++ xs) ys
  lines_append past [] ys = ap (λ p. lines_on K p ys) (sym (append-nil past))
  lines_append past (x ∷ xs) ys =
      ap (λ (us : List (Line K)). line K past x ∷ us)
      (lines_append (past ++ x ∷ []) xs ys ∙ ap (λ p. lines_on K (past ++ x ∷ []) xs ++ lines_on K p ys) (append_assoc past (x ∷ []) xs))

  pub lines_length : (past es : List (Entry K.State)) → length (lines_on K past es) ≡ length es
  lines_length past [] = refl
  lines_length past (e ∷ es) = ap suc (lines_length (past ++ e ∷ []) es)

  line_path : (a b : Line K) → a.next ≡ b.next → a.cell ≡ b.cell → a.change ≡ b.change → a ≡ b
  line_path a b p q r = λ i. record { next = p i; cell = q i; change = r i }

  module _ (L : Laws K) {h : History K.State} {v : Memory PS PC} (C : Canonical K h v) where
    abbrev es : List (Entry K.State)
    es = h.entries

    lines_are : (n : ℕ) → n ≤ count h → lines_of K v.records n ≡ lines_on K [] (take n es)
    lines_are zero l = refl
    lines_are (suc n) l =
        let N : Nth K L C n = nth K L C n (omega arith) in
        let one : suc n ≡ n + 1 = omega arith in
        let r : Record PC = numbered K v.records (n + 1) in
        let us : List (Entry K.State) = take n es in
        let place : n + 1 - 1 ≡ n = omega arith in
        let front : take (n + 1) v.records ≡ take n v.records ++ r ∷ [] =
        take_more v.records n (blank K) (omega (arith, C.fits, C.all_records)) ∙ ap (λ k. take n v.records ++ get_or v.records k (blank K) ∷ []) (sym place) in
        let same : line_of K r ≡ line K us N.entry =
        line_path (line_of K r) (line K us N.entry) (N.next_is ∙ writes_head K us N.entry.cell) N.cell N.change in
        ap (lines_of K v.records) one ∙ ap (map (line_of K)) front ∙ map-append (line_of K) (take n v.records) (r ∷ [])
        ∙ ap (λ ls. ls ++ line_of K r ∷ []) (lines_are n (omega arith)) ∙ ap (λ (x : Line K). lines_on K [] us ++ x ∷ []) same
        ∙ sym (lines_append [] us (N.entry ∷ [])) ∙ ap (lines_on K []) (sym N.next) ∙ ap (λ k. lines_on K [] (take k es)) (sym one)

    file_is : file_of K v ≡ file_of_history K h
    file_is =
        ap (λ n. file_form K n (lines_of K v.records v.count)) C.all_cells
        ∙ ap (λ n. file_form K h.cells (lines_of K v.records n)) C.counts
        ∙ ap (file_form K h.cells) (lines_are (count h) (omega arith) ∙ ap (lines_on K []) (take_all (count h) es (omega arith)))

    module _ (area : ℕ) where
      abbrev tries : ℕ → ℕ → Result (List ℕ) Refusal
      tries n m = and_then (refused_as Ladder (each_below (cell_known K n v.records) m)) (λ _. Ok (file_of K v))

      checked : saved K v area ≡ refuse_if (ltb area (file_length K.width (count h))) Area (Ok (file_of_history K h))
      unfolding saved
      checked =
          ap (λ r. and_then r (λ _. refuse_if (ltb area (file_length K.width v.count)) Area (tries (length v.cells) v.count))) (sound_is K C)
          ∙ ap (λ m. refuse_if (ltb area (file_length K.width m)) Area (tries (length v.cells) m)) C.counts
          ∙ ap (λ n. refuse_if (ltb area (file_length K.width (count h))) Area (tries n (count h))) C.all_cells
          ∙ ap (λ r. refuse_if (ltb area (file_length K.width (count h))) Area (and_then (refused_as Ladder r) (λ _. Ok (file_of K v)))) (known K L C (count h) (omega arith))
          ∙ ap (λ bs. refuse_if (ltb area (file_length K.width (count h))) Area (Ok bs)) file_is

      pub save_made : file_length K.width (count h) ≤ area → saved K v area ≡ Ok (file_of_history K h)
      save_made l = checked ∙ cond-false (ltb area (file_length K.width (count h))) (Err Area) (Ok (file_of_history K h)) (le-ltb area (file_length K.width (count h)) l)

      -- whatever is saved is that file
      pub save_only : (f : List ℕ) → saved K v area ≡ Ok f → file_of_history K h ≡ f
      save_only f e = let same = (test_ok (ltb area (file_length K.width (count h))) Area (Ok (file_of_history K h)) f (sym checked ∙ e)).1 in cc

      pub save_told : replied K v (save area) ≡ predicted K h (save area)
      save_told =
          ap (reply bytes) checked
          ∙ reply_if (reply {S = K.State} {C = K.Change} bytes) (ltb area (file_length K.width (count h))) Area (Ok (file_of_history K h)) (bytes (file_of_history K h)) refl (λ _. refl)
