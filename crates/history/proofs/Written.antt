-- What format and write make of the memory that a history leaves. Assumes nothing.
use Rattle.std.proofs.Common.{◌≡◌, ℕ, ◌+◌, ◌<◌, cond, eqb, leb, List, [], ◌∷◌, ◌++◌, length, get_or, take, set, Ok, Err, Result, sym, ap, ◌∙◌, arith}
use Rattle.std.proofs.lemmas.List.{length-set, length_push, take_more_set}
use Rattle.std.proofs.lemmas.Bool.{cond-false, lt-leb}
use Rattle.kind.specs.Answers.{and_then, refuse_if, refused_as}
use Rattle.kind.specs.Model.{Model, Laws}
use Rattle.journal.specs.declared.record.Record.{Record}
use Rattle.journal.specs.Appends.{planned}
use Rattle.logs.specs.Theorems.{Logs}
use Rattle.logs.specs.Writes.{Write, head_of, log_of}
use Rattle.logs.proofs.Proved.{never_refused_lem, head_moves_lem}
use Rattle.volume.specs.Calls.{origin, difference, logged, formatted, written, emptied}
use Rattle.volume.specs.Memory.{Memory, memory}
use Rattle.volume.specs.Sizes.{sized}
use Rattle.volume.specs.declared.refusal.Refusal.{Refusal}
use Rattle.volume.specs.declared.refusal.Refusal.TheVariants.{Cell, Full, Ladder}
use Rattle.history.specs.History.{History, Entry, count, appended}
use Rattle.history.proofs.Canonical.{Sizes, sized_ok, sized_only, owned_append, Canonical, sound_is, writes_few}
use Rattle.history.proofs.Images.{set_read}
use Rattle.history.proofs.Results.{then_ok}
use Rattle.history.proofs.Entered.{writes, write_of, writes_append, writes_length, latest_append, through}

module _ {PS PC : Type 0} (K : Model PS PC) where
  pub formats : (m : Memory PS PC) → Sizes (length m.cells) (length m.heads) (length m.records) → formatted K m ≡ Ok (emptied K m)
  unfolding formatted
  formats m z = ap (λ r. and_then r (λ _. Ok (emptied K m))) (sized_ok z)

  -- a format that is accepted
  pub formats_only : (m v : Memory PS PC) → formatted K m ≡ Ok v → Sizes (length m.cells) (length m.heads) (length m.records) × (emptied K m ≡ v)
  unfolding formatted
  formats_only m v e =
      let (x, p, same) = then_ok (sized (length m.cells) (length m.heads) (length m.records)) (λ _. Ok (emptied K m)) v e in
      (sized_only (length m.cells) (length m.heads) (length m.records) x p, cc)

  module _ (L : Laws K) {h : History K.State} {v : Memory PS PC} (C : Canonical K h v) (c : ℕ) (s : PS) where
    abbrev pub es : List (Entry K.State)
    es = h.entries

    abbrev pub ws : List (Write PC)
    ws = writes K h.entries

    abbrev pub f : PC
    f = difference K (get_or v.cells c (origin K)) s

    -- the tests of a write, one after the other
    abbrev stored : Record PC → Result (List (Record PC)) Refusal
    stored r = refuse_if (leb (length v.records) v.count) Full (Ok (set v.records v.count r))

    abbrev pub moved : List (Record PC) → Result (Memory PS PC) Refusal
    moved rs = Ok (memory (set v.cells c s) (set v.heads c (v.count + 1)) rs (v.count + 1))

    abbrev pub tried : Result (Memory PS PC) Refusal
    tried = and_then (logged K v.records v.count (v.count + 1) (get_or v.heads c 0) c f) moved

    pub tested : written K v c s ≡ refuse_if (leb h.cells c) Cell tried
    unfolding written
    tested = ap (λ r. and_then r (λ _. refuse_if (leb (length v.cells) c) Cell tried)) (sound_is K C) ∙ ap (λ n. refuse_if (leb n c) Cell tried) C.all_cells

    module _ (in' : c < h.cells) where
      pub size : length ws ≡ count h
      size = writes_length K es

      -- the record that is logged
      abbrev pub r : Record PC
      r = (never_refused_lem K L ws v.records C.logs (writes_few K C) c f).0

      pub plans : planned K v.records (v.count + 1) (get_or v.heads c 0) c f ≡ Ok r
      plans =
          ap (λ n. planned K v.records (n + 1) (get_or v.heads c 0) c f) (C.counts ∙ sym size)
          ∙ ap (λ n. planned K v.records (length ws + 1) n c f) (C.heads c in')
          ∙ (never_refused_lem K L ws v.records C.logs (writes_few K C) c f).1

      logs : logged K v.records v.count (v.count + 1) (get_or v.heads c 0) c f ≡ stored r
      unfolding logged
      logs = ap (λ x. and_then (refused_as Ladder x) stored) plans

      abbrev pub after : Memory PS PC
      after = memory (set v.cells c s) (set v.heads c (v.count + 1)) (set v.records v.count r) (v.count + 1)

      pub tries : tried ≡ refuse_if (leb h.capacity (count h)) Full (Ok after)
      tries =
          ap (λ x. and_then x moved) logs ∙ through (λ x. and_then x moved) (leb (length v.records) v.count) (Err Full) (Ok (set v.records v.count r))
          ∙ ap (λ n. refuse_if (leb n v.count) Full (Ok after)) C.all_records ∙ ap (λ n. refuse_if (leb h.capacity n) Full (Ok after)) C.counts

      pub tried_taken : count h < h.capacity → tried ≡ Ok after
      tried_taken some = tries ∙ cond-false (leb h.capacity (count h)) (Err Full) (Ok after) (lt-leb h.capacity (count h) some)

      pub write_taken : count h < h.capacity → written K v c s ≡ Ok after
      write_taken some = tested ∙ cond-false (leb h.cells c) (Err Cell) tried (lt-leb h.cells c in') ∙ tried_taken some

      -- the entry that it adds, and its write
      abbrev e : Entry K.State
      e = record { cell = c; state = K.state s }

      same_change : f ≡ (write_of K es e).change
      same_change = ap (λ x. K.plain_change (K.diff x (K.state s))) (C.states c in')

      grown : writes K (es ++ e ∷ []) ≡ ws ++ record { cell = c; change = f } ∷ []
      grown = writes_append K es (e ∷ []) ∙ ap (λ g. ws ++ record { cell = c; change = g } ∷ []) (sym same_change)

      new_heads : (i : ℕ) → head_of (writes K (es ++ e ∷ [])) i ≡ cond (eqb c i) (length ws + 1) (head_of ws i)
      new_heads i = ap (λ us. head_of us i) grown ∙ head_moves_lem K ws (record { cell = c; change = f }) i

      at_count : count h < h.capacity → v.count < length v.records
      at_count some = omega (arith, C.all_records, C.counts)

      new_log : count h < h.capacity → Logs K (set v.records v.count r) (writes K (es ++ e ∷ []))
      new_log some =
          let longer : length (writes K (es ++ e ∷ [])) ≡ v.count + 1 = writes_length K (es ++ e ∷ []) ∙ length_push es e ∙ ap (λ n. n + 1) (sym C.counts) in
          ap (λ n. take n (set v.records v.count r)) longer
          ∙ take_more_set v.records v.count r (at_count some)
          ∙ ap (λ n. take n v.records ++ r ∷ []) (C.counts ∙ sym size)
          ∙ ap (λ us. us ++ r ∷ []) C.logs
          ∙ sym (ap (log_of K) grown ∙ (never_refused_lem K L ws v.records C.logs (writes_few K C) c f).5)

      pub write_canonical : count h < h.capacity → Canonical K (appended h c (K.state s)) after
      write_canonical some =
          let now = λ (i : ℕ). latest_append K.origin i es (e ∷ []) in
          record {
            all_cells = length-set v.cells c s ∙ C.all_cells;
            all_records = length-set v.records v.count r ∙ C.all_records;
            sizes = record {
              some_cells = omega (arith, length-set v.cells c s, C.sizes.some_cells);
              few_cells = omega (arith, length-set v.cells c s, C.sizes.few_cells);
              even = length-set v.heads c (v.count + 1) ∙ C.sizes.even ∙ sym (length-set v.cells c s);
              few_records = omega (arith, length-set v.records v.count r, C.sizes.few_records);
            };
            counts = ap (λ n. n + 1) C.counts ∙ sym (length_push es e);
            fits = omega (arith, length_push es e);
            owned = owned_append h.cells es (e ∷ []) C.owned (in', tt);
            states = λ i l.
                set_read K.state v.cells c i s (origin K) (omega (arith, C.all_cells)) ∙ ap (cond (eqb c i) (K.state s)) (C.states i l) ∙ sym (now i);
            heads = λ i l.
                set_read (λ (k : ℕ). k) v.heads c i (v.count + 1) 0 (omega (arith, C.all_cells, C.sizes.even))
                ∙ ap (λ k. cond (eqb c i) k (get_or v.heads i 0)) (ap (λ n. n + 1) (C.counts ∙ sym size))
                ∙ ap (cond (eqb c i) (length ws + 1)) (C.heads i l) ∙ sym (new_heads i);
            logs = new_log some;
          }
