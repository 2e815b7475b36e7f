-- Records of a file taken in one after the other. Assumes nothing.
use Rattle.std.proofs.Common.{◌≡◌, ℕ, zero, suc, ◌+◌, ◌<◌, cond, not, eqb, leb, List, length, get_or, set, is_err, IfOk, Some, None, Ok, Err, Option, Result, sym, refl, ap, ◌∙◌, inl, inr, true≢false, add-one, arith, length-set}
use Rattle.std.proofs.lemmas.Result.{IfOk-at_ok}
use Rattle.std.proofs.lemmas.Bool.{cases_lt}
use Rattle.std.specs.Iterator.{YieldsFirstBy, Yields}
use Rattle.std.proofs.lemmas.Iterator.{YieldsList}
use Rattle.std.proofs.lemmas.Iterator.Consumers.{YieldsList-at, YieldsList-turn, YieldsList-end}
use Rattle.kind.specs.Answers.{and_then, refused_as, told, kept}
use Rattle.kind.specs.Model.{Model}
use Rattle.journal.specs.declared.record.Record.{Record}
use Rattle.file.specs.declared.faults.FileFault.TheVariants.{Cell, Next}
use Rattle.file.specs.declared.records.SavedRecord.{SavedRecord}
use Rattle.file.specs.declared.saved.Records.{Records}
use Rattle.file.specs.declared.saved.SavedFile.{SavedFile}
use Rattle.file.specs.Changes.{change_read}
use Rattle.file.specs.Records.{parts_of, parts_seen, record_bytes, numbered}
use Rattle.file.specs.States.{saved}
use Rattle.file.proofs.Numbered.{view, rest, records_give, turn_numbered, length_numbered}
use Rattle.volume.specs.declared.refusal.Refusal.{Refusal}
use Rattle.volume.specs.declared.refusal.Refusal.TheVariants.{File}
use Rattle.volume.specs.Calls.{origin, emptied, logged}
use Rattle.volume.specs.Loads.{entered, took_parts, took, took_to, reached}
use Rattle.volume.specs.Memory.{Memory, memory}
use Rattle.volume.specs.Rolls.{acted}
use Rattle.volume.proofs.Restores.{made_then, made_cond}

-- what an act gave, from what is told of it
told_ok : {A E : Type 0} (a : A) (t : Result A E) → told {B = Unit {0}} tt t ≡ Ok tt → t ≡ Ok (kept a t)
told_ok a (Ok x) e = refl
told_ok a (Err y) e = absurd (true≢false (ap is_err e))

told_err : {A E : Type 0} (a : A) (t : Result A E) (y : E) → told {B = Unit {0}} tt t ≡ Err y → (t ≡ Err y) × (kept a t ≡ a)
told_err a (Ok x) y e = absurd (true≢false (sym (ap is_err e)))
told_err a (Err z) y e = (ap (told a) e, refl)

module _ {PS PC : Type 0} (K : Model PS PC) where
  -- one record more, and as many cells and heads as before
  abbrev pub More : Memory PS PC → Memory PS PC → Type 0
  More m x = (length x.cells ≡ length m.cells) × (length x.heads ≡ length m.heads) × (x.count ≡ m.count + 1)

  more_entered : (m : Memory PS PC) (c : ℕ) (f : PC) → IfOk (entered K m c f) (More m)
  more_entered m c f =
      let put : List (Record PC) → Result (Memory PS PC) Refusal = λ rs. Ok (memory (set m.cells c (acted K f (get_or m.cells c (origin K)))) (set m.heads c (m.count + 1)) rs (m.count + 1)) in
      made_then (More m) (logged K m.records m.count (m.count + 1) (get_or m.heads c 0) c f) put (λ rs. (simp length-set, simp length-set, refl))

  module _ (f : List ℕ) where
    more_taken : (m : Memory PS PC) (n : ℕ) → IfOk (took K f m n) (More m)
    more_taken m n =
        let p = saved K f n in
        let read = refused_as File (change_read K n p.change) in
        let enter : K.Change → Result (Memory PS PC) Refusal = λ g. entered K m p.cell (K.plain_change g) in
        let other = not (eqb p.next (get_or m.heads p.cell 0)) in
        made_cond (More m) (leb (length m.cells) p.cell) (Err (File (Cell n))) (cond other (Err (File (Next n))) (and_then read enter)) tt
        (made_cond (More m) other (Err (File (Next n))) (and_then read enter) tt
        (made_then (More m) read enter (λ g. more_entered m p.cell (K.plain_change g))))

    module _ (m : Memory PS PC) where
      reached_is : (n : ℕ) (w : Memory PS PC) → took_to K f m n ≡ Ok w → reached K f m n ≡ w
      reached_is zero w p = ap (kept m) p
      reached_is (suc n) w p = ap (kept (reached K f m n)) p

      -- after a refused record none is taken
      stopped : (n i : ℕ) (e : Refusal) → i < n → took_to K f m (suc i) ≡ Err e → (took_to K f m n ≡ Err e) × (reached K f m n ≡ reached K f m i)
      stopped zero i e l p = absurd (omega arith)
      stopped (suc n) i e l p =
          elim (cases_lt i n) [
            | inl h ↦
                (let s = stopped n i e h p in
                let q : took_to K f m (suc n) ≡ Err e = ap (λ r. and_then r (λ w. took K f w (suc n))) s.0 in (q, ap (kept (reached K f m n)) q ∙ s.1))
            | inr h ↦
                (let same : n ≡ i = omega arith in
                let q : took_to K f m (suc n) ≡ Err e = ap (λ k. took_to K f m (suc k)) same ∙ p in (q, ap (kept (reached K f m n)) q ∙ ap (reached K f m) same))
          ]

      -- record i + 1 taken into w: r is the answer, x what is there then
      module _ (i : ℕ) (w x : Memory PS PC) (r : Result (Unit {0}) Refusal)
          (before : took_to K f m i ≡ Ok w) (answer : r ≡ told tt (took K f w (i + 1))) (after : x ≡ kept w (took K f w (i + 1))) where
        next : took_to K f m (suc i) ≡ took K f w (i + 1)
        next = ap (λ r. and_then r (λ w. took K f w (suc i))) before ∙ ap (took K f w) (sym (add-one i))

        pub takes_more : r ≡ Ok tt → (took_to K f m (i + 1) ≡ Ok x) × More w x
        takes_more q =
            let t = told_ok w (took K f w (i + 1)) (sym answer ∙ q) ∙ ap Ok (sym after) in
            (ap (took_to K f m) (add-one i) ∙ next ∙ t, IfOk-at_ok (More w) t (more_taken w (i + 1)))

        pub takes_stop : (n : ℕ) (e : Refusal) → i < n → r ≡ Err e → (took_to K f m n ≡ Err e) × (x ≡ reached K f m n)
        takes_stop n e l q =
            let t = told_err w (took K f w (i + 1)) e (sym answer ∙ q) in
            let s = stopped n i e l (next ∙ t.0) in
            (s.0, after ∙ t.1 ∙ sym (reached_is i w before) ∙ sym s.1)

      pub takes_all : (i n : ℕ) (w : Memory PS PC) → took_to K f m i ≡ Ok w → i ≡ n → (took_to K f m n ≡ Ok w) × (w ≡ reached K f m n)
      takes_all i n w p same = let q = ap (took_to K f m) (sym same) ∙ p in (q, sym (reached_is n w q))

    -- n records taken into b, which was m emptied: r is the answer, h what is there then
    pub all_in : (m b h : Memory PS PC) (n : ℕ) (r : Result (Unit {0}) Refusal) → b ≡ emptied K m → r ≡ told tt (took_to K f b n) → h ≡ reached K f b n → r ≡ Ok tt → took_to K f (emptied K m) n ≡ Ok h
    all_in m b h n r blank answer after q =
        let t = told_ok b (took_to K f b n) (sym answer ∙ q) in
        ap (λ b. took_to K f b n) (sym blank) ∙ t ∙ ap Ok (sym (reached_is b n _ t) ∙ sym after)

  -- a `for` over the records of a file of this kind: the one that is given is the next to be taken in, and after the last all are
  module _ (file : SavedFile) (of_kind : file.width ≡ K.width) (s v : Records) (first : s.file ≡ file) (none : s.given ≡ 0) (limit : s.last ≡ file.header.count) (begun : v ≡ s)
      (xs : List (ℕ × SavedRecord)) (t : Records) (so_far : Yields (YieldsFirstBy view rest) v xs t) (r : Option (ℕ × SavedRecord)) (u : Records) where
    road : YieldsList (YieldsFirstBy view rest) view v (numbered file.width file.bytes.now 0 file.header.count)
    road = YieldsList-at begun (records_give file file.header.count s first none limit)

    pub given_turn : (x : ℕ × SavedRecord) → r ≡ Some x → YieldsFirstBy view rest t r u → (length xs < file.header.count) × ((w : Memory PS PC) → took_parts K w x.0 (parts_seen x.1) ≡ took K file.bytes.now w (length xs + 1))
    given_turn x is step =
        let i = length xs in
        let f = file.bytes.now in
        let e = turn_numbered file.width file.header.count i f (view x) (YieldsList-turn road xs t so_far r u x is step) in
        (e.0, λ w. ap (λ n. took_parts K w n (parts_seen x.1)) e.1 ∙ ap (took_parts K w (i + 1)) (e.2 ∙ ap (λ d. parts_of (record_bytes d f (i + 1))) of_kind))

    pub given_end : r ≡ None → YieldsFirstBy view rest t r u → length xs ≡ file.header.count
    given_end is step = (YieldsList-end road xs t so_far r u is step).1 ∙ length_numbered file.width 0 file.header.count file.bytes.now
