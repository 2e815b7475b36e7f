-- Records, heads and cells that are tried one after the other. Assumes nothing.
use Rattle.std.proofs.Common.{◌≡◌, ℕ, ◌+◌, ◌-◌, ◌<◌, Bool, true, false, cond, not, List, length, set, Ok, Err, Result, sym, refl, ap, ◌∙◌, add-one, arith}
use Rattle.kind.specs.Answers.{and_then, each_below, refuse_if}
use Rattle.kind.specs.Model.{Model}
use Rattle.kind.proofs.Tried.{each_more, each_stops}
use Rattle.journal.specs.declared.record.Record.{Record}
use Rattle.journal.specs.Links.{numbered}
use Rattle.volume.specs.declared.refusal.Wrong.{Wrong}
use Rattle.volume.specs.declared.refusal.Wrong.TheVariants.{Record as WrongRecord}
use Rattle.volume.specs.Checks.{newest_to, right_record, record_right, head_right, cell_right, before_wrong, judged, noted}
use Rattle.volume.specs.Memory.{Memory}

-- one test more, whose answer is r: it is passed, or not
module _ {E : Type 0} (f : ℕ → Result (Unit {0}) E) (b : ℕ → Bool) (e : ℕ → E) (is : (i : ℕ) → f i ≡ refuse_if (not (b i)) (e i) (Ok tt)) where
  pub passed : (i : ℕ) (r : Bool) → each_below f i ≡ Ok tt → r ≡ b i → r ≡ true → each_below f (i + 1) ≡ Ok tt
  passed i r p a t = ap (each_below f) (add-one i) ∙ each_more f i tt p (is i ∙ ap (λ x. refuse_if (not x) (e i) (Ok tt)) (sym a ∙ t))

  pub failed : (n i : ℕ) (r : Bool) → i < n → each_below f i ≡ Ok tt → r ≡ b i → r ≡ false → each_below f n ≡ Err (e i)
  failed n i r l p a t = each_stops f n i (e i) l p (is i ∙ ap (λ x. refuse_if (not x) (e i) (Ok tt)) (sym a ∙ t))

-- record i + 1 of `cells` cells, where w was the work row before it and v is the work row after it
module _ {PS PC : Type 0} (K : Model PS PC) (rs : List (Record PC)) (cells i : ℕ) (w v : List ℕ) (b : Bool)
    (long : length w ≡ cells)
    (before : w ≡ newest_to K cells rs i)
    (answer : b ≡ right_record K (length w) rs w (i + 1) (numbered K rs (i + 1)))
    (after : v ≡ cond b (set w (numbered K rs (i + 1)).cell (i + 1)) w)
    (sofar : each_below (record_right K cells rs) i ≡ Ok tt) where
  abbrev right : ℕ → Bool
  right n = right_record K cells rs (newest_to K cells rs n) (n + 1) (numbered K rs (n + 1))

  answers : b ≡ right i
  answers =
      answer ∙ ap (λ n. right_record K n rs w (i + 1) (numbered K rs (i + 1))) long
      ∙ ap (λ x. right_record K cells rs x (i + 1) (numbered K rs (i + 1))) before

  pub took : b ≡ true → (v ≡ newest_to K cells rs (i + 1)) × (each_below (record_right K cells rs) (i + 1) ≡ Ok tt)
  took t = (
    after ∙ ap (λ x. cond x (set w (numbered K rs (i + 1)).cell (i + 1)) w) t
        ∙ ap (λ x. set x (numbered K rs (i + 1)).cell (i + 1)) before
        ∙ ap (λ k. set (newest_to K cells rs i) (numbered K rs k).cell k) (add-one i)
        ∙ ap (newest_to K cells rs) (sym (add-one i)),
    passed (record_right K cells rs) right (λ n. WrongRecord (n + 1)) (λ n. refl) i b sofar answers t,
  )

  pub left_out : (count : ℕ) → i < count → b ≡ false → (v ≡ newest_to K cells rs (before_wrong K count (Err (WrongRecord (i + 1))))) × (each_below (record_right K cells rs) count ≡ Err (WrongRecord (i + 1)))
  left_out count l t =
      let back : i ≡ (i + 1) - 1 = omega arith in (
        after ∙ ap (λ x. cond x (set w (numbered K rs (i + 1)).cell (i + 1)) w) t ∙ before ∙ ap (newest_to K cells rs) back,
        failed (record_right K cells rs) right (λ n. WrongRecord (n + 1)) (λ n. refl) count i b l sofar answers t,
      )

-- where every record is right, r being the answer and w the work row then: heads and cells are left
module _ {PS PC : Type 0} (K : Model PS PC) (m : Memory PS PC) (row : ℕ) (w : List ℕ) (r : Result (Unit {0}) Wrong)
    (long : row ≡ length m.cells)
    (answer : r ≡ each_below (record_right K row m.records) m.count)
    (after : w ≡ newest_to K row m.records (before_wrong K m.count r))
    (fine : r ≡ Ok tt) where
  all_right : each_below (record_right K (length m.cells) m.records) m.count ≡ Ok tt
  all_right = ap (λ n. each_below (record_right K n m.records) m.count) (sym long) ∙ sym answer ∙ fine

  all_in : w ≡ newest_to K (length m.cells) m.records m.count
  all_in = after ∙ ap (λ x. newest_to K row m.records (before_wrong K m.count x)) fine ∙ ap (λ n. newest_to K n m.records m.count) long

  -- h is the answer for the heads
  module _ (h : Result (Unit {0}) Wrong) (paired : length m.heads ≡ length m.cells) (heads : h ≡ each_below (head_right K w m.heads) (length m.heads)) where
    cells : Result (Unit {0}) Wrong
    cells = each_below (cell_right K m) (length m.cells)

    judged_on : judged K m ≡ and_then h (λ _. cells)
    unfolding cells
    judged_on =
        ap (λ x. and_then x (λ _. and_then (each_below (head_right K (newest_to K (length m.cells) m.records m.count) m.heads) (length m.cells)) (λ _. cells))) all_right
        ∙ ap (λ x. and_then (each_below (head_right K x m.heads) (length m.cells)) (λ _. cells)) (sym all_in)
        ∙ ap (λ n. and_then (each_below (head_right K w m.heads) n) (λ _. cells)) (sym paired)
        ∙ ap (λ x. and_then x (λ _. cells)) (sym heads)

    pub judged_heads : (k : Result (Unit {0}) Wrong) (e : Wrong) → h ≡ Err e → k ≡ Err e → k ≡ judged K m
    judged_heads k e q last = last ∙ sym (judged_on ∙ ap (λ x. and_then x (λ _. cells)) q)

    pub judged_cells : (k : Result (Unit {0}) Wrong) → h ≡ Ok tt → k ≡ each_below (cell_right K m) (length m.cells) → k ≡ judged K m
    unfolding cells
    judged_cells k q last = last ∙ sym (judged_on ∙ ap (λ x. and_then x (λ _. cells)) q)

  pub noted_all : w ≡ noted K m
  noted_all = all_in ∙ ap (λ x. newest_to K (length m.cells) m.records (before_wrong K m.count x)) (sym all_right)
