-- What read and span answer on the memory that a history leaves. Assumes nothing.
use Rattle.std.proofs.Common.{◌≡◌, ℕ, ◌<◌, ◌≤◌, ◌||◌, ltb, leb, List, length, get_or, Ok, Err, Result, sym, ap, ◌∙◌, arith}
use Rattle.std.proofs.lemmas.Bool.{cond-false, or_from, lt-leb, le-ltb}
use Rattle.kind.specs.Answers.{and_then, refuse_if, refused_as}
use Rattle.kind.specs.Model.{Model, Laws}
use Rattle.journal.specs.declared.walk.Stretch.{Stretch}
use Rattle.journal.specs.Spans.{spanned}
use Rattle.logs.specs.Writes.{Write}
use Rattle.logs.proofs.Algebra.{onward, onward_joins}
use Rattle.logs.proofs.Counted.{total, depth_all}
use Rattle.logs.proofs.Proved.{span}
use Rattle.steps.proofs.Proved.{digits_known_lem}
use Rattle.volume.specs.Calls.{origin, state_read, change_between}
use Rattle.volume.specs.Memory.{Memory}
use Rattle.volume.specs.declared.refusal.Refusal.{Refusal}
use Rattle.volume.specs.declared.refusal.Refusal.TheVariants.{Cell, Moment, Ladder}
use Rattle.history.specs.History.{History, count, entries_of, stood}
use Rattle.history.specs.Promises.{Spans, Composes}
use Rattle.history.proofs.Canonical.{Canonical, sound_is, writes_few}
use Rattle.history.proofs.Entered.{writes, writes_length, writes_count, onward_acts}

module _ {PS PC : Type 0} (K : Model PS PC) (L : Laws K) {h : History K.State} {v : Memory PS PC} (C : Canonical K h v) (c : ℕ) where
  abbrev ws : List (Write PC)
  ws = writes K h.entries

  -- read
  abbrev pub found : Result PS Refusal
  found = Ok (get_or v.cells c (origin K))

  pub looks : state_read K v c ≡ refuse_if (leb h.cells c) Cell found
  unfolding state_read
  looks = ap (λ r. and_then r (λ _. refuse_if (leb (length v.cells) c) Cell found)) (sound_is K C) ∙ ap (λ n. refuse_if (leb n c) Cell found) C.all_cells

  -- span
  module _ (a b : ℕ) where
    abbrev pub walked : Result (Stretch PC) Refusal
    walked = refused_as Ladder (spanned K v.records v.count (get_or v.heads c 0) c a b)

    abbrev pub timed : Result (Stretch PC) Refusal
    timed = refuse_if (ltb (count h) a || ltb (count h) b) Moment walked

    pub measures : change_between K v c a b ≡ refuse_if (leb h.cells c) Cell timed
    unfolding change_between
    measures =
        ap (λ r. and_then r (λ _. refuse_if (leb (length v.cells) c) Cell (refuse_if (ltb v.count a || ltb v.count b) Moment walked))) (sound_is K C)
        ∙ ap (λ n. refuse_if (leb n c) Cell (refuse_if (ltb v.count a || ltb v.count b) Moment walked)) C.all_cells
        ∙ ap (λ n. refuse_if (leb h.cells c) Cell (refuse_if (ltb n a || ltb n b) Moment walked)) C.counts

    span_in : c < h.cells → change_between K v c a b ≡ timed
    span_in in' = measures ∙ cond-false (leb h.cells c) (Err Cell) timed (lt-leb h.cells c in')

  -- what the cell's writes up to a moment come to
  abbrev pub T : ℕ → K.Change
  T = total K (writes K h.entries) c

  -- what leads from one moment to another is the difference of how the cell stood
  pub onward_diff : (a b : ℕ) → onward K (T a) (T b) ≡ K.diff (stood K h c a) (stood K h c b)
  onward_diff a b =
      L.faithful (onward K (T a) (T b)) (K.diff (stood K h c a) (stood K h c b)) (stood K h c a)
      (onward_acts K L h.entries c a b ∙ sym (L.diff_acts (stood K h c a) (stood K h c b)))

  module _ (in' : c < h.cells) (a b : ℕ) where
    abbrev pub got : Stretch PC
    got = (span K L (writes K h.entries) v.records C.logs (writes_few K C) c a b).got

    pub spans : spanned K v.records v.count (get_or v.heads c 0) c a b ≡ Ok got
    spans =
        ap (λ n. spanned K v.records n (get_or v.heads c 0) c a b) (C.counts ∙ sym (writes_length K h.entries))
        ∙ ap (λ n. spanned K v.records (length ws) n c a b) (C.heads c in')
        ∙ (span K L ws v.records C.logs (writes_few K C) c a b).answer

    pub walks : walked a b ≡ Ok got
    walks = ap (refused_as Ladder) spans

    pub got_is : K.change got.change ≡ onward K (T a) (T b)
    got_is = (span K L ws v.records C.logs (writes_few K C) c a b).is

    pub span_answered : a ≤ count h → b ≤ count h → change_between K v c a b ≡ Ok got
    span_answered x y =
        span_in a b in' ∙ cond-false (ltb (count h) a || ltb (count h) b) (Err Moment) (walked a b) (or_from (ltb (count h) a) (ltb (count h) b) (le-ltb (count h) a x) (le-ltb (count h) b y)) ∙ walks

  pub spans_stand : (a b : ℕ) → c < h.cells → a ≤ count h → b ≤ count h → Spans K h v c a b
  spans_stand a b in' x y =
      let digits = digits_known_lem (entries_of c h.entries) in
      let n = depth_all K ws c ∙ writes_count K h.entries c in
      let s : K.State = stood K h c a in
      let t : K.State = stood K h c b in
      let is : K.change (got in' a b).change ≡ K.diff s t = got_is in' a b ∙ onward_diff a b in
      record {
        found = got in' a b;
        answered = span_answered in' a b x y;
        alike = λ e. sym (L.unit_acts s) ∙ ap (λ f. K.act f s) (sym e ∙ is) ∙ L.diff_acts s t;
        unit = λ e. is ∙ L.faithful (K.diff s t) K.unit s (L.diff_acts s t ∙ sym e ∙ sym (L.unit_acts s));
        k = digits.0;
        not_above = digits.1;
        greatest = digits.2;
        few_steps = (span K L ws v.records C.logs (writes_few K C) c a b).few digits.0 (omega (arith, n)) (omega (arith, n));
      }

  pub spans_compose : (x y z : ℕ) → c < h.cells → x ≤ count h → y ≤ count h → z ≤ count h → Composes K v c x y z
  spans_compose x y z in' p q r =
      record {
        first = got in' x y;
        second = got in' y z;
        whole = got in' x z;
        from_x_to_y = span_answered in' x y p q;
        from_y_to_z = span_answered in' y z q r;
        from_x_to_z = span_answered in' x z p r;
        composes =
            ap (λ f. K.then f (K.change (got in' y z).change)) (got_is in' x y)
            ∙ ap (K.then (onward K (T x) (T y))) (got_is in' y z)
            ∙ onward_joins K L (T x) (T y) (T z) ∙ sym (got_is in' x z);
      }
