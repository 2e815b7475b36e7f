-- The records of a file that is as long as its count says, one after another. Assumes nothing.
use Rattle.std.proofs.Common.{◌≡◌, ℕ, zero, suc, ◌+◌, ◌-◌, ◌*◌, ◌<◌, ◌≤◌, List, ◌∷◌, length, get_or, Some, None, Option, refl, ap, ◌∙◌, mul-le-mul_right, suc-mul, arith}
use Rattle.std.specs.Iterator.{YieldsFirstBy, Yields}
use Rattle.std.proofs.lemmas.Iterator.{YieldsList}
use Rattle.std.proofs.lemmas.Iterator.Consumers.{YieldsList-from_first, YieldsList-at, YieldsList-turn, YieldsList-end}
use Rattle.file.specs.declared.header.Header.{Header}
use Rattle.file.specs.declared.records.SavedRecord.{SavedRecord}
use Rattle.file.specs.declared.saved.SavedFile.{SavedFile}
use Rattle.file.specs.declared.saved.Records.{Records}
use Rattle.file.specs.Header.{Fits}
use Rattle.file.specs.Records.{Parts, parts_of, parts_seen, record_bytes, record_start, numbered}

pub record_within : (h : Header) (w n : ℕ) (f : List ℕ) → Fits h w f → 1 ≤ n → n ≤ h.count → record_start w n + (6 + w) ≤ length f
record_within h w n f fits low high =
    let l = fits.whole.long in
    let e = fits.count in
    let k = mul-le-mul_right (6 + w) high in
    let m : n * (6 + w) ≡ (n - 1) * (6 + w) + (6 + w) = ap (λ i. i * (6 + w)) (omega arith) ∙ suc-mul (n - 1) (6 + w) in
    let same = ap (λ i. i * (6 + w)) e in
    omega (arith, l, k, m, same)

pub numbered_more : (w n count : ℕ) (f : List ℕ) → n < count → numbered w f n (count - n) ≡ (n + 1, parts_of (record_bytes w f (n + 1))) ∷ numbered w f (n + 1) (count - (n + 1))
numbered_more w n count f h = let e : count - n ≡ suc (count - (n + 1)) = omega arith in ap (numbered w f n) e

pub length_numbered : (w n m : ℕ) (f : List ℕ) → length (numbered w f n m) ≡ m
length_numbered w n zero f = refl
length_numbered w n (suc m) f = let e = length_numbered w (n + 1) m f in omega (arith, e)

-- record k + 1 of those after the first n
pub at_numbered : (w n m k : ℕ) (f : List ℕ) (d : ℕ × Parts) → k < m → get_or (numbered w f n m) k d ≡ (n + k + 1, parts_of (record_bytes w f (n + k + 1)))
at_numbered w n zero k f d h = absurd (omega arith)
at_numbered w n (suc m) zero f d h = let e : n + 1 ≡ n + 0 + 1 = omega arith in ap (λ j. (j, parts_of (record_bytes w f j))) e
at_numbered w n (suc m) (suc k) f d h =
    let e : n + 1 + k + 1 ≡ n + suc k + 1 = omega arith in
    at_numbered w (n + 1) m k f d (omega arith) ∙ ap (λ j. (j, parts_of (record_bytes w f j))) e

abbrev pub view : ℕ × SavedRecord → ℕ × Parts
view r = (r.0, parts_seen r.1)

abbrev pub rest : Records → List (ℕ × Parts)
rest s = numbered s.file.width s.file.bytes.now s.given (s.last - s.given)

-- what a `for` over the first m records of a file is given
pub records_give : (file : SavedFile) (m : ℕ) (s : Records) → s.file ≡ file → s.given ≡ 0 → s.last ≡ m → YieldsList (YieldsFirstBy view rest) view s (numbered file.width file.bytes.now 0 m)
records_give file m s e z l =
    let many : s.last - s.given ≡ m = omega (arith, z, l) in
    YieldsList-from_first view rest _ (ap (numbered s.file.width s.file.bytes.now s.given) many ∙ ap (λ g. numbered s.file.width s.file.bytes.now g m) z ∙ ap (λ f. numbered f.width f.bytes.now 0 m) e)

-- turn k of a `for` over them, from 0
pub turn_numbered : (w count k : ℕ) (f : List ℕ) (x : ℕ × Parts) → (k < length (numbered w f 0 count)) × (x ≡ get_or (numbered w f 0 count) k x) → (k < count) × (x.0 ≡ k + 1) × (x.1 ≡ parts_of (record_bytes w f (k + 1)))
turn_numbered w count k f x h =
    let low : k < count = omega (arith, h.0, length_numbered w 0 count f) in
    let same = h.1 ∙ at_numbered w 0 count k f x low in
    let e : 0 + k + 1 ≡ k + 1 = omega arith in
    (low, ap (λ x. x.0) same ∙ e, ap (λ x. x.1) same ∙ ap (λ j. parts_of (record_bytes w f j)) e)

-- a `for` over the first m records
module _ (file : SavedFile) (m : ℕ) (s v : Records) (first : s.file ≡ file) (none : s.given ≡ 0) (limit : s.last ≡ m) (begun : v ≡ s) where
  road : YieldsList (YieldsFirstBy view rest) view v (numbered file.width file.bytes.now 0 m)
  road = YieldsList-at begun (records_give file m s first none limit)

  module _ (xs : List (ℕ × SavedRecord)) (t : Records) (so_far : Yields (YieldsFirstBy view rest) v xs t) (r : Option (ℕ × SavedRecord)) (w : Records) where
    pub turn_taken : (x : ℕ × SavedRecord) → r ≡ Some x → YieldsFirstBy view rest t r w → (length xs < m) × (x.0 ≡ length xs + 1) × (parts_seen x.1 ≡ parts_of (record_bytes file.width file.bytes.now (length xs + 1)))
    turn_taken x is step = turn_numbered file.width m (length xs) file.bytes.now (view x) (YieldsList-turn road xs t so_far r w x is step)

    pub end_taken : r ≡ None → YieldsFirstBy view rest t r w → length xs ≡ m
    end_taken is step = (YieldsList-end road xs t so_far r w is step).1 ∙ length_numbered file.width 0 m file.bytes.now
