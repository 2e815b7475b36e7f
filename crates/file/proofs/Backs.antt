-- What a file's form is read as. Assumes nothing.
use Rattle.std.proofs.Common.{◌≡◌, ℕ, suc, ◌+◌, ◌-◌, ◌*◌, ◌/◌, ◌%◌, ◌^◌, ◌<◌, true, false, not, eqb, ltb, List, [], ◌∷◌, ◌++◌, length, take, drop, None, Ok, Option, sym, refl, ap, ◌∙◌, append_assoc, append-nil, suc-mul, zero-mul, add-one, arith, length-append, drop-drop, take_at, drop_at}
use native.Mathlib.Nat.{div-div-eq-div-mul, mod-add-div'}
use Rattle.std.proofs.lemmas.Bool.{eq-eqb, ne_eqb, le-ltb}
use Rattle.kind.specs.Answers.{refuse_if}
use Rattle.kind.specs.Bytes.{le32}
use Rattle.kind.specs.Model.{Model, Laws}
use Rattle.file.specs.declared.faults.FileFault.TheVariants.{Short, Letter}
use Rattle.file.specs.declared.header.Handed.{Handed}
use Rattle.file.specs.declared.letters.BoardKind.TheVariants.{Block, Tally, BankMap}
use Rattle.file.specs.Letters.{letter_of, width_of}
use Rattle.file.specs.Header.{after_letter, other_cells, past_room, file_length, cells_at, count_at}
use Rattle.file.specs.Records.{parts_of, record_bytes, record_start}
use Rattle.file.specs.Forms.{le32_form, header_form, Line, record_form, records_form, file_form, record_laid, written}
use Rattle.file.specs.Back.{Sized, AnyHeaderBack, HeaderBack, RecordBack, ChangeBack, Placed, Long, WrittenInTurn}

-- a number from its lowest byte and the rest, three times
digits : (n q1 q2 q3 r0 r1 r2 : ℕ) → r0 + q1 * 256 ≡ n → r1 + q2 * 256 ≡ q1 → r2 + q3 * 256 ≡ q2 → r0 + r1 * 256 + r2 * 65536 + q3 * 16777216 ≡ n
digits n q1 q2 q3 r0 r1 r2 a b c = omega arith

le32_back : (n : ℕ) → n < 2 ^ 32 → le32 (le32_form n) ≡ n
le32_back n h =
    let b : n / 256 % 256 + n / 65536 * 256 ≡ n / 256 = ap (λ q. n / 256 % 256 + q * 256) (sym (div-div-eq-div-mul n 256 256)) ∙ mod-add-div' (n / 256) 256 in
    let c : n / 65536 % 256 + n / 16777216 * 256 ≡ n / 65536 = ap (λ q. n / 65536 % 256 + q * 256) (sym (div-div-eq-div-mul n 65536 256)) ∙ mod-add-div' (n / 65536) 256 in
    let top : n / 16777216 % 256 ≡ n / 16777216 = omega arith in
    ap (λ q. n % 256 + n / 256 % 256 * 256 + n / 65536 % 256 * 65536 + q * 16777216) top ∙ digits n (n / 256) (n / 65536) (n / 16777216) (n % 256) (n / 256 % 256) (n / 65536 % 256) (mod-add-div' n 256) b c

-- a form that is written just behind a front
laid_behind : (front form tail : List ℕ) (at k : ℕ) → length front ≡ at → take at (front ++ tail) ++ (form ++ drop (at + k) (front ++ tail)) ≡ front ++ (form ++ drop k tail)
laid_behind front form tail at k e =
    ap (λ x. x ++ (form ++ drop (at + k) (front ++ tail))) (take_at front tail at e) ∙ ap (λ d. front ++ (form ++ d)) (sym (drop-drop k at (front ++ tail)) ∙ ap (drop k) (drop_at front tail at e))

module _ (letter cells count : ℕ) (rest : List ℕ) where
  abbrev whole : List ℕ
  whole = header_form letter cells count ++ rest

  long_enough : ltb (length whole) 8 ≡ false
  long_enough = le-ltb (length whole) 8 (omega arith)

-- a header within the limits is not refused
module _ (width : ℕ) (handed : Option Handed) (letter cells count : ℕ) (rest : List ℕ) (s : Sized width cells count rest) (as_many : other_cells handed cells ≡ false) (room : past_room handed count ≡ false) where
  abbrev f : List ℕ
  f = whole letter cells count rest

  cells_back : cells_at f ≡ cells
  cells_back = let l = s.few_cells in omega arith

  count_back : count_at f ≡ count
  count_back = let l = s.few_records in omega arith

  not_refused : after_letter width handed f ≡ Ok (record { letter = letter; cells = cells; count = count })
  not_refused =
      let l = s.long in
      let e0 : eqb cells 0 ≡ false = ne_eqb cells 0 (λ z. let p = s.some_cells in omega arith) in
      let e1 : ltb 4096 cells ≡ false = le-ltb 4096 cells s.few_cells in
      let e2 : ltb 65535 count ≡ false = le-ltb 65535 count s.few_records in
      let e3 : eqb (length f) (file_length width count) ≡ true = eq-eqb (length f) (file_length width count) (omega arith) in
      rw (cells_back, count_back, e0, e1, as_many, e2, room, e3)

refused_not : (width letter cells count : ℕ) (rest : List ℕ) → Sized width cells count rest → refuse_if (ltb (length (whole letter cells count rest)) 8) Short (after_letter width None (whole letter cells count rest)) ≡ Ok (record { letter = letter; cells = cells; count = count })
refused_not width letter cells count rest s =
    ap (λ t. refuse_if t Short (after_letter width None (whole letter cells count rest))) (long_enough letter cells count rest) ∙ not_refused width None letter cells count rest s refl refl

pub any_header_back : AnyHeaderBack
any_header_back Block cells count rest s = refused_not (width_of Block) (letter_of Block) cells count rest s
any_header_back Tally cells count rest s = refused_not (width_of Tally) (letter_of Tally) cells count rest s
any_header_back BankMap cells count rest s = refused_not (width_of BankMap) (letter_of BankMap) cells count rest s

module _ {PS PC : Type 0} (K : Model PS PC) where
  pub header_back : HeaderBack K
  header_back handed cells count rest s as_many room =
      let f = whole K.letter cells count rest in
      let after = after_letter K.width handed f in
      ap (λ t. refuse_if t Short (refuse_if (not (eqb K.letter K.letter)) Letter after)) (long_enough K.letter cells count rest)
      ∙ ap (λ t. refuse_if (not t) Letter after) (eq-eqb K.letter K.letter refl) ∙ not_refused K.width handed K.letter cells count rest s as_many room

  pub record_back : RecordBack K
  record_back r n =
      let l = n.next in
      let m = n.cell in
      let next : (parts_of (record_form K r)).next ≡ r.next = le32_back r.next n.next in
      let cell : (parts_of (record_form K r)).cell ≡ r.cell = omega arith in
      λ i. record { next = next i; cell = cell i; change = K.change_form r.change }

  module _ (laws : Laws K) where
    pub change_back : ChangeBack K
    change_back r = laws.read_back r.change

    record_long : (r : Line K) → length (record_form K r) ≡ 6 + K.width
    record_long r = let w = (laws.change_width r.change).0 in omega arith

    records_long : (rs : List (Line K)) → length (records_form K rs) ≡ length rs * (6 + K.width)
    records_long [] = sym (zero-mul (6 + K.width))
    records_long (r ∷ rs) =
        let a = length-append (record_form K r) (records_form K rs) in
        let h = records_long rs in
        let n = record_long r in
        let m = suc-mul (length rs) (6 + K.width) in
        omega (arith, a, h, n, m)

    pub long : Long K
    long cells rs = let n = records_long rs in omega (arith, n)

    records_join : (before after : List (Line K)) → records_form K (before ++ after) ≡ records_form K before ++ records_form K after
    records_join [] after = refl
    records_join (r ∷ before) after = ap (λ x. record_form K r ++ x) (records_join before after) ∙ sym (append_assoc (record_form K r) (records_form K before) (records_form K after))

    -- where the next record begins
    front_long : (cells count : ℕ) (rs : List (Line K)) → length (header_form K.letter cells count ++ records_form K rs) ≡ record_start K.width (length rs + 1)
    front_long cells count rs =
        let k = records_long rs in
        let same : (length rs + 1 - 1) * (6 + K.width) ≡ length rs * (6 + K.width) = ap (λ m. m * (6 + K.width)) (omega arith) in
        omega (arith, k, same)

    pub placed : Placed K
    placed cells before after r =
        let at = record_start K.width (length before + 1) in
        let n = length (before ++ (r ∷ after)) in
        let front = header_form K.letter cells n ++ records_form K before in
        let rest = record_form K r ++ records_form K after in
        let join : file_form K cells (before ++ (r ∷ after)) ≡ front ++ rest = ap (λ x. header_form K.letter cells n ++ x) (records_join before (r ∷ after)) in
        ap (λ f. record_bytes K.width f (length before + 1)) join ∙ ap (take (6 + K.width)) (drop_at front rest at (front_long cells n before))
        ∙ take_at (record_form K r) (records_form K after) (6 + K.width) (record_long r)

    module _ (cells count : ℕ) (rs : List (Line K)) (r : Line K) (out : List ℕ) where
      abbrev header : List ℕ
      header = header_form K.letter cells count

      -- the area past the next record
      past : drop (6 + K.width) (drop (file_length K.width (length rs)) out) ≡ drop (file_length K.width (length (rs ++ (r ∷ [])))) out
      past =
          let n : length (rs ++ (r ∷ [])) ≡ suc (length rs) = length-append rs (r ∷ []) ∙ add-one (length rs) in
          let m = suc-mul (length rs) (6 + K.width) in
          let long : file_length K.width (length rs) + (6 + K.width) ≡ file_length K.width (suc (length rs)) = omega (arith, m) in
          drop-drop (6 + K.width) (file_length K.width (length rs)) out ∙ ap (λ k. drop k out) (long ∙ ap (file_length K.width) (sym n))

      one_more : (d : List ℕ) → (header ++ records_form K rs) ++ (record_form K r ++ d) ≡ header ++ (records_form K (rs ++ (r ∷ [])) ++ d)
      one_more d =
          append_assoc header (records_form K rs) (record_form K r ++ d) ∙ ap (λ x. header ++ x) (sym (append_assoc (records_form K rs) (record_form K r) d))
          ∙ ap (λ x. header ++ (x ++ d)) (ap (λ x. records_form K rs ++ x) (sym (append-nil (record_form K r))) ∙ sym (records_join rs (r ∷ [])))

      goes_on : record_laid K (length rs + 1) r (written K cells count rs out) ≡ written K cells count (rs ++ (r ∷ [])) out
      goes_on =
          let tail = drop (file_length K.width (length rs)) out in
          ap (record_laid K (length rs + 1) r) (sym (append_assoc header (records_form K rs) tail))
          ∙ laid_behind (header ++ records_form K rs) (record_form K r) tail (record_start K.width (length rs + 1)) (6 + K.width) (front_long cells count rs)
          ∙ ap (λ d. (header ++ records_form K rs) ++ (record_form K r ++ d)) past ∙ one_more (drop (file_length K.width (length (rs ++ (r ∷ [])))) out)

    no_records : 8 ≡ file_length K.width 0
    no_records = let z = zero-mul (6 + K.width) in omega (arith, z)

    pub written_in_turn : WrittenInTurn K
    written_in_turn = record {
      begins = λ cells count out. ap (λ k. header_form K.letter cells count ++ drop k out) no_records;
      goes_on = goes_on;
      ends = λ cells rs out. sym (append_assoc (header_form K.letter cells (length rs)) (records_form K rs) (drop (file_length K.width (length rs)) out));
    }
