-- The tally keeps the laws. Assumes nothing.
use Rattle.std.specs.Prelude.{◌≡◌, ℕ, ◌%◌, ◌^◌, ◌<◌, true, cond, ◌&&◌, List, [], ◌∷◌, length, Ok, Err, ◌==◌, nat_lt, slice_index, slice_index_or, refl}
use Rattle.std.proofs.Common.{sym, ap, ◌∙◌, arith, lit≤, lit<, of_z, to_z}
use mathlib.Core.HLevel.{is_prop→PathP}
use Rattle.std.proofs.Math.Bridge.{le_prop}
use Rattle.std.specs.Int.{w32}
use Rattle.std.proofs.lemmas.Int.{of_z-to_z}
use Rattle.std.proofs.lemmas.Bool.{eqb-true, eq-eqb, and_parts, and_from, lt-ltb}
use Rattle.kind.specs.declared.KindFault.TheVariants.{NotAChange}
use Rattle.kind.specs.Bytes.{bytes?, le32}
use Rattle.kind.specs.Model.{Laws}
use Rattle.kind.specs.Tallies.{Word, word, word_form, word_read, tally}
use Rattle.kind.specs.Laws.Bytes.{bytes_get_or, read_ok}

pub word_path : (x y : Word) → x.bits ≡ y.bits → x ≡ y
word_path x y p = λ i. record { bits = p i; low = is_prop→PathP (λ j. p j < 2 ^ 32) (λ j. le_prop) x.low y.low i }

word_plain : (x : Word) → word (of_z w32 (to_z w32 x.bits)) ≡ x
word_plain x = word_path (word (of_z w32 (to_z w32 x.bits))) x (ap (λ n. n % 2 ^ 32) (of_z-to_z w32 x.bits x.low) ∙ omega arith)

low_byte : (n : ℕ) → nat_lt (n % 256) 256 ≡ true
low_byte n = lt-ltb (n % 256) 256 (omega arith)

form_bytes : (x : Word) → bytes? (word_form x) ≡ true
form_bytes x = simp low_byte

form_back : (x : Word) → word (le32 (word_form x)) ≡ x
form_back x = word_path (word (le32 (word_form x))) x (omega arith)

form_apart : (x y : Word) → word_form x ≡ word_form y → x ≡ y
form_apart x y e = sym (form_back x) ∙ ap (λ bs. word (le32 bs)) e ∙ form_back y

four : (bs : List ℕ) → length bs ≡ 4 → bs ≡ slice_index bs 0 ∷ slice_index bs 1 ∷ slice_index bs 2 ∷ slice_index bs 3 ∷ []
four [] h = absurd (omega arith)
four (a ∷ []) h = absurd (omega arith)
four (a ∷ b ∷ []) h = absurd (omega arith)
four (a ∷ b ∷ c ∷ []) h = absurd (omega arith)
four (a ∷ b ∷ c ∷ d ∷ []) h = refl
four (a ∷ b ∷ c ∷ d ∷ e ∷ bs) h = absurd (omega arith)

quad : {a b c d a' b' c' d' : ℕ} → a ≡ a' → b ≡ b' → c ≡ c' → d ≡ d' → ◌≡◌ {A = List ℕ} (a ∷ b ∷ c ∷ d ∷ []) (a' ∷ b' ∷ c' ∷ d' ∷ [])
quad p q r s = λ i. p i ∷ q i ∷ r i ∷ s i ∷ []

pub read_form_of : (bs : List ℕ) → length bs ≡ 4 → bytes? bs ≡ true → bs ≡ word_form (word (le32 bs))
read_form_of bs h t =
    let p0 : slice_index_or bs 0 0 < 256 = bytes_get_or bs 0 t (omega arith) in
    let p1 : slice_index_or bs 1 0 < 256 = bytes_get_or bs 1 t (omega arith) in
    let p2 : slice_index_or bs 2 0 < 256 = bytes_get_or bs 2 t (omega arith) in
    let p3 : slice_index_or bs 3 0 < 256 = bytes_get_or bs 3 t (omega arith) in
    four bs h ∙ quad (omega arith) (omega arith) (omega arith) (omega arith)

only_form : (bs : List ℕ) (f : Word) → word_read bs ≡ Ok f → bs ≡ word_form f
only_form bs f e =
    let r = read_ok (length bs == 4 && bytes? bs) (word (le32 bs)) f NotAChange e in
    let t = and_parts _ _ r.0 in
    read_form_of bs (eqb-true _ _ t.0) t.1 ∙ ap word_form r.1

back : (f : Word) → word_read (word_form f) ≡ Ok f
back f = ap (λ t. cond t (Ok (word (le32 (word_form f)))) (Err NotAChange)) (form_bytes f) ∙ ap (λ (x : Word). Ok x) (form_back f)

pub tally_laws : Laws tally
tally_laws = record {
  state_plain = word_plain;
  change_plain = word_plain;
  letter_low = lit< tt;
  width_low = lit≤ tt;
  width_high = lit≤ tt;
  unit_acts = λ s. word_path _ _ (omega arith);
  then_acts = λ f g s. word_path _ _ (omega arith);
  assoc = λ f g h. word_path _ _ (omega arith);
  unit_then = λ f. word_path _ _ (omega arith);
  then_unit = λ f. word_path _ _ (omega arith);
  inverse_right = λ f. word_path _ _ (omega arith);
  inverse_left = λ f. word_path _ _ (omega arith);
  diff_acts = λ s t. word_path _ _ (omega arith);
  faithful = λ f g s e. word_path f g (let h = ap (λ (x : Word). x.bits) e in omega arith);
  state_exact = λ s t. (λ h. word_path s t (eqb-true _ _ h), λ h. eq-eqb _ _ (ap (λ (x : Word). x.bits) h));
  change_exact = λ s t. (λ h. word_path s t (eqb-true _ _ h), λ h. eq-eqb _ _ (ap (λ (x : Word). x.bits) h));
  change_width = λ f. (refl, form_bytes f);
  read_back = back;
  no_other = only_form;
  state_width = λ s. (refl, form_bytes s);
  state_apart = form_apart;
}

pub word_read_is : (bs : List ℕ) → length bs ≡ 4 → bytes? bs ≡ true → word_read bs ≡ Ok (word (le32 bs))
word_read_is bs h t = ap (λ b. cond b (Ok (word (le32 bs))) (Err NotAChange)) (and_from (length bs == 4) (bytes? bs) (eq-eqb (length bs) 4 h) t)
