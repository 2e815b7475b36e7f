-- A file that is read is the file of what was read from it. Assumes nothing.
use Rattle.std.proofs.Common.{◌≡◌, ℕ, zero, suc, ◌+◌, ◌-◌, ◌*◌, ◌<◌, ◌≤◌, true, not, ◌&&◌, eqb, ltb, leb, List, [], ◌∷◌, ◌++◌, length, take, drop, Ok, Option, sym, refl, ap, ◌∙◌, suc-mul, arith, length-drop, take-append-drop, length-take}
use Rattle.std.proofs.lemmas.List.{append_assoc, append-nil, drop-drop, take_all}
use Rattle.std.proofs.lemmas.Bool.Decides.{nat_tests}
use Rattle.std.proofs.lemmas.Bool.{and_parts, eqb-true, ltb-false, not-false}
use Rattle.kind.specs.Bytes.{bytes?, le16, le32}
use Rattle.kind.specs.Model.{Model, Laws}
use Rattle.file.specs.declared.faults.FileFault.TheVariants.{Cell, Next, Change}
use Rattle.file.specs.declared.header.Handed.{Handed}
use Rattle.file.specs.declared.header.Header.{Header}
use Rattle.file.specs.Changes.{change_read}
use Rattle.file.specs.Forms.{Line, le16_form, le32_form, header_form, record_form, records_form, file_form}
use Rattle.file.specs.Header.{letter_at, version_at, cells_at, count_at, file_length}
use Rattle.file.specs.Records.{Parts, record_bytes}
use Rattle.file.specs.States.{saved}
use Rattle.logs.proofs.Counted.{take_split}
use Rattle.history.specs.Files.{line, lines_on, entry_read, entries_read}
use Rattle.history.specs.History.{Entry, latest, last_number}
use Rattle.history.proofs.Filed.{lines_append, lines_length}
use Rattle.history.proofs.Loaded.{Passed, entries_length}
use Rattle.history.proofs.Results.{then_ok, test_ok, as_ok}

pair : {a b a' b' : ℕ} (xs : List ℕ) → a ≡ a' → b ≡ b' → ◌≡◌ {A = List ℕ} (a ∷ b ∷ xs) (a' ∷ b' ∷ xs)
pair xs p q = λ i. p i ∷ q i ∷ xs

four : {a b c d a' b' c' d' : ℕ} (xs : List ℕ) → a ≡ a' → b ≡ b' → c ≡ c' → d ≡ d' → ◌≡◌ {A = List ℕ} (a ∷ b ∷ c ∷ d ∷ xs) (a' ∷ b' ∷ c' ∷ d' ∷ xs)
four xs p q r s = λ i. p i ∷ q i ∷ r i ∷ s i ∷ xs

-- two, and four, bytes are those of the number that they write
two_back : (a b : ℕ) (rest : List ℕ) → a < 256 → b < 256 → le16_form (le16 (a ∷ b ∷ rest)) ≡ a ∷ b ∷ []
two_back a b rest p q = pair [] (omega arith) (omega arith)

four_back : (a b c d : ℕ) (rest : List ℕ) → a < 256 → b < 256 → c < 256 → d < 256 → le32_form (le32 (a ∷ b ∷ c ∷ d ∷ rest)) ≡ a ∷ b ∷ c ∷ d ∷ []
four_back a b c d rest p q r s = four [] (omega arith) (omega arith) (omega arith) (omega arith)

six_back : (b : List ℕ) → 6 ≤ length b → bytes? b ≡ true → le32_form (le32 b) ++ (le16_form (le16 (drop 4 b)) ++ drop 6 b) ≡ b
six_back [] l t = absurd (omega arith)
six_back (a ∷ []) l t = absurd (omega arith)
six_back (a ∷ b ∷ []) l t = absurd (omega arith)
six_back (a ∷ b ∷ c ∷ []) l t = absurd (omega arith)
six_back (a ∷ b ∷ c ∷ d ∷ []) l t = absurd (omega arith)
six_back (a ∷ b ∷ c ∷ d ∷ e ∷ []) l t = absurd (omega arith)
six_back (a ∷ b ∷ c ∷ d ∷ e ∷ f ∷ xs) l t =
    ap (λ ys. ys ++ (le16_form (le16 (e ∷ f ∷ xs)) ++ xs)) (four_back a b c d (e ∷ f ∷ xs) (grind (arith, nat_tests)) (grind (arith, nat_tests)) (grind (arith, nat_tests)) (grind (arith, nat_tests)))
    ∙ ap (λ ys. (a ∷ b ∷ c ∷ d ∷ []) ++ (ys ++ xs)) (two_back e f xs (grind (arith, nat_tests)) (grind (arith, nat_tests)))

eight_back : (f : List ℕ) → 8 ≤ length f → bytes? f ≡ true → version_at f ≡ 1 → header_form (letter_at f) (cells_at f) (count_at f) ≡ take 8 f
eight_back [] l t v = absurd (omega arith)
eight_back (a ∷ []) l t v = absurd (omega arith)
eight_back (a ∷ b ∷ []) l t v = absurd (omega arith)
eight_back (a ∷ b ∷ c ∷ []) l t v = absurd (omega arith)
eight_back (a ∷ b ∷ c ∷ d ∷ []) l t v = absurd (omega arith)
eight_back (a ∷ b ∷ c ∷ d ∷ e ∷ []) l t v = absurd (omega arith)
eight_back (a ∷ b ∷ c ∷ d ∷ e ∷ f ∷ []) l t v = absurd (omega arith)
eight_back (a ∷ b ∷ c ∷ d ∷ e ∷ f ∷ g ∷ []) l t v = absurd (omega arith)
eight_back (a ∷ b ∷ c ∷ d ∷ e ∷ f ∷ g ∷ h ∷ xs) l t v =
    ap (λ y. a ∷ y ∷ (le16_form (le16 (c ∷ d ∷ e ∷ f ∷ g ∷ h ∷ xs)) ++ le32_form (le32 (e ∷ f ∷ g ∷ h ∷ xs)))) (sym v)
    ∙ ap (λ (ys : List ℕ). a ∷ b ∷ (ys ++ le32_form (le32 (e ∷ f ∷ g ∷ h ∷ xs)))) (two_back c d (e ∷ f ∷ g ∷ h ∷ xs) (grind (arith, nat_tests)) (grind (arith, nat_tests)))
    ∙ ap (λ (ys : List ℕ). a ∷ b ∷ c ∷ d ∷ ys) (four_back e f g h xs (grind (arith, nat_tests)) (grind (arith, nat_tests)) (grind (arith, nat_tests)) (grind (arith, nat_tests)))

-- parts of bytes are bytes
bytes_drop : (n : ℕ) (xs : List ℕ) → bytes? xs ≡ true → bytes? (drop n xs) ≡ true
bytes_drop zero xs t = t
bytes_drop (suc n) [] t = refl
bytes_drop (suc n) (x ∷ xs) t = bytes_drop n xs (and_parts (ltb x 256) (bytes? xs) t).1

bytes_take : (n : ℕ) (xs : List ℕ) → bytes? xs ≡ true → bytes? (take n xs) ≡ true
bytes_take zero xs t = refl
bytes_take (suc n) [] t = refl
bytes_take (suc n) (x ∷ xs) t = let p = and_parts (ltb x 256) (bytes? xs) t in ap (λ b. b && bytes? (take n xs)) p.0 ∙ bytes_take n xs p.1

module _ {PS PC : Type 0} (K : Model PS PC) (L : Laws K) where
  records_push : (xs : List (Line K)) (y : Line K) → records_form K (xs ++ y ∷ []) ≡ records_form K xs ++ record_form K y
  records_push [] y = append-nil (record_form K y)
  records_push (x ∷ xs) y = ap (λ ys. record_form K x ++ ys) (records_push xs y) ∙ sym (append_assoc (record_form K x) (records_form K xs) (record_form K y))

  module _ (f : List ℕ) (octets : bytes? f ≡ true) (cells : ℕ) where
    abbrev size : ℕ
    size = 6 + K.width

    -- one record
    record_back : (n : ℕ) (es : List (Entry K.State)) (g : K.Change) → 8 + (suc n) * size ≤ length f →
        (saved K f (suc n)).next ≡ last_number 0 0 (saved K f (suc n)).cell es → K.read_form (saved K f (suc n)).change ≡ Ok g →
        record_form K (line K es (record { cell = (saved K f (suc n)).cell; state = K.act g (latest K.origin (saved K f (suc n)).cell es) })) ≡ record_bytes K.width f (suc n)
    record_back n es g fits next reads =
        let b : List ℕ = record_bytes K.width f (suc n) in
        let c : ℕ = (saved K f (suc n)).cell in
        let s : K.State = latest K.origin c es in
        let more : (suc n) * size ≡ n * size + size = suc-mul n size in
        let here : suc n - 1 ≡ n = omega arith in
        let start : 8 + (suc n - 1) * size ≡ 8 + n * size = ap (λ k. 8 + k * size) here in
        let shorter : length (drop (8 + (suc n - 1) * size) f) ≡ length f - (8 + (suc n - 1) * size) = length-drop (8 + (suc n - 1) * size) f in
        let sized : length b ≡ size = length-take size (drop (8 + (suc n - 1) * size) f) ∙ omega (arith, shorter, start, more, fits) in
        let bs : bytes? b ≡ true = bytes_take size (drop (8 + (suc n - 1) * size) f) (bytes_drop (8 + (suc n - 1) * size) f octets) in
        let change : K.diff s (K.act g s) ≡ g = L.faithful (K.diff s (K.act g s)) g s (L.diff_acts s (K.act g s)) in
        ap (λ k. le32_form k ++ (le16_form c ++ K.change_form (K.diff s (K.act g s)))) (sym next)
        ∙ ap (λ x. le32_form (le32 b) ++ (le16_form c ++ K.change_form x)) change
        ∙ ap (λ x. le32_form (le32 b) ++ (le16_form c ++ x)) (sym (L.no_other (drop 6 b) g reads))
        ∙ six_back b (omega (arith, sized)) bs

    -- all of them
    records_back : (n : ℕ) (es : List (Entry K.State)) → 8 + n * size ≤ length f → entries_read K cells f n ≡ Ok es → records_form K (lines_on K [] es) ≡ take (n * size) (drop 8 f)
    records_back zero es l e =
        let s : [] ≡ es = cc in
        let z : 0 * size ≡ 0 = omega arith in
        ap (λ xs. records_form K (lines_on K [] xs)) (sym s) ∙ ap (λ k. take k (drop 8 f)) (sym z)
    records_back (suc n) es l e =
        let more : (suc n) * size ≡ n * size + size = suc-mul n size in
        let (us, p, q) = then_ok (entries_read K cells f n) (entry_read K cells (suc n) (saved K f (suc n))) es e in
        let x : Parts = saved K f (suc n) in
        let a = test_ok (leb cells x.cell) (Cell (suc n)) _ es q in
        let b = test_ok (not (eqb x.next (last_number 0 0 x.cell us))) (Next (suc n)) _ es a.1 in
        let (g, r, d) = then_ok (change_read K (suc n) x.change) (λ g. Ok (us ++ record { cell = x.cell; state = K.act g (latest K.origin x.cell us) } ∷ [])) es b.1 in
        let y : Entry K.State = record { cell = x.cell; state = K.act g (latest K.origin x.cell us) } in
        let same : us ++ y ∷ [] ≡ es = cc in
        let next : x.next ≡ last_number 0 0 x.cell us = eqb-true x.next (last_number 0 0 x.cell us) (not-false (eqb x.next (last_number 0 0 x.cell us)) b.0) in
        let here : suc n - 1 ≡ n = omega arith in
        let cut : (suc n) * size - n * size ≡ size = omega (arith, more) in
        let below : n * size ≤ (suc n) * size = omega (arith, more) in
        ap (λ xs. records_form K (lines_on K [] xs)) (sym same) ∙ ap (records_form K) (lines_append K [] us (y ∷ [])) ∙ records_push (lines_on K [] us) (line K us y)
        ∙ ap (λ bs. bs ++ record_form K (line K us y)) (records_back n us (omega (arith, more)) p)
        ∙ ap (λ bs. take (n * size) (drop 8 f) ++ bs) (record_back n us g l next (as_ok (Change (suc n)) (K.read_form x.change) g r))
        ∙ ap (λ k. take (n * size) (drop 8 f) ++ take size (drop (8 + k * size) f)) here
        ∙ ap (λ xs. take (n * size) (drop 8 f) ++ take size xs) (sym (drop-drop (n * size) 8 f))
        ∙ ap (λ k. take (n * size) (drop 8 f) ++ take k (drop (n * size) (drop 8 f))) (sym cut)
        ∙ sym (take_split (n * size) ((suc n) * size) (drop 8 f) below)

    pub file_back : (handed : Option Handed) (hd : Header) (es : List (Entry K.State)) → Passed K handed f hd → cells ≡ cells_at f → entries_read K cells f hd.count ≡ Ok es →
        file_form K cells (lines_on K [] es) ≡ f
    file_back handed hd es P same e =
        let count : count_at f ≡ hd.count = ap (λ (x : Header). x.count) P.is in
        let long : length f ≡ file_length K.width (count_at f) = eqb-true (length f) (file_length K.width (count_at f)) (not-false (eqb (length f) (file_length K.width (count_at f))) P.length) in
        let long' : length f ≡ 8 + hd.count * size = long ∙ ap (λ n. 8 + n * size) count in
        let letter : letter_at f ≡ K.letter = eqb-true (letter_at f) K.letter (not-false (eqb (letter_at f) K.letter) P.letter) in
        let version : version_at f ≡ 1 = eqb-true (version_at f) 1 (not-false (eqb (version_at f) 1) P.version) in
        let lines : length (lines_on K [] es) ≡ count_at f = lines_length K [] es ∙ entries_length K L cells f hd.count es e ∙ sym count in
        let rest : length (drop 8 f) ≡ hd.count * size = length-drop 8 f ∙ omega (arith, long') in
        ap (λ n. header_form K.letter n (length (lines_on K [] es)) ++ records_form K (lines_on K [] es)) same
        ∙ ap (λ n. header_form K.letter (cells_at f) n ++ records_form K (lines_on K [] es)) lines
        ∙ ap (λ c. header_form c (cells_at f) (count_at f) ++ records_form K (lines_on K [] es)) (sym letter)
        ∙ ap (λ xs. xs ++ records_form K (lines_on K [] es)) (eight_back f (ltb-false (length f) 8 P.long_enough) octets version)
        ∙ ap (λ xs. take 8 f ++ xs) (records_back hd.count es (omega (arith, long')) e ∙ take_all (hd.count * size) (drop 8 f) (omega (arith, rest)))
        ∙ take-append-drop 8 f
