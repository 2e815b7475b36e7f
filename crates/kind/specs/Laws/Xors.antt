-- The XOR of blocks: place by place, with zeros, with itself, and that it is a block. Assumes nothing.
use Rattle.std.specs.Prelude.{◌≡◌, ℕ, zero, suc, ◌<◌, true, List, [], ◌∷◌, length, replicate, ◌==◌, bit_xor, nat_lt, slice_index, refl}
use Rattle.std.proofs.Common.{sym, ap, ap₂, ◌∙◌, arith}
use Rattle.std.specs.Int.Bits.{xor_zero_l, xor_zero_r, xor_self, xor_assoc}
use Rattle.std.proofs.lemmas.Nat.{xor_lt}
use Rattle.std.proofs.lemmas.Bool.{eqb-true, eq-eqb, and_parts, and_from, lt-ltb, ltb-true}
use Rattle.kind.specs.Bytes.{bytes?}
use Rattle.kind.specs.Xors.{xors, block?}
use Rattle.kind.specs.Laws.Bytes.{bytes_from_get_or}

pub length_xors : (xs ys : List ℕ) → length xs ≡ length ys → length (xors xs ys) ≡ length xs
length_xors [] ys h = refl
length_xors (x ∷ xs) [] h = absurd (omega arith)
length_xors (x ∷ xs) (y ∷ ys) h = ap suc (length_xors xs ys (omega arith))

pub bytes_xors : (xs ys : List ℕ) → bytes? xs ≡ true → bytes? ys ≡ true → bytes? (xors xs ys) ≡ true
bytes_xors [] ys p q = refl
bytes_xors (x ∷ xs) [] p q = refl
bytes_xors (x ∷ xs) (y ∷ ys) p q =
    let a = and_parts (nat_lt x 256) (bytes? xs) p in
    let b = and_parts (nat_lt y 256) (bytes? ys) q in
    and_from (nat_lt (bit_xor x y) 256) (bytes? (xors xs ys)) (lt-ltb (bit_xor x y) 256 (xor_lt 8 x y (ltb-true x 256 a.0) (ltb-true y 256 b.0))) (bytes_xors xs ys a.1 b.1)

pub xors_assoc : (xs ys zs : List ℕ) → xors (xors xs ys) zs ≡ xors xs (xors ys zs)
xors_assoc [] ys zs = refl
xors_assoc (x ∷ xs) [] zs = refl
xors_assoc (x ∷ xs) (y ∷ ys) [] = refl
xors_assoc (x ∷ xs) (y ∷ ys) (z ∷ zs) = ap₂ (λ (n : ℕ) (ns : List ℕ). n ∷ ns) (xor_assoc x y z) (xors_assoc xs ys zs)

pub xors_zeros_l : (n : ℕ) (xs : List ℕ) → length xs ≡ n → xors (replicate n 0) xs ≡ xs
xors_zeros_l zero [] h = refl
xors_zeros_l zero (x ∷ xs) h = absurd (omega arith)
xors_zeros_l (suc n) [] h = absurd (omega arith)
xors_zeros_l (suc n) (x ∷ xs) h = ap₂ (λ (n : ℕ) (ns : List ℕ). n ∷ ns) (xor_zero_l x) (xors_zeros_l n xs (omega arith))

pub xors_zeros_r : (n : ℕ) (xs : List ℕ) → length xs ≡ n → xors xs (replicate n 0) ≡ xs
xors_zeros_r zero [] h = refl
xors_zeros_r zero (x ∷ xs) h = absurd (omega arith)
xors_zeros_r (suc n) [] h = absurd (omega arith)
xors_zeros_r (suc n) (x ∷ xs) h = ap₂ (λ (n : ℕ) (ns : List ℕ). n ∷ ns) (xor_zero_r x) (xors_zeros_r n xs (omega arith))

pub xors_self : (n : ℕ) (xs : List ℕ) → length xs ≡ n → xors xs xs ≡ replicate n 0
xors_self zero [] h = refl
xors_self zero (x ∷ xs) h = absurd (omega arith)
xors_self (suc n) [] h = absurd (omega arith)
xors_self (suc n) (x ∷ xs) h = ap₂ (λ (n : ℕ) (ns : List ℕ). n ∷ ns) (xor_self x) (xors_self n xs (omega arith))

pub get_or_xors : (xs ys : List ℕ) (i : ℕ) → i < length xs → length xs ≡ length ys → slice_index (xors xs ys) i ≡ bit_xor (slice_index xs i) (slice_index ys i)
get_or_xors [] ys i h e = absurd (omega arith)
get_or_xors (x ∷ xs) [] i h e = absurd (omega arith)
get_or_xors (x ∷ xs) (y ∷ ys) zero h e = refl
get_or_xors (x ∷ xs) (y ∷ ys) (suc i) h e = get_or_xors xs ys i (omega arith) (omega arith)

pub block_length : (b : List ℕ) → block? b ≡ true → length b ≡ 128
block_length b h = eqb-true (length b) 128 (and_parts (length b == 128) (bytes? b) h).0

pub block_bytes : (b : List ℕ) → block? b ≡ true → bytes? b ≡ true
block_bytes b h = (and_parts (length b == 128) (bytes? b) h).1

pub block_passes : (bs : List ℕ) → length bs ≡ 128 → bytes? bs ≡ true → block? bs ≡ true
block_passes bs h t = and_from (length bs == 128) (bytes? bs) (eq-eqb (length bs) 128 h) t

pub xors_passes : (x y : List ℕ) → block? x ≡ true → block? y ≡ true → block? (xors x y) ≡ true
xors_passes x y p q = block_passes (xors x y) (length_xors x y (block_length x p ∙ sym (block_length y q)) ∙ block_length x p) (bytes_xors x y (block_bytes x p) (block_bytes y q))

-- 128 numbers, each of them a byte
pub block_from_get_or : (bs : List ℕ) → length bs ≡ 128 → ((i : ℕ) → slice_index bs i < 256) → block? bs ≡ true
block_from_get_or bs h t = block_passes bs h (bytes_from_get_or bs (λ i _. t i))
