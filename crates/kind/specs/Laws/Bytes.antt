-- Lists of bytes place by place, and what a reading that accepts gave. Assumes nothing.
use Rattle.std.specs.Prelude.{◌≡◌, ℕ, zero, suc, ◌<◌, Bool, true, false, cond, List, [], ◌∷◌, length, Ok, Err, slice_index, refl}
use Rattle.std.proofs.Common.{arith}
use Rattle.std.proofs.lemmas.Bool.{and_parts, and_from, lt-ltb, ltb-true}
use Rattle.kind.specs.Bytes.{bytes?}

pub bytes_get_or : (bs : List ℕ) (i : ℕ) → bytes? bs ≡ true → i < length bs → slice_index bs i < 256
bytes_get_or [] i t h = absurd (omega arith)
bytes_get_or (x ∷ xs) zero t h = ltb-true _ _ (and_parts _ _ t).0
bytes_get_or (x ∷ xs) (suc i) t h = bytes_get_or xs i (and_parts _ _ t).1 (omega arith)

pub bytes_from_get_or : (bs : List ℕ) → ((i : ℕ) → i < length bs → slice_index bs i < 256) → bytes? bs ≡ true
bytes_from_get_or [] h = refl
bytes_from_get_or (x ∷ xs) h = and_from _ _ (lt-ltb _ _ (h 0 (omega arith))) (bytes_from_get_or xs (λ i l. h (suc i) (omega arith)))

-- a reading that gave a value has passed its test
pub read_ok : {A E : Type 0} (t : Bool) (x y : A) (e : E) → cond t (Ok x) (Err e) ≡ Ok y → (t ≡ true) × (x ≡ y)
read_ok true x y e h = (refl, cc)
read_ok false x y e h = let z : ◌≡◌ {A = ℕ} 0 1 = cc in absurd (omega arith)
