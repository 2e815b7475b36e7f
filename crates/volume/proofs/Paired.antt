-- Two rows walked side by side, with a count. Assumes nothing.
use Rattle.std.proofs.Common.{◌≡◌, ℕ, ◌+◌, ◌<◌, List, Iter, Bor, Some, Option, length, get_or, ap, ◌∙◌, arith}
use Rattle.std.specs.List.{zip, enumerate_from}
use Rattle.std.specs.Iterator.{Yields}
use Rattle.std.specs.Iterator.Adapters.{enumerate_source, enumerate_count, enumerate_steps, zip_first, zip_second}
use Rattle.std.specs.Slice.Iter.{iter_rest}
use Rattle.std.specs.declared.iter.Enumerate.{Enumerate}
use Rattle.std.specs.declared.iter.Zip.{Zip}
use Rattle.std.proofs.lemmas.Fn.{fronts}
use Rattle.std.proofs.lemmas.Iterator.{zips, YieldsList-from_slice, YieldsList-from_zip}
use Rattle.std.proofs.lemmas.Iterator.Consumers.{YieldsList-at, YieldsList-turn, YieldsList-from_enumerate}
use Rattle.std.proofs.lemmas.List.{get_or_default}
use Rattle.std.proofs.lemmas.List.FromFn.{length-enumerate_from, get_or-enumerate_from}
use Rattle.std.proofs.lemmas.Slice.Zip.{length-zip, get_or-zip}

module _ (hs ns : List ℕ) (paired : length hs ≡ length ns) where
  nth_pair : (k : ℕ) (x : ℕ × (ℕ × ℕ)) → (k < length (enumerate_from 0 (zip hs ns))) × (x ≡ get_or (enumerate_from 0 (zip hs ns)) k x) → (k < length hs) × (x.0 ≡ k) × (x.1.0 ≡ get_or hs k 0) × (x.1.1 ≡ get_or ns k 0)
  nth_pair k x t =
      let within : k < length (zip hs ns) = omega (arith, t.0, length-enumerate_from 0 (zip hs ns)) in
      let low : k < length hs = omega (arith, within, length-zip hs ns) in
      let low_too : k < length ns = omega (arith, low, paired) in
      let e = t.1 ∙ get_or-enumerate_from 0 (zip hs ns) k x within in
      let p = ap (λ y. y.1) e ∙ get_or-zip hs ns k x.1 low low_too in
      let at : 0 + k ≡ k = omega arith in
      (low, ap (λ y. y.0) e ∙ at, ap (λ y. y.0) p ∙ get_or_default hs k x.1.0 0 low, ap (λ y. y.1) p ∙ get_or_default ns k x.1.1 0 low_too)

  abbrev Walk : Type 0
  Walk = Enumerate (Zip (Iter ℕ) (Iter ℕ))

  abbrev steps : Walk → Option (ℕ × (Bor ℕ × Bor ℕ)) → Walk → Type 0
  steps = enumerate_steps (zips fronts fronts)

  -- what a `for` over the two is given after xs
  pub turn_paired : {a : Iter ℕ} {z : Zip (Iter ℕ) (Iter ℕ)} {e v : Walk} → iter_rest a ≡ hs → zip_first z ≡ a → iter_rest (zip_second z) ≡ ns → enumerate_source e ≡ z → enumerate_count e ≡ 0 → v ≡ e
      → (xs : List (ℕ × (Bor ℕ × Bor ℕ))) (t : Walk) → Yields steps v xs t → (r : Option (ℕ × (Bor ℕ × Bor ℕ))) (u : Walk) (x : ℕ × (Bor ℕ × Bor ℕ)) → r ≡ Some x → steps t r u
      → (length xs < length hs) × (x.0 ≡ length xs) × (x.1.0.now ≡ get_or hs (length xs) 0) × (x.1.1.now ≡ get_or ns (length xs) 0)
  turn_paired rest first second source none begun xs t so_far r u x is step =
      let both = YieldsList-from_zip (YieldsList-at first (YieldsList-from_slice hs rest)) (YieldsList-from_slice ns second) in
      let road = YieldsList-at begun (YieldsList-from_enumerate (YieldsList-at source both) none) in
      nth_pair (length xs) (x.0, (x.1.0.now, x.1.1.now)) (YieldsList-turn road xs t so_far r u x is step)
