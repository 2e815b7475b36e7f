-- Lists that pass a test: two are equal where their lists are, and each is read back from its list. Assumes nothing.
use Rattle.std.specs.Prelude.{◌≡◌, ℕ, Bool, true, false, List, Ok, Err}
use Rattle.std.proofs.Common.{sym, ap, ◌∙◌}
use Rattle.std.proofs.Math.Bool.{Bool-set}
use mathlib.Core.HLevel.{is_prop→PathP}
use Rattle.std.proofs.lemmas.Slice.Eq.{bytes_eq-Decides}
use Rattle.std.proofs.lemmas.Bool.{cond-true, cond-false}
use Rattle.kind.specs.declared.KindFault.TheVariants.{NotAChange}
use Rattle.kind.specs.Passing.{Passing, taken, same_list, read_list}
use Rattle.kind.specs.Laws.Bytes.{read_ok}

module _ {ok : List ℕ → Bool} where
  pub same_path : (x y : Passing ok) → x.list ≡ y.list → x ≡ y
  same_path x y p = λ i. record { list = p i; passes = is_prop→PathP (λ j. ok (p j) ≡ true) (λ j. Bool-set (ok (p j)) true) x.passes y.passes i }

  pub taken_list : (z : Passing ok) (xs : List ℕ) → ok xs ≡ true → (taken z xs).list ≡ xs
  taken_list z xs h = cond-true (ok xs) xs z.list h

  pub taken_other : (z : Passing ok) (xs : List ℕ) → ok xs ≡ false → taken z xs ≡ z
  taken_other z xs h = same_path (taken z xs) z (cond-false (ok xs) xs z.list h)

  pub taken_self : (z x : Passing ok) → taken z x.list ≡ x
  taken_self z x = same_path (taken z x.list) x (taken_list z x.list x.passes)

  pub same_exact : (x y : Passing ok) → (same_list x y ≡ true → x ≡ y) × (x ≡ y → same_list x y ≡ true)
  same_exact x y =
      let d = bytes_eq-Decides x.list y.list in
      (λ h. same_path x y (d.0 h), λ e. d.1 (ap (λ (k : Passing ok). k.list) e))

  pub read_back : (z x : Passing ok) → read_list z x.list ≡ Ok x
  read_back z x = cond-true (ok x.list) (Ok (taken z x.list)) (Err NotAChange) x.passes ∙ ap (λ (k : Passing ok). Ok k) (taken_self z x)

  pub read_only : (z : Passing ok) (xs : List ℕ) (x : Passing ok) → read_list z xs ≡ Ok x → xs ≡ x.list
  read_only z xs x e =
      let r = read_ok (ok xs) (taken z xs) x NotAChange e in
      sym (taken_list z xs r.0) ∙ ap (λ (k : Passing ok). k.list) r.1

  pub read_refused : (z : Passing ok) (xs : List ℕ) → ok xs ≡ false → read_list z xs ≡ Err NotAChange
  read_refused z xs h = cond-false (ok xs) (Ok (taken z xs)) (Err NotAChange) h
