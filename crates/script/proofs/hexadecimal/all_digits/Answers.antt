use Rattle.std.proofs.Common.{◌≡◌, [], ◌∷◌, subst, refl, rules}
use Rattle.std.proofs.lemmas.List.Folds.{list_all-append}
use Rattle.std.proofs.lemmas.Fn.{fold_over, slice_gives, fronts}
use Rattle.script.specs.Hex.{digit?, digits?}
use Rattle.script.proofs.hexadecimal.all_digits.Goals as goal

pub returns : goal.returns
returns c = subst (λ l. c.fold.result ≡ digits? l) c.iter.ensures.rest
    (fold_over fronts (λ b. b.now) _ (λ bs all. all ≡ digits? bs) _ (λ bs all b more f' before call. let joined = list_all-append digit? bs (b.now ∷ []) in search rules)
    _ _ _ _ (slice_gives c.iter.result) refl c.fold.ensures.ran)
