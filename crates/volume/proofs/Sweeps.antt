-- The states of an image acted on one after the other, each with its cell's span. Assumes nothing.
use Rattle.std.proofs.Common.{◌≡◌, ℕ, ◌+◌, ◌<◌, ◌≤◌, ◌≢◌, List, map, length, get_or, set, ap, ◌∙◌, arith}
use Rattle.std.specs.List.{range_with_len}
use Rattle.std.proofs.lemmas.List.FromFn.{fill_by_all}
use Rattle.std.proofs.lemmas.List.Edits.{fill_by_more}
use Rattle.std.proofs.lemmas.List.{length-set, get_or-set_other}
use Rattle.kind.specs.Model.{Model}
use Rattle.volume.specs.Calls.{origin}
use Rattle.volume.specs.Memory.{Memory}
use Rattle.volume.specs.Rolls.{across, swept}

module _ {PS PC : Type 0} (K : Model PS PC) (m : Memory PS PC) (a b : ℕ) (image : List PS) where
  abbrev state_after : ℕ → PS
  state_after c = swept K (across K m a b c) (get_or image c (origin K))

  -- the states of the first n cells are moved, the others as they were
  abbrev pub Swept_to : ℕ → List PS → Type 0
  Swept_to n now =
      (length now ≡ length image)
      × ((c : ℕ) → c < n → get_or now c (origin K) ≡ state_after c)
      × ((c : ℕ) → n ≤ c → get_or now c (origin K) ≡ get_or image c (origin K))

  pub swept_more : (n : ℕ) (now after : List PS) → n < length image → Swept_to n now → after ≡ set now n (swept K (across K m a b n) (get_or now n (origin K))) → Swept_to (n + 1) after
  swept_more n now after l s e =
      let o = origin K in
      let low : n < length now = omega (arith, s.0) in
      let made = e ∙ ap (λ x. set now n (swept K (across K m a b n) x)) (s.2 n (omega arith)) in (
        ap length e ∙ length-set now n _ ∙ s.0,
        (λ c h. ap (λ x. get_or x c o) made ∙ fill_by_more state_after now n o low s.1 c h),
        (λ c h. let other : c ≢ n = omega arith in ap (λ x. get_or x c o) e ∙ get_or-set_other now n c _ o other ∙ s.2 c (omega arith)),
      )

  pub swept_all : (n : ℕ) (now : List PS) → length image ≤ n → Swept_to n now → now ≡ map state_after (range_with_len 0 (length image))
  swept_all n now l s = fill_by_all state_after now (length image) (origin K) s.0 (λ c h. s.1 c (omega arith))
