-- The log that writes leave has the right records for every cell. Assumes nothing.
use Rattle.std.proofs.Common.{◌≡◌, ℕ, ◌+◌, ◌-◌, ◌≤◌, List, [], ◌∷◌, ◌++◌, length, get_or, take, Ok, sym, refl, ap, ◌∙◌, subst, inl, inr, arith}
use Rattle.std.proofs.lemmas.List.{append_assoc, append-nil, length-append, length_push, length-take, get_or_append_left, get_or_push, get_or-take, take_all, take_at, take-take}
use Rattle.std.proofs.lemmas.Bool.{cases_lt, cases_eq}
use Rattle.kind.specs.Model.{Model, Laws}
use Rattle.journal.specs.declared.record.Record.{Record}
use Rattle.kind.specs.Answers.{kept}
use Rattle.journal.specs.Links.{blank, numbered}
use Rattle.journal.specs.Appends.{planned}
use Rattle.logs.specs.Writes.{Write, head_of, entered, log_on, log_of}
use Rattle.logs.specs.Theorems.{Logs}
use Rattle.logs.proofs.Counted.{depth, total, depth_rises, total_still, depth_few, depth_up, total_up, depth_same, head_place}
use Rattle.logs.proofs.Rungs.{Story, Rung, Faithful, Planned, planned_right}
use Rattle.logs.proofs.Same.{planned_same}

module _ {PS PC : Type 0} (K : Model PS PC) where
  pub story : (ws : List (Write PC)) (c : ℕ) → Story K (depth K ws c) (total K ws c)
  story ws c = record { begins = refl; rises = depth_rises K ws c; still = total_still K ws c }

  abbrev pub RungOf : List (Write PC) → ℕ → ℕ → Record PC → Type 0
  RungOf ws c n r = Rung K (depth K ws c) (total K ws c) c n r

  -- up to number n, the records are those that the writes ws should leave
  abbrev pub Leaves : List (Write PC) → List (Record PC) → ℕ → Type 0
  Leaves ws rs n = (c : ℕ) → Faithful K (depth K ws c) (total K ws c) c rs n

  pub leaves_same : (ws : List (Write PC)) (rs ss : List (Record PC)) (n : ℕ) → ((m : ℕ) → 1 ≤ m → m ≤ n → numbered K rs m ≡ numbered K ss m) → Leaves ws rs n → Leaves ws ss n
  leaves_same ws rs ss n same A c m l h first = subst (λ r. RungOf ws c m r) (same m l h) (A c m l h first)

module _ {PS PC : Type 0} (K : Model PS PC) (L : Laws K) where
  -- one more write
  module _ (past : List (Write PC)) (w : Write PC) (rest : List (Write PC)) (rs : List (Record PC)) (fits : length past ≤ length rs) (room : length past ≤ 65535) (A : Leaves K (past ++ w ∷ rest) rs (length past)) where
    pub plans : Planned K L (depth K (past ++ w ∷ rest) w.cell) (total K (past ++ w ∷ rest) w.cell) (story K (past ++ w ∷ rest) w.cell) w.cell (length past) (head_of past w.cell) w.change
        (head_place K w.cell past (w ∷ rest)) (depth_up K w.cell past w rest refl) (total_up K w.cell past w rest L refl) rs (A w.cell) fits (omega (arith, depth_few K w.cell past w rest))
    plans = planned_right K L (depth K (past ++ w ∷ rest) w.cell) (total K (past ++ w ∷ rest) w.cell) (story K (past ++ w ∷ rest) w.cell) w.cell (length past) (head_of past w.cell) w.change
        (head_place K w.cell past (w ∷ rest)) (depth_up K w.cell past w rest refl) (total_up K w.cell past w rest L refl) rs (A w.cell) fits (omega (arith, depth_few K w.cell past w rest))

    pub entered_is : entered K past rs w ≡ plans.made
    entered_is = ap (kept (blank K)) plans.answer

    new_rung : RungOf K (past ++ w ∷ rest) w.cell (length past + 1) (entered K past rs w)
    new_rung = subst (λ r. RungOf K (past ++ w ∷ rest) w.cell (length past + 1) r) (sym entered_is) plans.rung

    pub leaves_more : length rs ≡ length past → Leaves K (past ++ w ∷ rest) (rs ++ entered K past rs w ∷ []) (length past + 1)
    leaves_more len c m l h first =
        let n : ℕ = length past in
        let r : Record PC = entered K past rs w in
        let here : numbered K (rs ++ r ∷ []) (n + 1) ≡ r = get_or_push rs r (blank K) (n + 1 - 1) (omega arith) in
        elim (cases_lt n m) [
          | inr old ↦ subst (λ r. RungOf K (past ++ w ∷ rest) c m r) (sym (get_or_append_left rs (r ∷ []) (blank K) (m - 1) (omega arith))) (A c m l old first)
          | inl new ↦
              (let e : n + 1 ≡ m = omega arith in
              elim (cases_eq w.cell c) [
                | inl own ↦ subst (λ k. RungOf K (past ++ w ∷ rest) c k (numbered K (rs ++ r ∷ []) k)) e
                    (subst (λ r. RungOf K (past ++ w ∷ rest) c (n + 1) r) (sym here) (subst (λ x. RungOf K (past ++ w ∷ rest) x (n + 1) r) own new_rung))
                | inr other ↦
                    (let e' : n ≡ m - 1 = omega arith in
                    absurd (omega (arith, depth_same K c past w rest other, ap (depth K (past ++ w ∷ rest) c) e, ap (depth K (past ++ w ∷ rest) c) e')))
              ])
        ]

  -- all of them
  log_length : (past : List (Write PC)) (log : List (Record PC)) (ws : List (Write PC)) → length (log_on K past log ws) ≡ length log + length ws
  log_length past log [] = omega arith
  log_length past log (w ∷ ws) =
      omega (arith, log_length (past ++ w ∷ []) (log ++ entered K past log w ∷ []) ws, length_push log (entered K past log w))

  pub logs_length : (ws : List (Write PC)) → length (log_of K ws) ≡ length ws
  logs_length ws = log_length [] [] ws ∙ omega arith

  leaves_on : (whole past : List (Write PC)) (log : List (Record PC)) (ws rest : List (Write PC)) → past ++ (ws ++ rest) ≡ whole → length log ≡ length past → length past + length ws ≤ 65535 →
      Leaves K whole log (length past) → Leaves K whole (log_on K past log ws) (length past + length ws)
  leaves_on whole past log [] rest e len room A =
      let z : length past ≡ length past + length {A = Write PC} [] = omega arith in
      subst (λ n. Leaves K whole log n) z A
  leaves_on whole past log (w ∷ ws) rest e len room A =
      let log' : List (Record PC) = log ++ entered K past log w ∷ [] in
      let longer : length (past ++ w ∷ []) ≡ length past + 1 = length_push past w in
      let longer' : length log' ≡ length log + 1 = length_push log (entered K past log w) in
      let A' : Leaves K whole log' (length past + 1) =
      subst (λ v. Leaves K v log (length past) → Leaves K v log' (length past + 1)) e (λ B. leaves_more past w (ws ++ rest) log (omega arith) (omega arith) B len) A in
      let sum : length (past ++ w ∷ []) + length ws ≡ length past + length (w ∷ ws) = omega arith in
      subst (λ n. Leaves K whole (log_on K past log (w ∷ ws)) n) sum
      (leaves_on whole (past ++ w ∷ []) log' ws rest (append_assoc past (w ∷ []) (ws ++ rest) ∙ e) (omega arith) (omega arith)
      (subst (λ n. Leaves K whole log' n) (sym longer) A'))

  pub log_leaves : (ws rest : List (Write PC)) → length ws ≤ 65535 → Leaves K (ws ++ rest) (log_of K ws) (length ws)
  log_leaves ws rest room =
      let z : length {A = Write PC} [] + length ws ≡ length ws = omega arith in
      subst (λ n. Leaves K (ws ++ rest) (log_of K ws) n) z (leaves_on (ws ++ rest) [] [] ws rest refl refl (omega arith) (λ c m l h first. absurd (omega arith)))

  log_push : (past : List (Write PC)) (log : List (Record PC)) (ws : List (Write PC)) (w : Write PC) → log_on K past log (ws ++ w ∷ []) ≡ log_on K past log ws ++ entered K (past ++ ws) (log_on K past log ws) w ∷ []
  log_push past log [] w = ap (λ us. log ++ entered K us log w ∷ []) (sym (append-nil past))
  log_push past log (u ∷ ws) w =
      log_push (past ++ u ∷ []) (log ++ entered K past log u ∷ []) ws w
      ∙ ap (λ us. log_on K past log (u ∷ ws) ++ entered K us (log_on K past log (u ∷ ws)) w ∷ []) (append_assoc past (u ∷ []) ws)

  -- the log of the first writes is the first part of the log
  log_append : (past : List (Write PC)) (log : List (Record PC)) (us vs : List (Write PC)) → log_on K past log (us ++ vs) ≡ log_on K (past ++ us) (log_on K past log us) vs
  log_append past log [] vs = ap (λ ps. log_on K ps log vs) (sym (append-nil past))
  log_append past log (u ∷ us) vs =
      log_append (past ++ u ∷ []) (log ++ entered K past log u ∷ []) us vs
      ∙ ap (λ ps. log_on K ps (log_on K past log (u ∷ us)) vs) (append_assoc past (u ∷ []) us)

  log_front : (past : List (Write PC)) (log : List (Record PC)) (ws : List (Write PC)) → take (length log) (log_on K past log ws) ≡ log
  log_front past log [] = take_all (length log) log (omega arith)
  log_front past log (w ∷ ws) =
      let r : Record PC = entered K past log w in
      let whole : List (Record PC) = log_on K (past ++ w ∷ []) (log ++ r ∷ []) ws in
      sym (take-take (length log) (length (log ++ r ∷ [])) whole (omega (arith, length_push log r)))
      ∙ ap (take (length log)) (log_front (past ++ w ∷ []) (log ++ r ∷ []) ws)
      ∙ take_at log (r ∷ []) (length log) refl

  pub logs_front : (us vs : List (Write PC)) (rs : List (Record PC)) → Logs K rs (us ++ vs) → Logs K rs us
  logs_front us vs rs e =
      let n : ℕ = length us in
      let m : ℕ = length (us ++ vs) in
      sym (take-take n m rs (omega (arith, length-append us vs)))
      ∙ ap (take n) (e ∙ log_append [] [] us vs)
      ∙ ap (λ k. take k (log_on K us (log_of K us) vs)) (sym (logs_length us))
      ∙ log_front us (log_of K us) vs

  -- records that begin with the log
  module _ (ws : List (Write PC)) (rs : List (Record PC)) (e : Logs K rs ws) where
    pub log_fits : length ws ≤ length rs
    log_fits = omega (arith, log_length [] [] ws, ap length e, length-take (length ws) rs)

    records_same : (m : ℕ) → 1 ≤ m → m ≤ length ws → numbered K (log_of K ws) m ≡ numbered K rs m
    records_same m l h = ap (λ us. get_or us (m - 1) (blank K)) (sym e) ∙ get_or-take (length ws) rs (m - 1) (blank K) (omega arith)

    pub records_leave : (rest : List (Write PC)) → length ws ≤ 65535 → Leaves K (ws ++ rest) rs (length ws)
    records_leave rest room = leaves_same K (ws ++ rest) (log_of K ws) rs (length ws) records_same (log_leaves ws rest room)

    pub grows : (w : Write PC) → length ws ≤ 65535 →
        (r : Record PC) × (planned K rs (length ws + 1) (head_of ws w.cell) w.cell w.change ≡ Ok r) × (r.next ≡ head_of ws w.cell) × (r.cell ≡ w.cell) × (r.change ≡ w.change) × (log_of K (ws ++ w ∷ []) ≡ log_of K ws ++ r ∷ [])
    grows w room =
        let P = plans ws w [] rs log_fits room (records_leave (w ∷ []) (omega arith)) in
        let same : planned K (log_of K ws) (length ws + 1) (head_of ws w.cell) w.cell w.change ≡ Ok P.made =
        planned_same K (log_of K ws) rs (length ws) (omega (arith, logs_length ws)) log_fits records_same (head_of ws w.cell) w.cell w.change ∙ P.answer in
        (P.made, P.answer, P.leads, P.of_cell, P.logs, log_push [] [] ws w ∙ ap (λ r. log_of K ws ++ kept (blank K) r ∷ []) same)
