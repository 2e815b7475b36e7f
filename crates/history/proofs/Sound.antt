-- A check answers yes exactly on memories that writes leave. Assumes nothing.
use Rattle.std.proofs.Common.{◌≡◌, ℕ, ◌+◌, ◌&&◌, ltb, leb, List, [], ◌∷◌, length, Ok, Err, Result, refl, ◌∙◌, subst, arith}
use Rattle.std.proofs.lemmas.Bool.{cond_both}
use Rattle.kind.specs.Model.{Model, Laws}
use Rattle.file.specs.declared.faults.FileFault.{FileFault}
use Rattle.file.specs.declared.header.Header.{Header}
use Rattle.history.specs.Calls.{Call, format, write, read, span, roll, replay, revert, check, save, load, restored, refilled, fed_file, run_all, fed, fed_all}
use Rattle.history.specs.Files.{entries_read, header_read}
use Rattle.history.specs.History.{History, Entry, count, extended, appended}
use Rattle.history.specs.Promises.{fresh}
use Rattle.history.specs.Soundness.{asks, ChecksExactly}
use Rattle.history.proofs.Accepts.{accepts}
use Rattle.history.proofs.Canonical.{Canonical, blank_canonical}
use Rattle.history.proofs.Promised.{keeps_all}
use Rattle.history.proofs.Rebuilt.{left, checked_parts}
use Rattle.history.proofs.Written.{formats_only}

module _ {PS PC : Type 0} (K : Model PS PC) (L : Laws K) where
  -- no call changes the capacity
  fed_capacity : (h : History K.State) (k : Call PS) → (fed K h k).capacity ≡ h.capacity
  fed_capacity h format = refl
  fed_capacity h (write c s) = cond_both (ltb c h.cells && ltb (count h) h.capacity) (appended h c (K.state s)) h (λ g. g.capacity ≡ h.capacity) (λ _. refl) (λ _. refl)
  fed_capacity h (read c) = refl
  fed_capacity h (span c a b) = refl
  fed_capacity h (roll im a b) = refl
  fed_capacity h (replay im m) = refl
  fed_capacity h (revert m) =
      cond_both (leb m (count h) && leb (count h + length (restored K h m)) h.capacity) (extended h (restored K h m)) h (λ g. g.capacity ≡ h.capacity) (λ _. refl) (λ _. refl)
  fed_capacity h (check work) = refl
  fed_capacity h (save n) = refl
  fed_capacity h (load f) = file_capacity (header_read K h f)
    where
      entries_capacity : (r : Result (List (Entry K.State)) FileFault) → (refilled K h r).capacity ≡ h.capacity
      entries_capacity (Ok es) = refl
      entries_capacity (Err e) = refl

      file_capacity : (r : Result Header FileFault) → (fed_file K h f r).capacity ≡ h.capacity
      file_capacity (Ok hd) = entries_capacity (entries_read K h.cells f hd.count)
      file_capacity (Err e) = refl

  fed_all_capacity : (ks : List (Call PS)) (h : History K.State) → (fed_all K h ks).capacity ≡ h.capacity
  fed_all_capacity [] h = refl
  fed_all_capacity (k ∷ ks) h = fed_all_capacity ks (fed K h k) ∙ fed_capacity h k

  pub checks_exactly_lem : ChecksExactly K
  checks_exactly_lem v work = (
    λ e. (let (z, fits, row, fine) = checked_parts K L v work e in (left K L v z fits fine, row)),
    λ W row.
        (let only = formats_only K v W.start W.formats in
        let n : ℕ = length v.cells in
        let h : History K.State = fed_all K (fresh n (length v.records)) (asks W.writes) in
        let C : Canonical K h (run_all K W.start (asks W.writes)) =
        keeps_all K L (asks W.writes) (subst (λ w. Canonical K (fresh n (length v.records)) w) only.1 (blank_canonical K L v only.0)) in
        let size : h.capacity ≡ length v.records = fed_all_capacity (asks W.writes) (fresh n (length v.records)) in
        accepts K L C v W.counts only.0 (omega (arith, W.counts.count, C.counts, C.fits, size)) work row),
  )
