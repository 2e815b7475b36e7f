-- A volume's records, written one after the other behind a header. Assumes nothing.
use Rattle.std.proofs.Common.{◌≡◌, ℕ, ◌+◌, ◌-◌, ◌*◌, ◌<◌, ◌≤◌, Bool, true, false, cond, ◌&&◌, ltb, leb, List, [], ◌∷◌, ◌++◌, map, length, get_or, take, drop, Ok, sym, refl, ap, ◌∙◌, mul-le-mul_right, suc-mul, arith, length-take-le}
use mathlib.Core.List.{map-append}
use lib.ListN.{length-map}
use Rattle.std.proofs.lemmas.List.{take_more}
use Rattle.std.proofs.lemmas.Slice.{drop-append-drop}
use Rattle.std.proofs.lemmas.Bool.{le-ltb, lt-ltb, le-leb, cond-true}
use Rattle.kind.specs.Answers.{each_below}
use Rattle.kind.specs.Model.{Model, Laws}
use Rattle.file.specs.Forms.{header_form, file_form, record_laid, records_form, written}
use Rattle.file.specs.Header.{file_length}
use Rattle.file.specs.Records.{record_start}
use Rattle.file.proofs.Backs.{long, written_in_turn}
use Rattle.journal.specs.declared.record.Record.{Record}
use Rattle.journal.specs.Links.{blank, numbered}
use Rattle.volume.specs.Areas.{area_after}
use Rattle.volume.specs.Memory.{Memory}
use Rattle.volume.specs.Replays.{cell_known}
use Rattle.volume.specs.Saves.{line_of, lines_of, file_of, laid_down}
use Rattle.volume.specs.Sizes.{sound}

-- record i + 1 lies within a file of count records
pub record_fits : (w count i size : ℕ) → i < count → file_length w count ≤ size → record_start w (i + 1) + (6 + w) ≤ size
record_fits w count i size l room =
    let k = mul-le-mul_right (6 + w) l in
    let m = suc-mul i (6 + w) in
    let same : (i + 1 - 1) * (6 + w) ≡ i * (6 + w) = ap (λ n. n * (6 + w)) (omega arith) in
    omega (arith, k, m, same)

module _ {PS PC : Type 0} (K : Model PS PC) (laws : Laws K) (cells count : ℕ) where
  pub header_put : (letter : ℕ) (r : Bool) (was area : List ℕ) → letter ≡ K.letter → 8 ≤ length was → r ≡ ltb letter 256 && leb 8 (length was) → area ≡ cond r (header_form letter cells count ++ drop 8 was) was → area ≡ header_form K.letter cells count ++ drop 8 was
  header_put letter r was area el room er ea =
      let low = laws.letter_low in
      let e0 : ltb letter 256 ≡ true = lt-ltb letter 256 (omega (arith, low, el)) in
      let e1 : leb 8 (length was) ≡ true = le-leb 8 (length was) room in
      ea ∙ cond-true r _ _ (er ∙ ap (λ b. b && leb 8 (length was)) e0 ∙ e1) ∙ ap (λ x. header_form x cells count ++ drop 8 was) el

module _ {PS PC : Type 0} (K : Model PS PC) (laws : Laws K) (rs : List (Record PC)) where
  lines_long : (n : ℕ) → n ≤ length rs → length (lines_of K rs n) ≡ n
  lines_long n l = length-map (take n rs) (line_of K) ∙ length-take-le n rs l

  lines_more : (i : ℕ) (r : Record PC) → i < length rs → r ≡ numbered K rs (i + 1) → lines_of K rs (i + 1) ≡ lines_of K rs i ++ (line_of K r ∷ [])
  lines_more i r l q =
      let at : i + 1 - 1 ≡ i = omega arith in
      ap (map (line_of K)) (take_more rs i (blank K) l) ∙ map-append (line_of K) (take i rs) (get_or rs i (blank K) ∷ [])
      ∙ ap (λ x. lines_of K rs i ++ (line_of K x ∷ [])) (sym (q ∙ ap (λ k. get_or rs k (blank K)) at))

  module _ (cells count : ℕ) where
    pub laid_more : (i : ℕ) (area after out : List ℕ) (r : Record PC) → i < length rs → r ≡ numbered K rs (i + 1) → area ≡ written K cells count (lines_of K rs i) out → after ≡ record_laid K (i + 1) (line_of K r) area → after ≡ written K cells count (lines_of K rs (i + 1)) out
    laid_more i area after out r l q e a =
        a ∙ ap (record_laid K (i + 1) (line_of K r)) e
        ∙ ap (λ n. record_laid K (n + 1) (line_of K r) (written K cells count (lines_of K rs i) out)) (sym (lines_long i (omega arith)))
        ∙ (written_in_turn K laws).goes_on cells count (lines_of K rs i) (line_of K r) out
        ∙ ap (λ x. written K cells count x out) (sym (lines_more i r l q))

    -- what was in the area where the header is now does not matter
    pub laid_behind : (n : ℕ) (rest out : List ℕ) → rest ≡ header_form K.letter cells count ++ drop 8 out → written K cells count (lines_of K rs n) rest ≡ written K cells count (lines_of K rs n) out
    laid_behind n rest out e =
        let lines = lines_of K rs n in
        let k = file_length K.width (length lines) in
        ap (λ d. header_form K.letter cells count ++ (records_form K lines ++ d)) (ap (drop k) e ∙ drop-append-drop 8 out (header_form K.letter cells count) k (omega arith) refl)

    pub file_long : count ≤ length rs → length (file_form K cells (lines_of K rs count)) ≡ file_length K.width count
    file_long l = long K laws cells (lines_of K rs count) ∙ ap (file_length K.width) (lines_long count l)

    -- all of them make the file
    pub laid_all : (out : List ℕ) → count ≤ length rs → written K cells count (lines_of K rs count) out ≡ area_after out (Ok (file_form K cells (lines_of K rs count)))
    laid_all out l =
        let lines = lines_of K rs count in
        ap (λ n. written K cells n lines out) (sym (lines_long count l)) ∙ (written_in_turn K laws).ends cells lines out
        ∙ ap (λ k. file_form K cells lines ++ drop k out) (sym (long K laws cells lines))

-- a save that no test refuses
pub saved_right : {PS PC : Type 0} (K : Model PS PC) (m : Memory PS PC) (area : ℕ) → Ok tt ≡ sound (length m.cells) (length m.heads) (length m.records) m.count → file_length K.width m.count ≤ area → Ok tt ≡ each_below (cell_known K (length m.cells) m.records) m.count → laid_down K m area ≡ Ok (file_of K m)
saved_right K m area es room et =
    let e : ltb area (file_length K.width m.count) ≡ false = le-ltb area (file_length K.width m.count) room in
    rw (← es, e, ← et)
