-- The record of the n-th entry, in the memory that a history leaves. Assumes nothing.
use Rattle.std.proofs.Common.{◌≡◌, ℕ, suc, ◌+◌, ◌<◌, ◌≤◌, List, [], ◌∷◌, ◌++◌, length, get_or, take, drop, Ok, sym, ap, ◌∙◌, subst, arith}
use Rattle.std.proofs.Math.Seq.{split_at}
use Rattle.std.proofs.lemmas.List.{length-take, take_more}
use Rattle.kind.specs.Model.{Model, Laws}
use Rattle.journal.specs.Appends.{planned}
use Rattle.journal.specs.Links.{numbered}
use Rattle.logs.specs.Theorems.{Logs}
use Rattle.logs.specs.Writes.{head_of}
use Rattle.logs.proofs.Proved.{each_record_lem}
use Rattle.volume.specs.Memory.{Memory}
use Rattle.history.specs.History.{History, Entry, count, latest, stood}
use Rattle.history.proofs.Canonical.{Owned, owned_at, Canonical}
use Rattle.history.proofs.Entered.{writes, writes_on, write_of, writes_append, writes_length}

-- what is read where there is no entry
abbrev pub no_entry : {PS PC : Type 0} (K : Model PS PC) → Entry K.State
no_entry K = record { cell = 0; state = K.origin }

module _ {PS PC : Type 0} (K : Model PS PC) (L : Laws K) {h : History K.State} {v : Memory PS PC} (C : Canonical K h v) where
  -- entry n + 1, and its record
  pub record Nth (n : ℕ) : Type 0 where
    pub entry : Entry K.State
    pub next : take (n + 1) h.entries ≡ take n h.entries ++ entry ∷ []
    pub owned : entry.cell < h.cells
    pub cell : (numbered K v.records (n + 1)).cell ≡ entry.cell
    pub change : K.change (numbered K v.records (n + 1)).change ≡ K.diff (stood K h entry.cell n) entry.state
    pub next_is : (numbered K v.records (n + 1)).next ≡ head_of (writes K (take n h.entries)) entry.cell
    pub planned_so :
        planned K v.records (n + 1) (head_of (writes K (take n h.entries)) entry.cell) entry.cell (numbered K v.records (n + 1)).change
        ≡ Ok (numbered K v.records (n + 1))

  pub nth : (n : ℕ) → n < count h → Nth n
  nth n l =
      let es : List (Entry K.State) = h.entries in
      let us : List (Entry K.State) = take n es in
      let e : Entry K.State = get_or es n (no_entry K) in
      let vs : List (Entry K.State) = drop (suc n) es in
      let cut : es ≡ us ++ e ∷ vs = split_at es n (no_entry K) l in
      let whole : writes K es ≡ writes K us ++ write_of K us e ∷ writes_on K (us ++ e ∷ []) vs = ap (writes K) cut ∙ writes_append K us (e ∷ vs) in
      let size : length (writes K us) ≡ n = writes_length K us ∙ length-take n es ∙ omega arith in
      let all : length (writes K us ++ write_of K us e ∷ writes_on K (us ++ e ∷ []) vs) ≡ count h = ap length (sym whole) ∙ writes_length K es in
      let few : length (writes K us ++ write_of K us e ∷ writes_on K (us ++ e ∷ []) vs) ≤ 65535 = omega (arith, all, C.fits, C.all_records, C.sizes.few_records) in
      let R = each_record_lem K L (writes K us) (write_of K us e) (writes_on K (us ++ e ∷ []) vs) v.records (subst (Logs K v.records) whole C.logs) few in
      let cell : (numbered K v.records (n + 1)).cell ≡ e.cell = ap (λ k. (numbered K v.records (k + 1)).cell) (sym size) ∙ R.1 in
      let change : (numbered K v.records (n + 1)).change ≡ (write_of K us e).change = ap (λ k. (numbered K v.records (k + 1)).change) (sym size) ∙ R.2 in
      record {
        entry = e;
        next = take_more es n (no_entry K) l;
        owned = owned_at h.cells us e vs (subst (Owned h.cells) cut C.owned);
        cell = cell;
        change = ap K.change change ∙ L.change_plain (K.diff (latest K.origin e.cell us) e.state);
        next_is = ap (λ k. (numbered K v.records (k + 1)).next) (sym size) ∙ R.3;
        planned_so =
            ap (λ k. planned K v.records (k + 1) (head_of (writes K us) e.cell) e.cell (numbered K v.records (n + 1)).change) (sym size)
            ∙ ap (λ f. planned K v.records (length (writes K us) + 1) (head_of (writes K us) e.cell) e.cell f) change
            ∙ R.0 ∙ ap (λ k. Ok (numbered K v.records (k + 1))) size;
      }
