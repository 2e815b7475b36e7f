-- The calls on a volume, what they do by the calls' own definitions, and what is predicted of them from the history alone. Assumes nothing.
use Rattle.std.specs.Prelude.{ℕ, zero, suc, ◌+◌, cond, not, ◌&&◌, ◌||◌, List, [], ◌∷◌, ◌++◌, map, length, Ok, Err, Result, ◌==◌, nat_le, nat_lt, slice_index_or}
use Rattle.std.specs.List.{range_with_len}
use Rattle.kind.specs.Answers.{told, kept, and_then, refused_as}
use Rattle.file.specs.declared.faults.FileFault.{FileFault}
use Rattle.file.specs.declared.header.Header.{Header}
use Rattle.file.specs.Header.{file_length}
use Rattle.kind.specs.Model.{Model}
use Rattle.volume.specs.declared.refusal.Refusal.{Refusal}
use Rattle.volume.specs.declared.refusal.Refusal.TheVariants.{Heads, File, Area, Image, Cell, Moment, Full}
use Rattle.volume.specs.Calls.{formatted, written, state_read, change_between}
use Rattle.volume.specs.Checks.{checked, work_after}
use Rattle.volume.specs.Loads.{loaded, load_leaves}
use Rattle.volume.specs.Memory.{Memory}
use Rattle.volume.specs.Replays.{replayed}
use Rattle.volume.specs.Reverts.{reverted, count_of}
use Rattle.volume.specs.Rolls.{rolled}
use Rattle.volume.specs.Saves.{saved}
use Rattle.history.specs.Files.{file_of_history, entries_read, header_read}
use Rattle.history.specs.History.{History, Entry, count, emptied, extended, appended, last_entry, stood, image}

-- a call, with what the caller hands in; states are plain values, right or wrong
pub data Call (PS : Type 0) : Type 0 where
  format : Call PS
  write : ℕ → PS → Call PS
  read : ℕ → Call PS
  span : ℕ → ℕ → ℕ → Call PS
  -- with the image that is handed in
  roll : List PS → ℕ → ℕ → Call PS
  replay : List PS → ℕ → Call PS
  revert : ℕ → Call PS
  -- with the work row
  check : List ℕ → Call PS
  -- into an area of so many bytes
  save : ℕ → Call PS
  -- the bytes of a file
  load : List ℕ → Call PS

-- what a call answers; states and changes are what the plain values that it gives are taken for
pub data Reply (S C : Type 0) : Type 0 where
  done : Reply S C
  counted : ℕ → Reply S C
  state : S → Reply S C
  change : C → Reply S C
  states : List S → Reply S C
  row : List ℕ → Reply S C
  bytes : List ℕ → Reply S C
  refused : Refusal → Reply S C

abbrev pub reply : {S C A : Type 0} → (A → Reply S C) → Result A Refusal → Reply S C
reply f (Ok x) = f x
reply f (Err e) = refused e

module _ {PS PC : Type 0} (K : Model PS PC) where
  -- the memory after a call
  abbrev pub run : Memory PS PC → Call PS → Memory PS PC
  run v format = kept v (formatted K v)
  run v (write c s) = kept v (written K v c s)
  run v (read c) = v
  run v (span c a b) = v
  run v (roll im a b) = v
  run v (replay im m) = v
  run v (revert m) = kept v (reverted K v m)
  run v (check work) = v
  run v (save n) = v
  run v (load f) = load_leaves K v f

  -- .. and what it answers
  abbrev pub replied : Memory PS PC → Call PS → Reply K.State K.Change
  replied v format = reply (λ m. done) (formatted K v)
  replied v (write c s) = reply counted (told (v.count + 1) (written K v c s))
  replied v (read c) = reply (λ s. state (K.state s)) (state_read K v c)
  replied v (span c a b) = reply (λ s. change (K.change s.change)) (change_between K v c a b)
  replied v (roll im a b) = reply (λ ss. states (map K.state ss)) (rolled K v im a b)
  replied v (replay im m) = reply (λ ss. states (map K.state ss)) (replayed K v im m)
  replied v (revert m) = reply counted (count_of (reverted K v m))
  replied v (check work) = reply (λ _. row (work_after K v work)) (checked K v work)
  replied v (save n) = reply bytes (saved K v n)
  replied v (load f) = reply counted (count_of (loaded K v f))

  abbrev pub run_all : Memory PS PC → List (Call PS) → Memory PS PC
  run_all v [] = v
  run_all v (k ∷ ks) = run_all (run v k) ks

  -- an entry as at moment m for each of the first n cells, in order, that now stands otherwise
  abbrev pub restoring : History K.State → ℕ → ℕ → List (Entry K.State)
  restoring h m zero = []
  restoring h m (suc n) =
      restoring h m n ++ cond (K.same_state (stood K h n (count h)) (stood K h n m)) [] (record { cell = n; state = stood K h n m } ∷ [])

  abbrev pub restored : History K.State → ℕ → List (Entry K.State)
  restored h m = restoring h m h.cells

  -- the history with the entries that a load read, or none where it was refused at a record
  abbrev pub refilled : History K.State → Result (List (Entry K.State)) FileFault → History K.State
  refilled h (Ok es) = extended (emptied h) es
  refilled h (Err e) = emptied h

  -- the history after a load
  abbrev pub fed_file : History K.State → List ℕ → Result Header FileFault → History K.State
  fed_file h f (Ok hd) = refilled h (entries_read K h.cells f hd.count)
  fed_file h f (Err e) = h

  -- the history after a call: only a format, a write or a revert that is taken, and a load whose header is accepted, change it
  abbrev pub fed : History K.State → Call PS → History K.State
  fed h format = emptied h
  fed h (write c s) = cond (nat_lt c h.cells && nat_lt (count h) h.capacity) (appended h c (K.state s)) h
  fed h (read c) = h
  fed h (span c a b) = h
  fed h (roll im a b) = h
  fed h (replay im m) = h
  fed h (revert m) = cond (nat_le m (count h) && nat_le (count h + length (restored h m)) h.capacity) (extended h (restored h m)) h
  fed h (check work) = h
  fed h (save n) = h
  fed h (load f) = fed_file h f (header_read K h f)

  abbrev pub fed_all : History K.State → List (Call PS) → History K.State
  fed_all h [] = h
  fed_all h (k ∷ ks) = fed_all (fed h k) ks

  -- the answer, as the history has it
  abbrev pub predicted : History K.State → Call PS → Reply K.State K.Change
  predicted h format = done
  predicted h (write c s) = cond (nat_le h.cells c) (refused Cell) (cond (nat_le h.capacity (count h)) (refused Full) (counted (count h + 1)))
  predicted h (read c) = cond (nat_le h.cells c) (refused Cell) (state (stood K h c (count h)))
  predicted h (span c a b) =
      cond (nat_le h.cells c) (refused Cell) (
      cond (nat_lt (count h) a || nat_lt (count h) b) (refused Moment) (
      change (K.diff (stood K h c a) (stood K h c b))))
  predicted h (roll im a b) =
      cond (not (length im == h.cells)) (refused Image) (
      cond (nat_lt (count h) a || nat_lt (count h) b) (refused Moment) (
      states (map (λ c. K.act (K.diff (stood K h c a) (stood K h c b)) (K.state (slice_index_or im c (K.plain_state K.origin)))) (range_with_len 0 h.cells))))
  predicted h (replay im m) =
      cond (not (length im == h.cells)) (refused Image) (
      cond (nat_lt (count h) m) (refused Moment) (
      states (image K h m)))
  predicted h (revert m) =
      cond (nat_lt (count h) m) (refused Moment) (
      cond (nat_lt h.capacity (count h + length (restored h m))) (refused Full) (
      counted (count h + length (restored h m))))
  predicted h (check work) = cond (not (length work == h.cells)) (refused Heads) (row (map (last_entry h) (range_with_len 0 h.cells)))
  predicted h (save n) = cond (nat_lt n (file_length K.width (count h))) (refused Area) (bytes (file_of_history K h))
  predicted h (load f) = reply (λ es. counted (length es)) (refused_as File (and_then (header_read K h f) (λ hd. entries_read K h.cells f hd.count)))
