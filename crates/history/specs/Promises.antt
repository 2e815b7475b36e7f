-- What is promised of every volume that was formatted, after any calls. Assumes nothing.
use Rattle.std.specs.Prelude.{◌≡◌, ℕ, ◌+◌, ◌*◌, ◌^◌, ◌<◌, ◌≤◌, List, [], map, length, Ok}
use Rattle.std.specs.List.{range_with_len}
use Rattle.kind.specs.Model.{Model}
use Rattle.file.specs.declared.header.Header.{Header}
use Rattle.journal.specs.declared.walk.Stretch.{Stretch}
use Rattle.volume.specs.Calls.{formatted, change_between}
use Rattle.volume.specs.Loads.{headed, load_leaves}
use Rattle.volume.specs.Memory.{Memory}
use Rattle.volume.specs.Recalls.{recalled}
use Rattle.volume.specs.Replays.{replayed}
use Rattle.volume.specs.Rolls.{rolled}
use Rattle.volume.specs.Saves.{saved}
use Rattle.history.specs.History.{History, count, last_entry, entries_of, stood, image}
use Rattle.history.specs.Calls.{Call, load, run_all, fed_file, fed_all, replied, predicted}

-- the history of a volume of these sizes that is just formatted
abbrev pub fresh : {S : Type 0} → ℕ → ℕ → History S
fresh cells capacity = record { cells = cells; capacity = capacity; entries = [] }

module _ {PS PC : Type 0} (K : Model PS PC) where
  -- The volume is what the history says: its count, its cells, the newest record of each cell, and every answer that any call would now give.
  pub record Stands (h : History K.State) (v : Memory PS PC) : Type 0 where
    pub counts : v.count ≡ count h
    pub cells : map K.state v.cells ≡ image K h (count h)
    pub heads : v.heads ≡ map (last_entry h) (range_with_len 0 h.cells)
    pub answers : (k : Call PS) → replied K v k ≡ predicted K h k

  -- The spans of cell c between moments x, y and z are answered: the first followed by the second is the third.
  pub record Composes (v : Memory PS PC) (c x y z : ℕ) : Type 0 where
    pub first : Stretch PC
    pub second : Stretch PC
    pub whole : Stretch PC
    pub from_x_to_y : change_between K v c x y ≡ Ok first
    pub from_y_to_z : change_between K v c y z ≡ Ok second
    pub from_x_to_z : change_between K v c x z ≡ Ok whole
    pub composes : K.then (K.change first.change) (K.change second.change) ≡ K.change whole.change

  -- The span of cell c from x to y is answered. It is the unit exactly when the cell stood alike at both, and it takes at most 6 * k steps,
  -- where 2 ^ k is the greatest power of two that is not above one more than the cell's entries.
  pub record Spans (h : History K.State) (v : Memory PS PC) (c x y : ℕ) : Type 0 where
    pub found : Stretch PC
    pub answered : change_between K v c x y ≡ Ok found
    pub alike : K.change found.change ≡ K.unit → stood K h c x ≡ stood K h c y
    pub unit : stood K h c x ≡ stood K h c y → K.change found.change ≡ K.unit
    pub k : ℕ
    pub not_above : 2 ^ k ≤ entries_of c h.entries + 1
    pub greatest : entries_of c h.entries + 1 < 2 ^ (k + 1)
    pub few_steps : found.steps ≤ 6 * k

  -- An image that counts as the cells at moment x is rolled to one that counts as the cells at moment y.
  pub record Rolls (h : History K.State) (v : Memory PS PC) (im : List PS) (x y : ℕ) : Type 0 where
    pub moved : List PS
    pub answered : rolled K v im x y ≡ Ok moved
    pub there : map K.state moved ≡ image K h y

  -- An image of the right length is replayed to one that counts as the cells at moment x.
  pub record Replays (h : History K.State) (v : Memory PS PC) (im : List PS) (x : ℕ) : Type 0 where
    pub made : List PS
    pub answered : replayed K v im x ≡ Ok made
    pub there : map K.state made ≡ image K h x

  -- What every sequence of calls leaves after a format that is accepted, refused calls included.
  pub record KeptPromises (h : History K.State) (v : Memory PS PC) : Type 0 where
    pub stands : Stands h v
    pub spans : (c x y : ℕ) → c < h.cells → x ≤ count h → y ≤ count h → Spans h v c x y
    pub compose : (c x y z : ℕ) → c < h.cells → x ≤ count h → y ≤ count h → z ≤ count h → Composes v c x y z
    pub rolls : (im : List PS) (x y : ℕ) → map K.state im ≡ image K h x → x ≤ count h → y ≤ count h → Rolls h v im x y
    -- recalling from what a save wrote gives the byte form of how the cell stood
    pub recalls : (f : List ℕ) (room c x area : ℕ) → saved K v room ≡ Ok f → c < h.cells → x ≤ count h → K.width ≤ area → recalled K f c x area ≡ Ok (K.state_form (stood K h c x))
    pub replays : (im : List PS) (x : ℕ) → length im ≡ h.cells → x ≤ count h → Replays h v im x

  abbrev pub Promises : Type 0
  Promises =
      (m v : Memory PS PC) → formatted K m ≡ Ok v → (calls : List (Call PS)) →
      KeptPromises (fed_all K (fresh (length m.cells) (length m.records)) calls) (run_all K v calls)

  -- The same after a load into any memory, whose sizes and whose file's header are accepted, also where a record is then refused; and the load
  -- itself is answered as predicted.
  abbrev pub PromisesAfterLoad : Type 0
  PromisesAfterLoad =
      (m : Memory PS PC) (f : List ℕ) (hd : Header) → headed K m f ≡ Ok hd →
      (replied K m (load f) ≡ predicted K (fresh (length m.cells) (length m.records)) (load f))
      × ((calls : List (Call PS)) → KeptPromises (fed_all K (fed_file K (fresh (length m.cells) (length m.records)) f (Ok hd)) calls) (run_all K (load_leaves K m f) calls))
