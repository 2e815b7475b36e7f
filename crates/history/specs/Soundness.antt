-- When a memory is what writes after a format leave, as far as it counts. Assumes nothing.
use Rattle.std.specs.Prelude.{◌≡◌, ℕ, ◌+◌, ◌<◌, List, [], ◌∷◌, map, length, Ok}
use Rattle.kind.specs.Model.{Model}
use Rattle.journal.specs.declared.record.Record.{Record}
use Rattle.journal.specs.Links.{numbered}
use Rattle.volume.specs.Calls.{formatted}
use Rattle.volume.specs.Checks.{checked}
use Rattle.volume.specs.Memory.{Memory}
use Rattle.history.specs.Calls.{Call, write, run_all}

-- a write that is asked for: a cell and a plain state
pub record Asked (PS : Type 0) : Type 0 where
  pub cell : ℕ
  pub state : PS

abbrev pub asks : {PS : Type 0} → List (Asked PS) → List (Call PS)
asks [] = []
asks (a ∷ rest) = write a.cell a.state ∷ asks rest

module _ {PS PC : Type 0} (K : Model PS PC) where
  -- two records that say the same; changes and folds count as what they are taken for
  pub record Alike (r s : Record PC) : Type 0 where
    pub cell : r.cell ≡ s.cell
    pub next : r.next ≡ s.next
    pub skip : r.skip ≡ s.skip
    pub length : r.length ≡ s.length
    pub foot : r.foot ≡ s.foot
    pub change : K.change r.change ≡ K.change s.change
    pub fold : K.change r.fold ≡ K.change s.fold

  -- two memories that count the same: the records up to the count, and not those beyond
  pub record CountsAs (v w : Memory PS PC) : Type 0 where
    pub count : v.count ≡ w.count
    pub heads : v.heads ≡ w.heads
    pub cells : map K.state v.cells ≡ map K.state w.cells
    pub records : (i : ℕ) → i < v.count → Alike (numbered K v.records (i + 1)) (numbered K w.records (i + 1))

  -- v is what some writes leave after a format of it
  pub record LeftByWrites (v : Memory PS PC) : Type 0 where
    pub start : Memory PS PC
    pub formats : formatted K v ≡ Ok start
    pub writes : List (Asked PS)
    pub counts : CountsAs v (run_all K start (asks writes))

  -- A check answers yes exactly on such memories, whatever lies in them.
  abbrev pub ChecksExactly : Type 0
  ChecksExactly =
      (v : Memory PS PC) (work : List ℕ) →
      (checked K v work ≡ Ok tt → LeftByWrites v × (length work ≡ length v.cells))
      × (LeftByWrites v → length work ≡ length v.cells → checked K v work ≡ Ok tt)
