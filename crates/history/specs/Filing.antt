-- Which files a load accepts. Assumes nothing.
use Rattle.std.specs.Prelude.{◌≡◌, ℕ, ◌≤◌, true, List, length, Ok}
use Rattle.kind.specs.Bytes.{bytes?}
use Rattle.kind.specs.Model.{Model}
use Rattle.file.specs.Header.{count_at}
use Rattle.volume.specs.Calls.{formatted}
use Rattle.volume.specs.Loads.{loaded}
use Rattle.volume.specs.Memory.{Memory}
use Rattle.volume.specs.Saves.{saved}
use Rattle.history.specs.Calls.{run_all}
use Rattle.history.specs.Soundness.{Asked, asks}

module _ {PS PC : Type 0} (K : Model PS PC) where
  -- f is the save of a volume that some writes leave after a format of m
  pub record SavedAfterWrites (m : Memory PS PC) (f : List ℕ) : Type 0 where
    pub start : Memory PS PC
    pub formats : formatted K m ≡ Ok start
    pub writes : List (Asked PS)
    pub area : ℕ
    pub saves : saved K (run_all K start (asks writes)) area ≡ Ok f

  -- f is accepted into m, and saving again gives the same bytes
  pub record Loads (m : Memory PS PC) (f : List ℕ) : Type 0 where
    pub made : Memory PS PC
    pub accepted : loaded K m f ≡ Ok made
    pub again : (area : ℕ) → length f ≤ area → saved K made area ≡ Ok f

  -- Bytes that a load accepts are such a save, and saving again gives them back. Such a save, of a volume with as many cells, is accepted by
  -- every memory that a format accepts and that has space for its records.
  pub record FilesLoad (f : List ℕ) : Type 0 where
    pub only_saves : (m w : Memory PS PC) → loaded K m f ≡ Ok w → SavedAfterWrites m f × ((area : ℕ) → length f ≤ area → saved K w area ≡ Ok f)
    pub all_saves :
        (m m' start : Memory PS PC) → SavedAfterWrites m' f → formatted K m ≡ Ok start →
        length m.cells ≡ length m'.cells → count_at f ≤ length m.records → Loads m f

  abbrev pub FilesThatLoad : Type 0
  FilesThatLoad = (f : List ℕ) → bytes? f ≡ true → FilesLoad f
