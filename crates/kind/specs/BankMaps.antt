-- The bank map: an arrangement of the numbers 0 to 15, which changes by arrangements. Assumes nothing.
use Rattle.std.specs.Prelude.{ℕ, List}
use Rattle.kind.specs.Arrangements.{arrangement?, in_order_list, through, inverted}
use Rattle.kind.specs.Model.{Model}
use Rattle.kind.specs.Passing.{Passing, taken, same_list, read_list}
use Rattle.kind.specs.Laws.Arrangements.{in_order_passes, through_passes, inverted_passes}

abbrev pub Map : Type 0
Map = Passing arrangement?

-- each number at its own place
abbrev pub in_order : Map
in_order = record { list = in_order_list; passes = in_order_passes }

-- f followed by g
abbrev pub followed : Map → Map → Map
followed f g = record { list = through f.list g.list; passes = through_passes f.list g.list f.passes g.passes }

-- the inverse
abbrev pub undone : Map → Map
undone f = record { list = inverted f.list; passes = inverted_passes f.list f.passes }

-- from s to t: takes the number that s has at a place to the one that t has there
abbrev pub from_to : Map → Map → Map
from_to s t = followed (undone s) t

abbrev pub bank_map : Model (List ℕ) (List ℕ)
bank_map = record {
  State = Map;
  Change = Map;
  state = taken in_order;
  change = taken in_order;
  plain_state = λ s. s.list;
  plain_change = λ f. f.list;
  letter = 77;
  width = 16;
  origin = in_order;
  unit = in_order;
  then = followed;
  inverse = undone;
  act = λ f s. followed s f;
  diff = from_to;
  same_state = same_list;
  same_change = same_list;
  state_form = λ s. s.list;
  change_form = λ f. f.list;
  read_form = read_list in_order;
}
