-- The bank map keeps the laws. Assumes nothing.
use Rattle.std.specs.Prelude.{◌≡◌, ℕ, ◌<◌, true, length, slice_index}
use Rattle.std.proofs.Common.{sym, ap, ◌∙◌, arith, lit≤, lit<}
use Rattle.std.proofs.lemmas.List.FromFn.{get_or-range_with_len}
use Rattle.std.proofs.lemmas.List.{ext_get_or}
use Rattle.kind.specs.Arrangements.{place}
use Rattle.kind.specs.BankMaps.{Map, in_order, followed, undone, from_to, bank_map}
use Rattle.kind.specs.Bytes.{bytes?}
use Rattle.kind.specs.Model.{Laws}
use Rattle.kind.specs.Laws.Arrangements.{arr_length, arr_low, arr_place, arr_only, get_or_through, get_or_inverted}
use Rattle.kind.specs.Laws.Bytes.{bytes_from_get_or}
use Rattle.kind.specs.Laws.Passing.{same_path, taken_self, same_exact, read_back, read_only}

module _ (f : Map) where
  map_length : length f.list ≡ 16
  map_length = arr_length f.list f.passes

  map_low : (i : ℕ) → i < 16 → slice_index f.list i < 16
  map_low = arr_low f.list f.passes

  map_place : (k : ℕ) → k < 16 → (place k f.list < 16) × (slice_index f.list (place k f.list) ≡ k)
  map_place = arr_place f.list f.passes

  map_only : (i : ℕ) → i < 16 → place (slice_index f.list i) f.list ≡ i
  map_only = arr_only f.list f.passes

  map_bytes : bytes? f.list ≡ true
  map_bytes = let l = map_length in bytes_from_get_or f.list (λ i h. let s = map_low i (omega arith) in omega arith)

-- two maps are equal where they agree at each place
map_path : (f g : Map) → ((i : ℕ) → i < 16 → slice_index f.list i ≡ slice_index g.list i) → f ≡ g
map_path f g h =
    let m = map_length f in
    let n = map_length g in
    same_path f g (ext_get_or 0 f.list g.list (omega arith) (λ i l. h i (omega arith)))

followed_at : (f g : Map) (i : ℕ) → i < 16 → slice_index (followed f g).list i ≡ slice_index g.list (slice_index f.list i)
followed_at f g i h = let l = map_length f in get_or_through f.list g.list i (omega arith)

undone_at : (f : Map) (k : ℕ) → k < 16 → slice_index (undone f).list k ≡ place k f.list
undone_at f = get_or_inverted f.list

in_order_at : (i : ℕ) → i < 16 → slice_index in_order.list i ≡ i
in_order_at i h = get_or-range_with_len 0 16 i 0 h ∙ omega arith

abbrev look : Map → ℕ → ℕ
look f k = slice_index f.list k

followed_assoc : (f g h : Map) → followed (followed f g) h ≡ followed f (followed g h)
followed_assoc f g h =
    map_path (followed (followed f g) h) (followed f (followed g h))
    (λ i l. followed_at (followed f g) h i l ∙ ap (look h) (followed_at f g i l) ∙ sym (followed_at f (followed g h) i l ∙ followed_at g h (look f i) (map_low f i l)))

in_order_followed : (f : Map) → followed in_order f ≡ f
in_order_followed f = map_path (followed in_order f) f (λ i l. followed_at in_order f i l ∙ ap (look f) (in_order_at i l))

followed_in_order : (f : Map) → followed f in_order ≡ f
followed_in_order f = map_path (followed f in_order) f (λ i l. followed_at f in_order i l ∙ in_order_at (look f i) (map_low f i l))

followed_undone : (f : Map) → followed f (undone f) ≡ in_order
followed_undone f = map_path (followed f (undone f)) in_order (λ i l. followed_at f (undone f) i l ∙ undone_at f (look f i) (map_low f i l) ∙ map_only f i l ∙ sym (in_order_at i l))

undone_followed : (f : Map) → followed (undone f) f ≡ in_order
undone_followed f = map_path (followed (undone f) f) in_order (λ k l. followed_at (undone f) f k l ∙ ap (look f) (undone_at f k l) ∙ (map_place f k l).1 ∙ sym (in_order_at k l))

from_to_acts : (s t : Map) → followed s (from_to s t) ≡ t
from_to_acts s t = sym (followed_assoc s (undone s) t) ∙ ap (λ m. followed m t) (followed_undone s) ∙ in_order_followed t

from_to_back : (s f : Map) → from_to s (followed s f) ≡ f
from_to_back s f = sym (followed_assoc (undone s) s f) ∙ ap (λ m. followed m f) (undone_followed s) ∙ in_order_followed f

map_form : (f : Map) → (length f.list ≡ 16) × (bytes? f.list ≡ true)
map_form f = (map_length f, map_bytes f)

pub bank_map_laws : Laws bank_map
bank_map_laws = record {
  state_plain = taken_self in_order;
  change_plain = taken_self in_order;
  letter_low = lit< tt;
  width_low = lit≤ tt;
  width_high = lit≤ tt;
  unit_acts = followed_in_order;
  then_acts = λ f g s. sym (followed_assoc s f g);
  assoc = followed_assoc;
  unit_then = in_order_followed;
  then_unit = followed_in_order;
  inverse_right = followed_undone;
  inverse_left = undone_followed;
  diff_acts = from_to_acts;
  faithful = λ f g s e. sym (from_to_back s f) ∙ ap (from_to s) e ∙ from_to_back s g;
  state_exact = same_exact;
  change_exact = same_exact;
  change_width = map_form;
  read_back = read_back in_order;
  no_other = read_only in_order;
  state_width = map_form;
  state_apart = same_path;
}
