-- The block keeps the laws. Assumes nothing.
use Rattle.std.specs.Prelude.{◌≡◌, true, length}
use Rattle.std.proofs.Common.{sym, ap, ◌∙◌, lit≤, lit<}
use Rattle.kind.specs.Blocks.{Block, zeros, xored, block}
use Rattle.kind.specs.Bytes.{bytes?}
use Rattle.kind.specs.Model.{Laws}
use Rattle.kind.specs.Laws.Passing.{same_path, taken_self, same_exact, read_back, read_only}
use Rattle.kind.specs.Laws.Xors.{block_length, block_bytes, xors_assoc, xors_zeros_l, xors_zeros_r, xors_self}

xored_assoc : (x y z : Block) → xored (xored x y) z ≡ xored x (xored y z)
xored_assoc x y z = same_path _ _ (xors_assoc x.list y.list z.list)

zeros_xored : (x : Block) → xored zeros x ≡ x
zeros_xored x = same_path _ _ (xors_zeros_l 128 x.list (block_length x.list x.passes))

xored_zeros : (x : Block) → xored x zeros ≡ x
xored_zeros x = same_path _ _ (xors_zeros_r 128 x.list (block_length x.list x.passes))

xored_self : (x : Block) → xored x x ≡ zeros
xored_self x = same_path _ _ (xors_self 128 x.list (block_length x.list x.passes))

xored_back : (x y : Block) → xored x (xored x y) ≡ y
xored_back x y = sym (xored_assoc x x y) ∙ ap (λ z. xored z y) (xored_self x) ∙ zeros_xored y

block_form : (b : Block) → (length b.list ≡ 128) × (bytes? b.list ≡ true)
block_form b = (block_length b.list b.passes, block_bytes b.list b.passes)

pub block_laws : Laws block
block_laws = record {
  state_plain = taken_self zeros;
  change_plain = taken_self zeros;
  letter_low = lit< tt;
  width_low = lit≤ tt;
  width_high = lit≤ tt;
  unit_acts = xored_zeros;
  then_acts = λ f g s. sym (xored_assoc s f g);
  assoc = xored_assoc;
  unit_then = zeros_xored;
  then_unit = xored_zeros;
  inverse_right = xored_self;
  inverse_left = xored_self;
  diff_acts = xored_back;
  faithful = λ f g s e. sym (xored_back s f) ∙ ap (xored s) e ∙ xored_back s g;
  state_exact = same_exact;
  change_exact = same_exact;
  change_width = block_form;
  read_back = read_back zeros;
  no_other = read_only zeros;
  state_width = block_form;
  state_apart = same_path;
}
