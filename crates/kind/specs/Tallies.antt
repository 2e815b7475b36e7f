-- The tally: a residue modulo 2 ^ 32, which changes by sums. Assumes nothing.
use Rattle.std.specs.Prelude.{ℕ, ◌+◌, ◌-◌, ◌/◌, ◌%◌, ◌^◌, ◌<◌, cond, ◌&&◌, List, [], ◌∷◌, length, ℤ, Ok, Err, Result, ◌==◌}
use Rattle.std.proofs.Common.{lit<, of_z, to_z}
use Rattle.std.specs.Int.{w32}
use Rattle.std.proofs.lemmas.Nat.{mod_below}
use Rattle.kind.specs.declared.KindFault.{KindFault}
use Rattle.kind.specs.declared.KindFault.TheVariants.{NotAChange}
use Rattle.kind.specs.Bytes.{bytes?, le32}
use Rattle.kind.specs.Model.{Model}

pub record Word : Type 0 where
  pub bits : ℕ
  pub low : bits < 2 ^ 32

abbrev pub word : ℕ → Word
word n = record { bits = n % 2 ^ 32; low = mod_below n (2 ^ 32) (lit< tt) }

-- least byte first
abbrev pub word_form : Word → List ℕ
word_form x = (x.bits % 256) ∷ (x.bits / 256 % 256) ∷ (x.bits / 65536 % 256) ∷ (x.bits / 16777216 % 256) ∷ []

abbrev pub word_read : List ℕ → Result Word KindFault
word_read bs = cond (length bs == 4 && bytes? bs) (Ok (word (le32 bs))) (Err NotAChange)

abbrev pub tally : Model ℤ ℤ
tally = record {
  State = Word;
  Change = Word;
  state = λ z. word (of_z w32 z);
  change = λ z. word (of_z w32 z);
  plain_state = λ s. to_z w32 s.bits;
  plain_change = λ f. to_z w32 f.bits;
  letter = 84;
  width = 4;
  origin = word 0;
  unit = word 0;
  then = λ f g. word (f.bits + g.bits);
  inverse = λ f. word (2 ^ 32 - f.bits);
  act = λ f s. word (s.bits + f.bits);
  diff = λ s t. word (t.bits + (2 ^ 32 - s.bits));
  same_state = λ s t. (s.bits == t.bits);
  same_change = λ f g. (f.bits == g.bits);
  state_form = word_form;
  change_form = word_form;
  read_form = word_read;
}
