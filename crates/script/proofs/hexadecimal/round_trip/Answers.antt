use Rattle.std.proofs.Common.{◌∙◌, arith}
use Rattle.script.proofs.Hexes.{reads_back}
use Rattle.script.proofs.hexadecimal.round_trip.Goals as goal

pub returns : goal.returns
returns c same =
    reads_back c.read_exact-read.result c.args.bytes.now c.read_exact-read.new.out c.args.out.now c.as_str.result.now c.read_exact-read.ensures.read (c.as_str.ensures.value ∙ c.in_ok-text.ensures) same (λ k. omega (arith, c.type_inv.out k)) (λ k. omega (arith, c.type_inv.bytes k))
