use Rattle.std.proofs.Common.{ℕ, ◌<◌, get_or, string_bytes, arith, rules}
use Rattle.script.proofs.Hexes.{rendered}
use Rattle.script.proofs.hexadecimal.render.Goals as goal

pub returns : goal.returns
returns c =
    let small : (k : ℕ) → get_or c.args.bytes.now k 0 < 256 = λ k. omega (arith, c.type_inv.bytes k) in
    rendered string_bytes c.args.bytes.now small _ (search rules)
