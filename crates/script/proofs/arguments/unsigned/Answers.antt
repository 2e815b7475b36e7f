use Rattle.std.proofs.Common.{rules}
use Rattle.script.proofs.Numbers.{number_told}
use Rattle.script.proofs.arguments.unsigned.Goals as goal

pub returns : goal.returns
returns c = number_told c.args.w.now c.parse.result c.map_err.result c.parse.ensures.value.0 (search rules)
