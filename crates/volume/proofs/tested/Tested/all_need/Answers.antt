use Rattle.std.proofs.Common.{length, sym, ◌∙◌, arith}
use Rattle.std.proofs.lemmas.Result.{IfOk-from_err}
use Rattle.journal.proofs.Walks.{exit}
use Rattle.volume.specs.Memory.{seen}
use Rattle.volume.proofs.Restores.{needed_stops}
use Rattle.volume.proofs.tested.Tested.all_need.Goals as goal

pub returns-in_err-writes : goal.returns-in_err-writes
returns-in_err-writes g c =
    record {
      answer =
          exit c.from_residual.result _ c.from_residual.ensures.1
          ∙ sym (needed_stops g.K.Kind.model c.args.from c.args.to (seen c.args.self.now) (length c.args.self.now.cells.now) c.loop-i.i _ _ (omega arith) c.loop-i.invariant.0 (sym c.needs.ensures.answer ∙ c.in_err-writes.was));
      low = IfOk-from_err c.from_residual.result _ c.from_residual.ensures.0;
    }
