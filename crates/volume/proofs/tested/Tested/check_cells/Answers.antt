use Rattle.std.proofs.Common.{ℕ, Bool, length, sym, refl}
use Rattle.volume.specs.declared.refusal.Wrong.TheVariants.{Cell}
use Rattle.volume.specs.Checks.{as_changed, cell_right}
use Rattle.volume.specs.Memory.{seen}
use Rattle.volume.specs.Reverts.{held_state}
use Rattle.volume.specs.Rolls.{across}
use Rattle.volume.proofs.Examined.{passed, failed}
use Rattle.volume.proofs.tested.Tested.check_cells.Goals as goal

pub returns-then-not-is_right_cell : goal.returns-then-not-is_right_cell
returns-then-not-is_right_cell g c =
    let K = g.K.Kind.model in
    let m = seen c.args.self.now in
    let right : ℕ → Bool = λ k. as_changed K (held_state K m k) (across K m 0 m.count k) in
    sym (failed (cell_right K m) right Cell (λ _. refl) (length m.cells) c.loop-i.i c.is_right_cell.result c.loop-i-test.true c.loop-i.invariant c.is_right_cell.ensures c.if-not-is_right_cell.true)

pub loop-i-preserved : goal.loop-i-preserved
loop-i-preserved g c =
    let K = g.K.Kind.model in
    let m = seen c.args.self.now in
    let right : ℕ → Bool = λ k. as_changed K (held_state K m k) (across K m 0 m.count k) in
    passed (cell_right K m) right Cell (λ _. refl) c.loop-i.i c.is_right_cell.result c.loop-i.invariant c.is_right_cell.ensures c.if-not-is_right_cell.false
