use Rattle.std.proofs.Common.{◌≡◌}
use Rattle.file.specs.Forms.{written}
use Rattle.volume.specs.Saves.{lines_of}
use Rattle.volume.proofs.saves.put_file.Given as goal

abbrev pub invariant-loop-i : goal.invariant-loop-i
invariant-loop-i g l = let K = g.K.Kind.model in l.area ≡ written K l.cells l.count (lines_of K l.records l.i) l.initial.area
