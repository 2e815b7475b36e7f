-- The worked tally volume, by computation. Assumes nothing.
use Rattle.std.proofs.Common.{refl}
use Rattle.volume.specs.Calls.{logged, formatted, written, change_between}
use Rattle.volume.specs.Replays.{replayed}
use Rattle.volume.specs.Reverts.{reverted}
use Rattle.history.specs.Worked.{Worked}

pub worked : Worked
unfolding logged formatted written change_between replayed reverted
worked =
    record {
      image_at_0 = refl;
      unit_at_0 = refl;
      changes = refl;
      nexts = refl;
      skips = refl;
      lengths = refl;
      feet = refl;
      folds = refl;
      from_1_to_5 = refl;
      from_5_to_1 = refl;
      from_1_to_3 = refl;
      from_0_to_5 = refl;
      reverted_count = refl;
      reverted_cells = refl;
      reverted_changes = refl;
      reverted_nexts = refl;
      record_6_skip = refl;
      record_6_length = refl;
      seven_lengths = refl;
      seven_skips = refl;
      seven_from_1_to_7 = refl;
    }
