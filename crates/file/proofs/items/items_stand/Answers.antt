use Rattle.file.proofs.Turns.{again, in_turn}
use Rattle.file.proofs.items.items_stand.Goals as goal

pub returns : goal.returns
returns c = record { again = again; in_turn = in_turn }
