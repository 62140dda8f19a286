use Rattle.game_line.proofs.KeptPositions.{kept_are_enough}
use Rattle.game_line.proofs.laws.repetitions_are_kept.Goals as goal

pub returns : goal.returns
returns c = kept_are_enough c.laws_of_moves.ensures
