use Rattle.move_rules.proofs.PositionKept.{after_is_position}
use Rattle.move_rules.proofs.Weights.{weight_falls, weight_stays}
use Rattle.move_rules.proofs.laws.moves_lead_to_positions.Goals as goal

pub returns : goal.returns
returns c = record { positions = after_is_position; others = weight_falls; quiet = weight_stays }
