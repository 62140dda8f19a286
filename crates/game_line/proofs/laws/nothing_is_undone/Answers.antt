use Rattle.game_line.proofs.Undone.{nothing_is_undone, none_before_is_repeated}
use Rattle.game_line.proofs.laws.nothing_is_undone.Goals as goal

pub returns : goal.returns
returns c = record { boards = nothing_is_undone c.laws_of_moves.ensures; repetitions = none_before_is_repeated c.laws_of_moves.ensures }
