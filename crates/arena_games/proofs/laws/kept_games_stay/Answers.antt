use Rattle.arena_games.proofs.Rooms.{idle_looks, due_is_kept, in_turn, few}
use Rattle.arena_games.proofs.laws.kept_games_stay.Goals as goal

pub returns-clause-idle : goal.returns-clause-idle
returns-clause-idle c = idle_looks c.records_stay.ensures.stay c.what_changes_nothing.ensures.look

pub returns-clause-due : goal.returns-clause-due
returns-clause-due c = due_is_kept

pub returns-clause-rooms : goal.returns-clause-rooms
returns-clause-rooms c = record { in_turn = in_turn c.moves_and_turns.ensures.began; few = few c.moves_and_turns.ensures.plies }
