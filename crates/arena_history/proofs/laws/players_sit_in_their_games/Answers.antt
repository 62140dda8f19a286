use Rattle.arena_history.proofs.Played.{at_most_one, all_played}
use Rattle.arena_history.proofs.Numbered.{plays_running, begins_at, begins_nothing}
use Rattle.arena_history.proofs.laws.players_sit_in_their_games.Goals as goal

pub returns-clause-at_most_one : goal.returns-clause-at_most_one
returns-clause-at_most_one c = λ s es i j p g k. at_most_one (record { named = c.each_player_once.ensures.paired; once = c.each_player_once.ensures.apart }) s es i j p g k

pub returns-clause-played : goal.returns-clause-played
returns-clause-played c = all_played (record { named = c.each_player_once.ensures.paired; once = c.each_player_once.ensures.apart })

pub returns-clause-run : goal.returns-clause-run
returns-clause-run c = plays_running

pub returns-clause-begin : goal.returns-clause-begin
returns-clause-begin c = record { players = begins_at (record { named = c.each_player_once.ensures.paired; once = c.each_player_once.ensures.apart }); others = begins_nothing }
