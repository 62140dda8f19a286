use Rattle.arena_rules.proofs.Entrants.{players_entered}
use Rattle.arena_rules.proofs.Headers.{header_in_range}
use Rattle.arena_rules.proofs.Timed.{game_timed, may_be_asked}
use Rattle.arena_rules.proofs.laws.games_of_legal_lists.Goals as goal

pub returns-clause-headers : goal.returns-clause-headers
returns-clause-headers c = header_in_range c.laws_of_histories.ensures

pub returns-clause-entered : goal.returns-clause-entered
returns-clause-entered c = players_entered c.laws_of_histories.ensures

pub returns-clause-timed : goal.returns-clause-timed
returns-clause-timed c = game_timed c.laws_of_histories.ensures

pub returns-clause-rooms : goal.returns-clause-rooms
returns-clause-rooms c = may_be_asked c.laws_of_histories.ensures c.laws_of_games.ensures
