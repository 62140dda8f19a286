use Rattle.seats.proofs.Games.{plays_until_freed, freed_until_seated, before_the_first_game}
use Rattle.seats.proofs.laws.seats_by_calls.Goals as goal

pub returns-clause-plays : goal.returns-clause-plays
returns-clause-plays c = plays_until_freed

pub returns-clause-freed : goal.returns-clause-freed
returns-clause-freed c = freed_until_seated

pub returns-clause-first : goal.returns-clause-first
returns-clause-first c = before_the_first_game
