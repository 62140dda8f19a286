use Rattle.arena_rules.proofs.Entrants.{entered_are_players}
use Rattle.arena_rules.proofs.Starts.{starts_in_range, starts_of_waves, writable}
use Rattle.arena_rules.proofs.laws.games_are_listed.Goals as goal

pub returns-clause-few : goal.returns-clause-few
returns-clause-few c = λ s es n good legal. c.laws_of_histories.ensures.small s es n good (entered_are_players c.laws_of_histories.ensures s es legal)

pub returns-clause-ranges : goal.returns-clause-ranges
returns-clause-ranges c = starts_in_range c.laws_of_histories.ensures

pub returns-clause-waves : goal.returns-clause-waves
returns-clause-waves c = starts_of_waves c.laws_of_histories.ensures

pub returns-clause-writable : goal.returns-clause-writable
returns-clause-writable c = writable c.laws_of_histories.ensures
