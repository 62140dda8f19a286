use Rattle.arena_history.specs.Waves.{history}
use Rattle.arena_rules.proofs.Bounds.{games-legal}
use Rattle.arena_rules.proofs.Entrants.{entered_are_players}
use Rattle.arena_rules.proofs.laws.tables_of_legal_lists.Goals as goal

pub returns-clause-entrants : goal.returns-clause-entrants
returns-clause-entrants c = entered_are_players c.laws_of_histories.ensures

pub returns-clause-short : goal.returns-clause-short
returns-clause-short c = λ s es legal. c.laws_of_histories.ensures.few_rows s (history s es) (entered_are_players c.laws_of_histories.ensures s es legal)

pub returns-clause-ranges : goal.returns-clause-ranges
returns-clause-ranges c = λ s es good legal. c.laws_of_histories.ensures.rows s es good (entered_are_players c.laws_of_histories.ensures s es legal) (games-legal c.laws_of_histories.ensures s es legal)

pub returns-clause-rankings : goal.returns-clause-rankings
returns-clause-rankings c = λ s es good legal. c.laws_of_histories.ensures.ranking s (history s es) good (entered_are_players c.laws_of_histories.ensures s es legal)
