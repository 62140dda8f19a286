use Rattle.arena_history.proofs.Bounds.{results_few, rows_few, rows_in_range, ranking}
use Rattle.arena_history.proofs.laws.rows_are_in_range.Goals as goal

pub returns-clause-results : goal.returns-clause-results
returns-clause-results c = results_few

pub returns-clause-few : goal.returns-clause-few
returns-clause-few c = rows_few

pub returns-clause-ranges : goal.returns-clause-ranges
returns-clause-ranges c = λ s es good players games. rows_in_range c.worth_of_games.ensures.few c.performance_range.ensures s es good players games

pub returns-clause-ranking : goal.returns-clause-ranking
returns-clause-ranking c = ranking
