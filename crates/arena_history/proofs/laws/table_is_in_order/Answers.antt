use Rattle.arena_history.proofs.Tables.{table_has_entered, table_is_ordered, row_of_player}
use Rattle.arena_history.proofs.laws.table_is_in_order.Goals as goal

pub returns-clause-has : goal.returns-clause-has
returns-clause-has c = table_has_entered

pub returns-clause-ordered : goal.returns-clause-ordered
returns-clause-ordered c = table_is_ordered

pub returns-clause-rows : goal.returns-clause-rows
returns-clause-rows c = row_of_player
