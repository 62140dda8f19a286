use Rattle.ranking.proofs.Counted.{rows_have_the_players, ranks_count_from_zero, rows_have_their_ranks}
use Rattle.ranking.proofs.laws.rows_are_the_lines.Goals as goal

pub returns-clause-players : goal.returns-clause-players
returns-clause-players c = rows_have_the_players

pub returns-clause-ranks : goal.returns-clause-ranks
returns-clause-ranks c = ranks_count_from_zero

pub returns-clause-own : goal.returns-clause-own
returns-clause-own c = rows_have_their_ranks
