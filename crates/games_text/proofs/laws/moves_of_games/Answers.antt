use Rattle.games_text.proofs.Lines.{moves_are_a_line}
use Rattle.games_text.proofs.Sendings.{moves_were_sent}
use Rattle.games_text.proofs.laws.moves_of_games.Goals as goal

pub returns-clause-sent : goal.returns-clause-sent
returns-clause-sent c = moves_were_sent c.games_with_one_more.ensures.begun c.games_with_one_more.ensures.events c.games_with_one_more.ensures.new_games c.what_ends_a_game.ensures.tells

pub returns-clause-line : goal.returns-clause-line
returns-clause-line c = moves_are_a_line
