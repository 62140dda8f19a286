use Rattle.arena_history.proofs.Entered.{entered-push}
use Rattle.arena_history.proofs.Newcomers.{newcomer_line, results-push, lines-joined, lines-are}
use Rattle.arena_history.proofs.Scored.{one_more}
use Rattle.arena_history.proofs.laws.lines_with_one_more.Goals as goal

pub returns-clause-lines : goal.returns-clause-lines
returns-clause-lines c = lines-are

pub returns-clause-entered : goal.returns-clause-entered
returns-clause-entered c = entered-push

pub returns-clause-player : goal.returns-clause-player
returns-clause-player c = lines-joined

pub returns-clause-game : goal.returns-clause-game
returns-clause-game c = one_more

pub returns-clause-results : goal.returns-clause-results
returns-clause-results c = results-push

pub returns-clause-fresh : goal.returns-clause-fresh
returns-clause-fresh c = newcomer_line (record { named = c.each_player_once.ensures.paired; once = c.each_player_once.ensures.apart })
