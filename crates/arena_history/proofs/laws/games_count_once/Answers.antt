use Rattle.arena_history.proofs.Counted.{counted_games, finished_grows}
use Rattle.arena_history.proofs.GrownGames.{finished-push, fit}
use Rattle.arena_history.proofs.laws.games_count_once.Goals as goal

pub returns-clause-one_more : goal.returns-clause-one_more
returns-clause-one_more c = finished-push

pub returns-clause-once : goal.returns-clause-once
returns-clause-once c = λ s es g at. (counted_games s es).0 g.header.id g at

pub returns-clause-ended : goal.returns-clause-ended
returns-clause-ended c = λ s es. (counted_games s es).1

pub returns-clause-stay : goal.returns-clause-stay
returns-clause-stay c = finished_grows

pub returns-clause-room : goal.returns-clause-room
returns-clause-room c = fit
