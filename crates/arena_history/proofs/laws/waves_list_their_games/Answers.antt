use Rattle.std.proofs.Common.{◌<◌, length}
use Rattle.arena_history.proofs.Listed.{starts_in_order, starts_entered, waves_small}
use Rattle.arena_history.proofs.laws.waves_list_their_games.Goals as goal

pub returns-clause-order : goal.returns-clause-order
returns-clause-order c = starts_in_order

pub returns-clause-players : goal.returns-clause-players
returns-clause-players c = λ s. starts_entered (λ p. p < length s.players) (record { named = c.each_player_once.ensures.paired; once = c.each_player_once.ensures.apart }) s

pub returns-clause-small : goal.returns-clause-small
returns-clause-small c = waves_small (record { named = c.each_player_once.ensures.paired; once = c.each_player_once.ensures.apart })
