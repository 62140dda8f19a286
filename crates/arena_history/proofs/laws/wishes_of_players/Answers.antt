use Rattle.arena_history.proofs.WishLaws.{wish-push, wish_left, wish_last, wish_none}
use Rattle.arena_history.proofs.laws.wishes_of_players.Goals as goal

pub returns-clause-one_more : goal.returns-clause-one_more
returns-clause-one_more c = wish-push

pub returns-clause-by_entries : goal.returns-clause-by_entries
returns-clause-by_entries c = record { left = wish_left; last = λ s es p w. wish_last s p es w; none = λ s es p. wish_none s p es }
