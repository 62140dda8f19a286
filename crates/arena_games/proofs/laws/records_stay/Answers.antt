use Rattle.arena_games.proofs.Records.{records_stay, records_show, records_are_made}
use Rattle.arena_games.proofs.laws.records_stay.Goals as goal

pub returns-clause-stay : goal.returns-clause-stay
returns-clause-stay c = records_stay c.what_changes_nothing.ensures.ended c.what_changes_nothing.ensures.seen

pub returns-clause-show : goal.returns-clause-show
returns-clause-show c = records_show c.what_changes_nothing.ensures.seen

pub returns-clause-made : goal.returns-clause-made
returns-clause-made c =
    records_are_made c.what_changes_nothing.ensures.seen c.what_ends_a_game.ensures.tells c.moves_and_turns.ensures.plies c.berserks_and_offers.ensures.offer

pub returns-clause-refuse : goal.returns-clause-refuse
returns-clause-refuse c e k side a t r = c.what_changes_nothing.ensures.over k.header k.events side a t e.outcome r.outcome
