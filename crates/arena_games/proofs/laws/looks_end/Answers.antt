use Rattle.arena_games.proofs.Outcomes.{looks_end, outcomes_stay, looks_are_past}
use Rattle.arena_games.proofs.laws.looks_end.Goals as goal

pub returns-clause-ends : goal.returns-clause-ends
returns-clause-ends c = looks_end c.what_changes_nothing.ensures.look

pub returns-clause-stay : goal.returns-clause-stay
returns-clause-stay c = outcomes_stay c.what_changes_nothing.ensures.ended

pub returns-clause-past : goal.returns-clause-past
returns-clause-past c n t games all = looks_are_past n t games all
