use Rattle.arena_history.proofs.ActEnds.{ended_by_events, act_ends, act_ends_none}
use Rattle.arena_history.proofs.GrownGames.{ended_are, ended-push, ended_stays}
use Rattle.arena_history.proofs.LookEnds.{look_ends}
use Rattle.arena_history.proofs.Placed.{ends_none}
use Rattle.arena_history.proofs.laws.games_end.Goals as goal

pub returns-clause-ended : goal.returns-clause-ended
returns-clause-ended c = ended_are

pub returns-clause-no_longer : goal.returns-clause-no_longer
returns-clause-no_longer c = ended-push

pub returns-clause-by_events : goal.returns-clause-by_events
returns-clause-by_events c = ended_by_events

pub returns-clause-by_act : goal.returns-clause-by_act
returns-clause-by_act c = record { named = act_ends; unknown = act_ends_none }

pub returns-clause-by_look : goal.returns-clause-by_look
returns-clause-by_look c = look_ends c.what_changes_nothing.ensures.look c.what_ends_a_game.ensures.due

pub returns-clause-others : goal.returns-clause-others
returns-clause-others c = ends_none

pub returns-clause-stay : goal.returns-clause-stay
returns-clause-stay c = ended_stays
