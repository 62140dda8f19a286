use Rattle.game_room.proofs.EndLaws.{due_allows, due_ends, which_event_ends, one_event_ends, outcome_tells}
use Rattle.game_room.proofs.laws.what_ends_a_game.Goals as goal

pub returns-clause-which : goal.returns-clause-which
returns-clause-which c h events e going ok = which_event_ends h events e going ok

pub returns-clause-one : goal.returns-clause-one
returns-clause-one c h events o ended = one_event_ends h events o ended

pub returns-clause-tells : goal.returns-clause-tells
returns-clause-tells c h events o ended = outcome_tells h events o ended

pub returns-clause-due : goal.returns-clause-due
returns-clause-due c = record { allows = due_allows; ends = due_ends }
