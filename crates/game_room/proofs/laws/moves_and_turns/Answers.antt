use Rattle.game_room.proofs.Counted.{counted, few_moves, one_turn, turn_began, within}
use Rattle.game_room.proofs.EndLaws.{moves_none, moves_done, moves_in_due}
use Rattle.game_room.proofs.laws.moves_and_turns.Goals as goal

pub returns-clause-made : goal.returns-clause-made
returns-clause-made c = record { none = moves_none; done = moves_done; in_due = moves_in_due }

pub returns-clause-plies : goal.returns-clause-plies
returns-clause-plies c = record { counted = counted; few = few_moves }

pub returns-clause-turn : goal.returns-clause-turn
returns-clause-turn c h events = one_turn h events

pub returns-clause-began : goal.returns-clause-began
returns-clause-began c h events t le all = turn_began h events t le all

pub returns-clause-banks : goal.returns-clause-banks
returns-clause-banks c h events side = within h events side
