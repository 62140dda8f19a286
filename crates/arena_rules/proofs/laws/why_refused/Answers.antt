use Rattle.arena_rules.proofs.Causes.{full_comes_last, enter_closed, pause_closed, leave_closed, no_game, not_yours, early_means, closed_means, full_means, no_answer_means}
use Rattle.arena_rules.proofs.Refused.{own_come_first, not_entered_means, already_in_means, already_paused_means, left_means, act_means, nothing_due_means}
use Rattle.arena_rules.proofs.laws.why_refused.Goals as goal

pub returns-clause-full_last : goal.returns-clause-full_last
returns-clause-full_last c = full_comes_last

pub returns-clause-closed : goal.returns-clause-closed
returns-clause-closed c = record { enter = enter_closed; pause = pause_closed; leave = leave_closed }

pub returns-clause-acts : goal.returns-clause-acts
returns-clause-acts c = record { no_game = no_game; not_yours = not_yours }

pub returns-clause-early : goal.returns-clause-early
returns-clause-early c = early_means

pub returns-clause-late : goal.returns-clause-late
returns-clause-late c = closed_means

pub returns-clause-full : goal.returns-clause-full
returns-clause-full c = full_means

pub returns-clause-no_answer : goal.returns-clause-no_answer
returns-clause-no_answer c = no_answer_means

pub returns-clause-own_first : goal.returns-clause-own_first
returns-clause-own_first c = own_come_first

pub returns-clause-not_entered : goal.returns-clause-not_entered
returns-clause-not_entered c = not_entered_means

pub returns-clause-already_in : goal.returns-clause-already_in
returns-clause-already_in c = already_in_means

pub returns-clause-already_paused : goal.returns-clause-already_paused
returns-clause-already_paused c = already_paused_means

pub returns-clause-left : goal.returns-clause-left
returns-clause-left c = left_means

pub returns-clause-by_game : goal.returns-clause-by_game
returns-clause-by_game c = λ s h t k r. act_means s h t r k

pub returns-clause-nothing_due : goal.returns-clause-nothing_due
returns-clause-nothing_due c = nothing_due_means
