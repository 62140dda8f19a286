use Rattle.arena_history.specs.Waves.{history}
use Rattle.arena_rules.proofs.Asked.{entered_have_asked}
use Rattle.arena_rules.proofs.Leaves.{paused_may_enter, paused_may_leave, paused_enters}
use Rattle.arena_rules.proofs.laws.wishes_in_legal_lists.Goals as goal

pub returns-clause-pauses : goal.returns-clause-pauses
returns-clause-pauses c =
    λ s es p t e paused.
    let known = c.laws_of_histories.ensures in
    let h = history s es in
    (paused_may_enter known s h t p paused, paused_may_leave known s h t p paused, paused_enters known s es e p paused)

pub returns-clause-entered : goal.returns-clause-entered
returns-clause-entered c = entered_have_asked c.laws_of_histories.ensures
