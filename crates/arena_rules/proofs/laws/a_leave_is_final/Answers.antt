use Rattle.std.proofs.Common.{◌++◌}
use Rattle.arena_history.specs.Waves.{history}
use Rattle.arena_rules.proofs.Leaves.{left_stays, left_enter_refused, left_pause_refused, left_leave_refused, nobody_comes_back}
use Rattle.arena_rules.proofs.laws.a_leave_is_final.Goals as goal

pub returns-clause-refused : goal.returns-clause-refused
returns-clause-refused c =
    λ s es more p t left.
    let known = c.laws_of_histories.ensures in
    let h = history s (es ++ more) in
    let stays = left_stays known s es more p left in
    (stays, left_enter_refused known s h t p stays, left_pause_refused known s h t p stays, left_leave_refused known s h t p stays)

pub returns-clause-no_return : goal.returns-clause-no_return
returns-clause-no_return c = nobody_comes_back c.laws_of_histories.ensures
