use Rattle.seats.specs.Places.{unknown}
use Rattle.seats.proofs.Wishes.{leave_is_final, last_wish_holds, wish_kept, no_show_pauses}
use Rattle.seats.proofs.laws.wishes_by_calls.Goals as goal

pub returns-clause-leave : goal.returns-clause-leave
returns-clause-leave c = leave_is_final

pub returns-clause-last : goal.returns-clause-last
returns-clause-last c = last_wish_holds

pub returns-clause-nothing : goal.returns-clause-nothing
returns-clause-nothing c = wish_kept unknown

pub returns-clause-no_show : goal.returns-clause-no_show
returns-clause-no_show c = no_show_pauses
