use Rattle.seats.proofs.Idle.{since_it_began, told_of_the_idle}
use Rattle.seats.proofs.laws.idle_since_by_calls.Goals as goal

pub returns-clause-began : goal.returns-clause-began
returns-clause-began c = since_it_began

pub returns-clause-told : goal.returns-clause-told
returns-clause-told c = told_of_the_idle
