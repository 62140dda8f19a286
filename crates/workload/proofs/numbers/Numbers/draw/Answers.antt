use Rattle.std.proofs.Common.{◌/◌, ap}
use Rattle.workload.specs.Numbers.{next, state, drawn}
use Rattle.workload.proofs.numbers.Numbers.draw.Goals as goal

pub returns-clause-drawn : goal.returns-clause-drawn
unfolding state drawn
returns-clause-drawn c = λ seed n is. ap (λ x. next x / 65536) is

pub returns-clause-state : goal.returns-clause-state
unfolding state
returns-clause-state c = λ seed n is. ap next is
