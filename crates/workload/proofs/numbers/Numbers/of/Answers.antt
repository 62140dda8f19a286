use Rattle.workload.specs.Numbers.{state}
use Rattle.workload.proofs.numbers.Numbers.of.Goals as goal

pub returns : goal.returns
unfolding state
returns c = c.from.ensures
