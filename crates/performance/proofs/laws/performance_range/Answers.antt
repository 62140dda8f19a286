use Rattle.performance.proofs.Bounds.{in_range}
use Rattle.performance.proofs.laws.performance_range.Goals as goal

pub returns : goal.returns
returns c = in_range
