use Rattle.std.proofs.Common.{◌-◌, length}
use Rattle.ranking.proofs.Moving.{IsSinking}
use Rattle.ranking.proofs.order.sink.Given as goal

abbrev pub invariant-sinking : goal.invariant-sinking
invariant-sinking l = IsSinking l.lines l.order l.places l.number l.place

abbrev pub decreases-sinking : goal.decreases-sinking
decreases-sinking l = length l.initial.order - l.place
