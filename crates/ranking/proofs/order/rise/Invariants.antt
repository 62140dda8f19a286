use Rattle.ranking.proofs.Moving.{IsMoving}
use Rattle.ranking.proofs.order.rise.Given as goal

abbrev pub invariant-rising : goal.invariant-rising
invariant-rising l = IsMoving l.lines l.order l.places l.number l.place

abbrev pub decreases-rising : goal.decreases-rising
decreases-rising l = l.place
