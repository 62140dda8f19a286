use Rattle.group_pairing.specs.Search.{HoldsBest}
use Rattle.group_pairing.proofs.search.fill_best.Given as goal

abbrev pub invariant-loop-set : goal.invariant-loop-set
invariant-loop-set l = HoldsBest l.rows l.f l.best l.set
