use Rattle.group_pairing.specs.Search.{IsBest}
use Rattle.group_pairing.proofs.search.best_within.Given as goal

abbrev pub invariant-loop-partner : goal.invariant-loop-partner
invariant-loop-partner l = IsBest l.rows l.f l.set l.place l.partner l.found
