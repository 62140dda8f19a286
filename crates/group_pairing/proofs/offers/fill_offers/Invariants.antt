use Rattle.group_pairing.specs.Search.{HoldsOffers}
use Rattle.group_pairing.proofs.offers.fill_offers.Given as goal

abbrev pub invariant-loop-cell : goal.invariant-loop-cell
invariant-loop-cell l = HoldsOffers l.rows l.f l.table l.cell
