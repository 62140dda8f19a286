use Rattle.group_pairing.specs.Search.{HoldsCharges}
use Rattle.group_pairing.proofs.offers.fill_charges.Given as goal

abbrev pub invariant-loop-place : goal.invariant-loop-place
invariant-loop-place l = HoldsCharges l.rows l.f l.table l.place
