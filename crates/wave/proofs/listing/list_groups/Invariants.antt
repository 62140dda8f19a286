use Rattle.std.proofs.Common.{◌≡◌}
use Rattle.wave.specs.Plans.{first_pairs, first_alone}
use Rattle.wave.proofs.listing.list_groups.Given as goal

abbrev pub invariant-loop-number : goal.invariant-loop-number
invariant-loop-number l = record {
  pairs : l.pairs.items ≡ first_pairs l.rows l.f l.number;
  alone : l.alone.items ≡ first_alone l.rows l.f l.number;
}
