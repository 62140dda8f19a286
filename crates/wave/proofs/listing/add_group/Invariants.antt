use Rattle.std.proofs.Common.{◌≡◌, ◌++◌}
use Rattle.std.specs.List.{range_with_len, filter_map}
use Rattle.group_pairing.specs.Groups.{list_of}
use Rattle.wave.specs.Plans.{pair_at, alone_at}
use Rattle.wave.proofs.listing.add_group.Given as goal

abbrev pub invariant-loop-place : goal.invariant-loop-place
invariant-loop-place l = record {
  pairs : l.found.items ≡ l.initial.found.items ++ filter_map (pair_at l.rows (list_of l.partners)) (range_with_len 0 l.place);
  alone : l.left.items ≡ l.initial.left.items ++ filter_map (alone_at l.rows (list_of l.partners)) (range_with_len 0 l.place);
}
