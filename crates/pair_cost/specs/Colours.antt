-- Who of a pair has White.
use Rattle.std.specs.Prelude.{int_le, if◌then◌else◌}
use Rattle.pair_cost.specs.declared.candidate.Candidate.{Candidate}
use Rattle.pair_cost.specs.declared.candidate.Pair.{Pair}

-- the first player has White unless he has had it more often, over his games with Black, than the second
abbrev pub colours : Candidate → Candidate → Pair
colours a b =
    if int_le a.balance b.balance then record { white = a.player; black = b.player } else record { white = b.player; black = a.player }
