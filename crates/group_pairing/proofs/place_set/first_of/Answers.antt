use Rattle.std.proofs.Common.{w64}
use Rattle.std.proofs.lemmas.Nat.Bits.{bit_at-trailing_zeros}
use Rattle.group_pairing.proofs.place_set.first_of.Goals as goal

pub returns-clause-first : goal.returns-clause-first
returns-clause-first c =
    let place = bit_at-trailing_zeros w64 c.args.set c.requires c.ranges.set.fits in
    record { has = place.1; below = place.2 }
