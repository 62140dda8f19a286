use Rattle.std.proofs.Common.{◌≡◌, ℕ, ◌<◌, arith, subst, w64, bit_and}
use Rattle.std.specs.Int.{bit_at}
use Rattle.std.proofs.lemmas.Nat.{and_le_l}
use Rattle.std.proofs.lemmas.Nat.Bits.{bit_at_clear_same, bit_at_clear_other}
use Rattle.group_pairing.proofs.place_set.without.Goals as goal

-- a mask that takes a bit of a number makes it smaller
cleared_smaller : (n i mask : ℕ) → bit_at (bit_and n mask) i ≡ 0 → bit_at n i ≡ 1 → bit_and n mask < n
cleared_smaller n i mask gone has =
    let most = and_le_l n mask in
    let differ : bit_and n mask ≡ n → ⊥ = λ e. let off = subst (λ k. bit_at k i ≡ 0) e gone in omega (arith, off, has) in
    omega (arith, most, differ)

pub returns-clause-gone : goal.returns-clause-gone
returns-clause-gone c = bit_at_clear_same w64 c.args.set c.args.place (omega arith)

pub returns-clause-others : goal.returns-clause-others
returns-clause-others c = λ i low differ. bit_at_clear_other w64 c.args.set c.args.place (omega arith) i (omega (arith, low)) differ

pub returns-clause-smaller : goal.returns-clause-smaller
returns-clause-smaller c = cleared_smaller c.args.set c.args.place _ (bit_at_clear_same w64 c.args.set c.args.place (omega arith)) c.requires.has
