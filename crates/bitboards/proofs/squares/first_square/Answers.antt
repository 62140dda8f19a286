use Rattle.std.proofs.Common.{ap, ◌==◌, w64, eq-eqb, arith}
use Rattle.std.proofs.lemmas.Nat.Bits.{bit_at-trailing_zeros}
use Rattle.bitboards.proofs.squares.first_square.Goals as goal

pub returns-clause-in_set : goal.returns-clause-in_set
returns-clause-in_set c = rw (c.of.ensures) (eq-eqb _ _ (bit_at-trailing_zeros w64 c.args.set c.requires (omega arith)).1)

pub returns-clause-first : goal.returns-clause-first
returns-clause-first c = λ t before. ap (λ b. b == 1) ((bit_at-trailing_zeros w64 c.args.set c.requires (omega arith)).2 t (rw (c.of.ensures) at before))
