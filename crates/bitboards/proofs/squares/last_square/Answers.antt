use Rattle.std.proofs.Common.{◌≡◌, subst, ℕ, true, arith}
use Rattle.bitboards.proofs.Masks.{last_of}
use Rattle.board.specs.Sets.{has}
use Rattle.bitboards.proofs.squares.last_square.Goals as goal

pub returns-clause-in_set : goal.returns-clause-in_set
returns-clause-in_set c =
    let l = last_of c.args.set c.requires (omega arith) in
    let at : l.0 ≡ c.of.result = omega (arith, c.of.ensures) in
    subst (λ (k : ℕ). has c.args.set k ≡ true) at l.2

pub returns-clause-last : goal.returns-clause-last
returns-clause-last c =
    let l = last_of c.args.set c.requires (omega arith) in
    let at : l.0 ≡ c.of.result = omega (arith, c.of.ensures) in
    λ t later. l.3 t (omega arith)
