use Rattle.std.proofs.Common.{◌≡◌}
use Rattle.std.specs.List.{list_any}
use Rattle.board.specs.Attack.{attacked, king_attacked}
use Rattle.bitboards.specs.Squares.{squares_in}
use Rattle.bitboards.proofs.attack.is_king_attacked.Given as goal

abbrev pub invariant-loop-kings : goal.invariant-loop-kings
invariant-loop-kings l = list_any (λ s. attacked l.board s l.by) (squares_in l.kings) ≡ king_attacked l.board l.fn.colour

abbrev pub decreases-loop-kings : goal.decreases-loop-kings
decreases-loop-kings l = l.kings
