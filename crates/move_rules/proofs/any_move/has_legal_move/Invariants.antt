use Rattle.std.proofs.Common.{◌≡◌}
use Rattle.std.specs.List.{list_any}
use Rattle.bitboards.specs.Squares.{squares_in}
use Rattle.move_rules.specs.Legal.{legal}
use Rattle.move_rules.specs.Lists.{moves_from, has_legal_move}
use Rattle.move_rules.proofs.any_move.has_legal_move.Given as goal

abbrev pub invariant-loop-own : goal.invariant-loop-own
invariant-loop-own l = list_any (λ a. list_any (legal l.p) (moves_from a)) (squares_in l.own) ≡ has_legal_move l.p

abbrev pub decreases-loop-own : goal.decreases-loop-own
decreases-loop-own l = l.own
