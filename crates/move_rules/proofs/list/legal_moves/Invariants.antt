use Rattle.std.proofs.Common.{◌≡◌, ◌++◌}
use Rattle.bitboards.specs.Squares.{squares_in}
use Rattle.move_rules.specs.Lists.{moves_from, legal_moves}
use Rattle.move_rules.proofs.MoveLists.{legal_among}
use Rattle.move_rules.proofs.list.legal_moves.Given as goal

abbrev pub invariant-loop-own : goal.invariant-loop-own
invariant-loop-own l = l.moves.items ++ legal_among l.p moves_from (squares_in l.own) ≡ legal_moves l.p

abbrev pub decreases-loop-own : goal.decreases-loop-own
decreases-loop-own l = l.own
