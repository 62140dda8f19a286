use Rattle.std.proofs.Common.{◌≡◌, ℕ, ◌<◌, ◌++◌, true, filter}
use Rattle.board.specs.Reach.{reaches}
use Rattle.board.specs.Sets.{has}
use Rattle.bitboards.specs.Squares.{squares_in}
use Rattle.move_rules.specs.Legal.{legal}
use Rattle.move_rules.specs.Lists.{moves_between, moves_from}
use Rattle.move_rules.proofs.MoveLists.{legal_among}
use Rattle.move_rules.proofs.list.push_from.Given as goal

abbrev pub invariant-loop-targets : goal.invariant-loop-targets
invariant-loop-targets l =
    (l.moves.items ++ legal_among l.p (moves_between l.from) (squares_in l.targets) ≡ l.initial.moves.items ++ filter (legal l.p) (moves_from l.from))
    × ((t : ℕ) → t < 64 → has l.targets t ≡ true → reaches l.p l.from t ≡ true)

abbrev pub decreases-loop-targets : goal.decreases-loop-targets
decreases-loop-targets l = l.targets
