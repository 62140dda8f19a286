use Rattle.std.proofs.Common.{◌≡◌, ℕ, ◌<◌, true}
use Rattle.std.specs.List.{list_any}
use Rattle.board.specs.Reach.{reaches}
use Rattle.board.specs.Sets.{has}
use Rattle.bitboards.specs.Squares.{squares_in}
use Rattle.move_rules.specs.Legal.{legal}
use Rattle.move_rules.specs.Lists.{moves_between, moves_from}
use Rattle.move_rules.proofs.any_move.has_legal_from.Given as goal

abbrev pub invariant-loop-targets : goal.invariant-loop-targets
invariant-loop-targets l =
    (list_any (λ b. list_any (legal l.p) (moves_between l.from b)) (squares_in l.targets) ≡ list_any (legal l.p) (moves_from l.from))
    × ((t : ℕ) → t < 64 → has l.targets t ≡ true → reaches l.p l.from t ≡ true)

abbrev pub decreases-loop-targets : goal.decreases-loop-targets
decreases-loop-targets l = l.targets
