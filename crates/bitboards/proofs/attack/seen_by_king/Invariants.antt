use Rattle.std.proofs.Common.{◌≡◌, ℕ, ◌<◌, ◌||◌}
use Rattle.std.specs.List.{list_any}
use Rattle.board.specs.Sets.{has}
use Rattle.bitboards.specs.Squares.{squares_in}
use Rattle.bitboards.specs.Sight.{sees, seen_by_king}
use Rattle.bitboards.proofs.attack.seen_by_king.Given as goal

abbrev pub invariant-loop-kings : goal.invariant-loop-kings
invariant-loop-kings l =
    (t : ℕ) → t < 64 → (has l.seen t || list_any (λ s. sees l.board s t) (squares_in l.kings)) ≡ seen_by_king l.board l.fn.colour t

abbrev pub decreases-loop-kings : goal.decreases-loop-kings
decreases-loop-kings l = l.kings
