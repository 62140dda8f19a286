-- The squares of a set, one after the other.
use Rattle.std.specs.Prelude.{ℕ, List, filter}
use Rattle.std.specs.List.{range_with_len}
use Rattle.board.specs.Sets.{has}

-- the squares of the set, from a1 along each rank to h8
unfoldable pub squares_in : ℕ → List ℕ
squares_in set = filter (has set) (range_with_len 0 64)
