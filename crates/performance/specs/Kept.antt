-- What is kept of a player's performance, and the list of games that it stands for.
use Rattle.std.specs.Prelude.{◌≡◌, ℕ, ℤ, List, length}
use Rattle.performance.specs.Mean.{Met, total}

-- the sum of the ratings with their bonus, and how many games they are of
pub record Kept : Type 0 where
  pub sum : ℤ
  pub games : ℕ

-- the sum and the count are those of the list of games
pub record StandsFor (kept : Kept) (met : List Met) : Type 0 where
  pub sum : kept.sum ≡ total met
  pub games : kept.games ≡ length met
