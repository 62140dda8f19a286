-- Numbers that rise, parted at a number.
use Rattle.std.specs.Prelude.{ℕ, ◌≡◌, ◌<◌, ◌≤◌, List, ◌++◌, ◌∷◌}
use Rattle.std.specs.List.{All}

-- first stand those that are below n, and then the others
pub record IsParted (numbers : List ℕ) (n : ℕ) : Type 0 where
  pub below : List ℕ
  pub others : List ℕ
  pub whole : numbers ≡ below ++ others
  pub are_below : All (λ m. m < n) below
  pub are_not : All (λ m. n ≤ m) others

-- first stand those that are below n, then n, and then those that are above it
pub record IsPartedBy (numbers : List ℕ) (n : ℕ) : Type 0 where
  pub below : List ℕ
  pub above : List ℕ
  pub whole : numbers ≡ below ++ n ∷ above
  pub are_below : All (λ m. m < n) below
  pub are_above : All (λ m. n < m) above
