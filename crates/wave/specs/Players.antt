-- Who stands in a plan.
use Rattle.std.specs.Prelude.{ℕ, ◌≡◌, ◌≢◌, ◌⊎◌, List, map, Any, Contains}
use Rattle.pair_cost.specs.declared.candidate.Candidate.{Candidate}
use Rattle.pair_cost.specs.declared.candidate.Pair.{Pair}
use Rattle.wave.specs.Plans.{planned_pairs, planned_alone}

-- a row is of the player with this number
abbrev pub HasPlayer : List Candidate → ℕ → Type 0
HasPlayer rows player = Contains (map (λ (row : Candidate). row.player) rows) player

-- both players of a pair are players of rows, and they are two
pub record IsOfRows (rows : List Candidate) (pair : Pair) : Type 0 where
  pub white : HasPlayer rows pair.white
  pub black : HasPlayer rows pair.black
  pub two : pair.white ≢ pair.black

-- two pairs have no player in common
pub record IsApart (a b : Pair) : Type 0 where
  pub whites : a.white ≢ b.white
  pub white_black : a.white ≢ b.black
  pub black_white : a.black ≢ b.white
  pub blacks : a.black ≢ b.black

-- the player is neither of a pair
pub record IsOutside (pair : Pair) (player : ℕ) : Type 0 where
  pub not_white : pair.white ≢ player
  pub not_black : pair.black ≢ player

-- the player is one of a pair
abbrev pub IsIn : Pair → ℕ → Type 0
IsIn pair player = (pair.white ≡ player) ⊎ (pair.black ≡ player)

-- the player stands in a pair of the plan, or is left alone
abbrev pub IsPlanned : ℕ → List Candidate → ℕ → Type 0
IsPlanned rule rows player = Any (λ pair. IsIn pair player) (planned_pairs rule rows) ⊎ Contains (planned_alone rule rows) player
