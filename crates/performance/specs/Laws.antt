-- Laws of performances, for every list of games.
use Rattle.std.specs.Prelude.{ℕ, ◌≤◌, pos, negsuc, ◌≤ℤ◌, List}
use Rattle.std.specs.List.{All}
use Rattle.performance.specs.Mean.{Met, performance}

-- against opponents of at most 4,000 rating points a performance lies from -500 to 4,500
abbrev pub PerformancesInRange : Type 0
PerformancesInRange = (met : List Met)
    → All (λ (game : Met). game.rating ≤ 4000) met
    → (negsuc 499 ≤ℤ performance met) × (performance met ≤ℤ pos 4500)
