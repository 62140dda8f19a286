-- Between which numbers a performance lies.
use Rattle.std.proofs.Common.{◌≡◌, ℕ, zero, suc, ◌+◌, ◌*◌, ◌/◌, ◌<◌, ◌≤◌, ℤ, pos, negsuc, ◌+ℤ◌, ◌≤ℤ◌, List, [], ◌∷◌, length, fold, arith}
use Rattle.std.specs.Int.{int_div_euclid}
use Rattle.std.specs.List.{All}
use Rattle.std.proofs.lemmas.Int.{ints}
use Rattle.std.proofs.lemmas.Nat.{div_below}
use Rattle.std.proofs.lemmas.List.Elements.{All-head, All-tail}
use Rattle.sheet.specs.declared.score.Score.{Score}
use Rattle.sheet.specs.declared.score.Score.TheVariants.{Win, Draw, Loss}
use Rattle.performance.specs.Mean.{Met, total, performance, bonus}

-- a sum of n games' ratings with their bonus lies from -500 n to 4,500 n above where it began
abbrev Within : ℤ → ℕ → ℤ → Type 0
Within start n sum = (start ≤ℤ (sum +ℤ pos (500 * n))) × (sum ≤ℤ (start +ℤ pos (4500 * n)))

abbrev step : ℤ → Met → ℤ
step t g = t +ℤ (pos g.rating +ℤ bonus g.score)

bonus_within : (score : Score) → (negsuc 499 ≤ℤ bonus score) × (bonus score ≤ℤ pos 500)
bonus_within Win = (omega (arith, ints), omega (arith, ints))
bonus_within Draw = (omega (arith, ints), omega (arith, ints))
bonus_within Loss = (omega (arith, ints), omega (arith, ints))

sum_within : (met : List Met) (start : ℤ) → All (λ (game : Met). game.rating ≤ 4000) met → Within start (length met) (fold step start met)
sum_within [] start rated = (omega (arith, ints), omega (arith, ints))
sum_within (g ∷ gs) start rated =
    let here = All-head (λ (game : Met). game.rating ≤ 4000) g gs rated in
    let bonus_is = bonus_within g.score in
    let rest = sum_within gs (step start g) (All-tail (λ (game : Met). game.rating ≤ 4000) g gs rated) in
    (omega (arith, ints, here, bonus_is.0, bonus_is.1, rest.0, rest.1), omega (arith, ints, here, bonus_is.0, bonus_is.1, rest.0, rest.1))

-- the floor of the mean of such a sum of some games
floor_within : (sum : ℤ) (n : ℕ) → 0 < n → Within (pos 0) n sum → (negsuc 499 ≤ℤ int_div_euclid sum (pos n)) × (int_div_euclid sum (pos n) ≤ℤ pos 4500)
floor_within (pos a) n some within =
    let above : a < 4501 * n = omega (arith, ints, some, within.1) in
    let below : a / n < 4501 = div_below a n 4501 some above in
    (omega (arith, ints), omega (arith, ints, below))
floor_within (negsuc a) n some within =
    let above : a < 500 * n = omega (arith, ints, some, within.0) in
    let below : a / n < 500 = div_below a n 500 some above in
    (omega (arith, ints, below), omega (arith, ints))

pub in_range : (met : List Met) → All (λ (game : Met). game.rating ≤ 4000) met → (negsuc 499 ≤ℤ performance met) × (performance met ≤ℤ pos 4500)
in_range [] rated = (omega (arith, ints), omega (arith, ints))
in_range (g ∷ gs) rated = floor_within (total (g ∷ gs)) (length (g ∷ gs)) (omega arith) (sum_within (g ∷ gs) (pos 0) rated)
