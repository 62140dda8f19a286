-- The performance of a list of games.
use Rattle.std.specs.Prelude.{ℕ, ℤ, pos, negsuc, ◌+ℤ◌, ◌*ℤ◌, ◌≤ℤ◌, ◌<ℤ◌, List, [], ◌∷◌, length, fold}
use Rattle.std.specs.Int.{int_div_euclid}
use Rattle.sheet.specs.declared.score.Score.{Score}
use Rattle.sheet.specs.declared.score.Score.TheVariants.{Win, Draw, Loss}

-- a counted game of one player: the opponent's rating, and how it ended for the player
pub record Met : Type 0 where
  pub rating : ℕ
  pub score : Score

-- 500 for a win, 500 less for a loss
abbrev pub bonus : Score → ℤ
bonus Win = pos 500
bonus Draw = pos 0
bonus Loss = negsuc 499

-- the sum over the games of the opponent's rating and the bonus
abbrev pub total : List Met → ℤ
total games = fold (λ t (g : Met). t +ℤ (pos g.rating +ℤ bonus g.score)) (pos 0) games

-- the floor of the mean, and 0 without games
abbrev pub performance : List Met → ℤ
performance [] = pos 0
performance (g ∷ gs) = int_div_euclid (total (g ∷ gs)) (pos (length (g ∷ gs)))

-- v is the greatest whole number that is not above the mean of n values with this sum
pub record IsFloorOfMean (v sum : ℤ) (n : ℕ) : Type 0 where
  pub not_above : (v *ℤ pos n) ≤ℤ sum
  pub greatest : sum <ℤ ((v +ℤ pos 1) *ℤ pos n)
