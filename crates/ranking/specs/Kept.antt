-- What a table keeps beside its lines.
use Rattle.std.specs.Prelude.{◌≡◌, ◌≢◌, ℕ, ◌^◌, ◌<◌, IsTrue, List, length, slice_get, slice_index, Option, Some, None, unwrap_or}
use Rattle.ranking.specs.Order.{Line, line_at, comes_before}

-- for each player the number of his line, in the order of entering
pub record AreNumbered (lines : List Line) (numbers : List (Option ℕ)) : Type 0 where
  pub listed : (i : ℕ) → i < length lines → slice_get numbers (line_at lines i).player ≡ Some (Some i)
  pub found : (p i : ℕ) → slice_get numbers p ≡ Some (Some i) → (i < length lines) × ((line_at lines i).player ≡ p)

-- the number of p's line, or none where he has no line
abbrev pub number_of : List (Option ℕ) → ℕ → Option ℕ
number_of numbers p = unwrap_or (slice_get numbers p) None

-- the numbers of n lines, each once, and the place of each
pub record ArePlaced (n : ℕ) (order places : List ℕ) : Type 0 where
  pub all_ordered : length order ≡ n
  pub all_placed : length places ≡ n
  pub numbers : (k : ℕ) → k < n → slice_index order k < n
  pub each_place : (k : ℕ) → k < n → slice_index places (slice_index order k) ≡ k
  pub within : (i : ℕ) → i < n → slice_index places i < n
  pub each_number : (i : ℕ) → i < n → slice_index order (slice_index places i) ≡ i

-- each line comes before those that follow it
abbrev pub AreInOrder : List Line → List ℕ → Type 0
AreInOrder lines order = (j k : ℕ) → j < k → k < length order → IsTrue (comes_before lines (slice_index order j) (slice_index order k))

-- each player below the room has at most one line, and the lines stand in order with the place of each kept beside
pub record IsKept (lines : List Line) (numbers : List (Option ℕ)) (order places : List ℕ) : Type 0 where
  pub few : length numbers < 2 ^ 32
  pub numbered : AreNumbered lines numbers
  pub at_places : ArePlaced (length lines) order places
  pub ordered : AreInOrder lines order

-- with one number left out, each line comes before those that follow it
abbrev pub AreInOrderBut : List Line → ℕ → List ℕ → Type 0
AreInOrderBut lines number order = (j k : ℕ) → j < k → k < length order → slice_index order j ≢ number → slice_index order k ≢ number → IsTrue (comes_before lines (slice_index order j) (slice_index order k))

-- the line with a number comes after those that stand before it
abbrev pub FollowsAllBefore : List Line → ℕ → List ℕ → Type 0
FollowsAllBefore lines number order = (j k : ℕ) → j < k → k < length order → slice_index order k ≡ number → IsTrue (comes_before lines (slice_index order j) number)
