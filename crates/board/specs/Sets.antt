-- Sets of squares as numbers of 64 bits: bit n is the square with number n.
use Rattle.std.specs.Prelude.{ℕ, ◌≡◌, ◌+◌, ◌*◌, ◌<◌, ◌==◌, Bool, List, [], ◌∷◌, Option, if◌then◌else◌}
use Rattle.std.specs.Int.{bit_at}
use Rattle.board.specs.declared.piece.Piece.{Piece}

-- the set has the square
abbrev pub has : ℕ → ℕ → Bool
has set s = bit_at set s == 1

-- the set has exactly the squares of the board that pass the test
abbrev pub IsSetOf : ℕ → (ℕ → Bool) → Type 0
IsSetOf set f = (s : ℕ) → s < 64 → has set s ≡ f s

-- the squares whose cells pass the test
unfoldable pub set_of : (Option Piece → Bool) → List (Option Piece) → ℕ
set_of f [] = 0
set_of f (cell ∷ cells) = (if f cell then 1 else 0) + 2 * set_of f cells
