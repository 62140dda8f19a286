-- Squares are numbered rank by rank from White's side: a1 is 0, h1 is 7, a2 is 8, h8 is 63.
use Rattle.std.specs.Prelude.{ℕ, ◌/◌, ◌%◌, ◌+◌, ◌-◌, ◌<◌, max}

-- the file of a square, from 0 for the a-file
abbrev pub file_of : ℕ → ℕ
file_of s = s % 8

-- the rank of a square, from 0 for the first
abbrev pub rank_of : ℕ → ℕ
rank_of s = s / 8

-- how far apart two files or two ranks are
abbrev pub apart : ℕ → ℕ → ℕ
apart a b = (a - b) + (b - a)

-- how many steps a king takes from one square to the other on an empty board
abbrev pub distance : ℕ → ℕ → ℕ
distance a b = max (apart (file_of a) (file_of b)) (apart (rank_of a) (rank_of b))

-- it holds of some square of the board
abbrev pub SomeSquare : (ℕ → Type 0) → Type 0
SomeSquare P = (s : ℕ) × (s < 64) × P s
