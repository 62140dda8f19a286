-- Laws of the order and of the rows, for every list of lines.
use Rattle.std.specs.Prelude.{◌≡◌, ◌≢◌, ℕ, ◌<◌, ◌⊎◌, List, length, map, slice_get, Some, IsTrue, count_by}
use Rattle.std.specs.List.{range_with_len}
use Rattle.std.specs.List.Sorted.{IsPermutation}
use Rattle.ranking.specs.declared.row.Row.{Row}
use Rattle.ranking.specs.Order.{Line, line_at, comes_before}
use Rattle.ranking.specs.Rows.{HasDistinctPlayers, rows, rank_of}

-- no line comes before itself
abbrev pub NoneBeforeItself : Type 0
NoneBeforeItself = (lines : List Line) (i : ℕ) → ¬ IsTrue (comes_before lines i i)

-- a line that comes before one that comes before a third comes before the third
abbrev pub BeforeIsTransitive : Type 0
BeforeIsTransitive = (lines : List Line) (i j k : ℕ) → IsTrue (comes_before lines i j) → IsTrue (comes_before lines j k) → IsTrue (comes_before lines i k)

-- of two lines one comes before the other
abbrev pub BeforeIsTotal : Type 0
BeforeIsTotal = (lines : List Line) (i j : ℕ) → i ≢ j → IsTrue (comes_before lines i j) ⊎ IsTrue (comes_before lines j i)

-- the players of the rows are those of the lines, each as often
abbrev pub RowsHaveThePlayers : Type 0
RowsHaveThePlayers = (lines : List Line) → IsPermutation (map (λ (line : Line). line.player) lines) (map (λ (row : Row). row.player) (rows lines))

-- the row at rank k has rank k
abbrev pub RanksCountFromZero : Type 0
RanksCountFromZero = (lines : List Line) (k : ℕ) (row : Row) → slice_get (rows lines) k ≡ Some row → row.rank ≡ k

-- the player of the row at rank k has rank k
abbrev pub RowsHaveTheirRanks : Type 0
RowsHaveTheirRanks = (lines : List Line) (k : ℕ) (row : Row) → HasDistinctPlayers lines → slice_get (rows lines) k ≡ Some row → rank_of lines row.player ≡ Some k

-- of two lines the one that comes before the other has the smaller rank
abbrev pub RanksAreInOrder : Type 0
RanksAreInOrder = (lines : List Line) (i j a b : ℕ) → HasDistinctPlayers lines → i < length lines → j < length lines
    → rank_of lines (line_at lines i).player ≡ Some a → rank_of lines (line_at lines j).player ≡ Some b
    → IsTrue (comes_before lines i j) → a < b

-- a player's rank is how many lines come before his
abbrev pub RankIsHowManyBefore : Type 0
RankIsHowManyBefore = (lines : List Line) (i : ℕ) → HasDistinctPlayers lines → i < length lines
    → rank_of lines (line_at lines i).player ≡ Some (count_by (λ j. comes_before lines j i) (range_with_len 0 (length lines)))
