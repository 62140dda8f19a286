-- Lines of the board as sets of squares, and where a piece comes along them.
use Rattle.std.specs.Prelude.{ℕ, ◌+◌, ◌-◌, ◌^◌, ◌==◌, Bool, ◌&&◌, not, min, max, bit_and}
use Rattle.std.specs.List.{list_all, range_with_len}
use Rattle.board.specs.Square.{file_of, rank_of, distance}
use Rattle.board.specs.Attack.{on_the_way}
use Rattle.board.specs.Sets.{has}

-- the squares whose numbers lie between those of two squares
abbrev pub numbers_between : ℕ → ℕ → ℕ
numbers_between a b = 2 ^ max a b - 2 ^ (min a b + 1)

-- no square of the set lies between two squares of a line
abbrev pub open_between : ℕ → ℕ → ℕ → ℕ → Bool
open_between line set a b = bit_and (bit_and line (numbers_between a b)) set == 0

-- another square of the line, with no square of the set between
abbrev pub reached_on : ℕ → ℕ → ℕ → ℕ → Bool
reached_on line set s t = has line t && not (s == t) && open_between line set s t

-- on one file, on one rank, and on one diagonal of either direction
abbrev pub same_file : ℕ → ℕ → Bool
same_file a b = file_of a == file_of b

abbrev pub same_rank : ℕ → ℕ → Bool
same_rank a b = rank_of a == rank_of b

abbrev pub same_rising : ℕ → ℕ → Bool
same_rising a b = rank_of a + 7 - file_of a == rank_of b + 7 - file_of b

abbrev pub same_falling : ℕ → ℕ → Bool
same_falling a b = rank_of a + file_of a == rank_of b + file_of b

-- no square of the set is stepped on between two squares of one line
unfoldable pub is_open : ℕ → ℕ → ℕ → Bool
is_open set a b =
    let n = distance a b in
    list_all (λ i. not (has set (on_the_way a b n i))) (range_with_len 1 (n - 1))
