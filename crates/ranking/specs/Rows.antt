-- What a table holds, and the rows that it answers.
use Rattle.std.specs.Prelude.{◌≡◌, ℕ, ℤ, suc, ◌^◌, ◌<◌, ◌≤◌, ◌==◌, Bool, false, if◌then◌else◌, pos, List, [], ◌∷◌, length, map, take, drop, Option}
use Rattle.std.specs.List.{list_any, position}
use Rattle.ranking.specs.declared.row.Row.{Row}
use Rattle.ranking.specs.Order.{Line, line_at, ranked}

-- how many players a table has room for, and the line of each who entered, in the order of entering
pub record Listed : Type 0 where
  pub room : ℕ
  pub lines : List Line

-- these as one value
abbrev pub listed : ℕ → List Line → Listed
listed room lines = record { room = room; lines = lines }

-- no two lines are of one player
abbrev pub HasDistinctPlayers : List Line → Type 0
HasDistinctPlayers lines = (i j : ℕ) → i < length lines → j < length lines → (line_at lines i).player ≡ (line_at lines j).player → i ≡ j

-- what is kept of every table: no more lines than it has room for, each of a player below the room, and no two of one player
pub record IsListed (t : Listed) : Type 0 where
  pub few : t.room < 2 ^ 32
  pub most : length t.lines ≤ t.room
  pub players : (i : ℕ) → i < length t.lines → (line_at t.lines i).player < t.room
  pub distinct : HasDistinctPlayers t.lines

-- the line of a player who has just entered
abbrev pub fresh : ℕ → ℕ → Line
fresh p rating = record { player = p; rating = rating; points = 0; performance = pos 0; games = 0; fire = false }

-- the row of a line at a rank
abbrev pub row_at : ℕ → Line → Row
row_at rank line = record { rank = rank; player = line.player; points = line.points; performance = line.performance; games = line.games; fire = line.fire }

-- rows for lines one behind the other, from a rank on
abbrev pub rows_from : ℕ → List Line → List Row
rows_from rank [] = []
rows_from rank (line ∷ rest) = row_at rank line ∷ rows_from (suc rank) rest

-- the rows of a table, in its order
unfoldable pub rows : List Line → List Row
rows lines = rows_from 0 (ranked lines)

-- p has a line
abbrev pub has : List Line → ℕ → Bool
has lines p = list_any (λ (line : Line). line.player == p) lines

-- a line with other values given of its player
abbrev pub given : ℕ → ℤ → ℕ → Bool → Line → Line
given points performance games fire line = record { player = line.player; rating = line.rating; points = points; performance = performance; games = games; fire = fire }

-- the lines once these values are given of p
abbrev pub scored : ℕ → ℕ → ℤ → ℕ → Bool → List Line → List Line
scored p points performance games fire lines = map (λ (line : Line). if line.player == p then given points performance games fire line else line) lines

-- the rank of p: how many lines of the table stand before his, or none where he has no line
unfoldable pub rank_of : List Line → ℕ → Option ℕ
rank_of lines p = position (λ (line : Line). line.player == p) (ranked lines)

-- the rows of at most n ranks, from a rank on
abbrev pub page : ℕ → ℕ → List Line → List Row
page from n lines = take n (drop from (rows lines))
