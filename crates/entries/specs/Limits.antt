-- The limits of an arena, each under the name that the definitions above cite.
use Rattle.std.specs.Prelude.{ℕ}

-- the greatest stamp of an entry, in milliseconds
abbrev pub max_stamp : ℕ
max_stamp = 1000000000

-- how many entries a journal has at most
abbrev pub max_entries : ℕ
max_entries = 8000000

-- how many games an arena begins at most
abbrev pub max_games : ℕ
max_games = 200000

-- how many players a setup has at most
abbrev pub max_players : ℕ
max_players = 1000

-- how many teams a setup has at most
abbrev pub max_teams : ℕ
max_teams = 100

-- the latest end of an arena, in milliseconds
abbrev pub max_end : ℕ
max_end = 900000000
