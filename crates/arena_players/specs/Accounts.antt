-- What is kept of the counted games of an arena's players, and for which games and players it stands.
use Rattle.std.specs.Prelude.{◌≡◌, ℕ, ◌≤◌, List, [], length, slice_get, Some}
use Rattle.std.specs.List.{All, AllZip}
use Rattle.entries.specs.declared.setup.Player.{Player}
use Rattle.entries.specs.declared.setup.Setup.{Setup}
use Rattle.entries.specs.Limits.{max_games}
use Rattle.ranking.specs.declared.line.Line.{Line}
use Rattle.arena_history.specs.Endings.{EndedGame}
use Rattle.arena_history.specs.Results.{rating_of, results_among}
use Rattle.arena_history.specs.Table.{lines_among}
use Rattle.arena_players.specs.declared.account.Account.{Account}
use Rattle.arena_players.specs.Results.{HasResults, IsWithin}

-- how many games were counted, what is kept of each player, by his number, and the lines of those who entered
pub record KeptScores : Type 0 where
  pub counted : ℕ
  pub accounts : List Account
  pub lines : List Line

-- the account is that of p where these games count
pub record IsAccountOf (s : Setup) (games : List EndedGame) (p : ℕ) (a : Account) : Type 0 where
  pub rating : a.rating ≡ rating_of s p
  pub results : HasResults a (results_among s games p)

-- these games were counted, each player of the setup has his account of them, and these players have entered
pub record StandsFor (k : KeptScores) (s : Setup) (games : List EndedGame) (players : List ℕ) : Type 0 where
  pub counted : k.counted ≡ length games
  pub size : length k.accounts ≡ length s.players
  pub accounts : (p : ℕ) (a : Account) → slice_get k.accounts p ≡ Some a → IsAccountOf s games p a
  pub lines : k.lines ≡ lines_among s games players

-- so it is kept: no more games count than an arena begins, the table has room for every player, and no player has more games
-- than were counted
pub record AreKept (counted room : ℕ) (accounts : List Account) : Type 0 where
  pub few : counted ≤ max_games
  pub sized : room ≡ length accounts
  pub within : All (IsWithin counted) accounts

-- the account is that of this player before his first game
pub record IsFreshOf (player : Player) (a : Account) : Type 0 where
  pub rating : a.rating ≡ player.rating
  pub sheet : a.sheet.games ≡ 0
  pub perf : a.perf.games ≡ 0
  pub results : HasResults a []

-- the accounts are those of these players before their first games
abbrev pub AreFresh : List Player → List Account → Type 0
AreFresh players accounts = AllZip IsFreshOf players accounts
