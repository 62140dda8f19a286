-- Where each player is.
use Rattle.std.specs.Prelude.{ℕ, Bool}
use Rattle.entries.specs.declared.setup.Setup.{Setup}
use Rattle.seats.specs.declared.wish.PlayerSeat.{PlayerSeat}
use Rattle.seats.specs.Places.{seat_of, is_idle}
use Rattle.arena_history.specs.History.{History}
use Rattle.arena_history.specs.Games.{playing}
use Rattle.arena_history.specs.Wishes.{wish}

-- where p is: at the game that he plays, or else where his wish says
unfoldable pub seat : Setup → History → ℕ → PlayerSeat
seat s h p = seat_of (wish s h p) (playing s h p)

-- p waits for a game: he is in, and plays none
unfoldable pub idle : Setup → History → ℕ → Bool
idle s h p = is_idle (wish s h p) (playing s h p)
