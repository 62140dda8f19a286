-- Which games count.
use Rattle.std.specs.Prelude.{◌≡◌, ◌<◌, nat_lt, Bool, false, slice_get, Option, Some, None}
use Rattle.entries.specs.declared.setup.Setup.{Setup}
use Rattle.game_room.specs.declared.outcome.Outcome.{Outcome}
use Rattle.arena_history.specs.History.{History}
use Rattle.arena_history.specs.Games.{begun, outcome_of}
use Rattle.arena_history.specs.Endings.{EndedGame}

-- a game ended before the arena's end
abbrev pub ends_in_time : Setup → Option Outcome → Bool
ends_in_time s None = false
ends_in_time s (Some o) = nat_lt o.stamp s.ends

-- a counted game is one that was begun, and that ended so, before the arena's end
pub record IsCounted (s : Setup) (h : History) (x : EndedGame) : Type 0 where
  pub begun : slice_get (begun s h) x.game.header.id ≡ Some x.game
  pub ended : outcome_of h x.game ≡ Some x.outcome
  pub in_time : x.outcome.stamp < s.ends
