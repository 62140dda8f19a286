-- What is shown of an arena, of a player and of a game.
use Rattle.std.specs.Prelude.{ℕ, nat_lt, nat_le, false, if◌then◌else◌, pos, length, Option, Some, None}
use Rattle.entries.specs.declared.setup.Setup.{Setup}
use Rattle.game_room.specs.declared.view.GameView.{GameView}
use Rattle.game_room.specs.Games as room
use Rattle.ranking.specs.Rows.{rank_of}
use Rattle.arena_history.specs.History.{History}
use Rattle.arena_history.specs.Games.{Begun, begun, events, running}
use Rattle.arena_history.specs.Results.{results, points_of, performance_of, fire_of}
use Rattle.arena_history.specs.Stands.{seat}
use Rattle.arena_history.specs.Table.{lines}
use Rattle.arena_rules.specs.declared.view.Phase.{Phase}
use Rattle.arena_rules.specs.declared.view.Phase.TheVariants.{Before, Running, Over}
use Rattle.arena_rules.specs.declared.view.ArenaView.{ArenaView}
use Rattle.arena_rules.specs.declared.view.MeView.{MeView}

-- before the first moment for games, from the end on, or between the two
abbrev pub phase : Setup → ℕ → Phase
phase s t = if nat_lt t s.starts then Before else if nat_le s.ends t then Over else Running

-- an arena at a stamp
unfoldable pub arena_view : Setup → History → ℕ → ArenaView
arena_view s h t = record { stamp = t; phase = phase s t; entered = length (lines s h); begun = length (begun s h); running = length (running s h) }

-- a player at the rank that he has, if any: without one he has no points, performance 0 and no fire
abbrev pub me_at : Setup → History → ℕ → Option ℕ → MeView
me_at s h p None = record { player = p; seat = seat s h p; rank = None; points = 0; performance = pos 0; fire = false }
me_at s h p (Some rank) =
    let rs = results s h p in
    record { player = p; seat = seat s h p; rank = Some rank; points = points_of rs; performance = performance_of rs; fire = fire_of rs }

-- a player
unfoldable pub me_view : Setup → History → ℕ → MeView
me_view s h p = me_at s h p (rank_of (lines s h) p)

-- a game at a stamp, of which its header and its events tell all
unfoldable pub game_shown : History → Begun → ℕ → GameView
game_shown h g t = room.game_view g.header (events h g) t
