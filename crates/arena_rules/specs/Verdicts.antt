-- Which command is refused at a history and a stamp, and why.
use Rattle.std.specs.Prelude.{ℕ, nat_le, Bool, if◌then◌else◌, List, length, slice_get, Option, Some, None, Result, Ok, Err}
use Rattle.std.specs.List.{list_any}
use Rattle.board.specs.declared.piece.Colour.{Colour}
use Rattle.entries.specs.declared.action.Action.{Action}
use Rattle.entries.specs.declared.journal.Entry.{Entry}
use Rattle.entries.specs.declared.setup.Setup.{Setup}
use Rattle.entries.specs.Limits.{max_entries}
use Rattle.game_room.specs.declared.refusal.ActRefusal.{ActRefusal}
use Rattle.game_room.specs.Games as room
use Rattle.seats.specs.declared.wish.Wish.{Wish}
use Rattle.seats.specs.declared.wish.Wish.TheVariants.{Absent, In, Paused, Left}
use Rattle.arena_history.specs.History.{History}
use Rattle.arena_history.specs.Games.{Begun, begun, side_of, events, running}
use Rattle.arena_history.specs.Wishes.{wish}
use Rattle.arena_rules.specs.declared.command.Command.{Command}
use Rattle.arena_rules.specs.declared.command.Command.TheVariants.{Enter, Pause, Leave, Act, Tick}
use Rattle.arena_rules.specs.declared.refusal.Refusal.{Refusal}
use Rattle.arena_rules.specs.declared.refusal.Refusal.TheVariants as refusal

-- closed at the arena's end and past it, and otherwise what follows
abbrev pub closed_or : Setup → ℕ → Option Refusal → Option Refusal
closed_or s t next = if nat_le s.ends t then Some refusal.Closed else next

-- who is in does not enter again, and who left does not come back
abbrev pub enter_refusal : Wish → Option Refusal
enter_refusal Absent = None
enter_refusal In = Some refusal.AlreadyIn
enter_refusal Paused = None
enter_refusal Left = Some refusal.Left

-- who never entered does not pause, who pauses does not pause again, and who left does not pause
abbrev pub pause_refusal : Wish → Option Refusal
pause_refusal Absent = Some refusal.NotEntered
pause_refusal In = None
pause_refusal Paused = Some refusal.AlreadyPaused
pause_refusal Left = Some refusal.Left

-- who never entered does not leave, and nobody leaves twice
abbrev pub leave_refusal : Wish → Option Refusal
leave_refusal Absent = Some refusal.NotEntered
leave_refusal In = None
leave_refusal Paused = None
leave_refusal Left = Some refusal.Left

-- the refusal of a game, if it refuses
abbrev pub refused_by : Result (Unit {0}) ActRefusal → Option Refusal
refused_by (Ok x) = None
refused_by (Err r) = Some (refusal.Act r)

-- who does not play a game does not act in it, and a side's action is refused where the game refuses it
abbrev pub side_refusal : History → Begun → Option Colour → Action → ℕ → Option Refusal
side_refusal h g None a t = Some refusal.NotYours
side_refusal h g (Some side) a t = refused_by (room.allowed g.header (events h g) side a t)

-- nobody acts in a game that was not begun
abbrev pub act_refusal : History → ℕ → Option Begun → Action → ℕ → Option Refusal
act_refusal h p None a t = Some refusal.NoGame
act_refusal h p (Some g) a t = side_refusal h g (side_of g.header p) a t

-- the game with this number, if so many were begun
unfoldable pub game_at : Setup → History → ℕ → Option Begun
game_at s h number = slice_get (begun s h) number

-- a game is due at a stamp
abbrev pub game_due : History → ℕ → Begun → Bool
game_due h t g = room.due g.header (events h g) t

-- some running game is due at a stamp
unfoldable pub some_due : Setup → History → ℕ → Bool
some_due s h t = list_any (game_due h t) (running s h)

-- the first of a command's own refusals at a history and a stamp
abbrev pub command_refusal : Setup → History → ℕ → Command → Option Refusal
command_refusal s h t (Enter p) = closed_or s t (enter_refusal (wish s h p))
command_refusal s h t (Pause p) = closed_or s t (pause_refusal (wish s h p))
command_refusal s h t (Leave p) = closed_or s t (leave_refusal (wish s h p))
command_refusal s h t (Act p number a) = act_refusal h p (game_at s h number) a t
command_refusal s h t Tick = if some_due s h t then None else Some refusal.NothingDue

-- where nothing else refuses, a list of 8,000,000 entries is full
abbrev pub or_full : List Entry → Option Refusal → Option Refusal
or_full es None = if nat_le max_entries (length es) then Some refusal.Full else None
or_full es (Some r) = Some r

-- none, or the first refusal of a command at a history and a stamp, want of memory aside
unfoldable pub verdict : Setup → History → ℕ → Command → Option Refusal
verdict s h t c = or_full h.entries (command_refusal s h t c)
