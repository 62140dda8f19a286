-- What each player wishes: what he last asked for, or to pause, where he did not appear for a game.
use Rattle.std.specs.Prelude.{ℕ, ◌==◌, ◌&&◌, Bool, true, false, if◌then◌else◌, Option, Some, None}
use Rattle.std.specs.List.{list_any}
use Rattle.std.specs.Option.{option_map_or}
use Rattle.board.specs.declared.piece.Colour.{Colour}
use Rattle.board.specs.Piece.{other}
use Rattle.entries.specs.declared.journal.Entry.{Entry}
use Rattle.entries.specs.declared.journal.What.{What}
use Rattle.entries.specs.declared.journal.What.TheVariants.{Enter, Pause, Leave, Act, Tick, Wave}
use Rattle.entries.specs.declared.setup.Setup.{Setup}
use Rattle.game_room.specs.declared.outcome.Cause.{Cause}
use Rattle.game_room.specs.declared.outcome.Cause.TheVariants as cause
use Rattle.seats.specs.declared.wish.Wish.{Wish}
use Rattle.seats.specs.declared.wish.Wish.TheVariants as wishes
use Rattle.seats.specs.Places.{wish_set, wish_freed}
use Rattle.arena_history.specs.History.{History, along}
use Rattle.arena_history.specs.Games.{player_on}
use Rattle.arena_history.specs.Endings.{EndedGame, ended_by}

-- a game ended since a player did not make his first move in time
abbrev pub is_no_show : Cause → Bool
is_no_show cause.NoShow = true
is_no_show _ = false

-- p lost an ended game
abbrev pub has_lost : ℕ → EndedGame → Bool
has_lost p x = option_map_or (λ (winner : Colour). player_on (other winner) x.game.header == p) x.outcome.winner false

-- p did not appear for an ended game: that is why he lost it
abbrev pub did_not_appear : ℕ → EndedGame → Bool
did_not_appear p x = is_no_show x.outcome.cause && has_lost p x

-- an entry ends a game for which p did not appear
unfoldable pub no_show : Setup → History → Entry → ℕ → Bool
no_show s h e p = list_any (did_not_appear p) (ended_by s h e)

-- p's wish after an entry of this kind: his own enter, pause or leave sets it, unless he left
abbrev pub wish_in : ℕ → What → Wish → Wish
wish_in p (Enter q) old = if q == p then wish_set wishes.In old else old
wish_in p (Pause q) old = if q == p then wish_set wishes.Paused old else old
wish_in p (Leave q) old = if q == p then wish_set wishes.Left old else old
wish_in p (Act q number a) old = old
wish_in p Tick old = old
wish_in p (Wave n) old = old

-- p's wish after one entry more: a no-show pauses him, unless he left
abbrev pub wish_step : Setup → ℕ → History → Entry → Wish → Wish
wish_step s p h e old = wish_freed (no_show s h e p) (wish_in p e.what old)

-- p's wish: what he last asked for, or to pause since he did not appear for a game; a leave stays; nothing before the first entry
unfoldable pub wish : Setup → History → ℕ → Wish
wish s h p = along (wish_step s p) wishes.Absent h

-- an entry of this kind is an enter of p
abbrev pub is_enter_of : ℕ → What → Bool
is_enter_of p (Enter q) = q == p
is_enter_of p (Pause q) = false
is_enter_of p (Leave q) = false
is_enter_of p (Act q number a) = false
is_enter_of p Tick = false
is_enter_of p (Wave n) = false

-- an entry of this kind is a leave of p
abbrev pub is_leave_of : ℕ → What → Bool
is_leave_of p (Enter q) = false
is_leave_of p (Pause q) = false
is_leave_of p (Leave q) = q == p
is_leave_of p (Act q number a) = false
is_leave_of p Tick = false
is_leave_of p (Wave n) = false

-- p has an enter entry
abbrev pub has_entered : History → ℕ → Bool
has_entered h p = list_any (λ (e : Entry). is_enter_of p e.what) h.entries

-- p has a leave entry
abbrev pub has_left : History → ℕ → Bool
has_left h p = list_any (λ (e : Entry). is_leave_of p e.what) h.entries

-- what an entry of this kind asks for in p's name: his own enter or pause
abbrev pub asked_in : ℕ → What → Option Wish
asked_in p (Enter q) = if q == p then Some wishes.In else None
asked_in p (Pause q) = if q == p then Some wishes.Paused else None
asked_in p (Leave q) = None
asked_in p (Act q number a) = None
asked_in p Tick = None
asked_in p (Wave n) = None

-- what an entry shows of p's wish: to pause where it ends a game for which he did not appear, and else what it asks for
abbrev pub asked_by : Setup → ℕ → History → Entry → Option Wish
asked_by s p h e = if no_show s h e p then Some wishes.Paused else asked_in p e.what
