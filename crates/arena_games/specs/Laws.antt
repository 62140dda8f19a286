-- Laws of what is kept of a game.
use Rattle.std.specs.Prelude.{ℕ, ◌≡◌, ◌≤◌, ◌<◌, false, List, length, None, Some, Ok, Err, if◌then◌else◌}
use Rattle.std.specs.List.{All}
use Rattle.board.specs.declared.piece.Colour.{Colour}
use Rattle.entries.specs.declared.action.Action.{Action}
use Rattle.game_room.specs.declared.outcome.Outcome.{Outcome}
use Rattle.game_room.specs.declared.refusal.ActRefusal.TheVariants as refused
use Rattle.game_room.specs.Events.{Event}
use Rattle.game_room.specs.Games.{allowed, game_view, ticked}
use Rattle.game_room.specs.Held as room
use Rattle.arena_games.specs.declared.ended.EndedGame.{EndedGame}
use Rattle.arena_games.specs.declared.kept.Kept.{Kept}
use Rattle.arena_games.specs.Courses.{Course, IsPast, goes_on, is_due, looked, looked_below, outcome_of, with_event}
use Rattle.arena_games.specs.Keeps.{EndedFor, KeptFor, is_kept_due, record_of, shown}

-- the record of a game that ended stays its record, whatever happens later
abbrev pub RecordsStay : Type 0
RecordsStay = (e : EndedGame) (c : Course) (event : Event) → EndedFor e c → EndedFor e (with_event event c)

-- a record shows what can be seen of its game, whenever one looks
abbrev pub RecordsShow : Type 0
RecordsShow = (e : EndedGame) (c : Course) (t : ℕ) → EndedFor e c → game_view c.header c.events t ≡ shown c.header e

-- what can be seen of a game that has ended gives its record
abbrev pub RecordsAreMade : Type 0
RecordsAreMade = (c : Course) (o : Outcome) (t : ℕ) → outcome_of c ≡ Some o → EndedFor (record_of (game_view c.header c.events t) o) c

-- in a game of which a record is kept any action is refused
abbrev pub RecordsRefuse : Type 0
RecordsRefuse = (e : EndedGame) (c : Course) (side : Colour) (a : Action) (t : ℕ) → EndedFor e c → allowed c.header c.events side a t ≡ Err refused.Over

-- what is kept of a game that is not due at t stands for it with a look at t too
abbrev pub IdleLooks : Type 0
IdleLooks = (k : Kept) (c : Course) (t : ℕ) → KeptFor k c → is_due t c ≡ false → KeptFor k (looked t c)

-- what is kept of a game tells whether it is due
abbrev pub DueIsKept : Type 0
DueIsKept = (k : Kept) (c : Course) (t : ℕ) → KeptFor k c → is_kept_due t k ≡ is_due t c

-- in the room of a game in which nothing is later than t, the turn began no later, and fewer moves were made than there are events
pub record RoomsAreInTime : Type 0 where
  pub in_turn : (k : room.Held) (c : Course) (t : ℕ) → room.StandsFor k c.header c.events → IsPast t c → k.clocks.since ≤ t
  pub few : (k : room.Held) (c : Course) (n : ℕ) → room.StandsFor k c.header c.events → length c.events < n → k.clocks.moves < n

-- a look ends exactly the games that go on and that are over with it
abbrev pub LooksEnd : Type 0
LooksEnd = (t : ℕ) (c : Course) → ticked c.header c.events t ≡ (if goes_on c then outcome_of (looked t c) else None)

-- an outcome stays, whatever happens later
abbrev pub OutcomesStay : Type 0
OutcomesStay = (c : Course) (event : Event) (o : Outcome) → outcome_of c ≡ Some o → outcome_of (with_event event c) ≡ Some o

-- where nothing in the games is later than t, no look at t is
abbrev pub LooksArePast : Type 0
LooksArePast = (n t : ℕ) (games : List Course) → All (IsPast t) games → All (IsPast t) (looked_below n t games)

-- an action that is allowed is one in a game that goes on, so that an outcome which stands after it is that with which it ends
abbrev pub ActsGoOn : Type 0
ActsGoOn = (c : Course) (side : Colour) (a : Action) (t : ℕ) → allowed c.header c.events side a t ≡ Ok tt → outcome_of c ≡ None
