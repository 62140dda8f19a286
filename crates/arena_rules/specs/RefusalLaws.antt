-- Laws of refusals: exactly which commands are refused for the player's wish, by the game, and since nothing is due.
use Rattle.std.specs.Prelude.{◌≡◌, ◌≢◌, ℕ, ◌<◌, ◌↔◌, ◌⊎◌, false, [], List, Some, None, Err, All}
use Rattle.board.specs.declared.piece.Colour.{Colour}
use Rattle.entries.specs.declared.action.Action.{Action}
use Rattle.entries.specs.declared.journal.Entry.{Entry}
use Rattle.entries.specs.declared.journal.What.TheVariants as what
use Rattle.entries.specs.declared.setup.Setup.{Setup}
use Rattle.game_room.specs.declared.refusal.ActRefusal.{ActRefusal}
use Rattle.game_room.specs.Games as room
use Rattle.seats.specs.declared.wish.Wish.TheVariants as wishes
use Rattle.arena_history.specs.Endings.{ended_by}
use Rattle.arena_history.specs.Games.{Begun, side_of, events, running}
use Rattle.arena_history.specs.History.{History}
use Rattle.arena_history.specs.Waves.{history}
use Rattle.arena_history.specs.Wishes.{wish}
use Rattle.arena_rules.specs.declared.command.Command.{Command}
use Rattle.arena_rules.specs.declared.command.Command.TheVariants.{Enter, Pause, Leave, Act, Tick}
use Rattle.arena_rules.specs.declared.refusal.Refusal.{Refusal}
use Rattle.arena_rules.specs.declared.refusal.Refusal.TheVariants as refusal
use Rattle.arena_rules.specs.Verdicts.{game_at, game_due, command_refusal, verdict}

-- a command is refused for any other cause than Full exactly where that is its own refusal
abbrev pub OwnRefusalsComeFirst : Type 0
OwnRefusalsComeFirst = (s : Setup) (h : History) (t : ℕ) (c : Command) (r : Refusal)
    → r ≢ refusal.Full
    → (verdict s h t c ≡ Some r) ↔ (command_refusal s h t c ≡ Some r)

-- as NotEntered exactly before the arena's end the pause and the leave of a player who never entered
abbrev pub NotEnteredMeans : Type 0
NotEnteredMeans = (s : Setup) (h : History) (t : ℕ) (c : Command)
    → (command_refusal s h t c ≡ Some refusal.NotEntered)
    ↔ ((t < s.ends) × (p : ℕ) × (wish s h p ≡ wishes.Absent) × ((c ≡ Pause p) ⊎ (c ≡ Leave p)))

-- as AlreadyIn exactly before the end the enter of a player who is in
abbrev pub AlreadyInMeans : Type 0
AlreadyInMeans = (s : Setup) (h : History) (t : ℕ) (c : Command)
    → (command_refusal s h t c ≡ Some refusal.AlreadyIn) ↔ ((t < s.ends) × (p : ℕ) × (wish s h p ≡ wishes.In) × (c ≡ Enter p))

-- as AlreadyPaused exactly before the end the pause of a player who pauses
abbrev pub AlreadyPausedMeans : Type 0
AlreadyPausedMeans = (s : Setup) (h : History) (t : ℕ) (c : Command)
    → (command_refusal s h t c ≡ Some refusal.AlreadyPaused) ↔ ((t < s.ends) × (p : ℕ) × (wish s h p ≡ wishes.Paused) × (c ≡ Pause p))

-- as Left exactly before the end whatever a player asks who left
abbrev pub LeftMeans : Type 0
LeftMeans = (s : Setup) (h : History) (t : ℕ) (c : Command)
    → (command_refusal s h t c ≡ Some refusal.Left)
    ↔ ((t < s.ends) × (p : ℕ) × (wish s h p ≡ wishes.Left) × ((c ≡ Enter p) ⊎ (c ≡ Pause p) ⊎ (c ≡ Leave p)))

-- a command is an act of a player in his game, and this is why the game refuses it
pub record IsRefusedByGame (s : Setup) (h : History) (t : ℕ) (c : Command) (r : ActRefusal) : Type 0 where
  pub player : ℕ
  pub number : ℕ
  pub action : Action
  pub game : Begun
  pub side : Colour
  pub acts : c ≡ Act player number action
  pub begun : game_at s h number ≡ Some game
  pub plays : side_of game.header player ≡ Some side
  pub refuses : room.allowed game.header (events h game) side action t ≡ Err r

-- for a game's cause exactly the acts that the game refuses for it
abbrev pub ActMeans : Type 0
ActMeans = (s : Setup) (h : History) (t : ℕ) (c : Command) (r : ActRefusal)
    → (command_refusal s h t c ≡ Some (refusal.Act r)) ↔ IsRefusedByGame s h t c r

-- as NothingDue exactly a look at which no running game is due
abbrev pub NothingDueMeans : Type 0
NothingDueMeans = (s : Setup) (h : History) (t : ℕ) (c : Command)
    → (command_refusal s h t c ≡ Some refusal.NothingDue) ↔ ((c ≡ Tick) × All (λ (g : Begun). game_due h t g ≡ false) (running s h))

-- a look is not refused for itself exactly where it ends a game
abbrev pub LooksEndGames : Type 0
LooksEndGames = (s : Setup) (es : List Entry) (e : Entry)
    → e.what ≡ what.Tick
    → (command_refusal s (history s es) e.stamp Tick ≡ None) ↔ (ended_by s (history s es) e ≢ [])
