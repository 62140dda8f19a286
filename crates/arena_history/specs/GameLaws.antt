-- Laws of the games of histories: which are begun, what happens in them, how they end, and which count.
use Rattle.std.specs.Prelude.{◌≡◌, ◌≢◌, ℕ, ◌<◌, ◌≤◌, ◌+◌, ◌==◌, not, if◌then◌else◌, List, [], ◌∷◌, ◌++◌, length, map, filter, count_by, slice_get, Option, Some, None}
use Rattle.std.specs.List.{filter_map, AllByRecursion, AllPairs}
use Rattle.std.specs.Option.{option_map, option_to_list}
use Rattle.entries.specs.declared.action.Action.{Action}
use Rattle.entries.specs.declared.journal.Entry.{Entry}
use Rattle.entries.specs.declared.journal.What.TheVariants as what
use Rattle.entries.specs.declared.setup.Setup.{Setup}
use Rattle.game_room.specs.declared.outcome.Outcome.{Outcome}
use Rattle.game_room.specs.declared.header.Header.{Header}
use Rattle.game_room.specs.Events.{Event, tick_at}
use Rattle.game_room.specs.Games as room
use Rattle.arena_history.specs.History.{History}
use Rattle.arena_history.specs.Games.{Begun, games_from, begun, event_of, events, outcome_of, goes_on, running}
use Rattle.arena_history.specs.Endings.{EndedGame, ended_by, counted_by, finished}
use Rattle.arena_history.specs.Waves.{starts_by, history}
use Rattle.arena_history.specs.Counting.{ends_in_time, IsCounted}

-- g is a game of the history of these entries
abbrev pub IsGameOf : Setup → List Entry → Begun → Type 0
IsGameOf s es g = slice_get (begun s (history s es)) g.header.id ≡ Some g

-- a game's number is its place among the games, of which there are as many as starts
pub record GamesAreNumbered : Type 0 where
  pub numbered : (s : Setup) (h : History) (i : ℕ) (g : Begun) → slice_get (begun s h) i ≡ Some g → g.header.id ≡ i
  pub counted : (s : Setup) (h : History) → length (begun s h) ≡ length h.starts

-- the games that an entry begins behind these
abbrev pub games_begun_by : Setup → List Entry → Entry → List Begun
games_begun_by s es e = games_from s (es ++ e ∷ []) (length (history s es).starts) (starts_by s (history s es) e)

-- with one entry more the games are those that there were, and behind them those that it begins
abbrev pub GamesWithOneMore : Type 0
GamesWithOneMore = (s : Setup) (es : List Entry) (e : Entry)
    → begun s (history s (es ++ e ∷ [])) ≡ begun s (history s es) ++ games_begun_by s es e

-- what an entry is to a game asks neither for its pass nor for other games: an act in another game is nothing to it, and each look
-- is an event
pub record EventsAreItsOwn : Type 0 where
  pub pass : (g : Header) (e : Entry) (q : ℕ) → event_of g (record e { pass = q }) ≡ event_of g e
  pub another : (g : Header) (e : Entry) (p n : ℕ) (a : Action) → e.what ≡ what.Act p n a → n ≢ g.id → event_of g e ≡ None
  pub look : (g : Header) (e : Entry) → e.what ≡ what.Tick → event_of g e ≡ Some (tick_at e.stamp)

-- of a game that was begun, what has happened with one entry more is what had happened, and behind it what the entry is to it
abbrev pub EventsWithOneMore : Type 0
EventsWithOneMore = (s : Setup) (es : List Entry) (e : Entry) (g : Begun)
    → IsGameOf s es g
    → events (history s (es ++ e ∷ [])) g ≡ events (history s es) g ++ filter_map (event_of g.header) (e ∷ [])

-- in a game that an entry begins nothing has happened, and White's first turn begins with the entry
abbrev pub NewGames : Type 0
NewGames = (s : Setup) (es : List Entry) (e : Entry)
    → AllByRecursion (λ (g : Begun). (events (history s (es ++ e ∷ [])) g ≡ []) × (g.header.start ≡ e.stamp)) (games_begun_by s es e)

-- an ended game stays ended as it is, whatever entries follow
abbrev pub EndedGamesStay : Type 0
EndedGamesStay = (s : Setup) (es more : List Entry) (g : Begun) (o : Outcome)
    → IsGameOf s es g
    → outcome_of (history s es) g ≡ Some o
    → (IsGameOf s (es ++ more) g) × (outcome_of (history s (es ++ more)) g ≡ Some o)

-- with one entry more those games run that ran and that it does not end, and those that it begins
abbrev pub RunningWithOneMore : Type 0
RunningWithOneMore = (s : Setup) (es : List Entry) (e : Entry)
    → running s (history s (es ++ e ∷ [])) ≡ filter (goes_on (history s (es ++ e ∷ []))) (running s (history s es)) ++ games_begun_by s es e

-- a game was begun, and has not ended
pub record IsRunningGame (s : Setup) (h : History) (g : Begun) : Type 0 where
  pub begun : slice_get (begun s h) g.header.id ≡ Some g
  pub goes_on : outcome_of h g ≡ None

-- the running games are such games, and rise in number
pub record RunningGamesRun : Type 0 where
  pub run : (s : Setup) (h : History) → AllByRecursion (IsRunningGame s h) (running s h)
  pub rise : (s : Setup) (h : History) → AllPairs (λ (a b : Begun). a.header.id < b.header.id) (running s h)

-- a game that an entry ends: it ran before, it is over with the entry, and its outcome has the entry's stamp
pub record IsEndedBy (s : Setup) (es : List Entry) (e : Entry) (x : EndedGame) : Type 0 where
  pub game : IsGameOf s es x.game
  pub ran : outcome_of (history s es) x.game ≡ None
  pub over : outcome_of (history s (es ++ e ∷ [])) x.game ≡ Some x.outcome
  pub stamp : x.outcome.stamp ≡ e.stamp

-- so it is with every game that an entry ends
abbrev pub EndedGames : Type 0
EndedGames = (s : Setup) (es : List Entry) (e : Entry) → AllByRecursion (IsEndedBy s es e) (ended_by s (history s es) e)

-- the games that an entry ends are those running ones, by number, that do not run on
abbrev pub EndedRunNoLonger : Type 0
EndedRunNoLonger = (s : Setup) (es : List Entry) (e : Entry)
    → map (λ (x : EndedGame). x.game) (ended_by s (history s es) e) ≡ filter (λ g. not (goes_on (history s (es ++ e ∷ [])) g)) (running s (history s es))

-- an entry that is no event of any game ends none, as no enter, no pause, no leave and no wave is
abbrev pub OnlyEventsEndGames : Type 0
OnlyEventsEndGames = (s : Setup) (es : List Entry) (e : Entry)
    → ((g : Begun) → event_of g.header e ≡ None)
    → ended_by s (history s es) e ≡ []

-- a game with its outcome, if it is over once this has happened in it
abbrev pub over_after : Begun → List Event → Option EndedGame
over_after g happened = option_map (λ o. record { game = g; outcome = o }) (room.outcome g.header happened)

-- the games that an entry ends are those that ran, by number, and that are over once what the entry is to them has happened
abbrev pub EndedByEvents : Type 0
EndedByEvents = (s : Setup) (es : List Entry) (e : Entry)
    → ended_by s (history s es) e ≡ filter_map (λ g. over_after g (events (history s es) g ++ filter_map (event_of g.header) (e ∷ []))) (running s (history s es))

-- an act ends at most the game that it names: if that game ran and is over now
pub record EndedByAct : Type 0 where
  pub named : (s : Setup) (es : List Entry) (e : Entry) (p number : ℕ) (a : Action) (g : Begun)
      → e.what ≡ what.Act p number a
      → slice_get (begun s (history s es)) number ≡ Some g
      → ended_by s (history s es) e ≡ option_to_list (if goes_on (history s es) g then over_after g (events (history s (es ++ e ∷ [])) g) else None)
  pub unknown : (s : Setup) (es : List Entry) (e : Entry) (p number : ℕ) (a : Action)
      → e.what ≡ what.Act p number a
      → slice_get (begun s (history s es)) number ≡ None
      → ended_by s (history s es) e ≡ []

-- a look ends exactly the running games that are due at its stamp, by number
abbrev pub EndedByLook : Type 0
EndedByLook = (s : Setup) (es : List Entry) (e : Entry)
    → e.what ≡ what.Tick
    → map (λ (x : EndedGame). x.game) (ended_by s (history s es) e) ≡ filter (λ g. room.due g.header (events (history s es) g) e.stamp) (running s (history s es))

-- with one entry more the counted games are those that counted, and behind them those that the entry ends in time
abbrev pub CountedWithOneMore : Type 0
CountedWithOneMore = (s : Setup) (es : List Entry) (e : Entry)
    → finished s (history s (es ++ e ∷ [])) ≡ finished s (history s es) ++ counted_by s (history s es) e

-- each game that ended before the arena's end stands among the counted ones once, and no other game does
abbrev pub CountedOnce : Type 0
CountedOnce = (s : Setup) (es : List Entry) (g : Begun)
    → IsGameOf s es g
    → count_by (λ (x : EndedGame). x.game.header.id == g.header.id) (finished s (history s es)) ≡ (if ends_in_time s (outcome_of (history s es) g) then 1 else 0)

-- what stands among the counted games is a game that was begun, with the outcome that it had before the arena's end
abbrev pub CountedEnded : Type 0
CountedEnded = (s : Setup) (es : List Entry) → AllByRecursion (IsCounted s (history s es)) (finished s (history s es))

-- a counted game stays where it is with its outcome, whatever entries follow
abbrev pub CountedStay : Type 0
CountedStay = (s : Setup) (es more : List Entry)
    → (rest : List EndedGame) × (finished s (history s (es ++ more)) ≡ finished s (history s es) ++ rest)

-- the counted games and the running ones are together no more than the games that were begun
abbrev pub CountedAndRunning : Type 0
CountedAndRunning = (s : Setup) (es : List Entry)
    → length (finished s (history s es)) + length (running s (history s es)) ≤ length (history s es).starts
