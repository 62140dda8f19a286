-- Laws of how many there are at most, and between which numbers values lie.
use Rattle.std.specs.Prelude.{◌≡◌, ℕ, ◌<◌, ◌≤◌, pos, ◌+ℤ◌, ◌≤ℤ◌, List, length, slice_get, Some}
use Rattle.std.specs.List.{All, AllByRecursion, AllPairs}
use Rattle.entries.specs.declared.journal.Entry.{Entry}
use Rattle.entries.specs.declared.journal.Start.{Start}
use Rattle.entries.specs.declared.setup.Setup.{Setup}
use Rattle.entries.specs.Limits.{max_games}
use Rattle.entries.specs.Ranges.{IsGood}
use Rattle.game_room.specs.Events.{Event}
use Rattle.team_battle.specs.Teams.{IsRowOf}
use Rattle.wave.specs.Rankings.{IsRanking}
use Rattle.arena_history.specs.History.{History}
use Rattle.arena_history.specs.Endings.{finished}
use Rattle.arena_history.specs.Games.{Begun, events}
use Rattle.arena_history.specs.GameLaws.{IsGameOf}
use Rattle.arena_history.specs.Results.{results}
use Rattle.arena_history.specs.Snapshots.{balance, alone, candidates}
use Rattle.arena_history.specs.Table.{entered, standings}
use Rattle.arena_history.specs.Waves.{started, history}

-- those who entered are players of the setup
abbrev pub EnteredArePlayers : Setup → History → Type 0
EnteredArePlayers s h = AllByRecursion (λ p. p < length s.players) (entered h)

-- in a game less has happened than entries came, and nothing later than the latest of them
abbrev pub EventsAreEntries : Type 0
EventsAreEntries = (s : Setup) (es : List Entry) (g : Begun) (t : ℕ)
    → IsGameOf s es g
    → ((n : ℕ) (e : Entry) → slice_get es n ≡ Some e → e.stamp ≤ t)
    → (length (events (history s es) g) < length es) × (g.header.start ≤ t) × All (λ (x : Event). x.stamp ≤ t) (events (history s es) g)

-- a player has no more counted games than there are
abbrev pub ResultsAreCounted : Type 0
ResultsAreCounted = (s : Setup) (h : History) (p : ℕ) → length (results s h p) ≤ length (finished s h)

-- where players of the setup entered, the table has no more rows than the setup has players
abbrev pub RowsAreFew : Type 0
RowsAreFew = (s : Setup) (h : History) → EnteredArePlayers s h → length (standings s h) ≤ length s.players

-- where players of a good setup entered and no more games were begun than an arena begins, each row is that of a player of the
-- setup, with points and performance in their ranges
abbrev pub RowsAreInRange : Type 0
RowsAreInRange = (s : Setup) (es : List Entry)
    → IsGood s
    → EnteredArePlayers s (history s es)
    → length (history s es).starts ≤ max_games
    → All (IsRowOf (length s.players)) (standings s (history s es))

-- where players of a good setup entered, the candidates of a snapshot are a ranking: no more than there are players, in rank
-- order, each with a rank and a rating in range
abbrev pub CandidatesAreRanking : Type 0
CandidatesAreRanking = (s : Setup) (h : History) → IsGood s → EnteredArePlayers s h → IsRanking (candidates s h)

-- where players of a good setup entered, no wave begins more than 500 games
abbrev pub WavesAreSmall : Type 0
WavesAreSmall = (s : Setup) (es : List Entry) (n : ℕ)
    → IsGood s
    → EnteredArePlayers s (history s es)
    → length (started s (history s es) n) ≤ 500

-- where those who entered are players of the setup, so are the players of each game
abbrev pub PlayersOfGames : Type 0
PlayersOfGames = (s : Setup) (es : List Entry)
    → EnteredArePlayers s (history s es)
    → AllByRecursion (λ (x : Start). (x.white < length s.players) × (x.black < length s.players)) (history s es).starts

-- the games stand in the order of the entries that began them
abbrev pub StartsStandInOrder : Type 0
StartsStandInOrder = (s : Setup) (es : List Entry) → AllPairs (λ (a b : Start). a.entry ≤ b.entry) (history s es).starts

-- there are no more waves than entries
abbrev pub WavesAreFew : Type 0
WavesAreFew = (s : Setup) (es : List Entry) → length (history s es).lefts ≤ length es

-- no player was left alone by more waves than there were
abbrev pub AloneAreFew : Type 0
AloneAreFew = (h : History) (p : ℕ) → alone h p ≤ length h.lefts

-- a player's balance is no farther from 0 than so many games make it
abbrev pub BalancesAreSmall : Type 0
BalancesAreSmall = (h : History) (p : ℕ) → (pos 0 ≤ℤ (balance h p +ℤ pos (length h.starts))) × (balance h p ≤ℤ pos (length h.starts))
