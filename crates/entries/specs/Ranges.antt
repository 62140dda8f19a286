-- The ranges of what stands in a setup and in a journal.
use Rattle.std.specs.Prelude.{◌≡◌, ◌≢◌, ℕ, ◌<◌, ◌≤◌, ◌%◌, ◌==◌, ◌⊎◌, List, [], length, map, filter, slice_get, Option, Some, None}
use Rattle.std.specs.List.{All, AllPairs}
use Rattle.entries.specs.declared.setup.Control.{Control}
use Rattle.entries.specs.declared.setup.Player.{Player}
use Rattle.entries.specs.declared.setup.Setup.{Setup}
use Rattle.entries.specs.declared.journal.What.{What}
use Rattle.entries.specs.declared.journal.What.TheVariants.{Enter, Pause, Leave, Act, Tick, Wave}
use Rattle.entries.specs.declared.journal.Entry.{Entry}
use Rattle.entries.specs.declared.journal.Start.{Start}
use Rattle.entries.specs.declared.journal.Journal.{Journal}
use Rattle.board.specs.Moves.{IsMove}
use Rattle.entries.specs.declared.action.Action.{Action}
use Rattle.entries.specs.declared.action.Action.TheVariants.{Move}
use Rattle.entries.specs.Names.{IsName, AreDistinct}
use Rattle.entries.specs.Limits.{max_stamp, max_entries, max_games, max_players, max_teams, max_end}

-- initial time and increment are whole seconds in their ranges and not both 0, and the first move has its range
pub record IsControl (c : Control) : Type 0 where
  pub initial_whole : c.initial_ms % 1000 ≡ 0
  pub initial_most : c.initial_ms ≤ 10800000
  pub increment_whole : c.inc_ms % 1000 ≡ 0
  pub increment_most : c.inc_ms ≤ 180000
  pub some_time : c.initial_ms ≡ 0 → c.inc_ms ≢ 0
  pub first_least : 1000 ≤ c.first_ms
  pub first_most : c.first_ms ≤ 300000

-- none, or the place of one of so many teams
abbrev pub IsTeamOf : ℕ → Option ℕ → Type 0
IsTeamOf teams None = Unit {0}
IsTeamOf teams (Some team) = team < teams

-- a player of a setup with so many teams
pub record IsPlayer (teams : ℕ) (p : Player) : Type 0 where
  pub named : IsName p.name
  pub rating_least : 400 ≤ p.rating
  pub rating_most : p.rating ≤ 4000
  pub in_team : IsTeamOf teams p.team

-- a good setup: each value in its range, the names of players differ, and so do the names of teams
pub record IsGood (s : Setup) : Type 0 where
  pub timed : IsControl s.control
  pub opens_before_end : s.starts < s.ends
  pub ends_most : s.ends ≤ max_end
  pub wave_least : 100 ≤ s.wave_ms
  pub wave_most : s.wave_ms ≤ 600000
  pub leaders_least : 1 ≤ s.leaders
  pub leaders_most : s.leaders ≤ 20
  pub rule_least : 1 ≤ s.rule
  pub rule_most : s.rule ≤ 2
  pub teams_most : length s.teams ≤ max_teams
  pub teams_named : All IsName s.teams
  pub teams_distinct : AreDistinct s.teams
  pub players_least : 1 ≤ length s.players
  pub players_most : length s.players ≤ max_players
  pub players_good : All (IsPlayer (length s.teams)) s.players
  pub players_distinct : AreDistinct (map (λ (p : Player). p.name) s.players)

-- a move that is made can be named, and every other action can
abbrev pub IsAction : Action → Type 0
IsAction (Move m) = IsMove m
IsAction _ = Unit {0}

-- what an entry did is in range for so many players
abbrev pub IsWhatOf : ℕ → What → Type 0
IsWhatOf players (Enter p) = p < players
IsWhatOf players (Pause p) = p < players
IsWhatOf players (Leave p) = p < players
IsWhatOf players (Act p game a) = (p < players) × (game < max_games) × IsAction a
IsWhatOf players Tick = Unit {0}
IsWhatOf players (Wave n) = n ≤ max_entries

-- an entry in range, for so many players
pub record IsEntryOf (players : ℕ) (e : Entry) : Type 0 where
  pub stamp_most : e.stamp ≤ max_stamp
  pub pass_most : e.pass ≤ 255
  pub what : IsWhatOf players e.what

-- how many games an entry may list: a wave 1 to 500, and any other entry none
abbrev pub MayList : What → ℕ → Type 0
MayList (Enter p) count = count ≡ 0
MayList (Pause p) count = count ≡ 0
MayList (Leave p) count = count ≡ 0
MayList (Act p game a) count = count ≡ 0
MayList Tick count = count ≡ 0
MayList (Wave n) count = (1 ≤ count) × (count ≤ 500)

-- the games that entry number n lists
abbrev pub listed_at : ℕ → List Start → List Start
listed_at n starts = filter (λ (g : Start). g.entry == n) starts

-- the games that the entries list, one entry after another: those of the waves, each between two of so many players
pub record AreStartsOf (players : ℕ) (entries : List Entry) (starts : List Start) : Type 0 where
  pub in_order : AllPairs (λ (a b : Start). a.entry ≤ b.entry) starts
  pub of_entries : All (λ (g : Start). g.entry < length entries) starts
  pub of_players : All (λ (g : Start). (g.white < players) × (g.black < players)) starts
  pub of_waves : (n : ℕ) (e : Entry) → slice_get entries n ≡ Some e → MayList e.what (length (listed_at n starts))

-- version 1 is under the first pairing rule and lists no games
pub record IsOfVersionOne (j : Journal) : Type 0 where
  pub version : j.version ≡ 1
  pub rule : j.setup.rule ≡ 1
  pub starts : j.starts ≡ []

-- version 2 lists the games of each wave
pub record IsOfVersionTwo (j : Journal) : Type 0 where
  pub version : j.version ≡ 2
  pub starts : AreStartsOf (length j.setup.players) j.entries j.starts

-- a good setup, at most 8,000,000 entries in range, and what its version asks: what a journal's text can say
pub record IsWritable (j : Journal) : Type 0 where
  pub setup : IsGood j.setup
  pub entries_most : length j.entries ≤ max_entries
  pub entries : All (IsEntryOf (length j.setup.players)) j.entries
  pub version : IsOfVersionOne j ⊎ IsOfVersionTwo j
