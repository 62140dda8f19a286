-- Laws of legal lists: which they are, how long, with which stamps, and what keeps them legal.
use Rattle.std.specs.Prelude.{◌≡◌, ◌≢◌, ℕ, ◌+◌, ◌≤◌, ◌↔◌, true, Bool, List, [], ◌∷◌, ◌++◌, take, length, None, Result}
use Rattle.std.specs.List.{All}
use Rattle.std.specs.List.Sorted.{IsNonDecreasingBy}
use Rattle.std.specs.Option.{IsSome}
use Rattle.entries.specs.declared.journal.Entry.{Entry}
use Rattle.entries.specs.declared.setup.Setup.{Setup}
use Rattle.entries.specs.Limits.{max_stamp, max_entries, max_games}
use Rattle.entries.specs.Ranges.{IsWhatOf, IsEntryOf}
use Rattle.arena_history.specs.History.{History}
use Rattle.arena_history.specs.Endings.{ended_by, finished}
use Rattle.arena_history.specs.Games.{begun, running}
use Rattle.arena_history.specs.Stamps.{last_stamp, stamp_of}
use Rattle.arena_history.specs.Waves.{started, history}
use Rattle.arena_rules.specs.declared.command.Command.{Command}
use Rattle.arena_rules.specs.declared.commit_fault.CommitFault.{CommitFault}
use Rattle.arena_rules.specs.Answers.{reply_to}
use Rattle.arena_rules.specs.Commands.{IsCommandOf, CanBeNamed, entry_of}
use Rattle.arena_rules.specs.Commits.{commit_refusal, wave_entry, Commits}
use Rattle.arena_rules.specs.Legal.{AllowsWave, Allowed, IsLegal}
use Rattle.arena_rules.specs.Verdicts.{verdict}

-- no entries are legal
abbrev pub NothingIsLegal : Type 0
NothingIsLegal = (s : Setup) → IsLegal s []

-- entries with one more are legal exactly where they are and the one more is allowed behind them
abbrev pub OneMoreIsLegal : Type 0
OneMoreIsLegal = (s : Setup) (es : List Entry) (e : Entry)
    → IsLegal s (es ++ e ∷ []) ↔ (IsLegal s es × Allowed s (history s es) e)

-- a beginning of a legal list is legal
abbrev pub BeginningsAreLegal : Type 0
BeginningsAreLegal = (s : Setup) (es : List Entry) (n : ℕ) → IsLegal s es → IsLegal s (take n es)

-- what holds of no entries, and with each allowed entry more of which it held without, holds of each legal list
abbrev pub EachIsReached : Type 0
EachIsReached = (s : Setup) (holds : List Entry → Bool)
    → holds [] ≡ true
    → ((es : List Entry) (e : Entry) → IsLegal s es → Allowed s (history s es) e → holds es ≡ true → holds (es ++ e ∷ []) ≡ true)
    → (es : List Entry)
    → IsLegal s es
    → holds es ≡ true

-- in a legal list stamps do not fall
abbrev pub StampsDoNotFall : Type 0
StampsDoNotFall = (s : Setup) (es : List Entry)
    → IsLegal s es
    → IsNonDecreasingBy (λ (e : Entry). e.stamp) es

-- each stamp of a legal list is at most 1,000,000,000, and so is its last one, which is 0 without entries
abbrev pub StampsHaveTheirBound : Type 0
StampsHaveTheirBound = (s : Setup) (es : List Entry)
    → IsLegal s es
    → All (λ (e : Entry). e.stamp ≤ max_stamp) es × (last_stamp es ≤ max_stamp)

-- a legal list has at most 8,000,000 entries
abbrev pub LegalLength : Type 0
LegalLength = (s : Setup) (es : List Entry) → IsLegal s es → length es ≤ max_entries

-- and it begins at most 200,000 games
abbrev pub LegalGames : Type 0
LegalGames = (s : Setup) (es : List Entry) → IsLegal s es → length (begun s (history s es)) ≤ max_games

-- of these the running games and the counted ones are together no more, and an entry ends no more games than run
abbrev pub GamesAreFew : Type 0
GamesAreFew = (s : Setup) (es : List Entry) (e : Entry)
    → IsLegal s es
    → (length (running s (history s es)) + length (finished s (history s es)) ≤ max_games)
    × (length (ended_by s (history s es) e) ≤ length (running s (history s es)))

-- what each entry of a legal list did is in range
abbrev pub LegalRanges : Type 0
LegalRanges = (s : Setup) (es : List Entry) → IsLegal s es → All (λ (e : Entry). IsWhatOf (length s.players) e.what) es

-- so each entry is in range, if its pass is
abbrev pub EntriesMayBeWritten : Type 0
EntriesMayBeWritten = (s : Setup) (es : List Entry)
    → IsLegal s es
    → All (λ (e : Entry). e.pass ≤ 255 → IsEntryOf (length s.players) e) es

-- a stamp that may stand behind a list of entries is its own
abbrev pub StampsStay : Type 0
StampsStay = (es : List Entry) (t : ℕ) → last_stamp es ≤ t → t ≤ max_stamp → stamp_of es t ≡ t

-- the stamp of what is done at a legal list may stand behind it, whatever the moment
abbrev pub StampsMayStand : Type 0
StampsMayStand = (s : Setup) (es : List Entry) (now : ℕ)
    → IsLegal s es
    → (last_stamp es ≤ stamp_of es now) × (stamp_of es now ≤ max_stamp)

-- with such a stamp the entry of a player's command is allowed exactly where the command is not refused
abbrev pub AllowedIfNotRefused : Type 0
AllowedIfNotRefused = (s : Setup) (es : List Entry) (t pass : ℕ) (c : Command)
    → last_stamp es ≤ t
    → t ≤ max_stamp
    → IsCommandOf (length s.players) c
    → CanBeNamed c
    → Allowed s (history s es) (entry_of t pass c) ↔ (verdict s (history s es) t c ≡ None)

-- and so at any moment a legal list stays legal with the entry of a command exactly where the command is not refused
abbrev pub LegalIfNotRefused : Type 0
LegalIfNotRefused = (s : Setup) (es : List Entry) (now pass : ℕ) (c : Command)
    → IsLegal s es
    → IsCommandOf (length s.players) c
    → CanBeNamed c
    → IsLegal s (es ++ entry_of (stamp_of es now) pass c ∷ []) ↔ (verdict s (history s es) (stamp_of es now) c ≡ None)

-- a wave of the plan of the first n entries is allowed exactly where so many are there, its commit is not refused and there is a
-- pair to start
abbrev pub WavesAreAllowed : Type 0
WavesAreAllowed = (s : Setup) (h : History) (t n : ℕ)
    → AllowsWave s h t n ↔ ((n ≤ length h.entries) × (commit_refusal s h t n ≡ None) × (started s h n ≢ []))

-- and so at any moment a legal list stays legal with such a wave exactly where its commit is not refused and has a pair to start
abbrev pub LegalWaves : Type 0
LegalWaves = (s : Setup) (es : List Entry) (now pass n : ℕ)
    → IsLegal s es
    → n ≤ length es
    → IsLegal s (es ++ wave_entry (stamp_of es now) pass n ∷ [])
    ↔ ((commit_refusal s (history s es) (stamp_of es now) n ≡ None) × (started s (history s es) n ≢ []))

-- what a commit leaves is legal
abbrev pub CommitsStayLegal : Type 0
CommitsStayLegal = (s : Setup) (old new : List Entry) (pass now n : ℕ) (result : Result ℕ CommitFault)
    → IsLegal s old
    → n ≤ length old
    → Commits s old pass now n new result
    → IsLegal s new

-- a command that is not refused has a reply
abbrev pub CommandsAreAnswered : Type 0
CommandsAreAnswered = (s : Setup) (es : List Entry) (t pass : ℕ) (c : Command)
    → verdict s (history s es) t c ≡ None
    → IsSome (reply_to s (history s es) t pass c)
