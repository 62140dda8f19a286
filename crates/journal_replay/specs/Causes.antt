-- Which entry of a journal is not allowed, and why.
use Rattle.std.specs.Prelude.{ℕ, suc, nat_le, nat_lt, ◌==◌, ◌&&◌, not, Bool, if◌then◌else◌, List, [], ◌∷◌, map, take, length, Option, Some, None}
use Rattle.std.specs.Option.{option_map, option_or}
use Rattle.std.specs.Cmp.Lexicographic.{pointwise}
use Rattle.entries.specs.declared.journal.Entry.{Entry}
use Rattle.entries.specs.declared.journal.Journal.{Journal}
use Rattle.entries.specs.declared.journal.Start.{Start}
use Rattle.entries.specs.declared.journal.What.{What}
use Rattle.entries.specs.declared.journal.What.TheVariants as what
use Rattle.entries.specs.declared.setup.Setup.{Setup}
use Rattle.entries.specs.Ranges.{listed_at}
use Rattle.arena_history.specs.History.{History}
use Rattle.arena_history.specs.Stamps.{last_stamp}
use Rattle.arena_history.specs.Waves.{history, start_of, started}
use Rattle.arena_rules.specs.declared.command.Command.{Command}
use Rattle.arena_rules.specs.declared.command.Command.TheVariants.{Enter, Pause, Leave, Act, Tick}
use Rattle.arena_rules.specs.Commits.{lacks_room}
use Rattle.arena_rules.specs.Verdicts.{verdict}
use Rattle.journal_replay.specs.declared.illegal.IllegalCause.{IllegalCause}
use Rattle.journal_replay.specs.declared.illegal.IllegalCause.TheVariants.{StampFalls, Refused, Early, Closed, WaveNumber, WaveEmpty, Full, PairsDiffer}

-- the same game: of the same entry, and between the same two with the same colours
abbrev pub same_start : Start → Start → Bool
same_start a b = a.entry == b.entry && a.white == b.white && a.black == b.black

-- the same games, in the same order
abbrev pub same_starts : List Start → List Start → Bool
same_starts a b = pointwise same_start a b

-- the journal is of version 2, and lists at the entry with this number other games than these
abbrev pub lists_others : Journal → ℕ → List Start → Bool
lists_others j number games = j.version == 2 && not (same_starts (listed_at number j.starts) games)

-- the games that a wave of the plan of the first n entries begins at a history
abbrev pub games_of_wave : Journal → History → ℕ → List Start
games_of_wave j h n = map (start_of (length h.entries)) (started j.setup h n)

-- none, or the first cause for which a wave that begins these games is not allowed at a history: there are none, there is no
-- room for its entry and for them, or the journal lists others
abbrev pub games_cause : Journal → History → List Start → Option IllegalCause
games_cause j h games =
    if length games == 0 then Some WaveEmpty
    else if lacks_room h (length games) then Some Full
    else if lists_others j (length h.entries) games then Some PairsDiffer
    else None

-- none, or that a wave of the plan of the first n of so many entries is too early, too late, or of more entries than there are
abbrev pub window_cause : Setup → ℕ → ℕ → ℕ → Option IllegalCause
window_cause s count t n =
    if nat_lt t s.starts then Some Early
    else if nat_le s.ends t then Some Closed
    else if nat_lt count n then Some WaveNumber
    else None

-- none, or the first cause for which a wave of the plan of the first n entries is not allowed at a history and a stamp: of its
-- number and time, and then of what it begins
abbrev pub wave_cause : Journal → History → ℕ → ℕ → Option IllegalCause
wave_cause j h t n = option_or (window_cause j.setup (length h.entries) t n) (games_cause j h (games_of_wave j h n))

-- none, or the refusal of a command at a history and a stamp
abbrev pub command_cause : Journal → History → ℕ → Command → Option IllegalCause
command_cause j h t c = option_map Refused (verdict j.setup h t c)

-- none, or the first cause for which what an entry did is not allowed at a history and a stamp
abbrev pub what_cause : Journal → History → ℕ → What → Option IllegalCause
what_cause j h t (what.Enter p) = command_cause j h t (Enter p)
what_cause j h t (what.Pause p) = command_cause j h t (Pause p)
what_cause j h t (what.Leave p) = command_cause j h t (Leave p)
what_cause j h t (what.Act p number a) = command_cause j h t (Act p number a)
what_cause j h t what.Tick = command_cause j h t Tick
what_cause j h t (what.Wave n) = wave_cause j h t n

-- none, or the first cause for which an entry of a journal is not allowed at the history before it: its stamp falls, or what it did
-- is not allowed
unfoldable pub cause_of : Journal → History → Entry → Option IllegalCause
cause_of j h e = if nat_lt e.stamp (last_stamp h.entries) then Some StampFalls else what_cause j h e.stamp e.what

-- the history of a journal's first entries
abbrev pub before : Journal → ℕ → History
before j number = history j.setup (take number j.entries)

-- of these entries, of which the first has this number, the number of the first that is not allowed, and why; none where all are
unfoldable pub first_from : Journal → ℕ → List Entry → Option (ℕ × IllegalCause)
first_from j number [] = None
first_from j number (e ∷ es) = option_or (option_map (λ cause. (number, cause)) (cause_of j (before j number) e)) (first_from j (suc number) es)

-- the number of a journal's first entry that is not allowed, and why; none where all are
unfoldable pub first_illegal : Journal → Option (ℕ × IllegalCause)
first_illegal j = first_from j 0 j.entries
