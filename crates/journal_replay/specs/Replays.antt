-- What the replay of a journal comes to.
use Rattle.std.specs.Prelude.{◌≡◌, Some, None, Option, Result, Ok, Err, List, [], ◌∷◌, ◌++◌, length}
use Rattle.entries.specs.declared.journal.Entry.{Entry}
use Rattle.entries.specs.declared.journal.Journal.{Journal}
use Rattle.arena_core.specs.Held.{Held}
use Rattle.arena_history.specs.Waves.{history}
use Rattle.journal_replay.specs.declared.illegal.IllegalCause.{IllegalCause}
use Rattle.journal_replay.specs.declared.illegal.ReplayFault.{ReplayFault}
use Rattle.journal_replay.specs.declared.illegal.ReplayFault.TheVariants.{Illegal, OutOfMemory}
use Rattle.journal_replay.specs.Causes.{cause_of, first_illegal}

-- the arena of a journal whose entries are all allowed, or the first entry that is not; want of memory says nothing
abbrev pub Replays : Journal → Result Held ReplayFault → Type 0
Replays j (Ok a) = (first_illegal j ≡ None) × (a.setup ≡ j.setup) × (a.entries ≡ j.entries)
Replays j (Err (Illegal entry cause)) = first_illegal j ≡ Some (entry, cause)
Replays j (Err OutOfMemory) = Unit {0}

-- an entry that is tried behind these, with such a cause against it or none: it stands behind them, or is refused for that cause
abbrev pub Tries : Option IllegalCause → List Entry → Entry → List Entry → Result (Unit {0}) ReplayFault → Type 0
Tries tested old e new (Ok done) = (tested ≡ None) × (new ≡ old ++ e ∷ [])
Tries tested old e new (Err (Illegal entry cause)) = (tested ≡ Some cause) × (entry ≡ length old)
Tries tested old e new (Err OutOfMemory) = Unit {0}

-- an entry of a journal, tried behind these
abbrev pub Adds : Journal → List Entry → Entry → List Entry → Result (Unit {0}) ReplayFault → Type 0
Adds j old e new result = Tries (cause_of j (history j.setup old) e) old e new result
