-- Commands, and the entries that they make.
use Rattle.std.specs.Prelude.{ℕ, ◌<◌, Option, Some, None}
use Rattle.entries.specs.declared.journal.Entry.{Entry}
use Rattle.entries.specs.declared.journal.What.{What}
use Rattle.entries.specs.declared.journal.What.TheVariants as what
use Rattle.entries.specs.Ranges.{IsAction}
use Rattle.arena_rules.specs.declared.command.Command.{Command}
use Rattle.arena_rules.specs.declared.command.Command.TheVariants.{Enter, Pause, Leave, Act, Tick}

-- a command of one of so many players
abbrev pub IsCommandOf : ℕ → Command → Type 0
IsCommandOf players (Enter p) = p < players
IsCommandOf players (Pause p) = p < players
IsCommandOf players (Leave p) = p < players
IsCommandOf players (Act p game a) = p < players
IsCommandOf players Tick = Unit {0}

-- a move that a command makes can be named
abbrev pub CanBeNamed : Command → Type 0
CanBeNamed (Enter p) = Unit {0}
CanBeNamed (Pause p) = Unit {0}
CanBeNamed (Leave p) = Unit {0}
CanBeNamed (Act p game a) = IsAction a
CanBeNamed Tick = Unit {0}

-- what an entry says that a command makes
abbrev pub what_of : Command → What
what_of (Enter p) = what.Enter p
what_of (Pause p) = what.Pause p
what_of (Leave p) = what.Leave p
what_of (Act p game a) = what.Act p game a
what_of Tick = what.Tick

-- the entry that a command of a pass makes at a stamp
abbrev pub entry_of : ℕ → ℕ → Command → Entry
entry_of stamp pass c = record { stamp = stamp; pass = pass; what = what_of c }

-- the command that an entry of this kind comes from: a wave comes from none
abbrev pub command_of : What → Option Command
command_of (what.Enter p) = Some (Enter p)
command_of (what.Pause p) = Some (Pause p)
command_of (what.Leave p) = Some (Leave p)
command_of (what.Act p game a) = Some (Act p game a)
command_of what.Tick = Some Tick
command_of (what.Wave n) = None
