-- The numbers of an entry, as a machine has them.
use Rattle.std.specs.Prelude.{ℕ, ◌<◌, ◌^◌}
use Rattle.entries.specs.declared.journal.Entry.{Entry}
use Rattle.entries.specs.Ranges.{IsAction}
use Rattle.entries.specs.declared.journal.What.{What}
use Rattle.entries.specs.declared.journal.What.TheVariants.{Enter, Pause, Leave, Act, Tick, Wave}

-- a number of 64 bits
abbrev pub Fits : ℕ → Type 0
Fits n = n < 2 ^ 64

-- each number that an entry of this kind names is one, and its move, if it has one, can be named
abbrev pub NamesShort : What → Type 0
NamesShort (Enter p) = Fits p
NamesShort (Pause p) = Fits p
NamesShort (Leave p) = Fits p
NamesShort (Act p game a) = Fits p × Fits game × IsAction a
NamesShort Tick = Unit {0}
NamesShort (Wave n) = Fits n

-- each number of an entry is one
pub record IsShort (e : Entry) : Type 0 where
  pub stamp : Fits e.stamp
  pub pass : Fits e.pass
  pub what : NamesShort e.what
