-- What contracts see of an arena.
use Rattle.std.specs.Prelude.{ℕ, List}
use Rattle.entries.specs.declared.journal.Entry.{Entry}
use Rattle.entries.specs.declared.setup.Setup.{Setup}
use Rattle.arena_history.specs.History.{History}
use Rattle.arena_history.specs.Waves.{history}

-- an arena's setup, the entries of its journal, and how many entries more the journal has room for
pub record Held : Type 0 where
  pub setup : Setup
  pub entries : List Entry
  pub spare : ℕ

-- the history of an arena's journal
abbrev pub past : Held → History
past a = history a.setup a.entries
