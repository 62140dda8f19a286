-- What contracts see of an arena's setup and journal.
use Rattle.std.specs.Prelude.{ℕ, List}
use Rattle.entries.specs.declared.journal.Entry.{Entry}
use Rattle.entries.specs.declared.setup.Setup.{Setup}
use Rattle.arena_history.specs.History.{History}
use Rattle.arena_history.specs.Waves.{history}

-- the setup, the entries, and for how many entries and how many games more there is room
pub record Written : Type 0 where
  pub setup : Setup
  pub entries : List Entry
  pub spare : ℕ
  pub games_spare : ℕ

-- the history of the entries
abbrev pub written_past : Written → History
written_past b = history b.setup b.entries
