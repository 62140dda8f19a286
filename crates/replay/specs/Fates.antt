-- What a text of bytes can come to.
use Rattle.std.specs.Prelude.{ℕ}
use Rattle.entries.specs.declared.journal.Journal.{Journal}
use Rattle.journal_text.specs.declared.fault.JournalFault.{JournalFault}
use Rattle.journal_replay.specs.declared.illegal.IllegalCause.{IllegalCause}

-- it is longer than 400,000,000 bytes, or it is no journal's and this is the first fault, or its journal is not legal and this
-- line has the first entry that is not allowed, for this cause, or it is this legal journal's
pub data Fate : Type 0 where
  TooLong : Fate
  BadJournal : JournalFault → Fate
  Illegal : ℕ → IllegalCause → Fate
  Legal : Journal → Fate
