-- What becomes of a text of bytes: its journal's table, the journal in version 2 and its games, or why it has none.
use Rattle.std.specs.Prelude.{◌≡◌, ℕ, ◌<◌, ◌≤◌, List, length, Some}
use Rattle.entries.specs.declared.journal.Entry.{Entry}
use Rattle.entries.specs.declared.journal.Journal.{Journal}
use Rattle.entries.specs.declared.setup.Setup.{Setup}
use Rattle.arena_rules.specs.StartLaws.{journal_of}
use Rattle.journal_text.specs.Reading.{fault_of}
use Rattle.journal_text.specs.Text.{Spells, text_of, line_of_entry}
use Rattle.journal_replay.specs.declared.illegal.IllegalCause.{IllegalCause}
use Rattle.journal_replay.specs.Causes.{first_illegal}
use Rattle.journal_replay.specs.Legal.{IsLegalJournal}
use Rattle.replay.specs.Fates.{Fate, TooLong, BadJournal, Illegal, Legal}
use Rattle.replay.specs.declared.replaying.Wanted.{Wanted}
use Rattle.replay.specs.declared.replaying.Wanted.TheVariants.{Table, Upgraded, Games}
use Rattle.games_text.specs.GameTexts.{games_text}
use Rattle.table_text.specs.Table.{table}

-- the journal's first entry that is not allowed stands on this line of its text, and this is the first cause against it
pub record IsFirstIllegal (j : Journal) (line : ℕ) (cause : IllegalCause) : Type 0 where
  pub number : ℕ
  pub first : first_illegal j ≡ Some (number, cause)
  pub on : line ≡ line_of_entry j number

-- at most 400,000,000 bytes
abbrev pub IsShort : List ℕ → Type 0
IsShort bytes = length bytes ≤ 400000000

-- what a text comes to
abbrev pub Replayed : List ℕ → Fate → Type 0
Replayed bytes TooLong = 400000000 < length bytes
Replayed bytes (BadJournal fault) = IsShort bytes × (fault_of bytes ≡ Some fault)
Replayed bytes (Illegal line cause) = IsShort bytes × (j : Journal) × Spells bytes j × IsFirstIllegal j line cause
Replayed bytes (Legal j) = IsShort bytes × Spells bytes j × IsLegalJournal j

-- the table of a journal
abbrev pub table_of : Journal → List ℕ
table_of j = table j.setup j.entries

-- the text of a journal in version 2, which lists the games that its waves begin
abbrev pub upgraded : Journal → List ℕ
upgraded j = text_of (journal_of j.setup j.entries)

-- the texts of a journal's games that count
abbrev pub games_of : Journal → List ℕ
games_of j = games_text j.setup j.entries

-- what is wanted of entries over a setup: their table, or their journal in version 2, or the texts of their games
abbrev pub wanted_text : Wanted → Setup → List Entry → List ℕ
wanted_text Table s es = table s es
wanted_text Upgraded s es = text_of (journal_of s es)
wanted_text Games s es = games_text s es

-- what is written of a legal journal, by what is wanted
abbrev pub written : Wanted → Journal → List ℕ
written wanted j = wanted_text wanted j.setup j.entries

-- a text comes to something
abbrev pub SomeFate : Type 0
SomeFate = (bytes : List ℕ) → (f : Fate) × Replayed bytes f

-- and to one thing alone
abbrev pub OneFate : Type 0
OneFate = (bytes : List ℕ) (a b : Fate) → Replayed bytes a → Replayed bytes b → a ≡ b
