-- Legal journals: all their entries are allowed, and they list the games that their waves begin.
use Rattle.std.specs.Prelude.{◌≡◌, ℕ, ◌↔◌, true, List, slice_get, Some, None}
use Rattle.entries.specs.declared.journal.Entry.{Entry}
use Rattle.entries.specs.declared.journal.Journal.{Journal}
use Rattle.entries.specs.declared.journal.Start.{Start}
use Rattle.entries.specs.Ranges.{IsWritable, listed_at}
use Rattle.arena_history.specs.Waves.{starts_by}
use Rattle.arena_rules.specs.Legal.{Allowed, IsLegal}
use Rattle.journal_replay.specs.Causes.{before, cause_of, first_illegal, same_starts}

-- where a journal is of version 2, it lists at the entry with this number the games that the entry begins, in their order
abbrev pub ListsItsGames : Journal → ℕ → Entry → Type 0
ListsItsGames j number e = j.version ≡ 2 → listed_at number j.starts ≡ starts_by j.setup (before j number) e

-- a journal is legal where its entries are, and where each entry lists the games that it begins, if the version lists games
pub record IsLegalJournal (j : Journal) : Type 0 where
  pub entries : IsLegal j.setup j.entries
  pub games : (number : ℕ) (e : Entry) → slice_get j.entries number ≡ Some e → ListsItsGames j number e

-- there is no cause against an entry of a journal exactly where it is allowed at the history before it and lists its games
abbrev pub CausesAreExact : Type 0
CausesAreExact = (j : Journal) (number : ℕ) (e : Entry)
    → IsWritable j
    → slice_get j.entries number ≡ Some e
    → (cause_of j (before j number) e ≡ None) ↔ (Allowed j.setup (before j number) e × ListsItsGames j number e)

-- no entry of a journal is the first that is not allowed exactly where the journal is legal
abbrev pub LegalHaveNoFirst : Type 0
LegalHaveNoFirst = (j : Journal) → IsWritable j → (first_illegal j ≡ None) ↔ IsLegalJournal j

-- two lists of games are the same, game by game, exactly where they are one list
abbrev pub SameAreEqual : Type 0
SameAreEqual = (a b : List Start) → (same_starts a b ≡ true) ↔ (a ≡ b)
