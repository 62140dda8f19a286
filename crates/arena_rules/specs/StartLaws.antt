-- Laws of the games that the waves of a legal list begin: they are what a journal of version 2 may list.
use Rattle.std.specs.Prelude.{◌≡◌, ℕ, ◌≤◌, List, length, slice_get, Some}
use Rattle.std.specs.List.{All}
use Rattle.entries.specs.declared.journal.Entry.{Entry}
use Rattle.entries.specs.declared.journal.Journal.{Journal}
use Rattle.entries.specs.declared.journal.Start.{Start}
use Rattle.entries.specs.declared.journal.What.TheVariants as what
use Rattle.entries.specs.declared.setup.Setup.{Setup}
use Rattle.entries.specs.Ranges.{IsGood, AreStartsOf, IsWritable}
use Rattle.arena_history.specs.Waves.{started, history}
use Rattle.arena_rules.specs.Legal.{IsLegal}

-- at a legal list over a good setup a wave of the plan of its first n entries starts at most 500 pairs
abbrev pub WavesStartFew : Type 0
WavesStartFew = (s : Setup) (es : List Entry) (n : ℕ)
    → IsGood s
    → IsLegal s es
    → length (started s (history s es) n) ≤ 500

-- the games that a legal list over a good setup begins are in range for a journal: in order, each of a wave's entry and between
-- players of the setup, and 1 to 500 for each wave
abbrev pub StartsAreInRange : Type 0
StartsAreInRange = (s : Setup) (es : List Entry)
    → IsGood s
    → IsLegal s es
    → AreStartsOf (length s.players) es (history s es).starts

-- a game belongs to the entry of a wave
pub record IsOfWave (es : List Entry) (g : Start) : Type 0 where
  pub entry : Entry
  pub n : ℕ
  pub stands : slice_get es g.entry ≡ Some entry
  pub wave : entry.what ≡ what.Wave n

-- so it is with every game, whatever the entries
abbrev pub StartsAreOfWaves : Type 0
StartsAreOfWaves = (s : Setup) (es : List Entry) → All (IsOfWave es) (history s es).starts

-- the journal of version 2 with these entries and the games that they begin
abbrev pub journal_of : Setup → List Entry → Journal
journal_of s es = record { setup = s; version = 2; entries = es; starts = (history s es).starts }

-- a legal list over a good setup by passes of numbers at most 255 can be written as a journal of version 2
abbrev pub LegalIsWritable : Type 0
LegalIsWritable = (s : Setup) (es : List Entry)
    → IsGood s
    → IsLegal s es
    → All (λ (e : Entry). e.pass ≤ 255) es
    → IsWritable (journal_of s es)
