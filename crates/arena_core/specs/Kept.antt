-- What an arena keeps beside its journal.
use Rattle.std.specs.Prelude.{◌≡◌, ◌≤◌, List, length, Option, ℕ}
use Rattle.entries.specs.declared.journal.Entry.{Entry}
use Rattle.entries.specs.declared.journal.Start.{Start}
use Rattle.entries.specs.declared.setup.Setup.{Setup}
use Rattle.entries.specs.Ranges.{IsGood}
use Rattle.arena_games.specs.KeptGames as games
use Rattle.arena_history.specs.Snapshots.{last_wave}
use Rattle.arena_history.specs.Waves.{history}
use Rattle.arena_rules.specs.Legal.{IsLegal}
use Rattle.arena_core.specs.Courses.{courses}
use Rattle.arena_core.specs.People as people
use Rattle.arena_core.specs.People.{standing}

-- the setup is good and the journal legal, and the games that its waves began and the stamp of its last wave are kept
pub record IsBook (s : Setup) (es : List Entry) (begun : List Start) (wave : Option ℕ) : Type 0 where
  pub good : IsGood s
  pub legal : IsLegal s es
  pub starts : begun ≡ (history s es).starts
  pub last : wave ≡ last_wave (history s es)

-- games and players are those of the journal, and each game that was begun may be counted without memory
pub record AreKept (s : Setup) (es : List Entry) (g : games.KeptGames) (p : people.KeptPeople) : Type 0 where
  pub games : games.StandsFor g (courses s (history s es))
  pub people : people.StandsFor p s (standing s (history s es))
  pub room : length (history s es).starts ≤ p.room
