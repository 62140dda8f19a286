-- The laws of the crates below on which this crate rests.
use Rattle.arena_history.specs.HistoryLaws.{HasItsEntries, BeginningsAreHistories, HistoriesGrow, StartsHaveEntries}
use Rattle.arena_history.specs.GameLaws.{GamesAreNumbered, GamesWithOneMore, EventsWithOneMore, NewGames, RunningGamesRun, EndedGames, EndedByEvents, EndedByAct, EndedRunNoLonger, OnlyEventsEndGames, CountedWithOneMore, CountedAndRunning}
use Rattle.arena_history.specs.PlayerLaws.{PlacesWithOneMore, EndedAreApart, RunningGamesArePlayed}
use Rattle.arena_history.specs.TableLaws.{LinesAreOfEntered, EnteredWithOneMore}
use Rattle.arena_history.specs.WaveLaws.{CandidatesAreIdle, StartedByNumbers, StartedWereIdle, LastWaveWithOneMore}

-- the laws of histories, of their games, players, table and waves
pub record LawsOfHistories : Type 0 where
  pub entries : HasItsEntries
  pub beginnings : BeginningsAreHistories
  pub grow : HistoriesGrow
  pub belong : StartsHaveEntries
  pub numbered : GamesAreNumbered
  pub begun : GamesWithOneMore
  pub events : EventsWithOneMore
  pub new_games : NewGames
  pub run : RunningGamesRun
  pub ended : EndedGames
  pub by_events : EndedByEvents
  pub by_act : EndedByAct
  pub others : OnlyEventsEndGames
  pub no_longer : EndedRunNoLonger
  pub counted : CountedWithOneMore
  pub few : CountedAndRunning
  pub places : PlacesWithOneMore
  pub apart : EndedAreApart
  pub played : RunningGamesArePlayed
  pub lines : LinesAreOfEntered
  pub entered : EnteredWithOneMore
  pub candidates : CandidatesAreIdle
  pub by_numbers : StartedByNumbers
  pub started : StartedWereIdle
  pub wave : LastWaveWithOneMore
