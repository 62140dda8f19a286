-- The laws of the crates below on which the laws of this crate rest.
use Rattle.arena_history.specs.HistoryLaws.{HasItsEntries, BeginningsAreHistories, HistoriesGrow, StartsHaveEntries}
use Rattle.arena_history.specs.GameLaws.{GamesAreNumbered, GamesWithOneMore, EventsWithOneMore, NewGames, RunningWithOneMore, OnlyEventsEndGames, EndedGames, EndedRunNoLonger, EndedByLook, CountedEnded, CountedOnce, CountedStay, CountedAndRunning}
use Rattle.arena_history.specs.PlayerLaws.{WishWithOneMore, AtMostOneGame, RunningGamesArePlayed, StillIsThroughout}
use Rattle.arena_history.specs.TableLaws.{EnteredWithOneMore}
use Rattle.arena_history.specs.WaveLaws.{WavesBeginStarted, StartedWereIdle}
use Rattle.arena_history.specs.BoundLaws.{EventsAreEntries, RowsAreFew, RowsAreInRange, CandidatesAreRanking, WavesAreSmall, PlayersOfGames, StartsStandInOrder}
use Rattle.game_room.specs.Laws.{TurnBegan, PliesAreMoves}

-- the laws of histories, of their games, players, table and waves
pub record LawsOfHistories : Type 0 where
  pub entries : HasItsEntries
  pub beginnings : BeginningsAreHistories
  pub grow : HistoriesGrow
  pub belong : StartsHaveEntries
  pub numbered : GamesAreNumbered
  pub begun : GamesWithOneMore
  pub events : EventsWithOneMore
  pub new_games : NewGames
  pub running : RunningWithOneMore
  pub ended : EndedGames
  pub by_events : OnlyEventsEndGames
  pub no_longer : EndedRunNoLonger
  pub by_look : EndedByLook
  pub room : CountedAndRunning
  pub counted : CountedEnded
  pub counted_once : CountedOnce
  pub counted_stay : CountedStay
  pub wish : WishWithOneMore
  pub at_most_one : AtMostOneGame
  pub played : RunningGamesArePlayed
  pub still : StillIsThroughout
  pub entered : EnteredWithOneMore
  pub begin : WavesBeginStarted
  pub started : StartedWereIdle
  pub timed : EventsAreEntries
  pub few_rows : RowsAreFew
  pub rows : RowsAreInRange
  pub ranking : CandidatesAreRanking
  pub small : WavesAreSmall
  pub players : PlayersOfGames
  pub order : StartsStandInOrder

-- the laws of single games
pub record LawsOfGames : Type 0 where
  pub began : TurnBegan
  pub plies : PliesAreMoves
