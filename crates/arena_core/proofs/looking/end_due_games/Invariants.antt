use Rattle.std.proofs.Common.{◌≡◌, ◌≤◌, ◌-◌, take, drop, length}
use Rattle.std.specs.List.{filter_map}
use Rattle.arena_games.specs.Answers.{ends_behind}
use Rattle.arena_games.specs.Courses.{looked_below}
use Rattle.arena_games.specs.KeptGames as games
use Rattle.arena_history.specs.Games.{begun}
use Rattle.arena_core.specs.Courses.{courses}
use Rattle.arena_core.specs.People.{StandsFor, standing, with_ends}
use Rattle.arena_core.specs.Written.{written_past}
use Rattle.arena_core.proofs.Looked.{ended_at, look_ends}
use Rattle.arena_core.proofs.looking.end_due_games.Given as goal

-- the games below `from` have been looked at, and of those that the look ends the first `count` have ended
abbrev pub invariant-ending : goal.invariant-ending
invariant-ending l = record {
  games : games.StandsFor l.games (looked_below l.from l.t (courses l.book.setup (written_past l.book)));
  people : StandsFor l.people l.book.setup (with_ends l.n l.counts (take l.count (look_ends l.book.setup (written_past l.book) l.t)) (standing l.book.setup (written_past l.book)));
  left : filter_map (ended_at (begun l.book.setup (written_past l.book))) (ends_behind l.from l.t (courses l.book.setup (written_past l.book))) ≡ drop l.count (look_ends l.book.setup (written_past l.book) l.t);
  most : l.count ≤ length (look_ends l.book.setup (written_past l.book) l.t);
  room : l.people.room ≡ l.fn.people.room;
}

abbrev pub decreases-ending : goal.decreases-ending
decreases-ending l = length (begun l.book.setup (written_past l.book)) - l.from
