use Rattle.std.proofs.Common.{◌≡◌, ◌≤◌, map, take, vec_len, vec_capacity, length}
use Rattle.std.specs.List.{AllZip, AllPass}
use Rattle.arena_games.specs.Courses.{begun}
use Rattle.arena_games.specs.Keeps.{KeptFor, runs}
use Rattle.arena_games.proofs.games.Games.prepare.Given as goal

abbrev pub invariant-preparing : goal.invariant-preparing
invariant-preparing l = record {
  kept : AllZip KeptFor l.games.items (map begun (take l.header-index l.headers));
  run : AllPass runs l.games.items;
  len : vec_len l.games ≡ l.header-index;
  room : length l.headers ≤ vec_capacity l.games;
}
