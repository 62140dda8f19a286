use Rattle.std.proofs.Common.{◌≡◌, take, map, length}
use Rattle.arena_core.specs.People.{StandsFor, standing, with_starts, with_alone}
use Rattle.arena_core.specs.Starting.{start_at}
use Rattle.arena_core.specs.Written.{written_past}
use Rattle.arena_core.proofs.starting.begin_wave.Given as goal

-- the players of the first headers have sat down
abbrev pub invariant-seating : goal.invariant-seating
invariant-seating l = record {
  people : StandsFor l.people l.book.setup (with_starts (take l.header-index (map (start_at (length l.book.entries)) l.headers)) (with_alone (record { entry = length l.book.entries; players = l.plan.alone }) (standing l.book.setup (written_past l.book))));
  room : l.people.room ≡ l.fn.people.room;
}
