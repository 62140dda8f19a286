use Rattle.std.proofs.Common.{◌≡◌, length}
use Rattle.std.specs.Prelude.{All}
use Rattle.entries.specs.Ranges.{IsPlayer}
use Rattle.arena_main.proofs.Letters.{letters, names}
use Rattle.arena_main.proofs.tests.arena.evenings.players.Given as goal

-- so many players are made, and their names are the first letters
abbrev pub invariant-making : goal.invariant-making
invariant-making l = record {
  many : length l.made.items ≡ l.p;
  good : All (IsPlayer 2) l.made.items;
  called : names l.made.items ≡ letters l.p;
}
