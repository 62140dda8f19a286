use Rattle.std.proofs.Common.{take}
use Rattle.arena_players.specs.Facts.{AreLeft}
use Rattle.arena_players.proofs.pairings.leave.Given as goal

abbrev pub invariant-leaving : goal.invariant-leaving
invariant-leaving l = AreLeft (take l.p-index l.players) l.fn.facts l.facts
