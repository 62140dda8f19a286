use Rattle.std.proofs.Common.{◌≡◌, take}
use Rattle.entries.proofs.copying.copy_players.Given as goal

abbrev pub invariant-loop-player : goal.invariant-loop-player
invariant-loop-player l = l.copied.items ≡ take l.player-index l.players
