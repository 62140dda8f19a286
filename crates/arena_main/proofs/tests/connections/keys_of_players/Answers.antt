use Rattle.std.proofs.Common.{length}
use Rattle.arena_main.proofs.Keyed.{keys_of_players}
use Rattle.arena_main.proofs.tests.connections.keys_of_players.Goals as goal

pub returns : goal.returns
returns c = record {
  players = keys_of_players (length c.args.setup.now.players) c.args.keys.now c.requires.own;
}
