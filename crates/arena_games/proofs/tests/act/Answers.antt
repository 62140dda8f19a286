use Rattle.std.proofs.Common.{arith}
use Rattle.game_room.specs.Events.{act_of}
use Rattle.arena_games.proofs.Trials.{lasts_after}
use Rattle.arena_games.proofs.tests.act.Goals as goal

pub returns : goal.returns
returns c =
    lasts_after c.args.games.now c.act.new.self 1 c.args.now c.args.t c.args.n (act_of c.args.side c.args.action c.args.t) c.act.result
    c.requires.lasts c.requires.later (omega arith) (omega arith) c.act.ensures.accepted c.act.ensures.refused
