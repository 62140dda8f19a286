use Rattle.std.proofs.Common.{arith}
use Rattle.bitboards.proofs.Rays.{down_free, down_stopped}
use Rattle.bitboards.proofs.lines.reach_down.Goals as goal

pub returns-then-blockers-eq0 : goal.returns-then-blockers-eq0
returns-then-blockers-eq0 c = down_free c.args.line c.args.occupied c.args.s c.squares_from.result (omega arith) (omega arith) c.squares_from.ensures c.if-blockers-eq0.true

pub returns-else-blockers-eq0 : goal.returns-else-blockers-eq0
returns-else-blockers-eq0 c = down_stopped c.args.line c.args.occupied c.args.s c.squares_from.result c.squares_from-else-blockers-eq0.result c.last_square.result (omega arith) (omega arith) c.squares_from.ensures c.squares_from-else-blockers-eq0.ensures c.last_square.ensures.on_board c.last_square.ensures.in_set c.last_square.ensures.last
