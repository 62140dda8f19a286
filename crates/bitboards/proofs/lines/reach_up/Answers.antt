use Rattle.std.proofs.Common.{arith}
use Rattle.bitboards.proofs.Rays.{up_free, up_stopped}
use Rattle.bitboards.proofs.lines.reach_up.Goals as goal

pub returns-then-blockers-eq0 : goal.returns-then-blockers-eq0
returns-then-blockers-eq0 c = up_free c.args.line c.args.occupied c.args.s c.squares_to.result (omega arith) (omega arith) c.squares_to.ensures c.if-blockers-eq0.true

pub returns-else-blockers-eq0 : goal.returns-else-blockers-eq0
returns-else-blockers-eq0 c = up_stopped c.args.line c.args.occupied c.args.s c.squares_to.result c.squares_to-else-blockers-eq0.result c.first_square.result (omega arith) (omega arith) c.squares_to.ensures c.squares_to-else-blockers-eq0.ensures c.first_square.ensures.on_board c.first_square.ensures.in_set c.first_square.ensures.first
