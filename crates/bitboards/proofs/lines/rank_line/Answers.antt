use Rattle.bitboards.proofs.Ways.{rank_line_has}
use Rattle.bitboards.proofs.lines.rank_line.Goals as goal

pub returns-clause-is : goal.returns-clause-is
returns-clause-is c = λ t on. rank_line_has c.args.s c.index.result c.index.ensures.is c.index.ensures.on_board t on
