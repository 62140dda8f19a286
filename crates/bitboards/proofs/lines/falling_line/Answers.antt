use Rattle.bitboards.proofs.Ways.{falling_line_has}
use Rattle.bitboards.proofs.lines.falling_line.Goals as goal

pub returns-clause-is : goal.returns-clause-is
returns-clause-is c = λ t on. falling_line_has c.args.s c.index-s.result c.index-s.ensures.is c.index-s.ensures.on_board t on
