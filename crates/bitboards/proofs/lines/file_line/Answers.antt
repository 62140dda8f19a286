use Rattle.bitboards.proofs.Ways.{file_line_has}
use Rattle.bitboards.proofs.lines.file_line.Goals as goal

pub returns-clause-is : goal.returns-clause-is
returns-clause-is c = λ t on. file_line_has c.args.s c.index.result c.index.ensures.is c.index.ensures.on_board t on
