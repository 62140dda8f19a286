use Rattle.std.proofs.Common.{sym, ap, ◌∙◌}
use Rattle.board.specs.Reading.{move_in}
use Rattle.board.proofs.Spelling.{move_in-spells, move_in-word}
use Rattle.board.proofs.words.read_move.Goals as goal

pub returns-clause-spelled : goal.returns-clause-spelled
returns-clause-spelled c = rw c.parse_move.ensures (move_in-spells c.args.bytes.now)

pub returns-clause-read : goal.returns-clause-read
returns-clause-read c m ok h = c.parse_move.ensures ∙ ap move_in (sym h) ∙ move_in-word m ok
