use Rattle.game_line.proofs.Lines.{position_after-nil, line-nil, no_moves_are_legal, position_after-push, line-push, last_of_line, length-line, one_more_is_legal, legal_beginning, legal_positions}
use Rattle.game_line.proofs.laws.lines_of_moves.Goals as goal

pub returns : goal.returns
returns c = record {
  begins = record { position = position_after-nil; line = line-nil; legal = no_moves_are_legal };
  one_more = position_after-push;
  one_more_position = line-push;
  ends = last_of_line;
  length = length-line;
  one_more_is_legal = one_more_is_legal;
  beginnings = legal_beginning;
  positions = legal_positions c.laws_of_moves.ensures;
}
