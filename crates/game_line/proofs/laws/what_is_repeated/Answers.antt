use Rattle.game_line.proofs.Repetitions.{repetition_means, capture_square_means, repeats_itself, lost_right, other_capture}
use Rattle.game_line.proofs.laws.what_is_repeated.Goals as goal

pub returns : goal.returns
returns c = record {
  means = repetition_means;
  capture = capture_square_means c.laws_of_moves.ensures;
  itself = repeats_itself;
  right = lost_right;
  other_capture = other_capture;
}
