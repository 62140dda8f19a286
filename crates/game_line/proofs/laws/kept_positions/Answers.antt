use Rattle.game_line.proofs.KeptPositions.{kept_at_the_start, one_more_kept, one_more_kept_by_half_count, kept_length, kept_length_by_half_count, half_count_is_kept_length}
use Rattle.game_line.proofs.laws.kept_positions.Goals as goal

pub returns : goal.returns
returns c = record {
  start = kept_at_the_start;
  one_more = one_more_kept;
  by_half_count = one_more_kept_by_half_count;
  length = kept_length;
  length_by_half_count = kept_length_by_half_count;
  half = half_count_is_kept_length;
}
