use Rattle.game_line.proofs.Quiets.{quiet-none, quiet-push, half_is_quiet}
use Rattle.game_line.proofs.laws.half_counts_are_quiet.Goals as goal

pub returns : goal.returns
returns c = record { none = quiet-none; one_more = quiet-push; half = half_is_quiet }
