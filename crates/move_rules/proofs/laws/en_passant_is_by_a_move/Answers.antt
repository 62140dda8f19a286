use Rattle.move_rules.proofs.PassingMoves.{ep_legal_means}
use Rattle.move_rules.proofs.laws.en_passant_is_by_a_move.Goals as goal

pub returns : goal.returns
returns c = ep_legal_means
