use Rattle.pgn_text.proofs.OneMove.{one_move}
use Rattle.pgn_text.proofs.notation.one_san_is_one_move.Goals as goal

pub returns : goal.returns
returns c bytes m n x y = one_move c.args.p.now bytes m n x y
