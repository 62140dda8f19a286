use Rattle.std.proofs.Common.{append_assoc}
use Rattle.board.proofs.Ranks.{ranks_text_more}
use Rattle.board.proofs.fen.write.+push_ranks.Goals as goal

pub returns-then-rank-gt0-clause-is : goal.returns-then-rank-gt0-clause-is
returns-then-rank-gt0-clause-is t c =
    rw (ranks_text_more c.args.cells.now c.args.rank c.if-rank-gt0.true, c.push_ranks.ensures.is, c.push_byte.ensures.is, c.push_rank.ensures.is) (simp append_assoc)
