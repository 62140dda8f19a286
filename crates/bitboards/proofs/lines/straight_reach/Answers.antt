use Rattle.std.proofs.Common.{◌∙◌, arith, not, ◌==◌}
use Rattle.board.proofs.SetLaws.{or_of}
use Rattle.bitboards.specs.Lines.{same_file, same_rank, is_open}
use Rattle.bitboards.proofs.Ways.{file_open, rank_open}
use Rattle.bitboards.proofs.Rays.{two_lines}
use Rattle.bitboards.proofs.lines.straight_reach.Goals as goal

pub returns : goal.returns
returns c = λ t on.
    or_of c.reach_on.result c.reach_on-2.result _ _ c.reach_on.ensures c.reach_on-2.ensures t on
    ∙ rw (c.file_line.ensures.is t on, c.rank_line.ensures.is t on)
    (two_lines (same_file c.args.s t) (same_rank c.args.s t) (not (c.args.s == t)) _ _ (is_open c.args.occupied c.args.s t)
    (file_open c.file_line.result c.args.occupied c.args.s t (omega arith) c.file_line.ensures.on_board on c.file_line.ensures.is)
    (rank_open c.rank_line.result c.args.occupied c.args.s t (omega arith) c.file_line.ensures.on_board on c.rank_line.ensures.is))
