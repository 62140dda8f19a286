use Rattle.std.proofs.Common.{None, arith, ◌*◌}
use Rattle.board.proofs.Ranks.{empty_front, empty_back}
use Rattle.board.proofs.fen.board.+read_ranks.Goals as goal

pub read_rank-requires-2 : goal.read_rank-requires-2
read_rank-requires-2 t c =
    empty_back c.args.cells.now _ (8 * c.args.rank) None c.requires.empty c.split_at_mut-below.ensures.back

pub read_ranks-requires : goal.read_ranks-requires
read_ranks-requires t c = (
  omega arith,
  (
    omega arith,
    (
      omega arith,
      empty_front c.args.cells.now _ (8 * c.args.rank) None c.requires.empty c.split_at_mut-below.ensures.front (omega arith),
    ),
  ),
)
