use Rattle.std.proofs.Common.{None, rules, sym, ◌∙◌}
use Rattle.board.proofs.Ranks.{empty_part, run_read}
use Rattle.board.proofs.fen.board.+read_rank.Goals as goal

pub read_rank-requires : goal.read_rank-requires
read_rank-requires t c = (search rules, empty_part c.args.cells.now _ None c.requires)

pub returns-else-empty-cells : goal.returns-else-empty-cells
returns-else-empty-cells t c =
    run_read c.args.cells.now c.read_rank.new.cells c.args.text.now c.args.after_digit c.read_rank.result c.requires
    c.in-len1-up.len_at_least (sym c.is_run.ensures ∙ c.if-is_run.true) c.if-after_digit.false c.if-empty-cells.false c.read_rank.ensures
