use Rattle.std.proofs.Common.{◌∙◌, arith, ap, not, ◌==◌, ◌&&◌}
use Rattle.board.proofs.SetLaws.{or_of}
use Rattle.bitboards.specs.Lines.{same_rising, same_falling, is_open}
use Rattle.bitboards.proofs.Ways.{rising_open, falling_open, slants_at}
use Rattle.bitboards.proofs.Rays.{two_lines}
use Rattle.bitboards.proofs.lines.diagonal_reach.Goals as goal

pub returns : goal.returns
returns c = λ t on.
    or_of c.reach_on.result c.reach_on-2.result _ _ c.reach_on.ensures c.reach_on-2.ensures t on
    ∙ rw (c.rising_line.ensures.is t on, c.falling_line.ensures.is t on)
    (two_lines (same_rising c.args.s t) (same_falling c.args.s t) (not (c.args.s == t)) _ _ (is_open c.args.occupied c.args.s t)
    (rising_open c.rising_line.result c.args.occupied c.args.s t (omega arith) c.rising_line.ensures.on_board on c.rising_line.ensures.is)
    (falling_open c.falling_line.result c.args.occupied c.args.s t (omega arith) c.rising_line.ensures.on_board on c.falling_line.ensures.is))
    ∙ ap (λ slant. not (c.args.s == t) && slant && is_open c.args.occupied c.args.s t) (slants_at c.args.s t c.rising_line.ensures.on_board on)
