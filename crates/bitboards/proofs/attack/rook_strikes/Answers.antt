use Rattle.std.proofs.Common.{◌∙◌, ◌&&◌, ap, sym, arith}
use Rattle.board.specs.Attack.{straight}
use Rattle.bitboards.proofs.Turned.{clear_is_open}
use Rattle.bitboards.proofs.attack.rook_strikes.Goals as goal

pub returns : goal.returns
returns c = λ t on.
    c.straight_reach.ensures t on
    ∙ ap (λ b. straight c.args.s t && b) (sym (clear_is_open c.args.board.now c.occupied.result (omega arith) c.keeps.ensures c.occupied.ensures c.args.s t))
