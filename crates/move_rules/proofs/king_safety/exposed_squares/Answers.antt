use Rattle.std.proofs.Common.{◌∙◌, sym}
use Rattle.board.proofs.SetLaws.{or_of}
use Rattle.move_rules.proofs.Exposed.{safe_outside}
use Rattle.move_rules.proofs.king_safety.exposed_squares.Goals as goal

pub returns-else-is_king_attacked : goal.returns-else-is_king_attacked
returns-else-is_king_attacked c = λ m word h out.
    safe_outside c.args.p.now m (rw (c.placement-placement.ensures) at c.keeps.ensures) word h
    (rw (c.placement-placement.ensures, c.turn.ensures) at (sym c.is_king_attacked.ensures ∙ c.if-is_king_attacked.false))
    (rw (c.placement-placement.ensures, c.turn-else-is_king_attacked.ensures, c.turn-else-is_king_attacked-2.ensures, c.ep.ensures) at
    (sym (or_of _ _ _ _ (or_of _ _ _ _ c.of_kind.ensures c.seen_by_king.ensures) c.ep_strikers.ensures m.from word.from) ∙ out))
