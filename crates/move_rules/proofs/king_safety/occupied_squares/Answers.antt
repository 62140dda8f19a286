use Rattle.std.proofs.Common.{◌∙◌, sym}
use Rattle.move_rules.proofs.Exposed.{none_outside}
use Rattle.move_rules.proofs.king_safety.occupied_squares.Goals as goal

pub returns : goal.returns
returns c = λ m word h out. none_outside c.args.p.now m h (rw (c.placement.ensures) at (sym (c.occupied.ensures m.from word.from) ∙ out))
