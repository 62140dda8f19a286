use Rattle.std.proofs.Common.{◌∙◌, refl, arith}
use Rattle.board.proofs.SetLaws.{not_of}
use Rattle.draw_rules.proofs.NoneElse.{light_squares, dark_squares}
use Rattle.draw_rules.proofs.material.light_or_dark.Goals as goal

pub returns-then-light : goal.returns-then-light
returns-then-light c = λ s on. light_squares s on ∙ rw (c.if-light.true) refl

pub returns-else-light : goal.returns-else-light
returns-else-light c = λ s on. not_of _ _ (omega arith) light_squares s on ∙ dark_squares s ∙ rw (c.if-light.false) refl
