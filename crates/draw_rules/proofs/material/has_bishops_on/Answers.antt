use Rattle.std.proofs.Common.{◌∙◌, arith}
use Rattle.board.proofs.SetLaws.{and_of, not_of}
use Rattle.draw_rules.specs.Material.{is_king_or_bishop_on, kings_and_bishops_on}
use Rattle.draw_rules.proofs.NoneElse.{all_squares_pass, no_king_or_bishop, and_small}
use Rattle.draw_rules.proofs.material.has_bishops_on.Goals as goal

pub returns : goal.returns
unfolding kings_and_bishops_on
returns c =
    all_squares_pass (is_king_or_bishop_on c.args.light c.args.board.now) _ (and_small c.no_kings.result _ (omega arith))
    (λ s on. and_of c.no_kings.result _ _ _ c.no_kings.ensures (not_of _ _ (and_small c.of_kind.result _ (omega arith)) (and_of c.of_kind.result c.light_or_dark.result _ _ c.of_kind.ensures c.light_or_dark.ensures)) s on ∙ no_king_or_bishop c.args.light c.args.board.now s)
