use Rattle.std.proofs.Common.{◌∙◌, refl, arith}
use Rattle.board.specs.Attack.{piece_on}
use Rattle.board.proofs.SetLaws.{and_of, not_of}
use Rattle.draw_rules.specs.Material.{is_bare_of, bare_king}
use Rattle.draw_rules.proofs.NoneElse.{all_pass, not_bare, and_small}
use Rattle.draw_rules.proofs.material.has_bare_king.Goals as goal

pub returns : goal.returns
unfolding bare_king
returns c =
    all_pass (is_bare_of c.args.colour) refl c.args.board.now _ c.keeps.ensures (and_small c.of_colour.result _ (omega arith))
    (λ s on. and_of c.of_colour.result _ _ _ c.of_colour.ensures (not_of c.of_kind.result _ (omega arith) c.of_kind.ensures) s on ∙ not_bare c.args.colour (piece_on c.args.board.now s))
