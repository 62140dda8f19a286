use Rattle.std.proofs.Common.{◌∙◌}
use Rattle.board.specs.Attack.{piece_on}
use Rattle.board.proofs.SetLaws.{or_of}
use Rattle.draw_rules.proofs.NoneElse.{minor}
use Rattle.draw_rules.proofs.material.minors.Goals as goal

pub returns : goal.returns
returns c = λ s on. or_of c.of_kind.result c.of_kind-2.result _ _ c.of_kind.ensures c.of_kind-2.ensures s on ∙ minor (piece_on c.args.board.now s)
