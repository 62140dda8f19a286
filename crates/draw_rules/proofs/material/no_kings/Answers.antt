use Rattle.std.proofs.Common.{◌∙◌, arith}
use Rattle.board.specs.Attack.{piece_on}
use Rattle.board.proofs.SetLaws.{and_of, not_of}
use Rattle.draw_rules.proofs.NoneElse.{no_king}
use Rattle.draw_rules.proofs.material.no_kings.Goals as goal

pub returns : goal.returns
returns c = λ s on. and_of c.occupied.result _ _ _ c.occupied.ensures (not_of c.of_kind.result _ (omega arith) c.of_kind.ensures) s on ∙ no_king (piece_on c.args.board.now s)
