use Rattle.std.proofs.Common.{refl, arith}
use Rattle.draw_rules.specs.Material.{is_king_or_empty, only_kings}
use Rattle.draw_rules.proofs.NoneElse.{all_pass}
use Rattle.draw_rules.proofs.material.has_only_kings.Goals as goal

pub returns : goal.returns
unfolding only_kings
returns c = all_pass is_king_or_empty refl c.args.board.now c.no_kings.result c.keeps.ensures (omega arith) c.no_kings.ensures
