use Rattle.std.proofs.Common.{◌∙◌}
use Rattle.move_rules.proofs.legal.reaches.Goals as goal

pub returns : goal.returns
returns c = c.has_square.ensures.is ∙ c.targets.ensures c.args.to c.has_square.ensures.on_board
