use Rattle.std.proofs.Common.{◌∙◌}
use Rattle.draw_rules.proofs.Packing.{numbers_same}
use Rattle.draw_rules.proofs.packed.Packed.is_same.Goals as goal

pub returns : goal.returns
returns c = c.eq.ensures ∙ numbers_same c.args.self c.args.other
