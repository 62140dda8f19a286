use Rattle.std.proofs.Common.{◌∙◌, ap}
use Rattle.draw_rules.specs.Packing.{beside, beside_in}
use Rattle.draw_rules.proofs.Packing.{number_kept, beside_back}
use Rattle.draw_rules.proofs.packed.Packed.of.Goals as goal

pub invariant_of-result : goal.invariant_of-result
invariant_of-result c = number_kept c.number_of.result (beside c.args.p.now) c.number_of.ensures

pub returns : goal.returns
returns c = ap beside_in c.number_of.ensures ∙ beside_back (beside c.args.p.now)
