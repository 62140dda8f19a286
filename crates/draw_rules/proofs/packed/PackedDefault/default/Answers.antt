use Rattle.std.proofs.Common.{refl}
use Rattle.draw_rules.specs.Packing.{number_of, beside_in}
use Rattle.draw_rules.proofs.packed.PackedDefault.default.Goals as goal

pub invariant_of-result : goal.invariant_of-result
unfolding number_of beside_in
invariant_of-result c = refl
