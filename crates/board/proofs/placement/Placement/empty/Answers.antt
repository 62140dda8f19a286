use Rattle.std.proofs.Common.{refl}
use Rattle.board.specs.Sets.{set_of}
use Rattle.board.specs.Placement.{cells_in}
use Rattle.board.proofs.placement.Placement.empty.Goals as goal

pub invariant_of-result : goal.invariant_of-result
unfolding cells_in set_of
invariant_of-result c = record { steps = refl; slants = refl; runs = refl; black = refl }

pub returns : goal.returns
unfolding cells_in
returns c = refl
