use Rattle.std.proofs.Common.{◌∙◌}
use Rattle.board.proofs.SetLaws.{or_of}
use Rattle.bitboards.proofs.Rays.{both_directions}
use Rattle.bitboards.proofs.lines.reach_on.Goals as goal

pub returns : goal.returns
returns c = λ t on. or_of c.reach_up.result c.reach_down.result _ _ c.reach_up.ensures c.reach_down.ensures t on ∙ both_directions c.args.line c.args.occupied c.args.s t
