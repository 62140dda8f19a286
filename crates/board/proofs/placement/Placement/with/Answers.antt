use Rattle.std.proofs.Common.{arith, ◌∙◌}
use Rattle.board.proofs.Kept.{Tells, tells, written, told}
use Rattle.std.proofs.Math.ListN.{set}
use Rattle.board.proofs.placement.Placement.with.Goals as goal

after : (c : goal.After-with-4) → Tells c.with.result c.with-2.result c.with-3.result c.with-4.result (set c.args.self c.args.s c.args.cell)
after c =
    let k = tells c.self.inside.steps c.self.inside.slants c.self.inside.runs c.self.inside.black c.args.self c.self.view_is c.self.invariant in
    written _ _ _ _ _ _ _ _ c.args.s c.args.cell c.args.self k c.with.ensures.on_board
    (record { small = omega arith; at = c.with.ensures.at ∙ c.cell_steps.ensures; others = c.with.ensures.others })
    (record { small = omega arith; at = c.with-2.ensures.at ∙ c.cell_slants.ensures; others = c.with-2.ensures.others })
    (record { small = omega arith; at = c.with-3.ensures.at ∙ c.cell_runs.ensures; others = c.with-3.ensures.others })
    (record { small = omega arith; at = c.with-4.ensures.at ∙ c.cell_is_black.ensures; others = c.with-4.ensures.others })

pub invariant_of-result : goal.invariant_of-result
invariant_of-result c = (told _ _ _ _ _ (after c)).1

pub returns : goal.returns
returns c = (told _ _ _ _ _ (after c)).0
