use Rattle.std.proofs.Common.{◌∙◌, sym}
use Rattle.std.specs.List.{list_any}
use Rattle.bitboards.proofs.Strikers.{found_in}
use Rattle.move_rules.specs.Legal.{legal}
use Rattle.move_rules.specs.Lists.{moves_between}
use Rattle.move_rules.proofs.MoveLists.{any_from, any_first, any_over}
use Rattle.move_rules.proofs.any_move.has_legal_from.Goals as goal

pub loop-targets-init : goal.loop-targets-init
loop-targets-init c = (any_from c.args.p.now c.args.from c.targets-targets.result c.targets-targets.ensures, λ t on h. sym (c.targets-targets.ensures t on) ∙ h)

pub has_legal_reached-requires : goal.has_legal_reached-requires
has_legal_reached-requires c = c.loop-targets.invariant.1 c.first_square.result c.first_square.ensures.on_board c.first_square.ensures.in_set

pub loop-targets-preserved : goal.loop-targets-preserved
loop-targets-preserved c = (
  any_first (λ b. list_any (legal c.args.p.now) (moves_between c.args.from b)) c.first_square.result _ _ (c.without_first-targets.ensures.rest c.first_square.result c.first_square.ensures.in_set c.first_square.ensures.first) (sym c.has_legal_reached.ensures ∙ c.if-has_legal_reached.false) ∙ c.loop-targets.invariant.0,
  λ t on h. c.loop-targets.invariant.1 t on (c.without_first-targets.ensures.within t h),
)

pub returns-then-has_legal_reached : goal.returns-then-has_legal_reached
returns-then-has_legal_reached c =
    sym (sym c.loop-targets.invariant.0 ∙ found_in c.loop-targets.targets c.first_square.result (λ b. list_any (legal c.args.p.now) (moves_between c.args.from b)) c.first_square.ensures.on_board c.first_square.ensures.in_set (sym c.has_legal_reached.ensures ∙ c.if-has_legal_reached.true))

pub returns : goal.returns
returns c = any_over (λ b. list_any (legal c.args.p.now) (moves_between c.args.from b)) c.loop-targets.targets c.loop-targets-test.false ∙ c.loop-targets.invariant.0
