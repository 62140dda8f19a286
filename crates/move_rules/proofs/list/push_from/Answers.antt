use Rattle.std.proofs.Common.{◌∙◌, ap, sym, ◌++◌}
use Rattle.move_rules.specs.Lists.{moves_between}
use Rattle.move_rules.proofs.MoveLists.{listed_more, listed_all, targets_listed}
use Rattle.move_rules.proofs.list.push_from.Goals as goal

pub loop-targets-init : goal.loop-targets-init
loop-targets-init c = (ap (λ ms. c.args.moves.now.items ++ ms) (targets_listed c.args.p.now c.args.from c.targets-targets.result c.targets-targets.ensures), λ t on h. sym (c.targets-targets.ensures t on) ∙ h)

pub push_between-requires : goal.push_between-requires
push_between-requires c = record {
  reached = c.loop-targets.invariant.1 c.first_square.result c.first_square.ensures.on_board c.first_square.ensures.in_set;
  outside = c.requires;
}

pub loop-targets-preserved : goal.loop-targets-preserved
loop-targets-preserved c = (
  listed_more c.args.p.now (moves_between c.args.from) c.first_square.result _ _ _ _ _ (c.without_first-targets.ensures.rest c.first_square.result c.first_square.ensures.in_set c.first_square.ensures.first) c.loop-targets.invariant.0 c.in_ok-push_between.ensures,
  λ t on h. c.loop-targets.invariant.1 t on (c.without_first-targets.ensures.within t h),
)

pub returns : goal.returns
returns c = listed_all c.args.p.now (moves_between c.args.from) c.loop-targets.targets _ _ c.loop-targets-test.false c.loop-targets.invariant.0
