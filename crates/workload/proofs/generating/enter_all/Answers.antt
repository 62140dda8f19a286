use Rattle.std.proofs.Common.{◌≡◌, ◌≤◌, ◌-◌, ◌+◌, Err, ap, refl, sym, subst, ◌∙◌, arith}
use Rattle.arena_history.specs.Stamps.{last_stamp}
use Rattle.workload.specs.Drafts.{behind, going, with_all}
use Rattle.workload.specs.Steps.{ComesTo}
use Rattle.workload.proofs.Drafted.{comes_same, no_further}
use Rattle.workload.proofs.Entered.{all_entered, enter, enters_from, nothing_begun, one_enters}
use Rattle.workload.proofs.generating.enter_all.Goals as goal

pub entering-init : goal.entering-init
entering-init c =
    let was = c.args.arena.now in
    let none = c.requires.fresh in
    let all : c.args.players ≡ c.args.players - 0 = omega arith in
    record {
      setup = refl;
      last = subst (λ es. last_stamp es ≤ 0) (sym none) (omega arith);
      starts = nothing_begun was.setup was.setup was.entries none;
      left = λ i. with_all was.setup (going (sym none i)) (enters_from 0 (all i));
    }

pub entering-preserved : goal.entering-preserved
entering-preserved c =
    let s = c.args.arena.now.setup in
    let inv = c.entering.invariant in
    let p = c.entering.p in
    let mid = c.entering.arena in
    let went = subst (λ at. behind at mid.entries (enter p) ≡ going c.add_command.new.arena.entries) inv.setup c.in_ok-add_command.ensures.comes in
    record {
      setup = c.add_command.ensures.setup ∙ inv.setup;
      last = c.add_command.ensures.last;
      starts = c.add_command.ensures.starts ∙ inv.starts;
      left = inv.left ∙ (one_enters s p c.args.players c.entering-test.true mid.entries ∙ ap (λ d. with_all s d (enters_from (p + 1) (c.args.players - (p + 1)))) went);
    }

pub returns-in_err-add_command-clause-comes : goal.returns-in_err-add_command-clause-comes
returns-in_err-add_command-clause-comes c =
    let s = c.args.arena.now.setup in
    let inv = c.entering.invariant in
    let p = c.entering.p in
    let mid = c.entering.arena in
    let new = c.add_command.new.arena.entries in
    comes_same _ _ new c.from_residual.result (inv.left ∙ one_enters s p c.args.players c.entering-test.true mid.entries)
    (no_further s (behind s mid.entries (enter p)) (enters_from (p + 1) (c.args.players - (p + 1))) new c.from_residual.result c.in_err-add_command.field-0.0 c.from_residual.ensures.1
    (subst (λ at. ComesTo (behind at mid.entries (enter p)) new (Err c.in_err-add_command.field-0.0)) inv.setup c.in_err-add_command.ensures.comes))

pub returns-clause-comes : goal.returns-clause-comes
returns-clause-comes c =
    let s = c.args.arena.now.setup in
    let inv = c.entering.invariant in
    inv.left ∙ all_entered s c.entering.arena.entries c.entering.p c.args.players c.entering-test.false
