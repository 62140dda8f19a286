use Rattle.std.proofs.Common.{◌∙◌, ◌+◌, ap, sym, cond, add-zero, arith}
use Rattle.draw_rules.specs.Packing.{with_pieces}
use Rattle.draw_rules.proofs.Packing.{times_to, none_to, one_more_to, all_to, times_to-le}
use Rattle.draw_rules.proofs.kept.times_in.Goals as goal
use Rattle.draw_rules.proofs.kept.times_in.Goals.{then-is_one, else-is_one}

pub loop-i-init : goal.loop-i-init
loop-i-init c = none_to c.args.boards.now c.args.rest.now (with_pieces c.args.board.now c.args.last.now)

pub overflow_add-times : goal.overflow_add-times
overflow_add-times c =
    let most = times_to-le c.args.boards.now c.args.rest.now (with_pieces c.args.board.now c.args.last.now) c.loop-i.i in
    let so_far = c.loop-i.invariant in
    let inside = c.loop-i-test.true in
    omega arith

pub loop-i-preserved : goal.loop-i-preserved
loop-i-preserved c =
    let a = with_pieces c.args.board.now c.args.last.now in
    let n = times_to c.loop-i.i c.args.boards.now c.args.rest.now a in
    let more = one_more_to c.args.boards.now c.args.rest.now a c.loop-i.i c.index-boards-i.result c.index-rest-i.result c.requires c.loop-i-test.true c.index-boards-i.is c.index-rest-i.is in
    elim c.if-is_one.branch [
      | then-is_one w ↦ w.times-is ∙ ap (λ k. k + 1) c.loop-i.invariant ∙ sym (more ∙ ap (λ b. n + cond b 1 0) (sym c.is_one.ensures ∙ w.if-is_one.true))
      | else-is_one w ↦ w.times-is ∙ c.loop-i.invariant ∙ sym (more ∙ ap (λ b. n + cond b 1 0) (sym c.is_one.ensures ∙ w.if-is_one.false) ∙ add-zero n)
    ]

pub returns : goal.returns
returns c =
    c.loop-i.invariant
    ∙ all_to c.args.boards.now c.args.rest.now (with_pieces c.args.board.now c.args.last.now) c.loop-i.i c.requires (let over = c.loop-i-test.false in omega arith)
