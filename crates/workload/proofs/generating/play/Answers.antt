use Rattle.std.proofs.Common.{◌≡◌, ◌+◌, [], length, ap, sym, ◌∙◌, arith}
use Rattle.std.specs.List.{range_with_len}
use Rattle.entries.specs.declared.setup.Setup.{Setup}
use Rattle.arena_core.specs.Held.{past}
use Rattle.workload.specs.Drafts.{going, with_all}
use Rattle.workload.specs.Numbers.{state}
use Rattle.workload.specs.Workloads.{draft, enters, with_rounds}
use Rattle.workload.proofs.Drafted.{comes_same}
use Rattle.workload.proofs.Onward.{rounds_stop}
use Rattle.workload.proofs.generating.play.Goals as goal

pub returns-in_err-enter_all-clause-comes : goal.returns-in_err-enter_all-clause-comes
unfolding draft
returns-in_err-enter_all-clause-comes g c = λ seed is.
    let s = c.args.arena.now.setup in
    rounds_stop seed s (with_all s (going []) (enters c.args.players)) (range_with_len 0 4) c.enter_all.new.arena.entries c.from_residual.result c.in_err-enter_all.field-0.0 c.from_residual.ensures.1 c.in_err-enter_all.ensures.comes

pub returns-clause-comes : goal.returns-clause-comes
unfolding draft
returns-clause-comes g c = λ seed is.
    let s = c.args.arena.now.setup in
    let mid = c.enter_all.new.arena in
    let many : length mid.setup.players ≡ c.args.players = ap (λ (x : Setup). length x.players) c.enter_all.ensures.setup ∙ sym c.requires.players in
    let none : length (past mid).starts ≡ 0 = ap length c.enter_all.ensures.starts in
    let sum : c.args.players ≡ length mid.setup.players + length (past mid).starts = omega (arith, many, none) in
    comes_same (draft seed s c.args.players) (with_rounds seed mid.setup (going mid.entries) (range_with_len 0 4)) c.play_rounds.new.arena.entries c.play_rounds.result
    (λ i. with_rounds seed (sym c.enter_all.ensures.setup i) (c.in_ok-enter_all.ensures.comes i) (range_with_len 0 4))
    (c.play_rounds.ensures.comes seed (is ∙ ap (state seed) sum))
