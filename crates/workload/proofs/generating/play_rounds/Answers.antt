use Rattle.std.proofs.Common.{◌≡◌, ◌+◌, ◌-◌, ◌<◌, Err, length, ap, sym, subst, ◌∙◌}
use Rattle.std.specs.List.{range_with_len}
use Rattle.entries.specs.declared.setup.Setup.{Setup}
use Rattle.arena_core.specs.Held.{past}
use Rattle.workload.specs.Drafts.{going}
use Rattle.workload.specs.Numbers.{state}
use Rattle.workload.specs.Rounds.{round}
use Rattle.workload.specs.Steps.{ComesTo}
use Rattle.workload.specs.Workloads.{stamp_of_round, with_rounds}
use Rattle.workload.proofs.Drafted.{comes_same}
use Rattle.workload.proofs.Onward.{no_round, one_round, rounds_stop}
use Rattle.workload.proofs.generating.play_rounds.Goals as goal

pub playing-preserved : goal.playing-preserved
playing-preserved g c =
    let s = c.args.arena.now.setup in
    let inv = c.playing.invariant in
    let r = c.playing.r in
    let mid = c.playing.arena in
    let new = c.play_round.new.arena in
    let many : length mid.setup.players ≡ length s.players = ap (λ (x : Setup). length x.players) inv.setup in
    record {
      solvers = subst (λ n. 0 < n) (sym c.play_round.ensures.solvers) inv.solvers;
      setup = c.play_round.ensures.setup ∙ inv.setup;
      last = c.play_round.ensures.last;
      drawn = λ seed is.
          let at = inv.drawn seed is ∙ ap (λ n. state seed (n + length (past mid).starts)) (sym many) in
          c.in_ok-play_round.ensures.drawn seed at ∙ ap (λ n. state seed (n + length (past new).starts)) many;
      left = λ seed is.
          let at = inv.drawn seed is ∙ ap (λ n. state seed (n + length (past mid).starts)) (sym many) in
          let went = subst (λ x. round seed x (stamp_of_round r) (going mid.entries) ≡ going new.entries) inv.setup (c.in_ok-play_round.ensures.comes seed at) in
          inv.left seed is ∙ (one_round seed s (going mid.entries) r c.playing-test.true ∙ ap (λ d. with_rounds seed s d (range_with_len (r + 1) (4 - (r + 1)))) went);
    }

pub returns-in_err-play_round-clause-comes : goal.returns-in_err-play_round-clause-comes
returns-in_err-play_round-clause-comes g c = λ seed is.
    let s = c.args.arena.now.setup in
    let inv = c.playing.invariant in
    let r = c.playing.r in
    let mid = c.playing.arena in
    let new = c.play_round.new.arena.entries in
    let many : length mid.setup.players ≡ length s.players = ap (λ (x : Setup). length x.players) inv.setup in
    let at = inv.drawn seed is ∙ ap (λ n. state seed (n + length (past mid).starts)) (sym many) in
    let stopped = subst (λ x. ComesTo (round seed x (stamp_of_round r) (going mid.entries)) new (Err c.in_err-play_round.field-0.0)) inv.setup (c.in_err-play_round.ensures.comes seed at) in
    comes_same _ _ new c.from_residual.result (inv.left seed is ∙ one_round seed s (going mid.entries) r c.playing-test.true)
    (rounds_stop seed s (round seed s (stamp_of_round r) (going mid.entries)) (range_with_len (r + 1) (4 - (r + 1))) new c.from_residual.result c.in_err-play_round.field-0.0 c.from_residual.ensures.1 stopped)

pub returns-clause-comes : goal.returns-clause-comes
returns-clause-comes g c = λ seed is.
    let s = c.args.arena.now.setup in
    c.playing.invariant.left seed is ∙ no_round seed s (going c.playing.arena.entries) c.playing.r c.playing-test.false
