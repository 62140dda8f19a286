use Rattle.std.proofs.Common.{sym, map}
use Rattle.workload.specs.Drafts.{going, with_all}
use Rattle.workload.specs.Scripts.{acts, acts_from, script}
use Rattle.workload.proofs.Drafted.{comes_same}
use Rattle.workload.proofs.rounds.play_game.Goals as goal

pub returns-clause-comes : goal.returns-clause-comes
unfolding acts
returns-clause-comes c =
    let was = c.args.arena.now in
    comes_same (with_all was.setup (going was.entries) (acts c.args.t c.args.number c.args.game.now (script c.args.chosen)))
    (with_all was.setup (going was.entries) (acts_from c.args.t c.args.number c.args.game.now c.first_of.result (map (λ w. w.now) c.words_of.result.now)))
    c.act_in_turn.new.arena.entries c.act_in_turn.result
    (λ i. with_all was.setup (going was.entries) (acts_from c.args.t c.args.number c.args.game.now (sym c.first_of.ensures i) (sym c.words_of.ensures i)))
    c.act_in_turn.ensures.comes
