use Rattle.std.proofs.Common.{◌∙◌, ap, sym}
use Rattle.arena_history.specs.Stamps.{stamp_of}
use Rattle.arena_rules.specs.Commits.{commit_refusal}
use Rattle.arena_core.specs.Held.{past}
use Rattle.arena_core.proofs.Replied.{commit_refused}
use Rattle.arena_core.proofs.arena.Arena.commit_plan.Goals as goal

pub returns-in-Err-clause-answer : goal.returns-in-Err-clause-answer
returns-in-Err-clause-answer c =
    let was = c.args.self.now in
    let n = c.args.plan.now.n in
    commit_refused was.setup (past was) (stamp_of was.entries c.args.now) n was.entries c.in-Err.fault (ap (λ t. commit_refusal was.setup (past was) t n) (sym c.stamp-t.ensures.stamp) ∙ c.in-Err.ensures.refused)
