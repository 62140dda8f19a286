use Rattle.arena_rules.specs.Commits.{IsPlanOf}
use Rattle.arena_main.proofs.tests.arena.script.enter_all.Given as goal

-- the plan is one of the journal's first entries all along
abbrev pub invariant-entering : goal.invariant-entering
invariant-entering l = IsPlanOf l.arena.setup l.arena.entries l.plan
