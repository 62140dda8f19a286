use Rattle.arena_rules.specs.Commits.{IsPlanOf}
use Rattle.arena_main.proofs.tests.arena.say_all.Given as goal

-- the plan is one of the journal's first entries all along
abbrev pub invariant-saying : goal.invariant-saying
invariant-saying g l = IsPlanOf l.arena.setup l.arena.entries l.plan
