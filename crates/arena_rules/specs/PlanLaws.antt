-- Laws of the plans that are committed.
use Rattle.std.specs.Prelude.{◌≡◌, ◌≤◌, List, ◌++◌, length, filter}
use Rattle.entries.specs.declared.journal.Entry.{Entry}
use Rattle.entries.specs.declared.setup.Setup.{Setup}
use Rattle.wave.specs.declared.snapshot.Plan.{Plan}
use Rattle.arena_history.specs.Snapshots.{plan}
use Rattle.arena_history.specs.Waves.{both_still, started, history}
use Rattle.arena_rules.specs.Commits.{IsPlanOf}

-- the plan of a history is one of its entries
abbrev pub PlansAreOfTheirEntries : Type 0
PlansAreOfTheirEntries = (s : Setup) (es : List Entry) → IsPlanOf s es (plan s (history s es))

-- a plan names no more entries than there are
abbrev pub PlansAreKnown : Type 0
PlansAreKnown = (s : Setup) (es : List Entry) (p : Plan) → IsPlanOf s es p → p.n ≤ length es

-- and it stays the plan of so many first entries, whatever entries follow
abbrev pub PlansStay : Type 0
PlansStay = (s : Setup) (es more : List Entry) (p : Plan) → IsPlanOf s es p → IsPlanOf s (es ++ more) p

-- what its commit starts are those of its pairs whose players are both still idle, in its order
abbrev pub PlansAreFiltered : Type 0
PlansAreFiltered = (s : Setup) (es : List Entry) (p : Plan)
    → IsPlanOf s es p
    → started s (history s es) p.n ≡ filter (both_still s (history s es) p.n) p.pairs
