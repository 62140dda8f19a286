-- Which questions may be asked.
use Rattle.std.specs.Prelude.{ℕ, ◌<◌}
use Rattle.arena_rules.specs.declared.query.Query.{Query}
use Rattle.arena_rules.specs.declared.query.Query.TheVariants as query

-- a question about one of so many players, or about something else: also a game that was not begun may be asked for
abbrev pub IsQueryOf : ℕ → Query → Type 0
IsQueryOf players query.Arena = Unit {0}
IsQueryOf players (query.Standing k) = Unit {0}
IsQueryOf players query.Teams = Unit {0}
IsQueryOf players (query.Me p) = p < players
IsQueryOf players (query.Game number) = Unit {0}
IsQueryOf players (query.Journal k) = Unit {0}
