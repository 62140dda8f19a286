use Rattle.arena_games.proofs.Outcomes.{acts_go_on}
use Rattle.arena_games.proofs.laws.acts_go_on.Goals as goal

pub returns : goal.returns
returns c = acts_go_on c.what_changes_nothing.ensures.over
