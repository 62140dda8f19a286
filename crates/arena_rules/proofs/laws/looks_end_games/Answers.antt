use Rattle.arena_rules.proofs.Refused.{looks_end_games}
use Rattle.arena_rules.proofs.laws.looks_end_games.Goals as goal

pub returns : goal.returns
returns c = looks_end_games c.laws_of_histories.ensures
