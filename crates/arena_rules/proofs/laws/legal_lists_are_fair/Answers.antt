use Rattle.arena_rules.proofs.Fair.{fair}
use Rattle.arena_rules.proofs.laws.legal_lists_are_fair.Goals as goal

pub returns : goal.returns
returns c = fair c.laws_of_histories.ensures
