use Rattle.arena_rules.proofs.Stamps.{stamp_of-stamp, stamp_of-legal}
use Rattle.arena_rules.proofs.laws.stamps_of_entries.Goals as goal

pub returns-clause-stays : goal.returns-clause-stays
returns-clause-stays c = stamp_of-stamp c.laws_of_histories.ensures

pub returns-clause-stands : goal.returns-clause-stands
returns-clause-stands c = stamp_of-legal c.laws_of_histories.ensures
