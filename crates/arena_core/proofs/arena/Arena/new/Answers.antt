use Rattle.arena_core.proofs.Starters.{new_kept}
use Rattle.arena_core.proofs.arena.Arena.new.Goals as goal

pub invariant_of-result : goal.invariant_of-result
invariant_of-result c = new_kept c.args.setup c.new-2.result.setup c.new-2.result.entries c.new-3.result c.in_ok-people.people c.new-2.ensures.setup c.new-2.ensures.empty c.new-3.ensures.stands c.in_ok-people.ensures
