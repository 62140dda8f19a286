use Rattle.std.proofs.Common.{length}
use Rattle.ranking.proofs.Places.{placed_swapped}
use Rattle.ranking.proofs.order.swap.Goals as goal

pub returns-clause-at_places : goal.returns-clause-at_places
returns-clause-at_places c = placed_swapped (length c.args.order.now) c.args.order.now c.args.places.now c.swap.new.self c.args.place c.requires.next c.requires.at_places c.swap.ensures.after
