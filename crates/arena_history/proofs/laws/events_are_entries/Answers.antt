use Rattle.arena_history.proofs.Bounds.{events_are_entries}
use Rattle.arena_history.proofs.laws.events_are_entries.Goals as goal

pub returns : goal.returns
returns c = events_are_entries
