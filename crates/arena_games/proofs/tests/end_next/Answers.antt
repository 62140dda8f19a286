use Rattle.arena_games.proofs.Trials.{looking_timely}
use Rattle.arena_games.proofs.tests.end_next.Goals as goal

pub end_next_due-requires : goal.end_next_due-requires
end_next_due-requires c = looking_timely c.args.games.now c.args.from c.args.t c.requires
