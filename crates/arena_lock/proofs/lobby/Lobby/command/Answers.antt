use Rattle.arena_lock.proofs.Added.{by_command, may_leave}
use Rattle.arena_lock.proofs.lobby.Lobby.command.Goals as goal

pub leave-requires-clause-history : goal.leave-requires-clause-history
leave-requires-clause-history g c κs =
    let in_turn = c.enter-arena.ensures.pass in
    let found = c.enter-arena.result.entries in
    may_leave c.args.pass.now c.enter-arena.new.pass c.number.result found c.apply-result.new.self.entries c.number.ensures in_turn
    (by_command c.enter-arena.result.setup found c.apply-result.new.self.entries c.number.result c.args.now c.args.c c.apply-result.result c.apply-result.ensures.answer)
