use Rattle.std.proofs.Common.{refl}
use Rattle.arena_lock.proofs.Added.{nothing, may_leave}
use Rattle.arena_lock.proofs.lobby.Lobby.snapshot.Goals as goal

pub leave-requires-clause-history : goal.leave-requires-clause-history
leave-requires-clause-history g c κs =
    let in_turn = c.enter-arena.ensures.pass in
    let found = c.enter-arena.result.entries in
    may_leave c.args.pass.now c.enter-arena.new.pass c.enter-arena.new.pass.number found found refl in_turn (nothing c.enter-arena.new.pass.number found found refl)
