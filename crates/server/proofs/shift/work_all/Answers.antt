use Rattle.std.proofs.Common.{◌≡◌, subst, rules}
use Rattle.std.specs.Prelude.{slice_index_or}
use denote.Exit.{no}
use denote.Param.Send.{arg_send, param_send, sendable}
use Rattle.std.proofs.Crossing.{sync}
use Rattle.arena_lock.proofs.Crossing.{lobby_sync}
use Rattle.server.specs.declared.shift.Shift.{Shift}
use Rattle.server.specs.Shifts.{HasWorked}
use Rattle.server.proofs.Crossing.{shift_send}
use Rattle.server.proofs.SharedKeys.{keys_sync}
use Rattle.server.proofs.shift.work_all.Goals as goal

pub for_each_mut-requires-send-T : goal.for_each_mut-requires-send-T
for_each_mut-requires-send-T g c κs within = param_send 1 _ (arg_send _ no _ (shift_send _ _ _ c.type_bounds.send-D c.type_bounds.send-C c.type_bounds.send-V))

pub for_each_mut-requires-sync-F : goal.for_each_mut-requires-sync-F
for_each_mut-requires-sync-F g c κs within = search (sendable, lobby_sync, keys_sync, sync) depth 30

pub returns : goal.returns
returns g c = λ i d below.
    let at = (c.for_each_mut.ensures i d below).1 in
    let had = λ (x y : Shift g.row.D.Denot g.row.C.Denot g.row.V.Denot). HasWorked c.args.lobby.now x.pass.number (g.C.Clock.moments x.worker.clock) y.pass in
    subst (λ (x : Shift g.row.D.Denot g.row.C.Denot g.row.V.Denot). had x (slice_index_or c.for_each_mut.new.s i d)) at.argument_is
    (subst (λ (y : Shift g.row.D.Denot g.row.C.Denot g.row.V.Denot). had at.argument.now y) at.left at.call)
