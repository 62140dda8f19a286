-- A worker with its pass may be sent to a thread.
use denote.RattleType.{RattleType}
use denote.Param.Send.{IsSend, sendable, struct_send}
use denote.Struct.Declared.{shape}
use Rattle.std.proofs.Crossing.{Vec-send}
use Rattle.arena_lock.proofs.Crossing.{pass_send}
use Rattle.server.specs.contracts.shift.Shift as shift
use Rattle.server.specs.contracts.workers.Worker as worker

module _ (D C V : RattleType) (d : IsSend D) (c : IsSend C) (v : IsSend V) where
  worker_send : IsSend (worker.the_field D C V).row
  worker_send = struct_send (shape (worker.the_type D C V)) (d, (c, (Vec-send V v, tt)))

  pub shift_send : IsSend (shift.the_row D C V)
  shift_send = let w = worker_send in let p = pass_send in search sendable depth 20
