-- A worker's pass once the worker has ended.
use Rattle.std.specs.Prelude.{◌≡◌, ℕ, List, Option}
use Rattle.entries.specs.declared.setup.Setup.{Setup}
use Rattle.turnstile.specs.Passes.{Lock}
use Rattle.arena_lock.specs.Turns.{IsReady, Pass}
use Rattle.server.specs.declared.workers.WorkerEnd.{WorkerEnd}
use Rattle.server.specs.Works.{IsReason}

-- a worker whose pass had this number and had taken no turn, and whose clock told these moments, has ended: its pass has no turn,
-- and all turns that the pass took and all that it has seen are why it ended
pub record HasWorked (lobby : Lock Setup) (number : ℕ) (told : Option (List ℕ)) (pass : Pass) : Type 0 where
  pub ready : IsReady lobby pass
  pub same : pass.number ≡ number
  pub end : WorkerEnd
  pub reason : IsReason lobby.fixed told pass.turns pass.seen end
