-- What the answers of the steps come to.
use Rattle.std.specs.Prelude.{ℕ, length, Result, Ok, Err}
use Rattle.entries.specs.declared.setup.Setup.{Setup}
use Rattle.wave.specs.declared.snapshot.Snapshot.{Snapshot}
use Rattle.arena_rules.specs.declared.query.Reply.{Reply}
use Rattle.arena_rules.specs.declared.query.Reply.TheVariants as reply
use Rattle.arena_rules.specs.declared.refusal.Refusal.{Refusal}
use Rattle.arena_rules.specs.declared.refusal.Refusal.TheVariants as refusal
use Rattle.arena_core.specs.declared.fault.ApplyFault.{ApplyFault}
use Rattle.arena_core.specs.declared.fault.ApplyFault.TheVariants as apply_fault
use Rattle.director.specs.declared.turn.Turn.{Turn}
use Rattle.director.specs.declared.turn.TurnFault.{TurnFault}
use Rattle.director.specs.declared.turn.TurnFault.TheVariants.{Full, OutOfMemory}
use Rattle.director.specs.declared.turn.WaveEnd.{WaveEnd}
use Rattle.director.specs.Due.{is_over}

-- no game was due, or there was no room for a look: nothing else refuses one
abbrev pub ended_if_refused : Refusal → Result ℕ TurnFault
ended_if_refused refusal.NothingDue = Ok 0
ended_if_refused _ = Err Full

-- how many games a look ended, or why it was not made
abbrev pub ended_in : Result Reply ApplyFault → Result ℕ TurnFault
ended_in (Ok (reply.Ticked ended)) = Ok ended
ended_in (Ok (reply.Me player)) = Ok 0
ended_in (Ok (reply.Game game)) = Ok 0
ended_in (Err (apply_fault.Refused r)) = ended_if_refused r
ended_in (Err apply_fault.OutOfMemory) = Err OutOfMemory

-- what a turn answers that ended so many games, had this snapshot, and whose wave came to this
abbrev pub turn_of : Setup → ℕ → Snapshot → Result WaveEnd TurnFault → Result Turn TurnFault
turn_of s ended snap (Ok wave) = Ok (record { ended = ended; n = snap.n; idle = length snap.rows; over = is_over s snap; wave = wave })
turn_of s ended snap (Err f) = Err f
