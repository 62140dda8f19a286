-- What a worker does, and why it ends.
use Rattle.std.specs.Prelude.{◌≡◌, ℕ, true, false, if◌then◌else◌, List, [], ◌∷◌, ◌++◌, length, Option, Some, None, IfSome, Result, Ok, Err}
use mathlib.Core.List.{IsPrefix}
use Rattle.conn.specs.Moments.{first_moment}
use Rattle.entries.specs.declared.journal.Entry.{Entry}
use Rattle.entries.specs.declared.setup.Setup.{Setup}
use Rattle.arena_history.specs.Snapshots.{snapshot}
use Rattle.arena_history.specs.Stamps.{stamp_of}
use Rattle.arena_history.specs.Waves.{history}
use Rattle.director.specs.declared.turn.Turn.{Turn}
use Rattle.director.specs.declared.turn.TurnFault.{TurnFault}
use Rattle.director.specs.declared.turn.TurnFault.TheVariants as fault
use Rattle.director.specs.Due.{is_over}
use Rattle.director.specs.Gains.{IsFull, Spent, moments_left}
use Rattle.director.specs.Steps.{State}
use Rattle.server.specs.declared.workers.WorkerEnd.{WorkerEnd}
use Rattle.server.specs.declared.workers.WorkerEnd.TheVariants.{Over, Full}

-- why a worker ends behind a director's turn, if it does
abbrev pub end_by : Result Turn TurnFault → Option WorkerEnd
end_by (Ok turn) = if turn.over then Some Over else None
end_by (Err fault.Full) = Some Full
end_by (Err fault.OutOfMemory) = None

-- the moment is the one at this place, from 0, of those that a clock gives, where it tells them
abbrev pub IsMomentAt : Option (List ℕ) → ℕ → ℕ → Type 0
IsMomentAt None place now = Unit {0}
IsMomentAt (Some told) place now = now ≡ first_moment (moments_left place told)

-- the last of the turns that left these lengths found the arena over: a snapshot of all that the pass has seen, at the moment that
-- the clock gave for that turn, shows that the arena's end has come and that no game runs
pub record FoundOver (s : Setup) (told : Option (List ℕ)) (lengths : List ℕ) (seen : List Entry) : Type 0 where
  pub before : List ℕ
  pub last : lengths ≡ before ++ length seen ∷ []
  pub now : ℕ
  pub moment : IsMomentAt told (length before) now
  pub over : is_over s (snapshot s (history s seen) (stamp_of seen now)) ≡ true

-- why a worker ends whose turns left these lengths, and whose pass has seen these entries then
abbrev pub IsReason : Setup → Option (List ℕ) → List ℕ → List Entry → WorkerEnd → Type 0
IsReason s told lengths seen Over = FoundOver s told lengths seen
IsReason s told lengths seen Full = IsFull s seen

-- a worker took turns, for each of which its clock gave a moment, and where it ended then, it had its reason
pub record Works (s : Setup) (a d : State) (end : Option WorkerEnd) : Type 0 where
  pub lengths : List ℕ
  pub spent : Spent a d lengths
  pub number : d.pass.number ≡ a.pass.number
  pub grown : IsPrefix a.pass.seen d.pass.seen
  pub reason : IfSome end (IsReason s a.moments lengths d.pass.seen)
