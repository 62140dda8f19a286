-- The steps of a director's turn. Each is one turn of its pass at the clock's next moment.
use Rattle.std.specs.Prelude.{◌≡◌, ℕ, zero, suc, ◌↔◌, List, [], ◌∷◌, ◌++◌, length, false, Option, Some, Result, Ok, Err}
use Rattle.conn.specs.Moments.{Ticks}
use Rattle.entries.specs.declared.journal.Entry.{Entry}
use Rattle.entries.specs.declared.setup.Setup.{Setup}
use Rattle.wave.specs.declared.snapshot.Snapshot.{Snapshot}
use Rattle.arena_history.specs.Endings.{ended_by}
use Rattle.arena_history.specs.Snapshots.{snapshot}
use Rattle.arena_history.specs.Stamps.{stamp_of}
use Rattle.arena_history.specs.Waves.{history}
use Rattle.arena_rules.specs.declared.command.Command.TheVariants.{Tick}
use Rattle.arena_rules.specs.declared.commit_fault.CommitFault.{CommitFault}
use Rattle.arena_rules.specs.declared.refusal.Refusal.TheVariants as refusal
use Rattle.arena_rules.specs.Commands.{entry_of}
use Rattle.arena_rules.specs.Commits.{Commits}
use Rattle.arena_rules.specs.Verdicts.{some_due, verdict}
use Rattle.arena_lock.specs.Turns.{Pass, Turned}
use Rattle.director.specs.declared.turn.TurnFault.{TurnFault}
use Rattle.director.specs.declared.turn.TurnFault.TheVariants.{Full, OutOfMemory}

-- where a director stands: what its pass is, and the moments that its clock still gives, where the clock tells them
pub record State : Type 0 where
  pub pass : Pass
  pub moments : Option (List ℕ)

abbrev pub state_of : Pass → Option (List ℕ) → State
state_of pass moments = record { pass = pass; moments = moments }

-- one turn of the pass at the clock's next moment, and the entries that it found
pub record Step (a b : State) : Type 0 where
  pub now : ℕ
  pub found : List Entry
  pub ticks : Ticks a.moments b.moments now
  pub turn : Turned a.pass b.pass found b.pass.seen

-- the stamp of what is done in a step
abbrev pub stamp : {a b : State} → Step a b → ℕ
stamp step = stamp_of step.found step.now

-- the entry of a look at all games
abbrev pub look : {a b : State} → Step a b → Entry
look {a} step = entry_of (stamp step) a.pass.number Tick

-- the entries that a look leaves which ends so many games: where it ends one, it stands behind them
abbrev pub with_look : List Entry → Entry → ℕ → List Entry
with_look es e zero = es
with_look es e (suc n) = es ++ e ∷ []

-- so many games were due, and were ended by a look
pub record Looked (s : Setup) (a b : State) (ended : ℕ) : Type 0 where
  pub step : Step a b
  pub entries : b.pass.seen ≡ with_look step.found (look step) ended
  pub games : ended ≡ length (ended_by s (history s step.found) (look step))
  pub none : (ended ≡ zero) ↔ (some_due s (history s step.found) (stamp step) ≡ false)

-- a step that added no entry
pub record AddedNothing (a b : State) : Type 0 where
  pub step : Step a b
  pub entries : b.pass.seen ≡ step.found

-- a game was due, and the journal was too full for a look
pub record FoundFull (s : Setup) (a b : State) : Type 0 where
  pub nothing : AddedNothing a b
  pub refused : verdict s (history s b.pass.seen) (stamp nothing.step) Tick ≡ Some refusal.Full

-- what a look did and answered
abbrev pub Looks : Setup → State → State → Result ℕ TurnFault → Type 0
Looks s a b (Ok ended) = Looked s a b ended
Looks s a b (Err Full) = FoundFull s a b
Looks s a b (Err OutOfMemory) = AddedNothing a b

-- a snapshot was taken of all entries that the pass has seen then
pub record Snapped (s : Setup) (a b : State) (snap : Snapshot) : Type 0 where
  pub nothing : AddedNothing a b
  pub taken : snap ≡ snapshot s (history s b.pass.seen) (stamp nothing.step)

-- the plan of the first n entries was committed at what the step found, with this answer
pub record Committed (s : Setup) (a b : State) (n : ℕ) (result : Result ℕ CommitFault) : Type 0 where
  pub step : Step a b
  pub answer : Commits s step.found a.pass.number step.now n b.pass.seen result
