-- What a director's turn does, and how it ends.
use Rattle.std.specs.Prelude.{◌≡◌, ℕ, ◌⊎◌, true, false, List, length, Result, Ok, Err}
use Rattle.entries.specs.declared.journal.Entry.{Entry}
use Rattle.entries.specs.declared.setup.Setup.{Setup}
use Rattle.wave.specs.declared.snapshot.Snapshot.{Snapshot}
use Rattle.arena_history.specs.Snapshots.{snapshot}
use Rattle.arena_history.specs.Waves.{history}
use Rattle.arena_rules.specs.declared.commit_fault.CommitFault.{CommitFault}
use Rattle.arena_rules.specs.declared.commit_fault.CommitFault.TheVariants as fault
use Rattle.director.specs.declared.turn.Turn.{Turn}
use Rattle.director.specs.declared.turn.TurnFault.{TurnFault}
use Rattle.director.specs.declared.turn.TurnFault.TheVariants.{Full, OutOfMemory}
use Rattle.director.specs.declared.turn.WaveEnd.{WaveEnd}
use Rattle.director.specs.declared.turn.WaveEnd.TheVariants.{NotDue, Started, Early, Closed}
use Rattle.director.specs.Due.{is_due, is_over}
use Rattle.director.specs.Steps.{State, Looked, AddedNothing, FoundFull, Snapped, Committed}

-- the first two steps: a look that ended so many games, and then a snapshot
pub record Prepared (s : Setup) (a c : State) (ended : ℕ) (snap : Snapshot) : Type 0 where
  pub b : State
  pub looked : Looked s a b ended
  pub snapped : Snapped s b c snap

-- a wave was due at a snapshot, and the plan of its entries was committed with this answer
pub record Planned (s : Setup) (c d : State) (snap : Snapshot) (result : Result ℕ CommitFault) : Type 0 where
  pub due : is_due s snap ≡ true
  pub committed : Committed s c d snap.n result

-- what became of the wave: none was due, and there was no third step; or its plan was committed
abbrev pub Ends : Setup → State → State → Snapshot → WaveEnd → Type 0
Ends s c d snap NotDue = (is_due s snap ≡ false) × (d ≡ c)
Ends s c d snap (Started count) = Planned s c d snap (Ok count)
Ends s c d snap Early = Planned s c d snap (Err fault.Early)
Ends s c d snap Closed = Planned s c d snap (Err fault.Closed)

-- the snapshot is one of these entries
abbrev pub IsSnapshotOf : Setup → List Entry → Snapshot → Type 0
IsSnapshotOf s es snap = (t : ℕ) × (snap ≡ snapshot s (history s es) t)

-- what became of the wave, or why it was not settled: there was no memory for the plan, or its commit had this fault
abbrev pub EndsWave : Setup → State → State → Snapshot → Result WaveEnd TurnFault → Type 0
EndsWave s c d snap (Ok end) = Ends s c d snap end
EndsWave s c d snap (Err Full) = Planned s c d snap (Err fault.Full)
EndsWave s c d snap (Err OutOfMemory) = ((is_due s snap ≡ true) × (d ≡ c)) ⊎ Planned s c d snap (Err fault.OutOfMemory)

-- a whole turn
pub record Directed (s : Setup) (a d : State) (turn : Turn) : Type 0 where
  pub c : State
  pub snap : Snapshot
  pub prepared : Prepared s a c turn.ended snap
  pub n : turn.n ≡ snap.n
  pub idle : turn.idle ≡ length snap.rows
  pub over : turn.over ≡ is_over s snap
  pub wave : Ends s c d snap turn.wave

-- a turn without memory for its snapshot
pub record EndedAtSnapshot (s : Setup) (a d : State) : Type 0 where
  pub b : State
  pub ended : ℕ
  pub looked : Looked s a b ended
  pub nothing : AddedNothing b d

-- a turn without memory for the plan of a wave that was due
pub record EndedAtPlan (s : Setup) (a d : State) : Type 0 where
  pub ended : ℕ
  pub snap : Snapshot
  pub prepared : Prepared s a d ended snap
  pub due : is_due s snap ≡ true

-- a turn that ended at its commit in this fault
pub record EndedAtCommit (s : Setup) (a d : State) (f : CommitFault) : Type 0 where
  pub c : State
  pub ended : ℕ
  pub snap : Snapshot
  pub prepared : Prepared s a c ended snap
  pub planned : Planned s c d snap (Err f)

-- where a turn ended in a fault: the journal was too full for the look or for the wave, or one of the steps had no memory
abbrev pub EndsIn : Setup → State → State → TurnFault → Type 0
EndsIn s a d Full = FoundFull s a d ⊎ EndedAtCommit s a d fault.Full
EndsIn s a d OutOfMemory =
    AddedNothing a d ⊎ EndedAtSnapshot s a d ⊎ EndedAtPlan s a d ⊎ EndedAtCommit s a d fault.OutOfMemory

-- what a director's turn did and answered
abbrev pub Directs : Setup → State → State → Result Turn TurnFault → Type 0
Directs s a d (Ok turn) = Directed s a d turn
Directs s a d (Err f) = EndsIn s a d f
