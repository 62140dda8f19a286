-- What a director's turn leaves of its pass and its clock, without the steps between.
use Rattle.std.specs.Prelude.{◌≡◌, ℕ, zero, suc, ◌+◌, ◌<◌, ◌≤◌, ◌↔◌, ◌⊎◌, false, List, [], ◌∷◌, ◌++◌, length, map, take, Option, Some, None, Result, Ok, Err}
use Rattle.conn.specs.Moments.{first_moment, moments_after}
use Rattle.entries.specs.declared.journal.Entry.{Entry}
use Rattle.entries.specs.declared.journal.What.{What}
use Rattle.entries.specs.declared.journal.What.TheVariants.{Tick, Wave}
use Rattle.entries.specs.declared.setup.Setup.{Setup}
use Rattle.entries.specs.Limits.{max_entries, max_games}
use Rattle.wave.specs.declared.snapshot.Snapshot.{Snapshot}
use Rattle.arena_history.specs.Snapshots.{snapshot}
use Rattle.arena_history.specs.Stamps.{stamp_of}
use Rattle.arena_history.specs.Waves.{history, started}
use Rattle.arena_lock.specs.Turns.{Pass, pass_of}
use Rattle.turnstile.specs.Passes.{own_of}
use Rattle.director.specs.declared.turn.Turn.{Turn}
use Rattle.director.specs.declared.turn.TurnFault.{TurnFault}
use Rattle.director.specs.declared.turn.TurnFault.TheVariants.{Full, OutOfMemory}
use Rattle.director.specs.declared.turn.WaveEnd.{WaveEnd}
use Rattle.director.specs.declared.turn.WaveEnd.TheVariants.{NotDue, Started, Early, Closed}
use Rattle.director.specs.Due.{is_due, is_over}
use Rattle.director.specs.Steps.{State}

-- the moments that a clock still gives once it gave so many
abbrev pub moments_left : ℕ → List ℕ → List ℕ
moments_left zero told = told
moments_left (suc k) told = moments_left k (moments_after told)

-- a clock that told its moments gave so many of them, and no others
abbrev pub Gave : Option (List ℕ) → Option (List ℕ) → ℕ → Type 0
Gave None new k = Unit {0}
Gave (Some told) new k = new ≡ Some (moments_left k told)

-- the turns of the pass gained these lengths, and the clock gave a moment for each
pub record Spent (a d : State) (lengths : List ℕ) : Type 0 where
  pub turns : d.pass.turns ≡ a.pass.turns ++ lengths
  pub moments : Gave a.moments d.moments (length lengths)

-- the lengths that a turn adds which had a snapshot of n entries: those of the look and of the snapshot, and that of the commit
-- where a wave was due
abbrev pub LengthsOf : ℕ → WaveEnd → List ℕ → Type 0
LengthsOf n NotDue lengths = (looked : ℕ) × (lengths ≡ looked ∷ n ∷ [])
LengthsOf n (Started count) lengths = (looked committed : ℕ) × (lengths ≡ looked ∷ n ∷ committed ∷ [])
LengthsOf n Early lengths = (looked committed : ℕ) × (lengths ≡ looked ∷ n ∷ committed ∷ [])
LengthsOf n Closed lengths = (looked committed : ℕ) × (lengths ≡ looked ∷ n ∷ committed ∷ [])

-- the lengths that a turn with this answer adds: one or three where it was full, and one to three where there was no memory
abbrev pub LengthsBy : Result Turn TurnFault → List ℕ → Type 0
LengthsBy (Ok turn) lengths = LengthsOf turn.n turn.wave lengths
LengthsBy (Err Full) lengths = (length lengths ≡ 1) ⊎ (length lengths ≡ 3)
LengthsBy (Err OutOfMemory) lengths = (1 ≤ length lengths) × (length lengths ≤ 3)

-- a turn with this answer took so many turns of the pass, and so many moments of the clock
pub record Spends (a d : State) (result : Result Turn TurnFault) : Type 0 where
  pub lengths : List ℕ
  pub spent : Spent a d lengths
  pub by_answer : LengthsBy result lengths

-- a look, where games were ended
abbrev pub looks_of : ℕ → List What
looks_of zero = []
looks_of (suc ended) = Tick ∷ []

-- a wave of n entries, where games were started
abbrev pub waves_of : ℕ → WaveEnd → List What
waves_of n NotDue = []
waves_of n (Started zero) = []
waves_of n (Started (suc count)) = Wave n ∷ []
waves_of n Early = []
waves_of n Closed = []

-- the pass's own entries gained some of these kinds, in this order
abbrev pub Gained : Pass → Pass → List What → Type 0
Gained old new added =
    map (λ (e : Entry). e.what) (own_of pass_of new) ≡ map (λ (e : Entry). e.what) (own_of pass_of old) ++ added

-- what a turn with this answer adds to the pass's own entries: a look where it ended games, and then a wave where it started
-- some; and at most a look where it ended in a fault
abbrev pub Adds : Pass → Pass → Result Turn TurnFault → Type 0
Adds old new (Ok turn) = Gained old new (looks_of turn.ended ++ waves_of turn.n turn.wave)
Adds old new (Err f) = Gained old new [] ⊎ Gained old new (Tick ∷ [])

-- a snapshot shows what a turn answers: who is idle, whether the arena is over, and whether a wave is due
pub record IsShownBy (s : Setup) (turn : Turn) (snap : Snapshot) : Type 0 where
  pub idle : turn.idle ≡ length snap.rows
  pub over : turn.over ≡ is_over s snap
  pub due : (turn.wave ≡ NotDue) ↔ (is_due s snap ≡ false)

-- the moment is the second of those that a clock gave, where it told them
abbrev pub IsSecond : Option (List ℕ) → ℕ → Type 0
IsSecond None now = Unit {0}
IsSecond (Some told) now = now ≡ first_moment (moments_after told)

-- the pass has seen at least n entries, and no further ones where no wave was due; and a snapshot of the first n, at the clock's
-- second moment, shows what the turn answers
pub record ShowsFirst (s : Setup) (told : Option (List ℕ)) (seen : List Entry) (turn : Turn) : Type 0 where
  pub now : ℕ
  pub second : IsSecond told now
  pub known : turn.n ≤ length seen
  pub whole : turn.wave ≡ NotDue → turn.n ≡ length seen
  pub shown : IsShownBy s turn (snapshot s (history s (take turn.n seen)) (stamp_of (take turn.n seen) now))

-- these are as many entries as there may be, or a wave of the first n of them would begin more games than there may be
abbrev pub IsFull : Setup → List Entry → Type 0
IsFull s seen =
    (max_entries ≤ length seen) ⊎ ((n : ℕ) × (n ≤ length seen) × (max_games < length (history s seen).starts + length (started s (history s seen) n)))
