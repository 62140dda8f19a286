-- When the plan of a wave is committed, and what becomes of the journal.
use Rattle.std.specs.Prelude.{◌≡◌, ◌≢◌, ℕ, ◌+◌, nat_le, nat_lt, ◌==◌, ◌||◌, Bool, if◌then◌else◌, List, [], ◌∷◌, ◌++◌, take, length, Option, Some, None, Result, Ok, Err}
use Rattle.entries.specs.declared.journal.Entry.{Entry}
use Rattle.entries.specs.declared.journal.What.TheVariants as what
use Rattle.entries.specs.declared.setup.Setup.{Setup}
use Rattle.entries.specs.Limits.{max_entries, max_games}
use Rattle.pair_cost.specs.declared.candidate.Pair.{Pair}
use Rattle.wave.specs.declared.snapshot.Plan.{Plan}
use Rattle.arena_history.specs.History.{History}
use Rattle.arena_history.specs.Stamps.{stamp_of}
use Rattle.arena_history.specs.Snapshots.{plan}
use Rattle.arena_history.specs.Waves.{started, history}
use Rattle.arena_rules.specs.declared.commit_fault.CommitFault.{CommitFault}
use Rattle.arena_rules.specs.declared.commit_fault.CommitFault.TheVariants as fault

-- there are as many entries as a plan names, and it is the plan of so many first ones: its pairs, and those whom it leaves alone
abbrev pub IsPlanOf : Setup → List Entry → Plan → Type 0
IsPlanOf s es p = p ≡ plan s (history s (take p.n es))

-- there is no room for one entry more, or not for so many games more
abbrev pub lacks_room : History → ℕ → Bool
lacks_room h count = nat_le max_entries (length h.entries) || nat_lt max_games (length h.starts + count)

-- none, or the first refusal of a wave that begins so many games: it is too early, it is too late, or there is no room for what
-- it begins, if it begins any
abbrev pub wave_refusal : Setup → History → ℕ → ℕ → Option CommitFault
wave_refusal s h t count =
    if nat_lt t s.starts then Some fault.Early
    else if nat_le s.ends t then Some fault.Closed
    else if count == 0 then None
    else if lacks_room h count then Some fault.Full
    else None

-- none, or the first refusal of a commit of the plan of the first n entries at a stamp, want of memory aside
unfoldable pub commit_refusal : Setup → History → ℕ → ℕ → Option CommitFault
commit_refusal s h t n = wave_refusal s h t (length (started s h n))

-- the entry that a committed wave makes
abbrev pub wave_entry : ℕ → ℕ → ℕ → Entry
wave_entry stamp pass n = record { stamp = stamp; pass = pass; what = what.Wave n }

-- the entries once these pairs are started by an entry: the entry behind them, but none where there is no pair
abbrev pub with_wave : List Entry → Entry → List Pair → List Entry
with_wave es e [] = es
with_wave es e (pair ∷ pairs) = es ++ e ∷ []

-- a fault of a commit leaves the entries: it is the commit's refusal, or there is want of memory for what is not refused and
-- has a pair to start
abbrev pub IsCommitRefused : Option CommitFault → List Pair → List Entry → List Entry → CommitFault → Type 0
IsCommitRefused cause pairs old new fault.Early = (cause ≡ Some fault.Early) × (new ≡ old)
IsCommitRefused cause pairs old new fault.Closed = (cause ≡ Some fault.Closed) × (new ≡ old)
IsCommitRefused cause pairs old new fault.Full = (cause ≡ Some fault.Full) × (new ≡ old)
IsCommitRefused cause pairs old new fault.OutOfMemory = (cause ≡ None) × (pairs ≢ []) × (new ≡ old)

-- a commit that is not refused answers how many pairs it started
pub record IsCommitted (s : Setup) (old : List Entry) (pass t n : ℕ) (new : List Entry) (count : ℕ) : Type 0 where
  pub not_refused : commit_refusal s (history s old) t n ≡ None
  pub counted : count ≡ length (started s (history s old) n)
  pub entries : new ≡ with_wave old (wave_entry t pass n) (started s (history s old) n)

-- what a commit of the plan of the first n entries answers and leaves, at a stamp
abbrev pub CommitsAt : Setup → List Entry → ℕ → ℕ → ℕ → List Entry → Result ℕ CommitFault → Type 0
CommitsAt s old pass t n new (Ok count) = IsCommitted s old pass t n new count
CommitsAt s old pass t n new (Err f) = IsCommitRefused (commit_refusal s (history s old) t n) (started s (history s old) n) old new f

-- the same at a moment of the clock
abbrev pub Commits : Setup → List Entry → ℕ → ℕ → ℕ → List Entry → Result ℕ CommitFault → Type 0
Commits s old pass now n new result = CommitsAt s old pass (stamp_of old now) n new result
