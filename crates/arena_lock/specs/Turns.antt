-- What one turn of a lobby does, and what it leaves of the pass that took it.
use Rattle.std.specs.Prelude.{◌≡◌, ◌<◌, ℕ, List, [], ◌∷◌, ◌++◌, length, All, false, IfOk, Result}
use Rattle.std.specs.declared.alloc.AllocError.{AllocError}
use Rattle.entries.specs.declared.journal.Entry.{Entry}
use Rattle.entries.specs.declared.setup.Setup.{Setup}
use Rattle.wave.specs.declared.snapshot.Snapshot.{Snapshot}
use Rattle.arena_history.specs.Snapshots.{snapshot}
use Rattle.arena_history.specs.Stamps.{stamp_of}
use Rattle.arena_history.specs.Waves.{history}
use Rattle.arena_rules.specs.declared.command.Command.{Command}
use Rattle.arena_rules.specs.declared.commit_fault.CommitFault.{CommitFault}
use Rattle.arena_rules.specs.declared.query.Answer.{Answer}
use Rattle.arena_rules.specs.declared.query.Query.{Query}
use Rattle.arena_rules.specs.declared.query.Reply.{Reply}
use Rattle.arena_rules.specs.Commits.{Commits}
use Rattle.arena_rules.specs.Legal.{IsLegal}
use Rattle.arena_core.specs.declared.fault.ApplyFault.{ApplyFault}
use Rattle.arena_core.specs.declared.fault.QueryFault.{QueryFault}
use Rattle.arena_core.specs.Answers.{Answers, Tells}
use Rattle.turnstile.specs.Histories.{OthersAdded}
use Rattle.turnstile.specs.Passes.{Lock, PassState, own_of}

-- a pass of a lobby
abbrev pub Pass : Type 0
Pass = PassState Entry Setup

-- the number of the pass that added an entry
abbrev pub pass_of : Entry → ℕ
pass_of e = e.pass

-- a pass may take a turn: it is one of the lobby's, has no turn, and has seen a legal history over the lobby's setup
abbrev pub IsReady : Lock Setup → Pass → Type 0
IsReady lobby p = (p.of ≡ lobby) × (p.has_turn ≡ false) × IsLegal lobby.fixed p.seen

-- exactly one turn of a pass, which found one history and left one
pub record Turned (old new : Pass) (found left : List Entry) : Type 0 where
  -- the history found goes on behind what the pass had seen, with no further entry of its number
  pub goes_on : OthersAdded pass_of old.number old.seen found
  -- the pass is one of the lobby's by its number
  pub number : old.number < old.of.passes
  -- each entry found bears the number of one of the lobby's passes
  pub numbers : All (λ (e : Entry). e.pass < old.of.passes) found
  -- the pass has then seen what it left, and the length of that stands behind its turns; all else of it is as before
  pub after : new ≡ record old { seen = left; turns = old.turns ++ length left ∷ [] }
  -- what the turn added is what the pass's own entries gain, and nothing else
  pub own : (added : List Entry) → left ≡ found ++ added → own_of pass_of new ≡ own_of pass_of old ++ added

-- a command in one turn: its answer, and the history left, are those at the history that the turn found
pub record Commanded (s : Setup) (old new : Pass) (now : ℕ) (c : Command) (result : Result Reply ApplyFault) : Type 0 where
  pub found : List Entry
  pub left : List Entry
  pub turn : Turned old new found left
  pub answer : Answers s found old.number now c left result

-- a question in one turn, which adds nothing: its answer is that at the history that the turn found
pub record Asked (s : Setup) (old new : Pass) (now : ℕ) (q : Query) (result : Result Answer QueryFault) : Type 0 where
  pub found : List Entry
  pub turn : Turned old new found found
  pub answer : Tells s found now q result

-- a snapshot in one turn, which adds nothing: it is that of the history that the turn found
pub record Snapped (s : Setup) (old new : Pass) (now : ℕ) (result : Result Snapshot AllocError) : Type 0 where
  pub found : List Entry
  pub turn : Turned old new found found
  pub answer : IfOk result (λ made. made ≡ snapshot s (history s found) (stamp_of found now))

-- a commit in one turn of the plan of the first n entries: what it starts, its answer, and the history left are those at the
-- history that the turn found
pub record Committed (s : Setup) (old new : Pass) (now n : ℕ) (result : Result ℕ CommitFault) : Type 0 where
  pub found : List Entry
  pub left : List Entry
  pub turn : Turned old new found left
  pub answer : Commits s found old.number now n left result
