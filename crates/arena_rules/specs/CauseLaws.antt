-- Laws of causes: exactly where a command, a commit and a question get which refusal.
use Rattle.std.specs.Prelude.{◌≡◌, ◌≢◌, ℕ, ◌+◌, ◌<◌, ◌≤◌, ◌↔◌, ◌⊎◌, false, [], length, Some, None}
use Rattle.entries.specs.declared.action.Action.{Action}
use Rattle.entries.specs.declared.setup.Setup.{Setup}
use Rattle.entries.specs.Limits.{max_entries, max_games}
use Rattle.arena_history.specs.Games.{Begun, begun, has_player}
use Rattle.arena_history.specs.History.{History}
use Rattle.arena_history.specs.Waves.{started}
use Rattle.arena_rules.specs.declared.command.Command.{Command}
use Rattle.arena_rules.specs.declared.command.Command.TheVariants.{Enter, Pause, Leave, Act}
use Rattle.arena_rules.specs.declared.commit_fault.CommitFault.TheVariants as fault
use Rattle.arena_rules.specs.declared.query.Query.{Query}
use Rattle.arena_rules.specs.declared.query.Query.TheVariants as query
use Rattle.arena_rules.specs.declared.refusal.Refusal.TheVariants as refusal
use Rattle.arena_rules.specs.Answers.{answer_to}
use Rattle.arena_rules.specs.Commits.{commit_refusal}
use Rattle.arena_rules.specs.Verdicts.{command_refusal, game_at, verdict}

-- a command is refused as Full exactly where it has no refusal of its own and there are 8,000,000 entries
abbrev pub FullComesLast : Type 0
FullComesLast = (s : Setup) (h : History) (t : ℕ) (c : Command)
    → (verdict s h t c ≡ Some refusal.Full) ↔ ((command_refusal s h t c ≡ None) × (max_entries ≤ length h.entries))

-- an enter, a pause and a leave are refused as Closed exactly from the arena's end on
pub record ClosedFromTheEnd : Type 0 where
  pub enter : (s : Setup) (h : History) (t p : ℕ) → (command_refusal s h t (Enter p) ≡ Some refusal.Closed) ↔ (s.ends ≤ t)
  pub pause : (s : Setup) (h : History) (t p : ℕ) → (command_refusal s h t (Pause p) ≡ Some refusal.Closed) ↔ (s.ends ≤ t)
  pub leave : (s : Setup) (h : History) (t p : ℕ) → (command_refusal s h t (Leave p) ≡ Some refusal.Closed) ↔ (s.ends ≤ t)

-- an act is refused as NoGame exactly where no more games were begun than its game's number says, and as NotYours exactly in a
-- game that the player does not play
pub record ActsNeedTheirGame : Type 0 where
  pub no_game : (s : Setup) (h : History) (t p number : ℕ) (a : Action)
      → (command_refusal s h t (Act p number a) ≡ Some refusal.NoGame) ↔ (length (begun s h) ≤ number)
  pub not_yours : (s : Setup) (h : History) (t p number : ℕ) (a : Action) (g : Begun)
      → game_at s h number ≡ Some g
      → (command_refusal s h t (Act p number a) ≡ Some refusal.NotYours) ↔ (has_player p g ≡ false)

-- a commit comes too early exactly below the first moment for games
abbrev pub EarlyMeans : Type 0
EarlyMeans = (s : Setup) (h : History) (t n : ℕ) → (commit_refusal s h t n ≡ Some fault.Early) ↔ (t < s.starts)

-- and too late exactly from the end on, where the first moment for games lies before it
abbrev pub ClosedMeans : Type 0
ClosedMeans = (s : Setup) (h : History) (t n : ℕ)
    → s.starts < s.ends
    → (commit_refusal s h t n ≡ Some fault.Closed) ↔ (s.ends ≤ t)

-- in between it is refused as Full exactly where there is a pair to start, and there are 8,000,000 entries or there would be more
-- than 200,000 games
abbrev pub FullMeans : Type 0
FullMeans = (s : Setup) (h : History) (t n : ℕ)
    → (commit_refusal s h t n ≡ Some fault.Full)
    ↔ ((s.starts ≤ t) × (t < s.ends) × (started s h n ≢ []) × ((max_entries ≤ length h.entries) ⊎ (max_games < length h.starts + length (started s h n))))

-- a question is about a game whose number no game has
abbrev pub IsOfNoGame : Setup → History → Query → Type 0
IsOfNoGame s h query.Arena = ⊥
IsOfNoGame s h (query.Standing k) = ⊥
IsOfNoGame s h query.Teams = ⊥
IsOfNoGame s h (query.Me p) = ⊥
IsOfNoGame s h (query.Game number) = length (begun s h) ≤ number
IsOfNoGame s h (query.Journal k) = ⊥

-- a question has no answer exactly where it is about a game that was not begun
abbrev pub NoAnswerMeans : Type 0
NoAnswerMeans = (s : Setup) (h : History) (t : ℕ) (q : Query)
    → (answer_to s h t q ≡ None) ↔ IsOfNoGame s h q
