-- Which lists of entries are legal.
use Rattle.std.specs.Prelude.{◌≡◌, ◌≢◌, ℕ, ◌+◌, ◌<◌, ◌≤◌, List, [], take, length, slice_get, Some, None}
use Rattle.entries.specs.declared.journal.Entry.{Entry}
use Rattle.entries.specs.declared.journal.What.{What}
use Rattle.entries.specs.declared.journal.What.TheVariants as what
use Rattle.entries.specs.declared.setup.Setup.{Setup}
use Rattle.entries.specs.Limits.{max_stamp, max_entries, max_games}
use Rattle.arena_history.specs.History.{History}
use Rattle.arena_history.specs.Stamps.{last_stamp}
use Rattle.arena_history.specs.Waves.{started, history}
use Rattle.arena_rules.specs.declared.command.Command.{Command}
use Rattle.arena_rules.specs.declared.command.Command.TheVariants.{Enter, Pause, Leave, Act, Tick}
use Rattle.arena_rules.specs.Commands.{IsCommandOf, CanBeNamed}
use Rattle.arena_rules.specs.Verdicts.{verdict}

-- a command of one of the setup's players, whose move can be named if it makes one, and that is not refused
pub record IsGranted (s : Setup) (h : History) (t : ℕ) (c : Command) : Type 0 where
  pub in_range : IsCommandOf (length s.players) c
  pub named : CanBeNamed c
  pub not_refused : verdict s h t c ≡ None

-- a wave of the plan of the first n entries: so many entries are there, it comes in the time for games and begins a game, and
-- there is room for its entry and for its games
pub record AllowsWave (s : Setup) (h : History) (t n : ℕ) : Type 0 where
  pub known : n ≤ length h.entries
  pub opened : s.starts ≤ t
  pub before_end : t < s.ends
  pub begins : started s h n ≢ []
  pub entry_room : length h.entries < max_entries
  pub games_room : length h.starts + length (started s h n) ≤ max_games

-- what an entry of this kind must meet at a history and a stamp
abbrev pub AllowsWhat : Setup → History → ℕ → What → Type 0
AllowsWhat s h t (what.Enter p) = IsGranted s h t (Enter p)
AllowsWhat s h t (what.Pause p) = IsGranted s h t (Pause p)
AllowsWhat s h t (what.Leave p) = IsGranted s h t (Leave p)
AllowsWhat s h t (what.Act p number a) = IsGranted s h t (Act p number a)
AllowsWhat s h t what.Tick = IsGranted s h t Tick
AllowsWhat s h t (what.Wave n) = AllowsWave s h t n

-- an entry is allowed at the history before it: its stamp does not fall and has its bound, and what it did is granted
pub record Allowed (s : Setup) (h : History) (e : Entry) : Type 0 where
  pub not_before : last_stamp h.entries ≤ e.stamp
  pub stamp_most : e.stamp ≤ max_stamp
  pub granted : AllowsWhat s h e.stamp e.what

-- a list of entries is legal where each entry is allowed at the history of the entries before it
pub record IsLegal (s : Setup) (es : List Entry) : Type 0 where
  pub each : (n : ℕ) (e : Entry) → slice_get es n ≡ Some e → Allowed s (history s (take n es)) e
