-- A list of entries that is put together one by one: it goes on until one of them is not allowed, and ends before that one.
use Rattle.std.specs.Prelude.{ℕ, Bool, true, false, ◌&&◌, is_none, List, [], ◌∷◌, ◌++◌, fold, if◌then◌else◌}
use Rattle.entries.specs.declared.journal.Entry.{Entry}
use Rattle.entries.specs.declared.journal.What.{What}
use Rattle.entries.specs.declared.journal.What.TheVariants as what
use Rattle.entries.specs.declared.setup.Setup.{Setup}
use Rattle.pair_cost.specs.declared.candidate.Pair.{Pair}
use Rattle.arena_history.specs.History.{History}
use Rattle.arena_history.specs.Waves.{started, history}
use Rattle.arena_rules.specs.declared.command.Command.TheVariants.{Enter, Pause, Leave, Act, Tick}
use Rattle.arena_rules.specs.Commits.{commit_refusal}
use Rattle.arena_rules.specs.Verdicts.{verdict}

-- the entries so far, and whether all that should stand there do
pub record Draft : Type 0 where
  pub entries : List Entry
  pub goes_on : Bool

-- there is a pair
abbrev pub some_pair : List Pair → Bool
some_pair [] = false
some_pair (pair ∷ pairs) = true

-- what an entry did is not refused at a history: its command, or the commit of its wave, which starts somebody
abbrev pub is_granted : Setup → History → ℕ → What → Bool
is_granted s h t (what.Enter p) = is_none (verdict s h t (Enter p))
is_granted s h t (what.Pause p) = is_none (verdict s h t (Pause p))
is_granted s h t (what.Leave p) = is_none (verdict s h t (Leave p))
is_granted s h t (what.Act p number a) = is_none (verdict s h t (Act p number a))
is_granted s h t what.Tick = is_none (verdict s h t Tick)
is_granted s h t (what.Wave n) = is_none (commit_refusal s h t n) && some_pair (started s h n)

-- so far it goes on with these entries
abbrev pub going : List Entry → Draft
going es = record { entries = es; goes_on = true }

-- it has ended with these entries
abbrev pub ended : List Entry → Draft
ended es = record { entries = es; goes_on = false }

-- an entry behind these, if it is allowed there
unfoldable pub behind : Setup → List Entry → Entry → Draft
behind s es e = if is_granted s (history s es) e.stamp e.what then going (es ++ e ∷ []) else ended es

-- one entry more, unless the list has ended
abbrev pub with_next : Setup → Draft → Entry → Draft
with_next s d e = if d.goes_on then behind s d.entries e else d

-- these entries more, one after another
unfoldable pub with_all : Setup → Draft → List Entry → Draft
with_all s d es = fold (with_next s) d es
