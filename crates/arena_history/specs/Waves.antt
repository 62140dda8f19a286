-- What a wave begins, and with it the history of a list of entries.
use Rattle.std.specs.Prelude.{ℕ, suc, ◌-◌, ◌&&◌, Bool, List, [], ◌∷◌, ◌++◌, length, map, filter, fold}
use Rattle.std.specs.List.{list_all, range_with_len}
use Rattle.entries.specs.declared.journal.Entry.{Entry}
use Rattle.entries.specs.declared.journal.Start.{Start}
use Rattle.entries.specs.declared.journal.What.{What}
use Rattle.entries.specs.declared.journal.What.TheVariants.{Enter, Pause, Leave, Act, Tick, Wave}
use Rattle.entries.specs.declared.setup.Setup.{Setup}
use Rattle.pair_cost.specs.declared.candidate.Pair.{Pair}
use Rattle.wave.specs.declared.snapshot.Plan.{Plan}
use Rattle.arena_history.specs.History.{History, LeftAlone, nothing, first}
use Rattle.arena_history.specs.Stands.{idle}
use Rattle.arena_history.specs.Snapshots.{plan}

-- p is still idle since the first n entries: he was idle after the first k, for every k from n to the number of all
unfoldable pub still : Setup → History → ℕ → ℕ → Bool
still s h n p = list_all (λ k. idle s (first k h) p) (range_with_len n (suc (length h.entries) - n))

-- both players of a pair are still idle since the first n entries
abbrev pub both_still : Setup → History → ℕ → Pair → Bool
both_still s h n pair = still s h n pair.white && still s h n pair.black

-- the plan of the first n entries
abbrev pub plan_at : Setup → History → ℕ → Plan
plan_at s h n = plan s (first n h)

-- the pairs of the plan of the first n entries of which both players are still idle
unfoldable pub started : Setup → History → ℕ → List Pair
started s h n = filter (both_still s h n) (plan_at s h n).pairs

-- the game of a pair that entry number `entry` begins
abbrev pub start_of : ℕ → Pair → Start
start_of entry pair = record { entry = entry; white = pair.white; black = pair.black }

-- the games that an entry of this kind begins at a history: a wave those of its started pairs, any other none
abbrev pub starts_in : Setup → History → What → List Start
starts_in s h (Enter p) = []
starts_in s h (Pause p) = []
starts_in s h (Leave p) = []
starts_in s h (Act p number a) = []
starts_in s h Tick = []
starts_in s h (Wave n) = map (start_of (length h.entries)) (started s h n)

-- the games that an entry begins at a history
unfoldable pub starts_by : Setup → History → Entry → List Start
starts_by s h e = starts_in s h e.what

-- whom an entry of this kind leaves alone at a history: a wave those whom its plan leaves alone
abbrev pub lefts_in : Setup → History → What → List LeftAlone
lefts_in s h (Enter p) = []
lefts_in s h (Pause p) = []
lefts_in s h (Leave p) = []
lefts_in s h (Act p number a) = []
lefts_in s h Tick = []
lefts_in s h (Wave n) = record { entry = length h.entries; players = (plan_at s h n).alone } ∷ []

-- whom an entry leaves alone at a history
unfoldable pub lefts_by : Setup → History → Entry → List LeftAlone
lefts_by s h e = lefts_in s h e.what

-- the history with one entry more, and with what it begins and whom it leaves alone
unfoldable pub after : Setup → History → Entry → History
after s h e = record { entries = h.entries ++ e ∷ []; starts = h.starts ++ starts_by s h e; lefts = h.lefts ++ lefts_by s h e }

-- the history of a list of entries, one entry after another
unfoldable pub history : Setup → List Entry → History
history s es = fold (after s) nothing es
