-- The journal of a seed and a number of players.
use Rattle.std.specs.Prelude.{ℕ, ◌+◌, ◌*◌, List, [], map, fold}
use Rattle.std.specs.List.{range_with_len}
use Rattle.entries.specs.declared.journal.Entry.{Entry}
use Rattle.entries.specs.declared.journal.Journal.{Journal}
use Rattle.entries.specs.declared.setup.Setup.{Setup}
use Rattle.arena_rules.specs.declared.command.Command.TheVariants.{Enter}
use Rattle.arena_rules.specs.Commands.{entry_of}
use Rattle.workload.specs.Drafts.{Draft, going, with_all}
use Rattle.workload.specs.Rounds.{round}
use Rattle.workload.specs.Setups.{setup_of}

-- the stamp of round number r, from 0
abbrev pub stamp_of_round : ℕ → ℕ
stamp_of_round r = (r + 1) * 100000

-- each of so many players enters at 0, in order
abbrev pub enters : ℕ → List Entry
enters players = map (λ p. entry_of 0 0 (Enter p)) (range_with_len 0 players)

-- the rounds with these numbers
unfoldable pub with_rounds : ℕ → Setup → Draft → List ℕ → Draft
with_rounds seed s d rs = fold (λ so_far r. round seed s (stamp_of_round r) so_far) d rs

-- all enter, and then there are four rounds
unfoldable pub draft : ℕ → Setup → ℕ → Draft
draft seed s players = with_rounds seed s (with_all s (going []) (enters players)) (range_with_len 0 4)

-- the entries of a seed and a number of players
unfoldable pub entries_of : ℕ → ℕ → List Entry
entries_of seed players = (draft seed (setup_of seed players) players).entries

-- their journal, of version 1
unfoldable pub journal_of : ℕ → ℕ → Journal
journal_of seed players = record { setup = setup_of seed players; version = 1; entries = entries_of seed players; starts = [] }
