-- What the next snapshot tells of each player's games and of the waves that left him alone, and for which games and waves it
-- stands.
use Rattle.std.specs.Prelude.{◌≡◌, ℕ, ◌≤◌, ◌+◌, ℤ, pos, ◌+ℤ◌, ◌≤ℤ◌, List, [], length, slice_get, unwrap_or, Some, None, if◌then◌else◌, ◌==◌}
use Rattle.std.specs.List.{All, list_any}
use Rattle.entries.specs.declared.journal.Start.{Start}
use Rattle.entries.specs.Limits.{max_entries, max_games}
use Rattle.arena_history.specs.History.{History, LeftAlone}
use Rattle.arena_history.specs.Snapshots.{last_opponent, balance, alone}
use Rattle.arena_players.specs.declared.facts.PairingFacts.{PairingFacts}

-- a history that began these games and has these waves, with those whom they left alone
abbrev pub history_of : List Start → List LeftAlone → History
history_of starts lefts = record { entries = []; starts = starts; lefts = lefts }

-- what the next snapshot tells of p, by his games and by the waves that left him alone
abbrev pub facts_of : History → ℕ → PairingFacts
facts_of h p = record { last = last_opponent h p; balance = balance h p; alone = alone h p }

-- how many games and waves there were, and the facts of each player, by his number
pub record KeptPairings : Type 0 where
  pub begun : ℕ
  pub waves : ℕ
  pub facts : List PairingFacts

-- these games began, these are the waves with those whom they left alone, and each of n players has his facts of them
pub record StandsFor (k : KeptPairings) (n : ℕ) (starts : List Start) (lefts : List LeftAlone) : Type 0 where
  pub begun : k.begun ≡ length starts
  pub waves : k.waves ≡ length lefts
  pub size : length k.facts ≡ n
  pub facts : (p : ℕ) (f : PairingFacts) → slice_get k.facts p ≡ Some f → f ≡ facts_of (history_of starts lefts) p

-- the balance is no farther from 0 than so many games make it, and no more waves than so many left the player alone
pub record IsWithin (begun waves : ℕ) (f : PairingFacts) : Type 0 where
  pub least : pos 0 ≤ℤ (f.balance +ℤ pos begun)
  pub most : f.balance ≤ℤ pos begun
  pub alone : f.alone ≤ waves

-- so it is kept: an arena begins no more games and has no more waves, and no player has had more than there were
pub record AreKept (begun waves : ℕ) (facts : List PairingFacts) : Type 0 where
  pub few_games : begun ≤ max_games
  pub few_waves : waves ≤ max_entries
  pub within : All (IsWithin begun waves) facts

-- the facts of a player of whom nothing is known
abbrev pub no_facts : PairingFacts
no_facts = record { last = None; balance = pos 0; alone = 0 }

-- the facts of player p, and nothing known of a number that is no player's
abbrev pub facts_at : List PairingFacts → ℕ → PairingFacts
facts_at facts p = unwrap_or (slice_get facts p) no_facts

-- the facts once a game against this opponent begins, which adds so much to the balance
abbrev pub faced : ℕ → ℤ → PairingFacts → PairingFacts
faced opponent step f = record { last = Some opponent; balance = f.balance +ℤ step; alone = 0 }

-- the facts once a wave leaves the player alone
abbrev pub left : PairingFacts → PairingFacts
left f = record { last = f.last; balance = f.balance; alone = f.alone + 1 }

-- each of these players is left alone once more, and nobody else
pub record AreLeft (players : List ℕ) (old new : List PairingFacts) : Type 0 where
  pub size : length new ≡ length old
  pub each : (p : ℕ) (f : PairingFacts) → slice_get old p ≡ Some f → slice_get new p ≡ Some (if list_any (λ q. q == p) players then left f else f)
