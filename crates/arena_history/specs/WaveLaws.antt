-- Laws of snapshots, plans and waves of histories.
use Rattle.std.specs.Prelude.{◌≡◌, ◌≢◌, ℕ, ◌<◌, ◌≤◌, ◌+◌, ◌+ℤ◌, ◌==◌, ◌↔◌, ◌&&◌, ◌⊎◌, true, is_some, if◌then◌else◌, List, [], ◌∷◌, ◌++◌, length, map, filter, fold, take, count_by, slice_get, Some}
use Rattle.std.specs.List.{AllByRecursion, AllPairs, Any, Contains}
use Rattle.entries.specs.declared.journal.Entry.{Entry}
use Rattle.entries.specs.declared.journal.Start.{Start}
use Rattle.entries.specs.declared.journal.What.TheVariants as what
use Rattle.entries.specs.declared.setup.Setup.{Setup}
use Rattle.pair_cost.specs.declared.candidate.Candidate.{Candidate}
use Rattle.pair_cost.specs.declared.candidate.Pair.{Pair}
use Rattle.wave.specs.Players.{IsIn}
use Rattle.arena_history.specs.History.{History}
use Rattle.arena_history.specs.Changes.{opponent_or, begins_game_of}
use Rattle.arena_history.specs.Snapshots.{last_opponent, balance_among, balance, leaves_alone, alone, candidates, wave_or, last_wave, plan}
use Rattle.arena_history.specs.Since.{waits_since}
use Rattle.arena_history.specs.Stands.{idle}
use Rattle.arena_history.specs.Waves.{start_of, started, starts_by, lefts_by, history}

-- the candidates of a snapshot are exactly the players who are idle, each once, in rank order
pub record AreCandidates (s : Setup) (h : History) : Type 0 where
  pub all : (p : ℕ) → idle s h p ≡ true → Contains (map (λ (c : Candidate). c.player) (candidates s h)) p
  pub idle : AllByRecursion (λ (c : Candidate). idle s h c.player ≡ true) (candidates s h)
  pub once : AllPairs (λ (a b : Candidate). a.player ≢ b.player) (candidates s h)
  pub ranked : AllPairs (λ (a b : Candidate). a.rank < b.rank) (candidates s h)

-- so it is with every snapshot
abbrev pub CandidatesAreIdle : Type 0
CandidatesAreIdle = (s : Setup) (h : History) → AreCandidates s h

-- every idle player stands in a pair of the plan, or is left alone by it
abbrev pub IdleArePlanned : Type 0
IdleArePlanned = (s : Setup) (h : History) (p : ℕ)
    → idle s h p ≡ true
    → Any (λ (x : Pair). IsIn x p) (plan s h).pairs ⊎ Contains (plan s h).alone p

-- the games that entry number n begins are, where it is a wave of the plan of the first m entries, exactly those of its started
-- pairs, in their order
abbrev pub WavesBeginStarted : Type 0
WavesBeginStarted = (s : Setup) (es : List Entry) (n m : ℕ) (e : Entry)
    → slice_get es n ≡ Some e
    → e.what ≡ what.Wave m
    → filter (λ (x : Start). x.entry == n) (history s es).starts ≡ map (start_of n) (started s (history s (take n es)) m)

-- a pair is started exactly where it is a pair of the plan of the first n entries, and both its players were idle after every
-- number of entries from n on
abbrev pub StartedWereIdle : Type 0
StartedWereIdle = (s : Setup) (es : List Entry) (n : ℕ) (x : Pair)
    → Contains (started s (history s es) n) x
    ↔ (Contains (plan s (history s (take n es))).pairs x
    × ((k : ℕ) → n ≤ k → k ≤ length es → (idle s (history s (take k es)) x.white ≡ true) × (idle s (history s (take k es)) x.black ≡ true)))

-- one comparison for each player tells whom a wave starts: he is idle, and since n entries or fewer
abbrev pub StartedByNumbers : Type 0
StartedByNumbers = (s : Setup) (es : List Entry) (n : ℕ)
    → n ≤ length es
    → started s (history s es) n ≡ filter (λ (x : Pair). waits_since s (history s es) n x.white && waits_since s (history s es) n x.black) (plan s (history s (take n es))).pairs

-- with one entry more a player's last opponent is whom the last of its games for him brings, and else whom he met before
abbrev pub LastOpponentWithOneMore : Type 0
LastOpponentWithOneMore = (s : Setup) (es : List Entry) (e : Entry) (p : ℕ)
    → last_opponent (history s (es ++ e ∷ [])) p ≡ fold (opponent_or p) (last_opponent (history s es) p) (starts_by s (history s es) e)

-- with one entry more the balance of its games for him comes to a player's balance
abbrev pub BalanceWithOneMore : Type 0
BalanceWithOneMore = (s : Setup) (es : List Entry) (e : Entry) (p : ℕ)
    → balance (history s (es ++ e ∷ [])) p ≡ balance (history s es) p +ℤ balance_among (starts_by s (history s es) e) p

-- with one entry more a player's count of waves that left him alone is 0 where it begins a game for him, and else one more where
-- it leaves him alone
abbrev pub AloneWithOneMore : Type 0
AloneWithOneMore = (s : Setup) (es : List Entry) (e : Entry) (p : ℕ)
    → alone (history s (es ++ e ∷ [])) p
    ≡ (if is_some (begins_game_of s (history s es) e p) then 0 else alone (history s es) p + count_by (leaves_alone p) (lefts_by s (history s es) e))

-- with one entry more the last wave is this one, if it is a wave
abbrev pub LastWaveWithOneMore : Type 0
LastWaveWithOneMore = (s : Setup) (es : List Entry) (e : Entry)
    → last_wave (history s (es ++ e ∷ [])) ≡ wave_or (last_wave (history s es)) e.stamp e.what
