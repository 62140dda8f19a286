-- What holds of every legal list: nobody plays two games at once, each game counts once, and each wave starts whom it should.
use Rattle.std.specs.Prelude.{◌≡◌, ℕ, ◌≤◌, ◌==◌, ◌↔◌, true, if◌then◌else◌, List, ◌++◌, take, map, count_by, slice_get, Some, IsTrue, Contains}
use Rattle.std.specs.List.{AllByRecursion}
use Rattle.entries.specs.declared.journal.Entry.{Entry}
use Rattle.entries.specs.declared.journal.What.TheVariants as what
use Rattle.entries.specs.declared.setup.Setup.{Setup}
use Rattle.entries.specs.Ranges.{listed_at}
use Rattle.pair_cost.specs.declared.candidate.Pair.{Pair}
use Rattle.arena_history.specs.Counting.{ends_in_time, IsCounted}
use Rattle.arena_history.specs.Endings.{EndedGame, finished}
use Rattle.arena_history.specs.GameLaws.{IsGameOf}
use Rattle.arena_history.specs.Games.{Begun, has_player, outcome_of, running}
use Rattle.arena_history.specs.History.{History}
use Rattle.arena_history.specs.PlayerLaws.{IsPlayed}
use Rattle.arena_history.specs.Snapshots.{plan}
use Rattle.arena_history.specs.Stands.{idle}
use Rattle.arena_history.specs.Waves.{start_of, started, history}
use Rattle.arena_rules.specs.Legal.{IsLegal}

-- no player is in two running games
abbrev pub OneGameAtATime : Setup → History → Type 0
OneGameAtATime s h = (i j p : ℕ) (g k : Begun)
    → slice_get (running s h) i ≡ Some g
    → slice_get (running s h) j ≡ Some k
    → IsTrue (has_player p g)
    → IsTrue (has_player p k)
    → i ≡ j

-- each game that ended before the arena's end stands among the counted games once, and no other game does
pub record CountsEachOnce (s : Setup) (es : List Entry) : Type 0 where
  pub once : (g : Begun) → IsGameOf s es g
      → count_by (λ (x : EndedGame). x.game.header.id == g.header.id) (finished s (history s es)) ≡ (if ends_in_time s (outcome_of (history s es) g) then 1 else 0)
  pub no_other : AllByRecursion (IsCounted s (history s es)) (finished s (history s es))

-- the counted games stay where they are with their outcomes, whatever entries follow
abbrev pub CountsForGood : Setup → List Entry → Type 0
CountsForGood s es = (more : List Entry)
    → (rest : List EndedGame) × (finished s (history s (es ++ more)) ≡ finished s (history s es) ++ rest)

-- both players of a pair were idle after the first k entries
abbrev pub BothIdle : Setup → List Entry → Pair → ℕ → Type 0
BothIdle s es pair k = (idle s (history s (take k es)) pair.white ≡ true) × (idle s (history s (take k es)) pair.black ≡ true)

-- the games of entry number n, a wave of the plan of the first m entries, are those of the pairs that it started: exactly the
-- pairs of the plan whose players were both idle after every number of entries from m to n
pub record StartsStillIdle (s : Setup) (es : List Entry) (n m : ℕ) : Type 0 where
  pub games : listed_at n (history s es).starts ≡ map (start_of n) (started s (history s (take n es)) m)
  pub pairs : (x : Pair) → Contains (started s (history s (take n es)) m) x
      ↔ (Contains (plan s (history s (take m es))).pairs x × ((k : ℕ) → m ≤ k → k ≤ n → BothIdle s es x k))

-- all this holds of the list, and each running game is between two different players who both sit in it
pub record IsFair (s : Setup) (es : List Entry) : Type 0 where
  pub one_game : OneGameAtATime s (history s es)
  pub seated : AllByRecursion (IsPlayed s (history s es)) (running s (history s es))
  pub counted : CountsEachOnce s es
  pub for_good : CountsForGood s es
  pub waves : (n m : ℕ) (e : Entry) → slice_get es n ≡ Some e → e.what ≡ what.Wave m → StartsStillIdle s es n m

-- every legal list is fair in this sense; all but `waves` holds of every list, legal or not
abbrev pub LegalIsFair : Type 0
LegalIsFair = (s : Setup) (es : List Entry) → IsLegal s es → IsFair s es
