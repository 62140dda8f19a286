-- The rule of the lock: what is true of its words, its slot and its views between any two steps.
use Rattle.std.specs.Prelude.{◌≡◌, ◌≢◌, ◌⊎◌, ℕ, ◌+◌, ◌%◌, ◌^◌, ◌<◌, ◌≤◌, List, [], ◌∷◌, length, slice_index, Option, Some, All, AllPairs, map}
use Rattle.std.specs.List.{sum_by}
use mathlib.Core.Option.{some, none}
use mathlib.Core.Option as maybe
use lib.ListN.{get_elem?}
use Rattle.atomic_table.specs.Table.{State}
use Rattle.turnstile.specs.Histories.{OthersAdded}
use Rattle.turnstile.specs.Views.{tickets, passes_of, IsHolder, IsLive}
use Rattle.turnstile.specs.declared.view.View.{View}
use Rattle.turnstile.specs.declared.view.Role.{Role}
use Rattle.turnstile.specs.declared.view.Role.TheVariants.{Maker, Holder, Spent}
use Rattle.turnstile.specs.declared.view.Stage.{Stage}
use Rattle.turnstile.specs.declared.view.Stage.TheVariants.{Idle, Waiting, Turn}

-- what came to pass so far: the history, how many tickets were taken and how many turns ended, how many passes were made, and which seat took each ticket and bears each number
pub record Past (E : Type 0) : Type 0 where
  pub history : List E
  pub taken : ℕ
  pub ended : ℕ
  pub made : ℕ
  pub taker : ℕ → ℕ
  pub bearer : ℕ → ℕ

module _ {E : Type 0} (by : E → ℕ) where
  -- a number that the maker took back, with what its pass had seen
  abbrev pub IsBack : List E → ℕ → (ℕ → ℕ) → ℕ × List E → Type 0
  IsBack history made bearer p = (p.0 < made) × (bearer p.0 ≡ 0) × OthersAdded by p.0 p.1 history

  -- no two of those that were taken back are of one number
  abbrev pub AreApart : List (ℕ × List E) → Type 0
  AreApart joined = AllPairs (λ i k. i ≢ k) (map (λ p. p.0) joined)

  -- by its role: the maker has the seat 0, counts the passes made, and took no number back twice; a pass alone bears its number, and saw all entries of it
  abbrev pub KnowsRole : List E → ℕ → (ℕ → ℕ) → ℕ → List E → Role E → Type 0
  KnowsRole history made bearer j seen (Maker m joined) = (j ≡ 0) × (m ≡ made) × (seen ≡ []) × All (IsBack history made bearer) joined × AreApart joined
  KnowsRole history made bearer j seen (Holder i) = (i < made) × (bearer i ≡ j) × (j ≢ 0) × OthersAdded by i seen history
  KnowsRole history made bearer j seen Spent = Unit {0}

module _ {E S : Type 0} where
  -- by its stage: a ticket that waits is out and not yet served; the seat with the turn has the ticket that is served and saw the whole history, and the slot is away from home
  abbrev pub KnowsStage : ℕ → ℕ → (ℕ → ℕ) → List E → List (maybe.Option S) → ℕ → Role E → List E → Stage → Type 0
  KnowsStage ended taken taker history homes j role seen Idle = Unit {0}
  KnowsStage ended taken taker history homes j role seen (Waiting k) = (ended ≤ k) × (k < taken) × (taker k ≡ j) × IsHolder role
  KnowsStage ended taken taker history homes j role seen (Turn k) = (k ≡ ended) × (k < taken) × (taker k ≡ j) × IsHolder role × (seen ≡ history) × (homes ≡ none ∷ [])

  -- what the seat j knows, of a lock with the fixed part f and n passes
  pub record Knows {F : Type 0} (by : E → ℕ) (f : F) (n : ℕ) (past : Past E) (homes : List (maybe.Option S)) (j : ℕ) (v : View E F) : Type 0 where
    pub lock : IsLive v.role → v.lock ≡ Some (f, n)
    pub role : KnowsRole by past.history past.made past.bearer j v.seen v.role
    pub stage : KnowsStage past.ended past.taken past.taker past.history homes j v.role v.seen v.stage

module _ {V E F : Type 0} where
  -- the slot is at home with the history and the fixed part, or some seat has the turn
  abbrev pub Slot : (V → List E) → (V → F) → F → List E → List (maybe.Option (Option V)) → List (View E F) → Type 0
  Slot entries fixed f history homes views =
      ((x : V) × (homes ≡ some (Some x) ∷ []) × (entries x ≡ history) × (fixed x ≡ f))
      ⊎ ((h : ℕ) × (v : View E F) × (k : ℕ) × (get_elem? views h ≡ some v) × (v.stage ≡ Turn k))

  pub record Kept (entries : V → List E) (by : E → ℕ) (fixed : V → F) (f : F) (n : ℕ) (s : State (Option V) (View E F)) : Type 0 where
    pub past : Past E
    pub three_words : length s.words ≡ 3
    pub one_slot : length s.homes ≡ 1
    -- the words show the last 64 bits of the tickets taken, of the turns ended and of the history's length
    pub ticket_word : slice_index s.words 0 ≡ past.taken % 2 ^ 64
    pub serving_word : slice_index s.words 1 ≡ past.ended % 2 ^ 64
    pub count_word : slice_index s.words 2 ≡ length past.history
    -- each ticket that was taken and whose turn has not ended is out with a seat
    pub queue : sum_by (λ v. tickets v.stage) s.views + past.ended ≡ past.taken
    -- each pass that was made is accounted for
    pub all_passes : sum_by (λ v. passes_of v.role) s.views ≡ past.made
    pub made_few : (past.made ≤ n) × (n ≤ 256)
    pub numbers : All (λ e. by e < past.made) past.history
    pub each_seat : (j : ℕ) (v : View E F) → get_elem? s.views j ≡ some v → Knows by f n past s.homes j v
    pub slot : Slot entries fixed f past.history s.homes s.views
