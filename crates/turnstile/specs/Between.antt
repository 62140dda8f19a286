-- What holds between any two steps, in words that need no knowledge of the rule.
use Rattle.std.specs.Prelude.{◌≡◌, ℕ, ◌<◌, ◌≤◌, List, [], ◌∷◌, length, slice_index, Option, Some, All}
use mathlib.Core.Option.{some, none}
use mathlib.Core.List.{IsPrefix}
use lib.ListN.{get_elem?}
use Rattle.atomic_table.specs.Table.{State}
use Rattle.turnstile.specs.Histories.{OthersAdded}
use Rattle.turnstile.specs.Views.{IsLive}
use Rattle.turnstile.specs.declared.view.View.{View}
use Rattle.turnstile.specs.declared.view.Role.TheVariants.{Maker, Holder}
use Rattle.turnstile.specs.declared.view.Stage.TheVariants.{Turn}

module _ {V E F : Type 0} (entries : V → List E) (by : E → ℕ) (fixed : V → F) (f : F) (n : ℕ) (s : State (Option V) (View E F)) where
  -- the value x is at home, and so many passes were made
  pub record AtHome (made : ℕ) (x : V) : Type 0 where
    pub fixed_is : fixed x ≡ f
    pub count_is : slice_index s.words 2 ≡ length (entries x)
    pub numbers : All (λ e. by e < made) (entries x)
    -- each live seat has seen a beginning of the history
    pub seen : (i : ℕ) (v : View E F) → get_elem? s.views i ≡ some v → IsLive v.role → IsPrefix v.seen (entries x)
    -- every entry that bears the number of a pass stands in what that pass has seen
    pub own_seen : (i k : ℕ) (v : View E F) → get_elem? s.views i ≡ some v → v.role ≡ Holder k → OthersAdded by k v.seen (entries x)
    -- and every entry that bears a number that was taken back, in what its pass had seen
    pub own_joined : (i m : ℕ) (joined : List (ℕ × List E)) (v : View E F) → get_elem? s.views i ≡ some v → v.role ≡ Maker m joined → All (λ p. OthersAdded by p.0 p.1 (entries x)) joined

  -- a state of a lock with the fixed part f and n passes
  pub record BetweenSteps : Type 0 where
    -- ticket, serving and count, and the place of the value
    pub three_words : length s.words ≡ 3
    pub one_slot : length s.homes ≡ 1
    -- how many passes were made so far
    pub made : ℕ
    pub made_few : made ≤ n
    -- no two seats have the turn
    pub one_turn : (i j k l : ℕ) (v w : View E F) → get_elem? s.views i ≡ some v → get_elem? s.views j ≡ some w → v.stage ≡ Turn k → w.stage ≡ Turn l → i ≡ j
    -- no two seats bear one number
    pub one_number : (i j k : ℕ) (v w : View E F) → get_elem? s.views i ≡ some v → get_elem? s.views j ≡ some w → v.role ≡ Holder k → w.role ≡ Holder k → i ≡ j
    -- the number of a pass, and each that was taken back, is below the count of the passes made, which the maker's seat has
    pub number_made : (i k : ℕ) (v : View E F) → get_elem? s.views i ≡ some v → v.role ≡ Holder k → k < made
    pub made_is : (i m : ℕ) (joined : List (ℕ × List E)) (v : View E F) → get_elem? s.views i ≡ some v → v.role ≡ Maker m joined → (m ≡ made) × All (λ p. p.0 < made) joined
    -- each live seat knows what never changes: fixed part, and how many passes there are
    pub lock : (i : ℕ) (v : View E F) → get_elem? s.views i ≡ some v → IsLive v.role → v.lock ≡ Some (f, n)
    -- no value is in its place only where somebody has the turn
    pub away : s.homes ≡ none ∷ [] → (i : ℕ) × (v : View E F) × (k : ℕ) × (get_elem? s.views i ≡ some v) × (v.stage ≡ Turn k)
    -- and whatever is in its place is the value, never an emptied slot
    pub home : (o : Option V) → s.homes ≡ some o ∷ [] → (x : V) × (o ≡ Some x) × AtHome made x
