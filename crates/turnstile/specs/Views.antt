-- What is read off a seat's view.
use Rattle.std.specs.Prelude.{◌≡◌, ℕ, List, [], ◌∷◌, length, Option, Some, None, Bool, true, false}
use Rattle.atomic_table.specs.Table.{Me}
use Rattle.turnstile.specs.declared.view.View.{View}
use Rattle.turnstile.specs.declared.view.Role.{Role}
use Rattle.turnstile.specs.declared.view.Role.TheVariants.{Maker, Holder, Spent}
use Rattle.turnstile.specs.declared.view.Stage.{Stage}
use Rattle.turnstile.specs.declared.view.Stage.TheVariants.{Idle, Waiting, Turn}

-- a seat, as its table knows it: its view, and the slots that it carries
abbrev pub Mine : Type 0 → Type 0 → Type 0 → Type 0
Mine V E F = Me (Option V) (View E F)

abbrev pub has_turn : Stage → Bool
has_turn Idle = false
has_turn (Waiting k) = false
has_turn (Turn k) = true

-- the ticket of a seat that has one
abbrev pub ticket_of : Stage → ℕ
ticket_of Idle = 0
ticket_of (Waiting k) = k
ticket_of (Turn k) = k

-- how many tickets a seat has
abbrev pub tickets : Stage → ℕ
tickets Idle = 0
tickets (Waiting k) = 1
tickets (Turn k) = 1

-- between two calls a pass carries the emptied slot in its turn, and else nothing
abbrev pub Carries : {V : Type 0} → Stage → List (ℕ × Option V) → Type 0
Carries Idle slots = slots ≡ []
Carries (Waiting k) slots = ⊥
Carries (Turn k) slots = slots ≡ (0, None) ∷ []

module _ {E : Type 0} where
  -- how many passes a seat accounts for: those that it took back, or itself
  abbrev pub passes_of : Role E → ℕ
  passes_of (Maker made joined) = length joined
  passes_of (Holder i) = 1
  passes_of Spent = 0

  abbrev pub IsHolder : Role E → Type 0
  IsHolder (Maker made joined) = ⊥
  IsHolder (Holder i) = Unit {0}
  IsHolder Spent = ⊥

  abbrev pub IsLive : Role E → Type 0
  IsLive (Maker made joined) = Unit {0}
  IsLive (Holder i) = Unit {0}
  IsLive Spent = ⊥

-- the view of the maker of a lock with the fixed part f and n passes, once it made m of them and took some back
abbrev pub maker_view : {E F : Type 0} → F → ℕ → ℕ → List (ℕ × List E) → View E F
maker_view f n m joined = record { lock = Some (f, n); role = Maker m joined; stage = Idle; seen = []; turns = [] }
