-- What each step changes in the view of the seat that takes it.
use Rattle.std.specs.Prelude.{◌≡◌, ◌≢◌, ℕ, ◌+◌, ◌%◌, ◌^◌, ◌<◌, List, [], ◌∷◌, ◌++◌, length, Option, Some, None, All}
use Rattle.atomic_table.specs.Table.{Step}
use Rattle.turnstile.specs.Histories.{OthersAdded}
use Rattle.turnstile.specs.Views.{Mine, ticket_of}
use Rattle.turnstile.specs.declared.view.View.{View}
use Rattle.turnstile.specs.declared.view.Role.{Role}
use Rattle.turnstile.specs.declared.view.Role.TheVariants.{Maker, Holder, Spent}
use Rattle.turnstile.specs.declared.view.Stage.TheVariants.{Idle, Waiting, Turn}

-- the history of the value that a seat carries, or what it has seen where it carries none
abbrev pub carried_history : {V E : Type 0} → (V → List E) → List E → List (ℕ × Option V) → List E
carried_history entries seen [] = seen
carried_history entries seen ((i, None) ∷ slots) = seen
carried_history entries seen ((i, Some x) ∷ slots) = entries x

module _ {V E F : Type 0} where
  -- what a seat with the view v learns of the value that its turn finds
  pub record Finds (entries : V → List E) (by : E → ℕ) (fixed : V → F) (v : View E F) (x : V) : Type 0 where
    pub history : (i : ℕ) → v.role ≡ Holder i → OthersAdded by i v.seen (entries x)
    pub fixed_is : (f : F) (n : ℕ) → v.lock ≡ Some (f, n) → fixed x ≡ f
    pub numbers : (f : F) (n : ℕ) → v.lock ≡ Some (f, n) → All (λ e. by e < n) (entries x)
    pub number : (f : F) (n i : ℕ) → v.lock ≡ Some (f, n) → v.role ≡ Holder i → i < n

  -- the seat takes a ticket, of which the word shows the last 64 bits
  abbrev pub took : Step (Option V) → Mine V E F → ℕ → Mine V E F → Type 0
  took step me found me' = (k : ℕ) × (found ≡ k % 2 ^ 64) × (me' ≡ (record me.0 { stage = Waiting k }, me.1))

  -- the seat looks which ticket is served: at its own it has the turn, the value, and has seen its whole history; else nothing changes
  abbrev pub looked : (V → List E) → (E → ℕ) → (V → F) → Step (Option V) → Mine V E F → ℕ → Mine V E F → Type 0
  looked entries by fixed step me found me' =
      (found ≡ ticket_of me.0.stage % 2 ^ 64 → (x : V) × (me' ≡ (record me.0 { stage = Turn (ticket_of me.0.stage); seen = entries x }, (0, Some x) ∷ me.1)) × Finds entries by fixed me.0 x)
      × (found ≢ ticket_of me.0.stage % 2 ^ 64 → me' ≡ me)

  -- the seat publishes the entries that it added, and has seen the whole history of the value that it carries
  abbrev pub published : (V → List E) → Step (Option V) → Mine V E F → ℕ → Mine V E F → Type 0
  published entries step me found me' = me' ≡ (record me.0 { seen = carried_history entries me.0.seen me.1 }, me.1)

  -- the seat ends its turn, notes how much it has seen, and carries the slot no more
  abbrev pub served : Step (Option V) → Mine V E F → ℕ → Mine V E F → Type 0
  served step me found me' = me' ≡ (record me.0 { stage = Idle; turns = me.0.turns ++ length me.0.seen ∷ [] }, [])

module _ {E : Type 0} where
  abbrev pub role_of_maker : Role E → Role E
  role_of_maker (Maker made joined) = Maker (made + 1) joined
  role_of_maker (Holder i) = Holder i
  role_of_maker Spent = Spent

  abbrev pub role_of_newcomer : Role E → Role E
  role_of_newcomer (Maker made joined) = Holder made
  role_of_newcomer (Holder i) = Spent
  role_of_newcomer Spent = Spent

  abbrev pub role_with : Role E → Role E → List E → Role E
  role_with (Maker made joined) (Holder i) seen = Maker made (joined ++ (i, seen) ∷ [])
  role_with role other seen = role

module _ {E F : Type 0} where
  -- the maker, once it made a pass more
  abbrev pub one_more_made : View E F → View E F
  one_more_made v = record v { role = role_of_maker v.role }

  -- the pass that it made: it has the next number, and has seen nothing
  abbrev pub newcomer : View E F → View E F
  newcomer v = record { lock = v.lock; role = role_of_newcomer v.role; stage = Idle; seen = []; turns = [] }

  -- the maker, once it took back a pass: it keeps the pass's number, and what the pass had seen
  abbrev pub with_joined : View E F → View E F → View E F
  with_joined v w = record v { role = role_with v.role w.role w.seen }

  -- a seat that was taken back
  abbrev pub spent : View E F
  spent = record { lock = None; role = Spent; stage = Idle; seen = []; turns = [] }
