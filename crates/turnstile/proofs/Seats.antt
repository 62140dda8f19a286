-- What is true of each seat and of the slot still is, where one seat changes its view.
use Rattle.std.proofs.Common.{◌≡◌, ◌≢◌, ℕ, ◌<◌, ◌≤◌, List, [], ◌∷◌, ◌++◌, set, Option, Some, sym, ap, ◌∙◌, subst, inl, inr, ⊎_elim, refl}
use Rattle.std.specs.Prelude.{All}
use mathlib.Core.Option.{some, none, some-injective}
use mathlib.Core.Option as maybe
use lib.ListN.{get_elem?}
use Rattle.atomic_table.proofs.Lists.{at_set, set_else, at_longer}
use Rattle.turnstile.specs.declared.view.View.{View}
use Rattle.turnstile.specs.declared.view.Role.{Role}
use Rattle.turnstile.specs.declared.view.Role.TheVariants.{Maker, Holder, Spent}
use Rattle.turnstile.specs.declared.view.Stage.{Stage}
use Rattle.turnstile.specs.declared.view.Stage.TheVariants.{Idle, Waiting, Turn}
use Rattle.turnstile.specs.Histories.{OthersAdded}
use Rattle.turnstile.specs.Rule.{IsBack, AreApart, KnowsRole, KnowsStage, Slot}
use Rattle.turnstile.specs.Views.{passes_of, IsHolder, IsLive}

pub some_is : {A : Type 0} (a b : A) → Some a ≡ Some b → a ≡ b
some_is a b e = cc

-- a fact of each element, where one element is put in another's place
pub each_set : {A : Type 0} (P : ℕ → A → Type 0) (l : List A) (id : ℕ) (w : A) → P id w → ((j : ℕ) (v : A) → j ≢ id → get_elem? l j ≡ some v → P j v) → (j : ℕ) (v : A) → get_elem? (set l id w) j ≡ some v → P j v
each_set {A} P l id w mine others j v e = ⊎_elim (λ (t : (j ≡ id) × (w ≡ v)). subst (λ (x : ℕ × A). P x.0 x.1) (λ i. (sym t.0 i, t.1 i)) mine)
    (λ (t : (j ≢ id) × (get_elem? l j ≡ some v)). others j v t.0 t.1) (at_set l id j w v e)

pub idle_no_turn : (k : ℕ) → Idle ≡ Turn k → ⊥
idle_no_turn k e = cc

pub waiting_no_turn : (j k : ℕ) → Waiting j ≡ Turn k → ⊥
waiting_no_turn j k e = cc

module _ {E : Type 0} where
  pub holder_counts_one : (role : Role E) → IsHolder role → passes_of role ≡ 1
  holder_counts_one (Maker m joined) h = absurd h
  holder_counts_one (Holder i) h = refl
  holder_counts_one Spent h = absurd h

  pub holder_lives : (role : Role E) → IsHolder role → IsLive role
  holder_lives (Maker m joined) h = absurd h
  holder_lives (Holder i) h = tt
  holder_lives Spent h = absurd h

module _ {E : Type 0} (by : E → ℕ) where
  -- what a pass of the number i knows by its role
  pub holder_knows : (history : List E) (made : ℕ) (bearer : ℕ → ℕ) (j i : ℕ) (seen : List E) (role : Role E) → role ≡ Holder i → KnowsRole by history made bearer j seen role
      → (i < made) × (bearer i ≡ j) × (j ≢ 0) × OthersAdded by i seen history
  holder_knows history made bearer j i seen role is h = subst (λ (r : Role E). KnowsRole by history made bearer j seen r) is h

  pub maker_knows : (history : List E) (made : ℕ) (bearer : ℕ → ℕ) (j m : ℕ) (joined : List (ℕ × List E)) (seen : List E) (role : Role E) → role ≡ Maker m joined → KnowsRole by history made bearer j seen role
      → (j ≡ 0) × (m ≡ made) × (seen ≡ []) × All (IsBack by history made bearer) joined × AreApart by joined
  maker_knows history made bearer j m joined seen role is h = subst (λ (r : Role E). KnowsRole by history made bearer j seen r) is h

module _ {E S : Type 0} where
  pub turn_knows : (ended taken : ℕ) (taker : ℕ → ℕ) (history : List E) (homes : List (maybe.Option S)) (j k : ℕ) (role : Role E) (seen : List E) (stage : Stage) → stage ≡ Turn k → KnowsStage ended taken taker history homes j role seen stage
      → (k ≡ ended) × (k < taken) × (taker k ≡ j) × IsHolder role × (seen ≡ history) × (homes ≡ none ∷ [])
  turn_knows ended taken taker history homes j k role seen stage is h = subst (λ (x : Stage). KnowsStage ended taken taker history homes j role seen x) is h

  pub waiting_knows : (ended taken : ℕ) (taker : ℕ → ℕ) (history : List E) (homes : List (maybe.Option S)) (j k : ℕ) (role : Role E) (seen : List E) (stage : Stage) → stage ≡ Waiting k → KnowsStage ended taken taker history homes j role seen stage
      → (ended ≤ k) × (k < taken) × (taker k ≡ j) × IsHolder role
  waiting_knows ended taken taker history homes j k role seen stage is h = subst (λ (x : Stage). KnowsStage ended taken taker history homes j role seen x) is h

module _ {V E F : Type 0} (entries : V → List E) (fixed : V → F) (f : F) where
  -- the slot, where a seat with no turn changes its view
  pub slot_stays : (history : List E) (homes : List (maybe.Option (Option V))) (views : List (View E F)) (id : ℕ) (v w : View E F) → get_elem? views id ≡ some v → ((k : ℕ) → v.stage ≡ Turn k → ⊥)
      → Slot entries fixed f history homes views → Slot entries fixed f history homes (set views id w)
  slot_stays history homes views id v w at out slot = ⊎_elim (λ x. inl x)
      (λ (t : (h : ℕ) × (u : View E F) × (k : ℕ) × (get_elem? views h ≡ some u) × (u.stage ≡ Turn k)). inr (t.0, t.1, t.2, set_else views id t.0 w (other t) ∙ t.3, t.4)) slot
    where
      other : (t : (h : ℕ) × (u : View E F) × (k : ℕ) × (get_elem? views h ≡ some u) × (u.stage ≡ Turn k)) → t.0 ≢ id
      other t e = let same : v ≡ t.1 = some-injective v t.1 (sym at ∙ (ap (λ (i : ℕ). get_elem? views i) (sym e) ∙ t.3)) in out t.2 (ap (λ (x : View E F). x.stage) same ∙ t.4)

  -- and where a seat comes to those that there are
  pub slot_longer : (history : List E) (homes : List (maybe.Option (Option V))) (views : List (View E F)) (o : View E F) → Slot entries fixed f history homes views → Slot entries fixed f history homes (views ++ o ∷ [])
  slot_longer history homes views o slot = ⊎_elim (λ x. inl x)
      (λ (t : (h : ℕ) × (u : View E F) × (k : ℕ) × (get_elem? views h ≡ some u) × (u.stage ≡ Turn k)). inr (t.0, t.1, t.2, at_longer views (o ∷ []) t.0 t.1 t.3, t.4)) slot
