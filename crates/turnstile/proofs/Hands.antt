-- What a pass carries outside and in its turn.
use Rattle.std.proofs.Common.{◌≡◌, ℕ, true, false, List, [], ◌∷◌, Option, Some, None, refl, sym, ap, ◌∙◌}
use Rattle.atomic_table.specs.Seated.{TableId}
use Rattle.turnstile.specs.declared.view.Stage.{Stage}
use Rattle.turnstile.specs.declared.view.Stage.TheVariants.{Idle, Waiting, Turn}
use Rattle.turnstile.specs.declared.view.Start.{Start}
use Rattle.turnstile.specs.Passes.{PassState}
use Rattle.turnstile.specs.Views.{Mine, has_turn, ticket_of, Carries}
use Rattle.turnstile.proofs.Seats.{some_is}

module _ {V : Type 0} where
  pub outside : (stage : Stage) (held : List (ℕ × Option V)) → Carries stage held → has_turn stage ≡ false → (stage ≡ Idle) × (held ≡ [])
  outside Idle held h e = (refl, h)
  outside (Waiting k) held h e = absurd h
  outside (Turn k) held h e = cc

  pub in_turn : (stage : Stage) (held : List (ℕ × Option V)) → Carries stage held → has_turn stage ≡ true → (stage ≡ Turn (ticket_of stage)) × (held ≡ (0, None) ∷ [])
  in_turn Idle held h e = cc
  in_turn (Waiting k) held h e = absurd h
  in_turn (Turn k) held h e = (refl, h)

  abbrev first_or : Option V → List (ℕ × Option V) → Option V
  first_or d [] = d
  first_or d (p ∷ ps) = p.1

  -- the value that was carried is the one that was taken out
  pub carried_is : (x y : V) (o : Option V) (held xs ys : List (ℕ × Option V)) → held ≡ (0, Some x) ∷ xs → held ≡ (0, o) ∷ ys → o ≡ Some y → x ≡ y
  carried_is x y o held xs ys a b e = some_is x y (ap (first_or o) (sym a ∙ b) ∙ e)

-- what contracts see of a pass
abbrev pub state_of : {V E F : Type 0} → (V → F) → TableId → ℕ → Start V → Mine V E F → PassState E F
state_of fixed id number start me =
    record { of = record { id = id; fixed = fixed start.value.value; passes = start.passes }; number = number; seen = me.0.seen; turns = me.0.turns; has_turn = has_turn me.0.stage }

pub same_state : {V E F : Type 0} (fixed : V → F) (id id' : TableId) (number : ℕ) (start start' : Start V) (me me' : Mine V E F) → id ≡ id' → start ≡ start' → me ≡ me' → state_of fixed id number start me ≡ state_of fixed id' number start' me'
same_state fixed id id' number start start' me me' a b c = λ i. state_of fixed (a i) number (b i) (c i)
