-- What one event more does: five cases.
use Rattle.std.proofs.Common.{◌≡◌, ℕ, List, [], ◌∷◌, ◌++◌, cond, Bool, true, false, ◌&&◌, Option, None, Some, Ok, refl, ap, ◌∙◌, inl, inr}
use Rattle.std.specs.Prelude.{is_some, is_none}
use Rattle.std.proofs.lemmas.Bool.{cases_Bool}
use Rattle.board.specs.declared.piece.Colour.{Colour}
use Rattle.entries.specs.declared.action.Action.{Action}
use Rattle.game_clock.specs.Clocks.{clocks, is_due}
use Rattle.game_room.specs.declared.header.Header.{Header}
use Rattle.game_room.specs.declared.outcome.Outcome.{Outcome}
use Rattle.game_room.specs.declared.refusal.ActRefusal.{ActRefusal}
use Rattle.game_room.specs.declared.refusal.ActRefusal.TheVariants as refused
use Rattle.game_room.specs.Events.{Event, Deed, Acted, Ticked, act_of}
use Rattle.game_room.specs.Refusals.{own_refusal, refusal}
use Rattle.game_room.specs.Games.{Game, standing_of, standing, game, after_event, after_due, after_action, due, allowed, allowed_unless}
use Rattle.game_room.specs.Meanings.{IsDone}
use Rattle.game_room.proofs.Steps.{game-push, after_event-over, after_event-due, after_event-tick, after_event-act, after_event-refused, some_is}

-- the game was over; it was due; there was a look, or a refused action, that changed nothing; an action did its own
pub data StepCase (h : Header) (g : Game) (e : Event) : Type 0 where
  WasOver : (o : Outcome) → g.outcome ≡ Some o → after_event h g e ≡ g → StepCase h g e
  WasDue : g.outcome ≡ None → is_due (clocks h.control h.start g.clock) e.stamp ≡ true → after_event h g e ≡ after_due h g e.stamp → StepCase h g e
  Looked : g.outcome ≡ None → is_due (clocks h.control h.start g.clock) e.stamp ≡ false → e.deed ≡ Ticked → after_event h g e ≡ g → StepCase h g e
  Refused : (side : Colour) (a : Action) (r : ActRefusal) → g.outcome ≡ None → is_due (clocks h.control h.start g.clock) e.stamp ≡ false → e ≡ act_of side a e.stamp
      → own_refusal (standing_of h g) side a ≡ Some r → after_event h g e ≡ g → StepCase h g e
  Did : (side : Colour) (a : Action) → g.outcome ≡ None → is_due (clocks h.control h.start g.clock) e.stamp ≡ false → e ≡ act_of side a e.stamp
      → own_refusal (standing_of h g) side a ≡ None → after_event h g e ≡ after_action h g side a e.stamp → StepCase h g e

acted_case : (h : Header) (g : Game) (side : Colour) (a : Action) (t : ℕ) (r : Option ActRefusal) → own_refusal (standing_of h g) side a ≡ r → g.outcome ≡ None
    → is_due (clocks h.control h.start g.clock) t ≡ false → StepCase h g (act_of side a t)
acted_case h g side a t None is going due = Did side a going due refl is (after_event-act h g side a t going due is)
acted_case h g side a t (Some r) is going due = Refused side a r going due refl is (after_event-refused h g side a t r going due is)

deed_case : (h : Header) (g : Game) (d : Deed) (t : ℕ) → g.outcome ≡ None → is_due (clocks h.control h.start g.clock) t ≡ false → StepCase h g (record { stamp = t; deed = d })
deed_case h g (Acted side a) t going due = acted_case h g side a t (own_refusal (standing_of h g) side a) refl going due
deed_case h g Ticked t going due = Looked going due refl (after_event-tick h g t going due)

going_case : (h : Header) (g : Game) (e : Event) (o : Option Outcome) → g.outcome ≡ o → StepCase h g e
going_case h g e (Some o) over = WasOver o over (after_event-over h g e (some_is g.outcome o over))
going_case h g e None going =
    elim (cases_Bool (is_due (clocks h.control h.start g.clock) e.stamp))
    [ inl is ↦ WasDue going is (after_event-due h g e going is) | inr is ↦ deed_case h g e.deed e.stamp going is ]

pub step_case : (h : Header) (g : Game) (e : Event) → StepCase h g e
step_case h g e = going_case h g e g.outcome refl

-- an action that is done, in the words of the game
pub record DoesItsOwn (h : Header) (g : Game) (side : Colour) (a : Action) (t : ℕ) : Type 0 where
  pub going : g.outcome ≡ None
  pub in_time : is_due (clocks h.control h.start g.clock) t ≡ false
  pub accepted : own_refusal (standing_of h g) side a ≡ None

none_of : (r : Option ActRefusal) → allowed_unless r ≡ Ok tt → r ≡ None
none_of None h = refl
none_of (Some r) h = cc

going_on : (o : Option Outcome) (d : Bool) (own : Option ActRefusal) → cond (is_some o) (Some refused.Over) (cond d None own) ≡ None → (is_none o && d) ≡ false
    → (o ≡ None) × (d ≡ false) × (own ≡ None)
going_on (Some o) d own h e = cc
going_on None true own h e = cc
going_on None false own h e = (refl, refl, h)

pub does_its_own : (h : Header) (before : List Event) (side : Colour) (a : Action) (t : ℕ) → IsDone h before side a t → DoesItsOwn h (game h before) side a t
unfolding due allowed standing refusal standing_of
does_its_own h before side a t done =
    let three = going_on (game h before).outcome (is_due (clocks h.control h.start (game h before).clock) t) (own_refusal (standing_of h (game h before)) side a) (none_of _ done.allowed) done.in_time in
    record { going = three.0; in_time = three.1; accepted = three.2 }

pub is_done : (h : Header) (before : List Event) (side : Colour) (a : Action) (t : ℕ) → DoesItsOwn h (game h before) side a t → IsDone h before side a t
unfolding due allowed standing refusal standing_of
is_done h before side a t own = record {
  in_time = λ i. is_none (own.going i) && own.in_time i;
  allowed = ap allowed_unless ((λ i. cond (is_some (own.going i)) (Some refused.Over) (cond (own.in_time i) None (own_refusal (standing_of h (game h before)) side a))) ∙ own.accepted);
}

-- the game after an action that is done
pub game-done : (h : Header) (before : List Event) (side : Colour) (a : Action) (t : ℕ) → IsDone h before side a t
    → game h (before ++ act_of side a t ∷ []) ≡ after_action h (game h before) side a t
game-done h before side a t done =
    let own = does_its_own h before side a t done in
    game-push h before (act_of side a t) ∙ after_event-act h (game h before) side a t own.going own.in_time own.accepted
