-- One event more, case by case.
use Rattle.std.proofs.Common.{◌≡◌, ℕ, List, [], ◌∷◌, ◌++◌, cond, true, false, Option, None, Some, ap, ◌∙◌}
use Rattle.std.specs.Prelude.{is_some, is_none}
use Rattle.std.proofs.lemmas.List.Sums.{fold_push}
use Rattle.board.specs.declared.piece.Colour.{Colour}
use Rattle.entries.specs.declared.action.Action.{Action}
use Rattle.game_clock.specs.Clocks.{clocks, is_due}
use Rattle.game_room.specs.declared.header.Header.{Header}
use Rattle.game_room.specs.declared.refusal.ActRefusal.{ActRefusal}
use Rattle.game_room.specs.Events.{Event, act_of, tick_at}
use Rattle.game_room.specs.Refusals.{own_refusal}
use Rattle.game_room.specs.Games.{Game, standing_of, after_due, after_action, after_deed, after_event, game, new_game}

-- the game after one event more
pub game-push : (h : Header) (events : List Event) (e : Event) → game h (events ++ e ∷ []) ≡ after_event h (game h events) e
unfolding game
game-push h events e = fold_push (after_event h) new_game events e

pub some_is : {A : Type 0} (o : Option A) (x : A) → o ≡ Some x → is_some o ≡ true
some_is o x e = ap is_some e

pub none_is : {A : Type 0} (o : Option A) → o ≡ None → is_some o ≡ false
none_is o e = ap is_some e

-- an ended game stays as it is
pub after_event-over : (h : Header) (g : Game) (e : Event) → is_some g.outcome ≡ true → after_event h g e ≡ g
unfolding after_event
after_event-over h g e over = ap (λ b. cond b g (cond (is_due (clocks h.control h.start g.clock) e.stamp) (after_due h g e.stamp) (after_deed h g e.deed e.stamp))) over

-- a due game ends
pub after_event-due : (h : Header) (g : Game) (e : Event) → g.outcome ≡ None → is_due (clocks h.control h.start g.clock) e.stamp ≡ true → after_event h g e ≡ after_due h g e.stamp
unfolding after_event
after_event-due h g e going due =
    λ i. cond (none_is g.outcome going i) g (cond (due i) (after_due h g e.stamp) (after_deed h g e.deed e.stamp))

after_event-open : (h : Header) (g : Game) (e : Event) → g.outcome ≡ None → is_due (clocks h.control h.start g.clock) e.stamp ≡ false → after_event h g e ≡ after_deed h g e.deed e.stamp
unfolding after_event
after_event-open h g e going due =
    λ i. cond (none_is g.outcome going i) g (cond (due i) (after_due h g e.stamp) (after_deed h g e.deed e.stamp))

-- a look changes no other game
pub after_event-tick : (h : Header) (g : Game) (t : ℕ) → g.outcome ≡ None → is_due (clocks h.control h.start g.clock) t ≡ false → after_event h g (tick_at t) ≡ g
after_event-tick h g t going due = after_event-open h g (tick_at t) going due

-- an action that is not refused does its own
pub after_event-act : (h : Header) (g : Game) (side : Colour) (a : Action) (t : ℕ) → g.outcome ≡ None → is_due (clocks h.control h.start g.clock) t ≡ false
    → own_refusal (standing_of h g) side a ≡ None → after_event h g (act_of side a t) ≡ after_action h g side a t
after_event-act h g side a t going due accepted =
    after_event-open h g (act_of side a t) going due ∙ (λ i. cond (is_none (accepted i)) (after_action h g side a t) g)

-- a refused action does nothing
pub after_event-refused : (h : Header) (g : Game) (side : Colour) (a : Action) (t : ℕ) (r : ActRefusal) → g.outcome ≡ None → is_due (clocks h.control h.start g.clock) t ≡ false
    → own_refusal (standing_of h g) side a ≡ Some r → after_event h g (act_of side a t) ≡ g
after_event-refused h g side a t r going due refused =
    after_event-open h g (act_of side a t) going due ∙ (λ i. cond (is_none (refused i)) (after_action h g side a t) g)
