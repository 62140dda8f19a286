-- A game bears the stamp of the entry that ended it.
use Rattle.std.proofs.Common.{◌≡◌, ℕ, List, [], ◌∷◌, ◌++◌, Option, Some, None, Bool, true, false, refl, sym, ap, ◌∙◌}
use Rattle.std.specs.Prelude.{cond, is_none, is_some, fold, ◌==◌}
use Rattle.std.specs.List.{cons_option, AllByRecursion}
use Rattle.std.specs.Option.{option_map}
use Rattle.std.proofs.lemmas.List.{append-nil}
use Rattle.std.proofs.lemmas.List.Sums.{fold-append}
use Rattle.board.specs.declared.piece.Colour.{Colour}
use Rattle.board.specs.declared.piece.Colour.TheVariants.{White, Black}
use Rattle.entries.specs.declared.action.Action.{Action}
use Rattle.entries.specs.declared.action.Action.TheVariants as action
use Rattle.entries.specs.declared.journal.Entry.{Entry}
use Rattle.entries.specs.declared.journal.What.{What}
use Rattle.entries.specs.declared.journal.What.TheVariants as what
use Rattle.entries.specs.declared.setup.Setup.{Setup}
use Rattle.game_clock.specs.Clocks.{Clocks, clocks, is_due}
use Rattle.game_room.specs.declared.header.Header.{Header}
use Rattle.game_room.specs.declared.outcome.Outcome.{Outcome}
use Rattle.game_room.specs.Endings.{outcome_if_ended}
use Rattle.game_room.specs.Events.{Event, Deed, Acted, Ticked, act_of}
use Rattle.game_room.specs.Games as room
use Rattle.game_room.specs.Refusals.{own_refusal}
use Rattle.arena_history.specs.History.{History}
use Rattle.arena_history.specs.Games.{side_of, event_in, event_of, events, outcome_of}
use Rattle.arena_history.specs.Endings.{EndedGame, ended_by}
use Rattle.arena_history.proofs.Histories.{IsWhole}
use Rattle.arena_history.proofs.BegunGames.{events-with}
use Rattle.arena_history.proofs.Ended.{EndedNow, ended_now}
use Rattle.arena_history.proofs.Lists.{all_weaker}

-- the stamp of an outcome, or another number where there is none
stamp_or : Option Outcome → ℕ → ℕ
stamp_or None k = k
stamp_or (Some o) k = o.stamp

if_ended : (k : Clocks) (e : Option _) (t : ℕ) (o : Outcome) → outcome_if_ended k e t ≡ Some o → o.stamp ≡ t
unfolding stamp_or
if_ended k None t o is = cc
if_ended k (Some e) t o is = sym (ap (λ x. stamp_or x t) is)

settled_stamp : (h : Header) (g : room.Game) (e : Option _) (t : ℕ) (o : Outcome) → (room.settled h g e t).outcome ≡ Some o → o.stamp ≡ t
unfolding room.settled
settled_stamp h g e t o is = if_ended (clocks h.control h.start g.clock) e t o is

offered_outcome : (g : room.Game) (side : Colour) → (room.offered g side).outcome ≡ g.outcome
offered_outcome g White = refl
offered_outcome g Black = refl

action_stamp : (h : Header) (g : room.Game) (side : Colour) (a : Action) (t : ℕ) (o : Outcome) → g.outcome ≡ None → (room.after_action h g side a t).outcome ≡ Some o → o.stamp ≡ t
action_stamp h g side (action.Move m) t o none is = settled_stamp h (room.moved g side m t) (room.ending_of (room.moved g side m t) side) t o is
action_stamp h g side action.Resign t o none is = settled_stamp h g _ t o is
action_stamp h g side action.Offer t o none is = let never : None ≡ Some o = sym none ∙ (sym (offered_outcome g side) ∙ is) in cc
action_stamp h g side action.Accept t o none is = settled_stamp h g _ t o is
action_stamp h g side action.Decline t o none is = let never : None ≡ Some o = sym none ∙ is in cc
action_stamp h g side action.Claim t o none is = settled_stamp h g _ t o is
action_stamp h g side action.Berserk t o none is = let never : None ≡ Some o = sym none ∙ is in cc

deed_stamp : (h : Header) (g : room.Game) (d : Deed) (t : ℕ) (o : Outcome) → g.outcome ≡ None → (room.after_deed h g d t).outcome ≡ Some o → o.stamp ≡ t
deed_stamp h g (Acted side a) t o none is = by (is_none (own_refusal (room.standing_of h g) side a)) is
  where
    by : (b : Bool) → (cond b (room.after_action h g side a t) g).outcome ≡ Some o → o.stamp ≡ t
    by true at = action_stamp h g side a t o none at
    by false at = let never : None ≡ Some o = sym none ∙ at in cc
deed_stamp h g Ticked t o none is = let never : None ≡ Some o = sym none ∙ is in cc

-- the event that ends a game gives it its stamp
event_stamp : (h : Header) (g : room.Game) (e : Event) (o : Outcome) → g.outcome ≡ None → (room.after_event h g e).outcome ≡ Some o → o.stamp ≡ e.stamp
unfolding room.after_event
event_stamp h g e o none is = by (is_due (clocks h.control h.start g.clock) e.stamp) (ap (λ x. (cond (is_some x) g (cond (is_due (clocks h.control h.start g.clock) e.stamp) (room.after_due h g e.stamp) (room.after_deed h g e.deed e.stamp))).outcome) (sym none) ∙ is)
  where
    by : (b : Bool) → (cond b (room.after_due h g e.stamp) (room.after_deed h g e.deed e.stamp)).outcome ≡ Some o → o.stamp ≡ e.stamp
    by true at = settled_stamp h g _ e.stamp o at
    by false at = deed_stamp h g e.deed e.stamp o none at

outcome_stamp : (h : Header) (es : List Event) (x : Option Event) (o : Outcome) (t : ℕ) → ((e : Event) → x ≡ Some e → e.stamp ≡ t) → room.outcome h es ≡ None → room.outcome h (es ++ cons_option x []) ≡ Some o → o.stamp ≡ t
unfolding room.outcome room.game
outcome_stamp h es None o t at none is = let never : None ≡ Some o = sym none ∙ (ap (λ l. (fold (room.after_event h) room.new_game l).outcome) (sym (append-nil es)) ∙ is) in cc
outcome_stamp h es (Some e) o t at none is =
    event_stamp h (fold (room.after_event h) room.new_game es) e o none (ap (λ (g : room.Game). g.outcome) (sym (fold-append (room.after_event h) room.new_game es (e ∷ []))) ∙ is) ∙ at e refl

-- an entry's event bears its stamp

stamp_of_event : Option Event → ℕ → ℕ
stamp_of_event None k = k
stamp_of_event (Some e) k = e.stamp

side_stamp : (side : Option Colour) (a : Action) (t : ℕ) (x : Event) → option_map (λ c. act_of c a t) side ≡ Some x → x.stamp ≡ t
unfolding stamp_of_event
side_stamp None a t x is = cc
side_stamp (Some c) a t x is = sym (ap (λ o. stamp_of_event o t) is)

act_stamp : (b : Bool) (side : Option Colour) (a : Action) (t : ℕ) (x : Event) → cond b (option_map (λ c. act_of c a t) side) None ≡ Some x → x.stamp ≡ t
act_stamp true side a t x is = side_stamp side a t x is
act_stamp false side a t x is = cc

pub event_in_stamp : (g : Header) (t : ℕ) (w : What) (x : Event) → event_in g t w ≡ Some x → x.stamp ≡ t
unfolding stamp_of_event
event_in_stamp g t (what.Enter p) x is = cc
event_in_stamp g t (what.Pause p) x is = cc
event_in_stamp g t (what.Leave p) x is = cc
event_in_stamp g t (what.Act p number a) x is = act_stamp (number == g.id) (side_of g p) a t x is
event_in_stamp g t what.Tick x is = sym (ap (λ o. stamp_of_event o t) is)
event_in_stamp g t (what.Wave n) x is = cc

pub ended_stamp : (h : History) (e : Entry) (x : EndedGame) → EndedNow h e x → x.outcome.stamp ≡ e.stamp
unfolding outcome_of
ended_stamp h e x now =
    outcome_stamp x.game.header (events h x.game) (event_of x.game.header e) x.outcome e.stamp (λ ev at. event_in_stamp x.game.header e.stamp e.what ev at) now.ran (ap (room.outcome x.game.header) (sym (events-with h e x.game now.begun)) ∙ now.over)

-- the games that an entry ends bear its stamp
pub ended_stamps : (s : Setup) (h : History) (e : Entry) → IsWhole h → AllByRecursion (λ (x : EndedGame). x.outcome.stamp ≡ e.stamp) (ended_by s h e)
ended_stamps s h e whole = all_weaker (EndedNow h e) (λ (x : EndedGame). x.outcome.stamp ≡ e.stamp) (ended_by s h e) (ended_stamp h e) (ended_now s h e whole)
