-- What a room answers and for which events it stands, for every list of events.
use Rattle.std.proofs.Common.{◌≡◌, ℕ, ◌<◌, List, [], ◌∷◌, ◌++◌, cond, Bool, true, false, ◌&&◌, Option, None, Some, Ok, Err, refl, sym, ap, subst, ◌∙◌, inl, inr}
use Rattle.std.specs.Prelude.{is_some, is_none, IsNone, ◌↔◌}
use Rattle.std.proofs.lemmas.Bool.{cases_Bool}
use Rattle.board.specs.declared.piece.Colour.{Colour}
use Rattle.board.specs.declared.parts.Parts.{Parts}
use Rattle.board.specs.Start.{start_parts}
use Rattle.move_rules.specs.EnPassant.{canonical}
use Rattle.draw_rules.specs.Appearance.{Appearance, appearance_of, occurrences}
use Rattle.game_line.specs.Repetition.{times}
use Rattle.game_line.specs.Kept.{kept}
use Rattle.game_line.proofs.Lines.{position_after-nil, no_moves_are_legal}
use Rattle.game_line.proofs.Quiets.{quiet-none}
use Rattle.game_line.proofs.KeptPositions.{kept_at_the_start}
use Rattle.game_line.specs.Laws.{KeptAreEnough}
use Rattle.entries.specs.declared.action.Action.{Action}
use Rattle.game_clock.specs.Clocks.{Clocks, clocks, is_due}
use Rattle.game_room.specs.declared.header.Header.{Header}
use Rattle.game_room.specs.declared.outcome.Outcome.{Outcome}
use Rattle.game_room.specs.declared.refusal.ActRefusal.{ActRefusal}
use Rattle.game_room.specs.declared.refusal.ActRefusal.TheVariants as refused
use Rattle.game_room.specs.Events.{Event, act_of, tick_at}
use Rattle.entries.specs.Ranges.{IsAction}
use Rattle.game_room.specs.Standing.{Standing, is_game_due}
use Rattle.game_room.specs.Refusals.{own_refusal, refusal}
use Rattle.game_room.specs.Games.{Game, standing_of, standing, game, outcome, allowed, allowed_unless, due, answer, answer_with, done_with, ticked, view_of, game_view, moves}
use Rattle.game_room.specs.Laws.{CountsAll}
use Rattle.game_room.specs.Held.{Held, standing_in, IsRoomOf, StandsFor, room_after_due, room_after_action, room_after_act, room_after_tick, room_settled}
use Rattle.game_room.proofs.Steps.{game-push, after_event-over, after_event-due, after_event-tick, after_event-act, some_is}
use Rattle.game_room.proofs.Followed.{due_room, action_room}

outcome_none : (o : Option Outcome) (rest : Option ActRefusal) → cond (is_some o) (Some refused.Over) rest ≡ None → o ≡ None
outcome_none None rest h = refl
outcome_none (Some o) rest h = cc

-- an action that is not refused is one in a game that goes on
pub goes_on_unless_refused : (s : Standing) (side : Colour) (a : Action) (t : ℕ) → refusal s side a t ≡ None → s.outcome ≡ None
unfolding refusal
goes_on_unless_refused s side a t h = outcome_none s.outcome _ h

-- and if the game is not due, the action's own refusals do not hold
pub own_unless_due : (s : Standing) (side : Colour) (a : Action) (t : ℕ) → refusal s side a t ≡ None → is_due s.clocks t ≡ false → own_refusal s side a ≡ None
unfolding refusal
own_unless_due s side a t h due =
    let going : s.outcome ≡ None = outcome_none s.outcome _ h in
    sym (λ i. cond (is_some (going i)) (Some refused.Over) (cond (due i) None (own_refusal s side a))) ∙ h

moved_along : (k l : Held) (h : Header) (f g : Game) → l ≡ k → g ≡ f → IsRoomOf k h f → IsRoomOf l h g
moved_along k l h f g room same r = subst (λ x. IsRoomOf x h g) (sym room) (subst (λ x. IsRoomOf k h x) (sym same) r)

same_clocks : (k : Held) (h : Header) (g : Game) → IsRoomOf k h g → clocks h.control h.start g.clock ≡ k.clocks
unfolding standing_of
same_clocks k h g r = sym (ap (λ (s : Standing). s.clocks) r.standing)

same_outcome : (k : Held) (h : Header) (g : Game) → IsRoomOf k h g → g.outcome ≡ k.outcome
unfolding standing_of
same_outcome k h g r = sym (ap (λ (s : Standing). s.outcome) r.standing)

-- after an accepted action a room stands for the events with it
pub act_stands : (enough : KeptAreEnough) (k : Held) (h : Header) (events : List Event) (side : Colour) (a : Action) (t : ℕ)
    → StandsFor k h events → refusal (standing_in k) side a t ≡ None → IsAction a → (k.outcome ≡ None → k.position.half < 150)
    → StandsFor (room_after_act k side a t) h (events ++ act_of side a t ∷ [])
unfolding room_after_act
act_stands enough k h events side a t r accepted word room =
    let g : Game = game h events in
    let going : k.outcome ≡ None = goes_on_unless_refused (standing_in k) side a t accepted in
    let game_goes : g.outcome ≡ None = same_outcome k h g r ∙ going in
    let clock : is_due (clocks h.control h.start g.clock) t ≡ is_due k.clocks t = ap (λ c. is_due c t) (same_clocks k h g r) in
    elim (cases_Bool (is_due k.clocks t)) [
      | inl due ↦ moved_along _ _ h _ _
          (λ i. cond (due i) (room_after_due k t) (room_after_action k side a t))
          (game-push h events (act_of side a t) ∙ after_event-due h g (act_of side a t) game_goes (clock ∙ due))
          (due_room k h g t r)
      | inr due ↦ (let own : own_refusal (standing_in k) side a ≡ None = own_unless_due (standing_in k) side a t accepted due in
          moved_along _ _ h _ _
          (λ i. cond (due i) (room_after_due k t) (room_after_action k side a t))
          (game-push h events (act_of side a t) ∙ after_event-act h g side a t game_goes (clock ∙ due) (ap (λ s. own_refusal s side a) (sym r.standing) ∙ own))
          (action_room enough k h g side a t r own word due (room going)))
    ]

tick_by : (k : Held) (h : Header) (events : List Event) (t : ℕ) (o : Option Outcome) → k.outcome ≡ o → StandsFor k h events
    → StandsFor (room_after_tick k t) h (events ++ tick_at t ∷ [])
unfolding room_after_tick
tick_by k h events t (Some o) over r =
    let g : Game = game h events in
    moved_along _ _ h _ _
    (λ i. cond (is_none (over i) && is_due k.clocks t) (room_after_due k t) k)
    (game-push h events (tick_at t) ∙ after_event-over h g (tick_at t) (some_is g.outcome o (same_outcome k h g r ∙ over)))
    r
tick_by k h events t None going r =
    let g : Game = game h events in
    let game_goes : g.outcome ≡ None = same_outcome k h g r ∙ going in
    let clock : is_due (clocks h.control h.start g.clock) t ≡ is_due k.clocks t = ap (λ c. is_due c t) (same_clocks k h g r) in
    elim (cases_Bool (is_due k.clocks t)) [
      | inl due ↦ moved_along _ _ h _ _
          (λ i. cond (is_none (going i) && due i) (room_after_due k t) k)
          (game-push h events (tick_at t) ∙ after_event-due h g (tick_at t) game_goes (clock ∙ due))
          (due_room k h g t r)
      | inr due ↦ moved_along _ _ h _ _
          (λ i. cond (is_none (going i) && due i) (room_after_due k t) k)
          (game-push h events (tick_at t) ∙ after_event-tick h g t game_goes (clock ∙ due))
          r
    ]

-- after a look a room stands for the events with it
pub tick_stands : (k : Held) (h : Header) (events : List Event) (t : ℕ) → StandsFor k h events → StandsFor (room_after_tick k t) h (events ++ tick_at t ∷ [])
tick_stands k h events t r = tick_by k h events t k.outcome refl r

-- what a new room keeps
abbrev pub room_new : Header → Clocks → Held
room_new h c = record {
  header = h;
  position = start_parts;
  past = appearance_of (canonical start_parts) ∷ [];
  clocks = c;
  last = None;
  offer = None;
  white_offered = false;
  black_offered = false;
  outcome = None;
}

-- a room made of these parts is a new one
pub new_is : (h : Header) (p : Parts) (past : List Appearance) (c : Clocks) → p ≡ start_parts → past ≡ appearance_of (canonical start_parts) ∷ []
    → record (room_new h c) { position = p; past = past } ≡ room_new h c
new_is h p past c start kept_first = λ i. record (room_new h c) { position = start i; past = kept_first i }

-- a new room stands for no events
pub new_stands : (enough : KeptAreEnough) (h : Header) (c : Clocks) → c ≡ clocks h.control h.start [] → StandsFor (room_new h c) h []
unfolding game standing_of
new_stands enough h c clock =
    let past : appearance_of (canonical start_parts) ∷ [] ≡ kept [] = sym kept_at_the_start in
    let count : occurrences (appearance_of (canonical start_parts) ∷ []) ≡ times [] = ap occurrences past ∙ enough [] no_moves_are_legal in
    record {
      header = refl;
      standing = λ i. record {
        position = sym position_after-nil i;
        times = count i;
        quiet = sym quiet-none i;
        last = None;
        clocks = clock i;
        offer = None;
        white_offered = false;
        black_offered = false;
        outcome = None;
      };
      past = past;
      legal = no_moves_are_legal;
    }

-- answers of a room are those of the events
pub room_allows : (k : Held) (h : Header) (events : List Event) (side : Colour) (a : Action) (t : ℕ) (r : Option ActRefusal)
    → StandsFor k h events → r ≡ refusal (standing_in k) side a t → allowed_unless r ≡ allowed h events side a t
unfolding allowed standing
room_allows k h events side a t r room is = ap allowed_unless (is ∙ ap (λ s. refusal s side a t) room.standing)

pub room_is_due : (k : Held) (h : Header) (events : List Event) (t : ℕ) → StandsFor k h events → is_game_due (standing_in k) t ≡ due h events t
unfolding due standing
room_is_due k h events t room = ap (λ s. is_game_due s t) room.standing

pub room_shows : (k : Held) (h : Header) (events : List Event) (t : ℕ) → StandsFor k h events → view_of k.header (standing_in k) t ≡ game_view h events t
unfolding game_view standing
room_shows k h events t room = λ i. view_of (room.header i) (room.standing i) t

outcome_kept : (k : Held) (h : Header) (events : List Event) → StandsFor k h events → k.outcome ≡ outcome h events
unfolding outcome
outcome_kept k h events room = sym (same_outcome k h (game h events) room)

-- a refused action is answered its refusal
pub room_refuses : (k : Held) (h : Header) (events : List Event) (side : Colour) (a : Action) (t : ℕ) (r : ActRefusal)
    → StandsFor k h events → refusal (standing_in k) side a t ≡ Some r → Err r ≡ answer h events side a t
unfolding answer standing
room_refuses k h events side a t r room refused =
    let there : refusal (standing_of h (game h events)) side a t ≡ Some r = sym (ap (λ s. refusal s side a t) room.standing) ∙ refused in
    ap (λ q. answer_with q (done_with (outcome h (events ++ act_of side a t ∷ [])) a)) (sym there)

-- an accepted action is answered what it did
pub room_accepts : (k l : Held) (h : Header) (events : List Event) (side : Colour) (a : Action) (t : ℕ)
    → StandsFor k h events → refusal (standing_in k) side a t ≡ None → StandsFor l h (events ++ act_of side a t ∷ [])
    → Ok (done_with l.outcome a) ≡ answer h events side a t
unfolding answer standing
room_accepts k l h events side a t room accepted later =
    let there : refusal (standing_of h (game h events)) side a t ≡ None = sym (ap (λ s. refusal s side a t) room.standing) ∙ accepted in
    λ i. answer_with (sym there i) (done_with (outcome_kept l h (events ++ act_of side a t ∷ []) later i) a)

-- a look is answered the outcome with which it ends the game
pub room_ticks : (k l : Held) (h : Header) (events : List Event) (t : ℕ) → StandsFor k h events → StandsFor l h (events ++ tick_at t ∷ [])
    → cond (is_game_due (standing_in k) t) l.outcome None ≡ ticked h events t
unfolding ticked
room_ticks k l h events t room later = λ i. cond (room_is_due k h events t room i) (outcome_kept l h (events ++ tick_at t ∷ []) later i) None

no_some : (o : Option Outcome) (p : Outcome) → o ≡ Some p → IsNone o → ⊥
no_some None p e none = cc
no_some (Some o) p e none = cc

due_has_outcome : (b : Bool) (o : Option Outcome) (k : Held) (t : ℕ) → o ≡ (cond b (room_after_due k t) k).outcome → IsNone (cond b o None) ↔ (b ≡ false)
unfolding room_settled
due_has_outcome true o k t e = (λ none. absurd (no_some o _ e none), λ f. cc)
due_has_outcome false o k t e = (λ none. refl, λ f. refl)

-- a look answers none exactly where the game is not due
pub room_ticks_none : (k : Held) (h : Header) (events : List Event) (t : ℕ) → StandsFor k h events
    → IsNone (cond (is_game_due (standing_in k) t) (room_after_tick k t).outcome None) ↔ (due h events t ≡ false)
unfolding room_after_tick
room_ticks_none k h events t room =
    let same : is_game_due (standing_in k) t ≡ due h events t = room_is_due k h events t room in
    let there = due_has_outcome (is_game_due (standing_in k) t) (room_after_tick k t).outcome k t refl in
    (λ none. sym same ∙ there.0 none, λ off. there.1 (same ∙ off))

-- a room counts all positions and all quiet moves of its game
pub counts_all : (k : Held) (h : Header) (events : List Event) → StandsFor k h events → CountsAll k (moves h events)
unfolding moves standing_of
counts_all k h events room = record {
  legal = room.legal;
  position = ap (λ (s : Standing). s.position) room.standing;
  occurred = ap (λ (s : Standing). s.times) room.standing;
  half = ap (λ (s : Standing). s.quiet) room.standing;
}
