-- Events that change nothing: those after the end, refused actions, and looks that find nothing due.
use Rattle.std.proofs.Common.{◌≡◌, ℕ, List, [], ◌∷◌, ◌++◌, fold, cond, Bool, true, false, ◌&&◌, Option, None, Some, Err, refl, sym, ap, ◌∙◌}
use Rattle.std.specs.Prelude.{is_some, is_none}
use Rattle.std.proofs.lemmas.List.Sums.{fold-append}
use Rattle.board.specs.declared.piece.Colour.{Colour}
use Rattle.board.specs.declared.piece.Colour.TheVariants.{White, Black}
use Rattle.entries.specs.declared.action.Action.{Action}
use Rattle.game_clock.specs.Clocks.{clocks, is_due, left}
use Rattle.game_room.specs.declared.header.Header.{Header}
use Rattle.game_room.specs.declared.outcome.Outcome.{Outcome}
use Rattle.game_room.specs.declared.refusal.ActRefusal.{ActRefusal}
use Rattle.game_room.specs.declared.refusal.ActRefusal.TheVariants as refused
use Rattle.game_room.specs.Events.{Event, act_of, tick_at}
use Rattle.game_room.specs.Standing.{Standing}
use Rattle.game_room.specs.Refusals.{own_refusal, refusal}
use Rattle.game_room.specs.Games.{Game, new_game, standing_of, standing, game, after_event, due, allowed, allowed_unless, outcome, reading_stamp, view_of, game_view}
use Rattle.game_room.proofs.Steps.{after_event-over, after_event-tick, after_event-refused, some_is}

-- the game of a list goes on from that of its beginning
pub game-append : (h : Header) (events later : List Event) → game h (events ++ later) ≡ fold (after_event h) (game h events) later
unfolding game
game-append h events later = fold-append (after_event h) new_game events later

-- an event that leaves the game as it is can be left out
pub left_out : (h : Header) (events later : List Event) (e : Event) → after_event h (game h events) e ≡ game h events → game h (events ++ e ∷ later) ≡ game h (events ++ later)
left_out h events later e same =
    game-append h events (e ∷ later) ∙ (ap (λ g. fold (after_event h) g later) same ∙ sym (game-append h events later))

over_stays : (h : Header) (g : Game) (o : Outcome) (later : List Event) → g.outcome ≡ Some o → fold (after_event h) g later ≡ g
over_stays h g o [] over = refl
over_stays h g o (e ∷ later) over =
    ap (λ x. fold (after_event h) x later) (after_event-over h g e (some_is g.outcome o over)) ∙ over_stays h g o later over

pub ended_stays : (h : Header) (events later : List Event) (o : Outcome) → outcome h events ≡ Some o → game h (events ++ later) ≡ game h events
unfolding outcome
ended_stays h events later o over = game-append h events later ∙ over_stays h (game h events) o later over

-- in an ended game the clocks are read at its end
read_at_end : (h : Header) (s : Standing) (o : Outcome) (t : ℕ) → s.outcome ≡ Some o → view_of h s t ≡ view_of h s o.stamp
unfolding view_of
read_at_end h s o t over =
    let read : reading_stamp s.outcome t ≡ reading_stamp s.outcome o.stamp = ap (λ x. reading_stamp x t) over ∙ sym (ap (λ x. reading_stamp x o.stamp) over) in
    ap (λ u. record { id = h.id; white = h.white; black = h.black; position = s.position; plies = s.clocks.moves; last = s.last; offer = s.offer; white_ms = left s.clocks White u; black_ms = left s.clocks Black u; white_berserk = s.clocks.white_berserk; black_berserk = s.clocks.black_berserk; outcome = s.outcome }) read

pub ended_view_stays : (h : Header) (events later : List Event) (o : Outcome) (t : ℕ) → outcome h events ≡ Some o → game_view h (events ++ later) t ≡ game_view h events o.stamp
unfolding game_view standing standing_of outcome
ended_view_stays h events later o t over =
    ap (λ g. view_of h (standing_of h g) t) (ended_stays h events later o over) ∙ read_at_end h (standing_of h (game h events)) o t over

refused_by : (h : Header) (g : Game) (side : Colour) (a : Action) (t : ℕ) (r : ActRefusal) (o : Option Outcome) (d : Bool)
    → g.outcome ≡ o → is_due (clocks h.control h.start g.clock) t ≡ d
    → allowed_unless (cond (is_some o) (Some refused.Over) (cond d None (own_refusal (standing_of h g) side a))) ≡ Err r → after_event h g (act_of side a t) ≡ g
refused_by h g side a t r (Some o) d over due e = after_event-over h g (act_of side a t) (some_is g.outcome o over)
refused_by h g side a t r None true going due e = cc
refused_by h g side a t r None false going due e = own_by (own_refusal (standing_of h g) side a) refl e
  where
    own_by : (q : Option ActRefusal) → own_refusal (standing_of h g) side a ≡ q → allowed_unless q ≡ Err r → after_event h g (act_of side a t) ≡ g
    own_by None is f = cc
    own_by (Some q) is f = after_event-refused h g side a t q going due is

pub refused_is_no_event : (h : Header) (events later : List Event) (side : Colour) (a : Action) (t : ℕ) (r : ActRefusal) → allowed h events side a t ≡ Err r
    → game h (events ++ act_of side a t ∷ later) ≡ game h (events ++ later)
unfolding allowed standing refusal standing_of
refused_is_no_event h events later side a t r e =
    left_out h events later (act_of side a t) (refused_by h (game h events) side a t r (game h events).outcome (is_due (clocks h.control h.start (game h events).clock) t) refl refl e)

look_by : (h : Header) (g : Game) (t : ℕ) (o : Option Outcome) → g.outcome ≡ o → (is_none o && is_due (clocks h.control h.start g.clock) t) ≡ false → after_event h g (tick_at t) ≡ g
look_by h g t (Some o) over off = after_event-over h g (tick_at t) (some_is g.outcome o over)
look_by h g t None going off = after_event-tick h g t going off

pub look_changes_nothing : (h : Header) (events later : List Event) (t : ℕ) → due h events t ≡ false → game h (events ++ tick_at t ∷ later) ≡ game h (events ++ later)
unfolding due standing standing_of
look_changes_nothing h events later t off = left_out h events later (tick_at t) (look_by h (game h events) t (game h events).outcome refl off)

pub ended_refuses : (h : Header) (events : List Event) (side : Colour) (a : Action) (t : ℕ) (o : Outcome) → outcome h events ≡ Some o → allowed h events side a t ≡ Err refused.Over
unfolding outcome allowed standing refusal standing_of
ended_refuses h events side a t o over =
    ap (λ b. allowed_unless (cond b (Some refused.Over) (cond (is_due (clocks h.control h.start (game h events).clock) t) None (own_refusal (standing_of h (game h events)) side a)))) (some_is (game h events).outcome o over)
