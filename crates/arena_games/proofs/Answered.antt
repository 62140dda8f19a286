-- What is answered of one game, and what is kept of it then.
use Rattle.std.proofs.Common.{◌≡◌, ℕ, ◌≤◌, ◌<◌, List, [], ◌∷◌, ◌++◌, Option, Some, None, Result, Ok, Err, Bool, true, false, refl, sym, ap, subst, ◌∙◌}
use Rattle.std.specs.Prelude.{if◌then◌else◌}
use Rattle.std.proofs.lemmas.List.Elements.{All-push}
use Rattle.board.specs.declared.piece.Colour.{Colour}
use Rattle.entries.specs.declared.action.Action.{Action}
use Rattle.entries.specs.declared.action.Action.TheVariants as action
use Rattle.game_room.specs.declared.header.Header.{Header}
use Rattle.game_room.specs.declared.outcome.Outcome.{Outcome}
use Rattle.game_room.specs.declared.outcome.Done.{Done}
use Rattle.game_room.specs.declared.outcome.Done.TheVariants as done
use Rattle.game_room.specs.declared.refusal.ActRefusal.{ActRefusal}
use Rattle.game_room.specs.declared.refusal.ActRefusal.TheVariants as refused
use Rattle.game_room.specs.declared.view.GameView.{GameView}
use Rattle.game_room.specs.Events.{Event, act_of, tick_at}
use Rattle.game_room.specs.Games.{answer, answer_with, done_with, allowed, allowed_unless, game, outcome, ticked, due, game_view}
use Rattle.game_room.specs.Held as room
use Rattle.arena_games.specs.declared.ended.EndedGame.{EndedGame}
use Rattle.arena_games.specs.declared.kept.Kept.{Kept}
use Rattle.arena_games.specs.declared.kept.State.{State}
use Rattle.arena_games.specs.declared.kept.State.TheVariants.{Running, Ended}
use Rattle.arena_games.specs.Answers.{act_answer, unless_refused}
use Rattle.arena_games.specs.Courses.{Course, IsPast, IsShort, begun, looked, outcome_of, with_event}
use Rattle.arena_games.specs.Keeps.{EndedFor, KeptFor, RunsFor, StateFor, record_of, shown}
use Rattle.arena_games.specs.Laws.{IdleLooks, RecordsAreMade, RecordsRefuse, RecordsShow, RoomsAreInTime}
use Rattle.arena_games.proofs.Rooms.{ended_not_due}

pub running : (k : Kept) (r : room.Held) (c : Course) → k.state ≡ Running r → KeptFor k c → RunsFor r c
running k r c is kept = subst (λ (s : State). StateFor s c) is kept.state

pub ended : (k : Kept) (e : EndedGame) (c : Course) → k.state ≡ Ended e → KeptFor k c → EndedFor e c
ended k e c is kept = subst (λ (s : State). StateFor s c) is kept.state

pub past_with : (t : ℕ) (e : Event) (c : Course) → e.stamp ≤ t → IsPast t c → IsPast t (with_event e c)
past_with t e c le past = record { begun = past.begun; events = All-push (λ (x : Event). x.stamp ≤ t) c.events e past.events le }

pub in_turn : RoomsAreInTime → (k : Kept) (r : room.Held) (c : Course) (t : ℕ) → k.state ≡ Running r → KeptFor k c → IsPast t c → r.clocks.since ≤ t
in_turn rooms k r c t is kept past = rooms.in_turn r c t (running k r c is kept).room past

pub has_moves_left : RoomsAreInTime → (k : Kept) (r : room.Held) (c : Course) → k.state ≡ Running r → KeptFor k c → IsShort c → r.clocks.moves < 8000000
has_moves_left rooms k r c is kept short = rooms.few r c 8000000 (running k r c is kept).room short

pub refuses : RecordsRefuse → (k : Kept) (e : EndedGame) (c : Course) (side : Colour) (a : Action) (t : ℕ) → k.state ≡ Ended e → KeptFor k c
    → allowed c.header c.events side a t ≡ Err refused.Over
refuses refuse k e c side a t is kept = refuse e c side a t (ended k e c is kept)

pub refuses_act : RecordsRefuse → (k : Kept) (e : EndedGame) (c : Course) (side : Colour) (a : Action) (t : ℕ) → k.state ≡ Ended e → KeptFor k c
    → Err refused.Over ≡ act_answer c side a t
refuses_act refuse k e c side a t is kept =
    ap (λ (r : Result (Unit {0}) ActRefusal). unless_refused r (outcome_of (with_event (act_of side a t) c))) (sym (refuses refuse k e c side a t is kept))

-- what a room answers to an action, as the games answer it
abbrev pub told : Result Done ActRefusal → Result (Option Outcome) ActRefusal
told (Ok (done.Ended o)) = Ok (Some o)
told (Ok done.Moved) = Ok None
told (Ok done.Noted) = Ok None
told (Err r) = Err r

told_by : (q : Option ActRefusal) (o : Option Outcome) (a : Action) → told (answer_with q (done_with o a)) ≡ unless_refused (allowed_unless q) o
told_by (Some r) o a = refl
told_by None (Some o) a = refl
told_by None None (action.Move m) = refl
told_by None None action.Resign = refl
told_by None None action.Offer = refl
told_by None None action.Accept = refl
told_by None None action.Decline = refl
told_by None None action.Claim = refl
told_by None None action.Berserk = refl

pub answers : (c : Course) (side : Colour) (a : Action) (t : ℕ) → told (answer c.header c.events side a t) ≡ act_answer c side a t
unfolding answer allowed
answers c side a t = told_by _ _ a

-- the answer of the room of a game that goes on is that of the game
pub answers_so : (k : Kept) (r : room.Held) (c : Course) (side : Colour) (a : Action) (t : ℕ) (d : Result Done ActRefusal)
    → k.state ≡ Running r → KeptFor k c
    → ((h : Header) (events : List Event) → room.StandsFor r h events → d ≡ answer h events side a t) → told d ≡ act_answer c side a t
answers_so k r c side a t d is kept says = ap told (says c.header c.events (running k r c is kept).room) ∙ answers c side a t

outcome_in : (r : Result (Unit {0}) ActRefusal) (x y : Option Outcome) → Ok y ≡ unless_refused r x → x ≡ y
outcome_in (Ok done) x y e = cc
outcome_in (Err r) x y e = cc

-- the outcome with which an accepted action ends the game
pub outcome_told : (c : Course) (side : Colour) (a : Action) (t : ℕ) (o : Option Outcome) → Ok o ≡ act_answer c side a t → outcome_of (with_event (act_of side a t) c) ≡ o
outcome_told c side a t o e = outcome_in (allowed c.header c.events side a t) (outcome_of (with_event (act_of side a t) c)) o e

-- a room of a game that has ended gives its record
pub record_made : RecordsAreMade → (r : room.Held) (c : Course) (t : ℕ) (o : Outcome) (v : GameView) (e : EndedGame) → room.StandsFor r c.header c.events
    → outcome_of c ≡ Some o → ((h : Header) (events : List Event) → room.StandsFor r h events → v ≡ game_view h events t)
    → e ≡ record_of v o → EndedFor e c
record_made made r c t o v e stands over says is =
    subst (λ (x : EndedGame). EndedFor x c) (sym (is ∙ ap (λ w. record_of w o) (says c.header c.events stands))) (made c o t over)

pub shows_record : RecordsShow → (k : Kept) (e : EndedGame) (c : Course) (t : ℕ) (v : GameView) → k.state ≡ Ended e → KeptFor k c
    → v ≡ shown k.header e → v ≡ game_view c.header c.events t
shows_record show k e c t v is kept seen =
    seen ∙ (ap (λ (h : Header). shown h e) kept.header ∙ sym (show e c t (ended k e c is kept)))

-- a look at an ended game ends nothing
not_ticked : (b : Bool) (x : Option Outcome) → b ≡ false → None ≡ (if b then x else None)
not_ticked true x e = cc
not_ticked false x e = refl

pub record_not_ticked : (k : Kept) (e : EndedGame) (c : Course) (t : ℕ) → k.state ≡ Ended e → KeptFor k c → None ≡ ticked c.header c.events t
unfolding ticked
record_not_ticked k e c t is kept = not_ticked (due c.header c.events t) _ (ended_not_due c e.outcome t (ended k e c is kept).outcome)

pub record_looked : IdleLooks → (k : Kept) (e : EndedGame) (c : Course) (t : ℕ) → k.state ≡ Ended e → KeptFor k c → KeptFor k (looked t c)
record_looked idle k e c t is kept = idle k c t kept (ended_not_due c e.outcome t (ended k e c is kept).outcome)

some_ticked : (b : Bool) (x : Option Outcome) (o : Outcome) → Some o ≡ (if b then x else None) → x ≡ Some o
some_ticked true x o e = sym e
some_ticked false x o e = cc

-- the outcome with which a look ends the game
pub outcome_ticked : (c : Course) (t : ℕ) (o : Outcome) → Some o ≡ ticked c.header c.events t → outcome_of (looked t c) ≡ Some o
unfolding ticked
outcome_ticked c t o e = some_ticked (due c.header c.events t) (outcome c.header (c.events ++ tick_at t ∷ [])) o e

none_ticked_by : (b : Bool) (x : Option Outcome) → (b ≡ false → x ≡ None) → None ≡ (if b then x else None) → x ≡ None
none_ticked_by true x idle e = sym e
none_ticked_by false x idle e = idle refl

-- a look that ends nothing leaves a game that goes on
pub none_ticked : IdleLooks → (k : Kept) (r : room.Held) (c : Course) (t : ℕ) → k.state ≡ Running r → KeptFor k c → None ≡ ticked c.header c.events t
    → outcome_of (looked t c) ≡ None
unfolding ticked
none_ticked idle k r c t is kept e =
    none_ticked_by (due c.header c.events t) (outcome c.header (c.events ++ tick_at t ∷ [])) (λ off. (running k r (looked t c) is (idle k c t kept off)).goes_on) e

-- a game of which nothing has happened goes on
goes_on_at_first : (h : Header) → outcome_of (begun h) ≡ None
unfolding outcome game
goes_on_at_first h = refl

pub kept_new : (h : Header) (r : room.Held) → room.StandsFor r h [] → KeptFor (record { header = h; state = Running r }) (begun h)
kept_new h r stands = record { header = refl; state = record { room = stands; goes_on = goes_on_at_first h } }
