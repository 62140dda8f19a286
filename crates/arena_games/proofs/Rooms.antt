-- Rooms of games that go on.
use Rattle.std.proofs.Common.{◌≡◌, ℕ, ◌≤◌, ◌<◌, List, [], ◌∷◌, ◌++◌, length, Some, false, ◌&&◌, sym, ap, subst, ◌∙◌, append-nil, arith}
use Rattle.std.specs.Prelude.{is_none}
use Rattle.game_clock.specs.Clocks.{is_due as clock_is_due}
use Rattle.game_room.specs.declared.outcome.Outcome.{Outcome}
use Rattle.game_room.specs.Events.{Event, tick_at}
use Rattle.game_room.specs.Standing.{Standing, is_game_due}
use Rattle.game_room.specs.Games.{Game, game, outcome, standing, standing_of, due, moves}
use Rattle.game_room.specs.Held as room
use Rattle.game_room.specs.Laws.{LookChangesNothing, TurnBegan, PliesAreMoves}
use Rattle.arena_games.specs.declared.kept.State.{State}
use Rattle.arena_games.specs.declared.kept.State.TheVariants.{Running, Ended}
use Rattle.arena_games.specs.Courses.{Course, IsPast, is_due, looked, outcome_of}
use Rattle.arena_games.specs.Keeps.{StateFor, is_state_due}
use Rattle.arena_games.specs.Laws.{RecordsStay, IdleLooks, DueIsKept}

stands_so : (k : room.Held) (c : Course) → room.StandsFor k c.header c.events → room.standing_in k ≡ standing c.header c.events
unfolding standing
stands_so k c r = r.standing

-- an ended game is not due
over_not_due : (s : Standing) (o : Outcome) (t : ℕ) → s.outcome ≡ Some o → is_game_due s t ≡ false
over_not_due s o t over = ap (λ x. is_none x && clock_is_due s.clocks t) over

pub ended_not_due : (c : Course) (o : Outcome) (t : ℕ) → outcome_of c ≡ Some o → is_due t c ≡ false
unfolding due standing standing_of outcome
ended_not_due c o t over = over_not_due (standing c.header c.events) o t over

due_by : (s : State) (c : Course) (t : ℕ) → StateFor s c → is_state_due t s ≡ is_due t c
unfolding due
due_by (Running k) c t r = ap (λ s. is_game_due s t) (stands_so k c r.room)
due_by (Ended e) c t r = sym (ended_not_due c e.outcome t r.outcome)

pub due_is_kept : DueIsKept
due_is_kept k c t kept = due_by k.state c t kept.state

pub same_game : LookChangesNothing → (c : Course) (t : ℕ) → is_due t c ≡ false → game c.header (c.events ++ tick_at t ∷ []) ≡ game c.header c.events
same_game looks c t idle =
    looks c.header c.events [] t idle ∙ ap (λ (es : List Event). game c.header es) (append-nil c.events)

idle_by : RecordsStay → LookChangesNothing → (s : State) (c : Course) (t : ℕ) → StateFor s c → is_due t c ≡ false → StateFor s (looked t c)
unfolding outcome
idle_by stay looks (Running k) c t r idle =
    let same = sym (same_game looks c t idle) in
    record {
      room = subst (λ (g : Game). room.IsRoomOf k c.header g) same r.room;
      goes_on = sym (ap (λ (g : Game). g.outcome) same) ∙ r.goes_on;
    }
idle_by stay looks (Ended e) c t r idle = stay e c (tick_at t) r

pub idle_looks : RecordsStay → LookChangesNothing → IdleLooks
idle_looks stay looks k c t kept idle = record { header = kept.header; state = idle_by stay looks k.state c t kept.state idle }

pub in_turn : TurnBegan → (k : room.Held) (c : Course) (t : ℕ) → room.StandsFor k c.header c.events → IsPast t c → k.clocks.since ≤ t
in_turn began k c t r past =
    subst (λ (s : Standing). s.clocks.since ≤ t) (sym (stands_so k c r)) (began c.header c.events t past.begun past.events)

pub few : PliesAreMoves → (k : room.Held) (c : Course) (n : ℕ) → room.StandsFor k c.header c.events → length c.events < n → k.clocks.moves < n
few plies k c n r short =
    let made : (standing c.header c.events).clocks.moves ≡ length (moves c.header c.events) = plies.counted c.header c.events in
    let some : length (moves c.header c.events) ≤ length c.events = plies.few c.header c.events in
    let there : (standing c.header c.events).clocks.moves < n = omega arith in
    subst (λ (s : Standing). s.clocks.moves < n) (sym (stands_so k c r)) there
