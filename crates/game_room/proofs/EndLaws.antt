-- Which event ends a game, which moves were made, and what an outcome tells.
use Rattle.std.proofs.Common.{Ok, ◌≡◌, ℕ, List, [], ◌∷◌, ◌++◌, length, cond, Bool, true, false, ◌||◌, ◌&&◌, Option, None, Some, refl, sym, ap, subst, ◌∙◌}
use Rattle.std.specs.Prelude.{is_some, is_none, nat_le}
use Rattle.std.proofs.lemmas.List.{append-nil}
use Rattle.std.proofs.lemmas.Bool.{and_parts}
use Rattle.board.specs.declared.parts.Parts.{Parts}
use Rattle.board.specs.declared.piece.Colour.{Colour}
use Rattle.board.specs.declared.piece.Colour.TheVariants.{White, Black}
use Rattle.board.specs.Piece.{other}
use Rattle.move_rules.specs.declared.standing.State.{State}
use Rattle.move_rules.specs.declared.standing.State.TheVariants.{Going, Mate, Stalemate}
use Rattle.move_rules.specs.Standing.{state_of}
use Rattle.draw_rules.specs.Material.{dead_material, bare_king}
use Rattle.game_line.specs.Line.{position_after}
use Rattle.game_line.specs.Repetition.{times}
use Rattle.game_line.specs.Quiet.{quiet}
use Rattle.game_line.proofs.Lists.{snoc_induction}
use Rattle.entries.specs.declared.action.Action.{Action}
use Rattle.entries.specs.declared.action.Action.TheVariants as action
use Rattle.game_clock.specs.ClockEvents.{stamps, has_berserked}
use Rattle.game_clock.specs.Clocks.{Clocks, clocks, is_due, is_no_show}
use Rattle.game_room.specs.declared.header.Header.{Header}
use Rattle.game_room.specs.declared.ending.Ending.{Ending}
use Rattle.game_room.specs.declared.outcome.Cause.{Cause}
use Rattle.game_room.specs.declared.outcome.Cause.TheVariants as cause
use Rattle.game_room.specs.declared.outcome.Outcome.{Outcome}
use Rattle.game_room.specs.declared.refusal.ActRefusal.{ActRefusal}
use Rattle.game_room.specs.Events.{Event, Acted, act_of}
use Rattle.game_room.specs.Endings.{won, drawn, claim_cause, claim_ending, draw_after_move, ending_by_state, ending_after_move, due_ending, outcome_at, outcome_if_ended}
use Rattle.game_room.specs.declared.refusal.ActRefusal.TheVariants as refused
use Rattle.game_room.specs.Refusals.{own_refusal, refusal}
use Rattle.game_room.specs.Games.{Game, new_game, standing_of, standing, game, moves, outcome, due, allowed, allowed_unless, settled, moved, ending_of, after_action, after_due, after_event}
use Rattle.game_room.specs.Meanings.{IsDone, IsUnrefused, move_in, ends_by, is_by_time, EndingAt, OutcomeTells}
use Rattle.game_room.proofs.Steps.{game-push, after_event-due}
use Rattle.game_room.proofs.Splits.{place_more}
use Rattle.game_room.proofs.Stays.{ended_stays}
use Rattle.game_room.proofs.Counted.{kept_by_events, counted}
use Rattle.game_room.proofs.Cases.{StepCase, WasOver, WasDue, Looked, Refused, Did, step_case, game-done, does_its_own}

moves_after : (h : Header) (g : Game) (side : Colour) (a : Action) (t : ℕ) → (after_action h g side a t).moves ≡ g.moves ++ move_in (Acted side a)
unfolding settled moved
moves_after h g side (action.Move m) t = refl
moves_after h g side action.Resign t = sym (append-nil g.moves)
moves_after h g White action.Offer t = sym (append-nil g.moves)
moves_after h g Black action.Offer t = sym (append-nil g.moves)
moves_after h g side action.Accept t = sym (append-nil g.moves)
moves_after h g side action.Decline t = sym (append-nil g.moves)
moves_after h g side action.Claim t = sym (append-nil g.moves)
moves_after h g side action.Berserk t = sym (append-nil g.moves)

pub moves_none : (h : Header) → moves h [] ≡ []
unfolding moves game
moves_none h = refl

pub moves_done : (h : Header) (events : List Event) (side : Colour) (a : Action) (t : ℕ) → IsDone h events side a t
    → moves h (events ++ act_of side a t ∷ []) ≡ moves h events ++ move_in (act_of side a t).deed
unfolding moves
moves_done h events side a t done = ap (λ (g : Game). g.moves) (game-done h events side a t done) ∙ moves_after h (game h events) side a t

none_from : (o : Option Outcome) → is_none o ≡ true → o ≡ None
none_from None e = refl
none_from (Some o) e = cc

moves_of_due : (h : Header) (g : Game) (t : ℕ) → (after_due h g t).moves ≡ g.moves
unfolding settled
moves_of_due h g t = refl

pub moves_in_due : (h : Header) (events : List Event) (e : Event) → due h events e.stamp ≡ true → moves h (events ++ e ∷ []) ≡ moves h events
unfolding moves due standing standing_of
moves_in_due h events e on =
    let g : Game = game h events in
    let parts = and_parts (is_none g.outcome) (is_due (clocks h.control h.start g.clock) e.stamp) on in
    ap (λ (x : Game). x.moves) (game-push h events e ∙ after_event-due h g e (none_from g.outcome parts.0) parts.1) ∙ moves_of_due h g e.stamp

is_some_ended : (k : Clocks) (e : Option Ending) (t : ℕ) → is_some (outcome_if_ended k e t) ≡ is_some e
is_some_ended k None t = refl
is_some_ended k (Some e) t = refl

claim_ends : (own : Bool) (c : Option Cause) (r q : ActRefusal) → cond own (Some r) (cond (is_none c) (Some q) None) ≡ None → is_some (claim_ending c) ≡ true
claim_ends true c r q h = cc
claim_ends false None r q h = cc
claim_ends false (Some c) r q h = refl

ends_settled : (h : Header) (g : Game) (e : Option Ending) (t : ℕ) → is_some (settled h g e t).outcome ≡ is_some e
unfolding settled
ends_settled h g e t = is_some_ended (clocks h.control h.start g.clock) e t

ends_after : (h : Header) (g : Game) (side : Colour) (a : Action) (t : ℕ) → g.outcome ≡ None → own_refusal (standing_of h g) side a ≡ None
    → is_some (after_action h g side a t).outcome ≡ ends_by g.moves (Acted side a)
unfolding moved standing_of
ends_after h g side (action.Move m) t going ok = ends_settled h (moved g side m t) (ending_of (moved g side m t) side) t
ends_after h g side action.Resign t going ok = ends_settled h g _ t
ends_after h g White action.Offer t going ok = ap is_some going
ends_after h g Black action.Offer t going ok = ap is_some going
ends_after h g side action.Accept t going ok = ends_settled h g _ t
ends_after h g side action.Decline t going ok = ap is_some going
ends_after h g side action.Claim t going ok = ends_settled h g (claim_ending (claim_cause (times g.moves) (quiet g.moves))) t ∙ claim_ends _ (claim_cause (times g.moves) (quiet g.moves)) _ _ ok
ends_after h g side action.Berserk t going ok = ap is_some going

ends_due : (h : Header) (g : Game) (t : ℕ) → is_some (after_due h g t).outcome ≡ true
unfolding settled
ends_due h g t = refl

not_both : (h : Header) (g : Game) (side : Colour) (a : Action) (r : ActRefusal) → own_refusal (standing_of h g) side a ≡ Some r → own_refusal (standing_of h g) side a ≡ None → ⊥
not_both h g side a r some none = cc

not_due : (h : Header) (events : List Event) (t : ℕ) → (game h events).outcome ≡ None → is_due (clocks h.control h.start (game h events).clock) t ≡ false → due h events t ≡ false
unfolding due standing standing_of
not_due h events t none is = λ i. is_none (none i) && is i

ends_case : (h : Header) (events : List Event) (e : Event) → StepCase h (game h events) e → (game h events).outcome ≡ None → IsUnrefused h events e
    → is_some (after_event h (game h events) e).outcome ≡ ((is_none (game h events).outcome && is_due (clocks h.control h.start (game h events).clock) e.stamp) || ends_by (game h events).moves e.deed)
ends_case h events e (WasOver o over same) going ok = cc
ends_case h events e (WasDue none is same) going ok =
    ap (λ (x : Game). is_some x.outcome) same
    ∙ (ends_due h (game h events) e.stamp ∙ sym (λ i. (is_none (none i) && is i) || ends_by (game h events).moves e.deed))
ends_case h events e (Looked none is look same) going ok =
    ap (λ (x : Game). is_some x.outcome) same ∙ (ap is_some none ∙ sym (λ i. (is_none (none i) && is i) || ends_by (game h events).moves (look i)))
ends_case h events e (Refused side a r none is act refused same) going ok =
    absurd (not_both h (game h events) side a r refused ((does_its_own h events side a e.stamp (record { in_time = not_due h events e.stamp none is; allowed = ok side a (ap (λ (x : Event). x.deed) act) })).accepted))
ends_case h events e (Did side a none is act accepted same) going ok =
    ap (λ (x : Game). is_some x.outcome) same
    ∙ (ends_after h (game h events) side a e.stamp none accepted ∙ sym (λ i. (is_none (none i) && is i) || ends_by (game h events).moves (act i).deed))

pub which_event_ends : (h : Header) (events : List Event) (e : Event) → outcome h events ≡ None → IsUnrefused h events e
    → is_some (outcome h (events ++ e ∷ [])) ≡ (due h events e.stamp || ends_by (moves h events) e.deed)
unfolding outcome moves due standing standing_of
which_event_ends h events e going ok =
    ap (λ (x : Game). is_some x.outcome) (game-push h events e) ∙ ends_case h events e (step_case h (game h events) e) going ok

-- what an outcome says of the moves and the berserks is so
pub record Tells (g : Game) (o : Outcome) : Type 0 where
  pub plies : o.plies ≡ length (stamps g.clock)
  pub white_berserk : o.white_berserk ≡ has_berserked g.clock White
  pub black_berserk : o.black_berserk ≡ has_berserked g.clock Black

abbrev pub AllTold : Game → Type 0
AllTold g = (o : Outcome) → g.outcome ≡ Some o → Tells g o

outcome_is : (k : Clocks) (e : Option Ending) (t : ℕ) (o : Outcome) → outcome_if_ended k e t ≡ Some o → (o.plies ≡ k.moves) × (o.white_berserk ≡ k.white_berserk) × (o.black_berserk ≡ k.black_berserk) × (o.stamp ≡ t)
outcome_is k None t o h = cc
outcome_is k (Some e) t o h =
    let same : outcome_at k e t ≡ o = cc in
    (sym (ap (λ (x : Outcome). x.plies) same), sym (ap (λ (x : Outcome). x.white_berserk) same), sym (ap (λ (x : Outcome). x.black_berserk) same), sym (ap (λ (x : Outcome). x.stamp) same))

told_settled : (h : Header) (g : Game) (e : Option Ending) (t : ℕ) → AllTold (settled h g e t)
unfolding settled clocks
told_settled h g e t o ended =
    let four = outcome_is (clocks h.control h.start g.clock) e t o ended in
    record { plies = four.0; white_berserk = four.1; black_berserk = four.2 }

told_none : (g : Game) → g.outcome ≡ None → AllTold g
told_none g none o some = cc

told_after : (h : Header) (g : Game) (side : Colour) (a : Action) (t : ℕ) → g.outcome ≡ None → AllTold (after_action h g side a t)
told_after h g side (action.Move m) t going = told_settled h (moved g side m t) _ t
told_after h g side action.Resign t going = told_settled h g _ t
told_after h g White action.Offer t going = told_none _ going
told_after h g Black action.Offer t going = told_none _ going
told_after h g side action.Accept t going = told_settled h g _ t
told_after h g side action.Decline t going = told_none _ going
told_after h g side action.Claim t going = told_settled h g _ t
told_after h g side action.Berserk t going = told_none _ going

told_case : (h : Header) (g : Game) (e : Event) → StepCase h g e → AllTold g → AllTold (after_event h g e)
told_case h g e (WasOver o over same) f = subst AllTold (sym same) f
told_case h g e (WasDue going due same) f = subst AllTold (sym same) (told_settled h g _ e.stamp)
told_case h g e (Looked going due look same) f = subst AllTold (sym same) f
told_case h g e (Refused side a r going due act is same) f = subst AllTold (sym same) f
told_case h g e (Did side a going due act is same) f = subst AllTold (sym same) (told_after h g side a e.stamp going)

told : (h : Header) (events : List Event) → AllTold (game h events)
told h events = kept_by_events h AllTold (told_none new_game refl) (λ g e f. told_case h g e (step_case h g e) f) events

pub outcome_tells : (h : Header) (events : List Event) (o : Outcome) → outcome h events ≡ Some o → OutcomeTells h events o
unfolding outcome standing standing_of clocks
outcome_tells h events o ended =
    let all = told h events o ended in
    record { plies = all.plies ∙ counted h events; white_berserk = all.white_berserk; black_berserk = all.black_berserk }

stamp_settled : (h : Header) (g : Game) (e : Option Ending) (t : ℕ) (o : Outcome) → (settled h g e t).outcome ≡ Some o → o.stamp ≡ t
unfolding settled
stamp_settled h g e t o ended = (outcome_is (clocks h.control h.start g.clock) e t o ended).3

stamp_after : (h : Header) (g : Game) (side : Colour) (a : Action) (t : ℕ) (o : Outcome) → g.outcome ≡ None → (after_action h g side a t).outcome ≡ Some o → o.stamp ≡ t
stamp_after h g side (action.Move m) t o going ended = stamp_settled h _ _ t o ended
stamp_after h g side action.Resign t o going ended = stamp_settled h _ _ t o ended
stamp_after h g White action.Offer t o going ended = cc
stamp_after h g Black action.Offer t o going ended = cc
stamp_after h g side action.Accept t o going ended = stamp_settled h _ _ t o ended
stamp_after h g side action.Decline t o going ended = cc
stamp_after h g side action.Claim t o going ended = stamp_settled h _ _ t o ended
stamp_after h g side action.Berserk t o going ended = cc

stamp_due : (h : Header) (g : Game) (t : ℕ) (o : Outcome) → (after_due h g t).outcome ≡ Some o → o.stamp ≡ t
stamp_due h g t o ended = stamp_settled h _ _ t o ended

stamp_case : (h : Header) (g : Game) (e : Event) (o : Outcome) → StepCase h g e → g.outcome ≡ None → (after_event h g e).outcome ≡ Some o → o.stamp ≡ e.stamp
stamp_case h g e o (WasOver p over same) none ended = cc
stamp_case h g e o (WasDue going due same) none ended = stamp_due h g e.stamp o (sym (ap (λ (x : Game). x.outcome) same) ∙ ended)
stamp_case h g e o (Looked going due look same) none ended = let off = sym (ap (λ (x : Game). x.outcome) same) ∙ ended in cc
stamp_case h g e o (Refused side a r going due act is same) none ended = let off = sym (ap (λ (x : Game). x.outcome) same) ∙ ended in cc
stamp_case h g e o (Did side a going due act is same) none ended = stamp_after h g side a e.stamp o going (sym (ap (λ (x : Game). x.outcome) same) ∙ ended)

-- an ending for which no time has passed by
abbrev IsInTime : Option Ending → Type 0
IsInTime e = (x : Ending) → e ≡ Some x → is_by_time x.cause ≡ false

in_time_some : (x : Ending) → is_by_time x.cause ≡ false → IsInTime (Some x)
in_time_some x free y same =
    let is : x ≡ y = cc in
    subst (λ (z : Ending). is_by_time z.cause ≡ false) is free

in_time_none : IsInTime None
in_time_none y same = cc

in_time_if : (b : Bool) (x : Ending) (e : Option Ending) → is_by_time x.cause ≡ false → IsInTime e → IsInTime (cond b (Some x) e)
in_time_if true x e free rest = in_time_some x free
in_time_if false x e free rest = rest

in_time_draw : (p : Parts) (times quiet : ℕ) → IsInTime (draw_after_move p times quiet)
in_time_draw p times quiet =
    in_time_if (dead_material p.cells) (drawn cause.Dead) _ refl
    (in_time_if (nat_le 5 times) (drawn cause.Fivefold) _ refl
    (in_time_if (nat_le 150 quiet) (drawn cause.SeventyFive) _ refl in_time_none))

in_time_by_state : (s : State) (side : Colour) (d : Option Ending) → IsInTime d → IsInTime (ending_by_state s side d)
in_time_by_state Mate side d rest = in_time_some (won side cause.Mate) refl
in_time_by_state Stalemate side d rest = in_time_some (drawn cause.Stalemate) refl
in_time_by_state Going side d rest = rest

in_time_move : (p : Parts) (times quiet : ℕ) (side : Colour) → IsInTime (ending_after_move p times quiet side)
unfolding ending_after_move
in_time_move p times quiet side = in_time_by_state (state_of p) side (draw_after_move p times quiet) (in_time_draw p times quiet)

in_time_claim : (times quiet : ℕ) → IsInTime (claim_ending (claim_cause times quiet))
in_time_claim times quiet = claimed (nat_le 3 times) (nat_le 100 quiet) where
  claimed : (three hundred : Bool) → IsInTime (claim_ending (cond three (Some cause.Threefold) (cond hundred (Some cause.Fifty) None)))
  claimed true hundred = in_time_some (drawn cause.Threefold) refl
  claimed false true = in_time_some (drawn cause.Fifty) refl
  claimed false false = in_time_none

in_time_outcome : (k : Clocks) (e : Option Ending) (t : ℕ) (o : Outcome) → IsInTime e → outcome_if_ended k e t ≡ Some o → is_by_time o.cause ≡ false
in_time_outcome k None t o free h = cc
in_time_outcome k (Some e) t o free h =
    let same : outcome_at k e t ≡ o = cc in
    subst (λ (x : Outcome). is_by_time x.cause ≡ false) same (free e refl)

in_time_settled : (h : Header) (g : Game) (e : Option Ending) (t : ℕ) (o : Outcome) → IsInTime e → (settled h g e t).outcome ≡ Some o → is_by_time o.cause ≡ false
unfolding settled
in_time_settled h g e t o free ended = in_time_outcome (clocks h.control h.start g.clock) e t o free ended

in_time_after : (h : Header) (g : Game) (side : Colour) (a : Action) (t : ℕ) (o : Outcome) → g.outcome ≡ None → (after_action h g side a t).outcome ≡ Some o → is_by_time o.cause ≡ false
in_time_after h g side (action.Move m) t o going ended = in_time_settled h _ _ t o (in_time_move _ _ _ side) ended
in_time_after h g side action.Resign t o going ended = in_time_settled h _ _ t o (in_time_some _ refl) ended
in_time_after h g White action.Offer t o going ended = cc
in_time_after h g Black action.Offer t o going ended = cc
in_time_after h g side action.Accept t o going ended = in_time_settled h _ _ t o (in_time_some _ refl) ended
in_time_after h g side action.Decline t o going ended = cc
in_time_after h g side action.Claim t o going ended = in_time_settled h _ _ t o (in_time_claim (times g.moves) (quiet g.moves)) ended
in_time_after h g side action.Berserk t o going ended = cc

late_ending : (p : Parts) (k : Clocks) (t : ℕ) → is_by_time (due_ending p k t).cause ≡ true
unfolding due_ending
late_ending p k t = late (is_no_show k t) (bare_king p.cells (other p.turn)) where
  late : (absent bare : Bool) → is_by_time (cond absent (won (other p.turn) cause.NoShow) (cond bare (drawn cause.Flag) (won (other p.turn) cause.Flag))).cause ≡ true
  late true bare = refl
  late false true = refl
  late false false = refl

late_due : (h : Header) (g : Game) (t : ℕ) (o : Outcome) → (after_due h g t).outcome ≡ Some o → is_by_time o.cause ≡ true
unfolding settled
late_due h g t o ended =
    let p : Parts = position_after g.moves in
    let k : Clocks = clocks h.control h.start g.clock in
    let same : outcome_at k (due_ending p k t) t ≡ o = cc in
    subst (λ (x : Outcome). is_by_time x.cause ≡ true) same (late_ending p k t)

time_case : (h : Header) (g : Game) (e : Event) (o : Outcome) → StepCase h g e → g.outcome ≡ None → (after_event h g e).outcome ≡ Some o
    → is_by_time o.cause ≡ (is_none g.outcome && is_due (clocks h.control h.start g.clock) e.stamp)
time_case h g e o (WasOver p over same) none ended = cc
time_case h g e o (WasDue going due same) none ended =
    late_due h g e.stamp o (sym (ap (λ (x : Game). x.outcome) same) ∙ ended) ∙ sym (λ i. is_none (going i) && due i)
time_case h g e o (Looked going due look same) none ended = let off = sym (ap (λ (x : Game). x.outcome) same) ∙ ended in cc
time_case h g e o (Refused side a r going due act is same) none ended = let off = sym (ap (λ (x : Game). x.outcome) same) ∙ ended in cc
time_case h g e o (Did side a going due act is same) none ended =
    in_time_after h g side a e.stamp o going (sym (ap (λ (x : Game). x.outcome) same) ∙ ended) ∙ sym (λ i. is_none (going i) && due i)

by_time : (h : Header) (events : List Event) (e : Event) (o : Outcome) → outcome h events ≡ None → outcome h (events ++ e ∷ []) ≡ Some o → is_by_time o.cause ≡ due h events e.stamp
unfolding outcome due standing standing_of
by_time h events e o going ended =
    time_case h (game h events) e o (step_case h (game h events) e) going (sym (ap (λ (x : Game). x.outcome) (game-push h events e)) ∙ ended)

nothing_ends : (h : Header) (o : Outcome) → outcome h [] ≡ Some o → EndingAt h [] o
unfolding outcome game
nothing_ends h o ended = cc

same_some : (o p : Outcome) → Some o ≡ Some p → o ≡ p
same_some o p e = cc

end_by : (h : Header) (events : List Event) (e : Event) (o : Outcome) (q : Option Outcome) → outcome h events ≡ q → ((p : Outcome) → outcome h events ≡ Some p → EndingAt h events p)
    → outcome h (events ++ e ∷ []) ≡ Some o → EndingAt h (events ++ e ∷ []) o
unfolding outcome
end_by h events e o (Some p) over before ended =
    let stays = ended_stays h events (e ∷ []) p over in
    let same : p ≡ o = same_some p o (sym over ∙ (sym (ap (λ (x : Game). x.outcome) stays) ∙ ended)) in
    let found = before p over in
    record {
      before = found.before;
      event = found.event;
      after = found.after ++ e ∷ [];
      place = place_more events found.before found.after e found.event found.place;
      went_on = found.went_on;
      ended = found.ended ∙ ap Some same;
      stamp = sym (ap (λ (x : Outcome). x.stamp) same) ∙ found.stamp;
      by_time = sym (ap (λ (x : Outcome). is_by_time x.cause) same) ∙ found.by_time;
    }
end_by h events e o None going before ended = record {
  before = events;
  event = e;
  after = [];
  place = refl;
  went_on = going;
  ended = ended;
  stamp = stamp_case h (game h events) e o (step_case h (game h events) e) going (sym (ap (λ (x : Game). x.outcome) (game-push h events e)) ∙ ended);
  by_time = by_time h events e o going ended;
}

pub one_event_ends : (h : Header) (events : List Event) (o : Outcome) → outcome h events ≡ Some o → EndingAt h events o
one_event_ends h events =
    snoc_induction (λ (l : List Event). (o : Outcome) → outcome h l ≡ Some o → EndingAt h l o)
    (nothing_ends h)
    (λ xs x p o ended. end_by h xs x o (outcome h xs) refl p ended) events

-- a due game goes on, and the side to move has let its time pass by
due_parts : (h : Header) (events : List Event) (t : ℕ) → due h events t ≡ true → ((game h events).outcome ≡ None) × (is_due (clocks h.control h.start (game h events).clock) t ≡ true)
unfolding due standing standing_of
due_parts h events t on =
    let parts = and_parts (is_none (game h events).outcome) (is_due (clocks h.control h.start (game h events).clock) t) on in
    (none_from (game h events).outcome parts.0, parts.1)

pub due_allows : (h : Header) (events : List Event) (side : Colour) (a : Action) (t : ℕ) → due h events t ≡ true → allowed h events side a t ≡ Ok tt
unfolding allowed standing refusal standing_of
due_allows h events side a t on =
    let parts = due_parts h events t on in
    λ i. allowed_unless (cond (is_some (parts.0 i)) (Some refused.Over) (cond (parts.1 i) None (own_refusal (standing_of h (game h events)) side a)))

due_outcome : (h : Header) (g : Game) (t : ℕ)
    → (after_due h g t).outcome ≡ Some (outcome_at (clocks h.control h.start g.clock) (due_ending (position_after g.moves) (clocks h.control h.start g.clock) t) t)
unfolding settled
due_outcome h g t = refl

pub due_ends : (h : Header) (events : List Event) (e : Event) → due h events e.stamp ≡ true
    → outcome h (events ++ e ∷ []) ≡ Some (outcome_at (standing h events).clocks (due_ending (standing h events).position (standing h events).clocks e.stamp) e.stamp)
unfolding outcome standing standing_of
due_ends h events e on =
    let parts = due_parts h events e.stamp on in
    ap (λ (g : Game). g.outcome) (game-push h events e ∙ after_event-due h (game h events) e parts.0 parts.1) ∙ due_outcome h (game h events) e.stamp
