-- What holds after any events: the turn's beginning, the number of moves, and whose turn it is.
use Rattle.std.proofs.Common.{None, ◌≡◌, ℕ, ◌+◌, ◌≤◌, ◌%◌, List, [], ◌∷◌, ◌++◌, length, cond, eqb, Bool, true, false, refl, sym, ap, subst, ◌∙◌, arith, length-append}
use Rattle.std.specs.List.{All}
use Rattle.std.proofs.lemmas.Bool.{eqb-true, eqb-false, eq-eqb, ne_eqb}
use Rattle.std.proofs.lemmas.List.Elements.{All-head}
use Rattle.board.specs.declared.piece.Colour.{Colour}
use Rattle.board.specs.declared.piece.Colour.TheVariants.{White, Black}
use Rattle.board.specs.declared.parts.Parts.{Parts}
use Rattle.board.specs.Piece.{other}
use Rattle.board.specs.Moves.{MoveWord}
use Rattle.game_line.specs.Line.{position_after}
use Rattle.game_line.proofs.Lists.{snoc_induction, All-append_left, All-append_right}
use Rattle.game_line.proofs.Lines.{position_after-push, position_after-nil}
use Rattle.entries.specs.declared.action.Action.{Action}
use Rattle.entries.specs.declared.action.Action.TheVariants as action
use Rattle.game_clock.specs.ClockEvents.{MovedAt, stamps, turn_of, turn_start, later_moves}
use Rattle.game_clock.specs.Clocks.{clocks, is_due}
use Rattle.game_clock.specs.Banks.{given, spent}
use Rattle.game_clock.proofs.LaterMoves.{turn_start-push}
use Rattle.game_clock.proofs.MoreEvents.{stamps-move, stamps-berserk, within_after_move, within_after_berserk}
use Rattle.game_room.specs.declared.header.Header.{Header}
use Rattle.game_room.specs.Events.{Event}
use Rattle.game_room.specs.Games.{Game, new_game, standing_of, standing, game, moves, settled, moved, after_event, after_due, after_action}
use Rattle.game_room.specs.Refusals.{own_refusal}
use Rattle.game_room.proofs.Accepted.{berserk_is_early}
use Rattle.game_room.proofs.Steps.{game-push}
use Rattle.game_room.proofs.Cases.{StepCase, WasOver, WasDue, Looked, Refused, Did, step_case}

-- the stamps of the moves and their number fit the moves, and they lie in the moments up to t
record Fits (h : Header) (g : Game) : Type 0 where
  pub counted : length (stamps g.clock) ≡ length g.moves

fits_after : (h : Header) (g : Game) (side : Colour) (a : Action) (t : ℕ) → Fits h g → Fits h (after_action h g side a t)
unfolding settled moved
fits_after h g side (action.Move m) t f = record {
  counted = ap length (stamps-move g.clock t) ∙ (length-append (stamps g.clock) (t ∷ []) ∙ (ap (λ n. n + 1) f.counted ∙ sym (length-append g.moves (m ∷ []))));
}
fits_after h g side action.Resign t f = record { counted = f.counted }
fits_after h g White action.Offer t f = record { counted = f.counted }
fits_after h g Black action.Offer t f = record { counted = f.counted }
fits_after h g side action.Accept t f = record { counted = f.counted }
fits_after h g side action.Decline t f = record { counted = f.counted }
fits_after h g side action.Claim t f = record { counted = f.counted }
fits_after h g side action.Berserk t f = record { counted = ap length (stamps-berserk g.clock side) ∙ f.counted }

fits_due : (h : Header) (g : Game) (t : ℕ) → Fits h g → Fits h (after_due h g t)
unfolding settled
fits_due h g t f = record { counted = f.counted }

fits_case : (h : Header) (g : Game) (e : Event) → StepCase h g e → Fits h g → Fits h (after_event h g e)
fits_case h g e (WasOver o over same) f = subst (Fits h) (sym same) f
fits_case h g e (WasDue going due same) f = subst (Fits h) (sym same) (fits_due h g e.stamp f)
fits_case h g e (Looked going due look same) f = subst (Fits h) (sym same) f
fits_case h g e (Refused side a r going due act is same) f = subst (Fits h) (sym same) f
fits_case h g e (Did side a going due act is same) f = subst (Fits h) (sym same) (fits_after h g side a e.stamp f)

fits_new : (h : Header) → Fits h new_game
unfolding stamps
fits_new h = record { counted = refl }

-- a fact of the new game that every event keeps holds after any events
pub kept_by_events : (h : Header) (P : Game → Type 0) → P new_game → ((g : Game) (e : Event) → P g → P (after_event h g e)) → (events : List Event) → P (game h events)
unfolding game
kept_by_events h P first step events =
    snoc_induction (λ (l : List Event). P (game h l)) first
    (λ xs x p. subst P (sym (game-push h xs x)) (step (game h xs) x p)) events

pub counted : (h : Header) (events : List Event) → (standing h events).clocks.moves ≡ length (moves h events)
unfolding standing standing_of moves clocks
counted h events = (kept_by_events h (Fits h) (fits_new h) (λ g e f. fits_case h g e (step_case h g e) f) events).counted

next_turn : (a b : Bool) → (a ≡ true → b ≡ false) → (a ≡ false → b ≡ true) → cond b White Black ≡ other (cond a White Black)
next_turn true b even odd = ap (λ (x : Bool). cond x White Black) (even refl)
next_turn false b even odd = ap (λ (x : Bool). cond x White Black) (odd refl)

-- the turns alternate
pub turn_of-next : (n : ℕ) → turn_of (n + 1) ≡ other (turn_of n)
unfolding turn_of
turn_of-next n =
    next_turn (eqb (n % 2) 0) (eqb ((n + 1) % 2) 0)
    (λ e. let even : n % 2 ≡ 0 = eqb-true (n % 2) 0 e in ne_eqb ((n + 1) % 2) 0 (λ z. omega arith))
    (λ e. let odd : n % 2 ≡ 0 → ⊥ = eqb-false (n % 2) 0 e in eq-eqb ((n + 1) % 2) 0 (omega arith))

-- the side to move on the board is the one whose turn the number of moves says
record HasTurn (h : Header) (g : Game) : Type 0 where
  pub turn : (position_after g.moves).turn ≡ turn_of (length g.moves)

turn_moved : (ms : List MoveWord) (m : MoveWord) → (position_after ms).turn ≡ turn_of (length ms) → (position_after (ms ++ m ∷ [])).turn ≡ turn_of (length (ms ++ m ∷ []))
turn_moved ms m t =
    ap (λ (p : Parts). p.turn) (position_after-push ms m)
    ∙ (ap other t ∙ (sym (turn_of-next (length ms)) ∙ ap turn_of (sym (length-append ms (m ∷ [])))))

turn_after : (h : Header) (g : Game) (side : Colour) (a : Action) (t : ℕ) → HasTurn h g → HasTurn h (after_action h g side a t)
unfolding settled moved
turn_after h g side (action.Move m) t f = record { turn = turn_moved g.moves m f.turn }
turn_after h g side action.Resign t f = record { turn = f.turn }
turn_after h g White action.Offer t f = record { turn = f.turn }
turn_after h g Black action.Offer t f = record { turn = f.turn }
turn_after h g side action.Accept t f = record { turn = f.turn }
turn_after h g side action.Decline t f = record { turn = f.turn }
turn_after h g side action.Claim t f = record { turn = f.turn }
turn_after h g side action.Berserk t f = record { turn = f.turn }

turn_due : (h : Header) (g : Game) (t : ℕ) → HasTurn h g → HasTurn h (after_due h g t)
unfolding settled
turn_due h g t f = record { turn = f.turn }

turn_case : (h : Header) (g : Game) (e : Event) → StepCase h g e → HasTurn h g → HasTurn h (after_event h g e)
turn_case h g e (WasOver o over same) f = subst (HasTurn h) (sym same) f
turn_case h g e (WasDue going due same) f = subst (HasTurn h) (sym same) (turn_due h g e.stamp f)
turn_case h g e (Looked going due look same) f = subst (HasTurn h) (sym same) f
turn_case h g e (Refused side a r going due act is same) f = subst (HasTurn h) (sym same) f
turn_case h g e (Did side a going due act is same) f = subst (HasTurn h) (sym same) (turn_after h g side a e.stamp f)

white_begins : turn_of 0 ≡ White
unfolding turn_of
white_begins = refl

pub one_turn : (h : Header) (events : List Event) → (standing h events).position.turn ≡ turn_of (length (moves h events))
unfolding standing standing_of moves
one_turn h events =
    (kept_by_events h (HasTurn h) (record { turn = ap (λ (p : Parts). p.turn) position_after-nil ∙ sym white_begins }) (λ g e f. turn_case h g e (step_case h g e) f) events).turn

-- the turn began at such a moment, and there are at most n moves
record Bounded (h : Header) (Such : ℕ → Type 0) (n : ℕ) (g : Game) : Type 0 where
  pub since : Such (turn_start h.start (stamps g.clock))
  pub few : length g.moves ≤ n

since_moved : (h : Header) (Such : ℕ → Type 0) (g : Game) (s : ℕ) → Such s → Such (turn_start h.start (stamps (g.clock ++ MovedAt s ∷ [])))
since_moved h Such g s le = subst Such (sym (ap (turn_start h.start) (stamps-move g.clock s) ∙ turn_start-push h.start (stamps g.clock) s)) le

bounded_after : (h : Header) (g : Game) (side : Colour) (a : Action) (Such : ℕ → Type 0) (n s : ℕ) → Such s → Bounded h Such n g → Bounded h Such (n + 1) (after_action h g side a s)
unfolding settled moved
bounded_after h g side (action.Move m) Such n s le f = let few = f.few in record { since = since_moved h Such g s le; few = omega (arith, length-append g.moves (m ∷ [])) }
bounded_after h g side action.Resign Such n s le f = let few = f.few in record { since = f.since; few = omega arith }
bounded_after h g White action.Offer Such n s le f = let few = f.few in record { since = f.since; few = omega arith }
bounded_after h g Black action.Offer Such n s le f = let few = f.few in record { since = f.since; few = omega arith }
bounded_after h g side action.Accept Such n s le f = let few = f.few in record { since = f.since; few = omega arith }
bounded_after h g side action.Decline Such n s le f = let few = f.few in record { since = f.since; few = omega arith }
bounded_after h g side action.Claim Such n s le f = let few = f.few in record { since = f.since; few = omega arith }
bounded_after h g side action.Berserk Such n s le f = let few = f.few in record { since = subst (λ l. Such (turn_start h.start l)) (sym (stamps-berserk g.clock side)) f.since; few = omega arith }

bounded_due : (h : Header) (g : Game) (Such : ℕ → Type 0) (n s : ℕ) → Bounded h Such n g → Bounded h Such (n + 1) (after_due h g s)
unfolding settled
bounded_due h g Such n s f = let few = f.few in record { since = f.since; few = omega arith }

bounded_more : (h : Header) (g : Game) (Such : ℕ → Type 0) (n : ℕ) → Bounded h Such n g → Bounded h Such (n + 1) g
bounded_more h g Such n f = let few = f.few in record { since = f.since; few = omega arith }

bounded_case : (h : Header) (g : Game) (e : Event) (Such : ℕ → Type 0) (n : ℕ) → StepCase h g e → Such e.stamp → Bounded h Such n g → Bounded h Such (n + 1) (after_event h g e)
bounded_case h g e Such n (WasOver o over same) le f = subst (Bounded h Such (n + 1)) (sym same) (bounded_more h g Such n f)
bounded_case h g e Such n (WasDue going due same) le f = subst (Bounded h Such (n + 1)) (sym same) (bounded_due h g Such n e.stamp f)
bounded_case h g e Such n (Looked going due look same) le f = subst (Bounded h Such (n + 1)) (sym same) (bounded_more h g Such n f)
bounded_case h g e Such n (Refused side a r going due act is same) le f = subst (Bounded h Such (n + 1)) (sym same) (bounded_more h g Such n f)
bounded_case h g e Such n (Did side a going due act is same) le f = subst (Bounded h Such (n + 1)) (sym same) (bounded_after h g side a Such n e.stamp le f)

bounded_new : (h : Header) (Such : ℕ → Type 0) → Such h.start → Bounded h Such 0 new_game
unfolding stamps turn_start
bounded_new h Such le = record { since = le; few = omega arith }

bounded : (h : Header) (Such : ℕ → Type 0) → Such h.start → (events : List Event) → All (λ (e : Event). Such e.stamp) events → Bounded h Such (length events) (game h events)
unfolding game
bounded h Such le =
    snoc_induction (λ (l : List Event). All (λ (e : Event). Such e.stamp) l → Bounded h Such (length l) (game h l))
    (λ all. bounded_new h Such le)
    (λ xs x p all.
    let last : Such x.stamp = All-head (λ (e : Event). Such e.stamp) x [] (All-append_right (λ (e : Event). Such e.stamp) xs (x ∷ []) all) in
    let more = bounded_case h (game h xs) x Such (length xs) (step_case h (game h xs) x) last (p (All-append_left (λ (e : Event). Such e.stamp) xs (x ∷ []) all)) in
    subst (λ n. Bounded h Such n (game h (xs ++ x ∷ []))) (sym (length-append xs (x ∷ []))) (subst (Bounded h Such (length xs + 1)) (sym (game-push h xs x)) more))

-- the turn began by any moment that is not before the start and the events
pub turn_began : (h : Header) (events : List Event) (t : ℕ) → h.start ≤ t → All (λ (e : Event). e.stamp ≤ t) events → (standing h events).clocks.since ≤ t
unfolding standing standing_of clocks
turn_began h events t le all = (bounded h (λ s. s ≤ t) le events all).since

-- there are no more moves than events
pub few_moves : (h : Header) (events : List Event) → length (moves h events) ≤ length events
unfolding moves
few_moves h events = (bounded h (λ s. Unit {0}) tt events (λ k d lt. tt)).few

-- neither side has spent more than it was given
abbrev pub Within : Header → Game → Type 0
Within h g = (side : Colour) → spent g.clock side ≤ given h.control g.clock side

within_after : (h : Header) (g : Game) (by : Colour) (a : Action) (t : ℕ) → is_due (clocks h.control h.start g.clock) t ≡ false → own_refusal (standing_of h g) by a ≡ None
    → Within h g → Within h (after_action h g by a t)
unfolding settled moved standing_of clocks
within_after h g by (action.Move m) t due ok f side = within_after_move h.control h.start g.clock t side due (f side)
within_after h g by action.Resign t due ok f side = f side
within_after h g White action.Offer t due ok f side = f side
within_after h g Black action.Offer t due ok f side = f side
within_after h g by action.Accept t due ok f side = f side
within_after h g by action.Decline t due ok f side = f side
within_after h g by action.Claim t due ok f side = f side
within_after h g by action.Berserk t due ok f side =
    within_after_berserk h.control g.clock by side ((berserk_is_early (standing_of h g) by ok).0) (f side)

within_due : (h : Header) (g : Game) (t : ℕ) → Within h g → Within h (after_due h g t)
unfolding settled
within_due h g t f side = f side

within_case : (h : Header) (g : Game) (e : Event) → StepCase h g e → Within h g → Within h (after_event h g e)
within_case h g e (WasOver o over same) f = subst (Within h) (sym same) f
within_case h g e (WasDue going due same) f = subst (Within h) (sym same) (within_due h g e.stamp f)
within_case h g e (Looked going due look same) f = subst (Within h) (sym same) f
within_case h g e (Refused side a r going due act is same) f = subst (Within h) (sym same) f
within_case h g e (Did side a going due act is same) f = subst (Within h) (sym same) (within_after h g side a e.stamp due is f)

within_new : (h : Header) → Within h new_game
unfolding spent stamps later_moves
within_new h side = omega arith

pub within : (h : Header) (events : List Event) (side : Colour) → spent (game h events).clock side ≤ given h.control (game h events).clock side
within h events = kept_by_events h (Within h) (within_new h) (λ g e f. within_case h g e (step_case h g e) f) events
