-- A side has offered at this ply exactly where it offered when the moves were the same.
use Rattle.std.proofs.Common.{◌≡◌, ℕ, ◌+◌, ◌≤◌, List, [], ◌∷◌, ◌++◌, length, fold, Bool, true, false, ◌||◌, cond, refl, sym, ap, subst, ◌∙◌, ◌⊎◌, inl, inr, IsTrue, arith, length-append}
use Rattle.std.specs.Prelude.{◌↔◌}
use Rattle.std.proofs.lemmas.Bool.{or_cases}
use Rattle.board.specs.declared.piece.Colour.{Colour}
use Rattle.board.specs.declared.piece.Colour.TheVariants.{White, Black}
use Rattle.board.specs.Piece.{same_colour}
use Rattle.board.specs.Moves.{MoveWord}
use Rattle.game_line.proofs.Lists.{snoc_induction}
use Rattle.entries.specs.declared.action.Action.{Action}
use Rattle.entries.specs.declared.action.Action.TheVariants as action
use Rattle.game_room.specs.declared.header.Header.{Header}
use Rattle.game_room.specs.Events.{Event, act_of}
use Rattle.game_room.specs.Standing.{has_offered}
use Rattle.game_room.specs.Games.{Game, standing_of, standing, game, moves, settled, moved, after_event, after_due, after_action}
use Rattle.game_room.specs.Meanings.{DoneAt}
use Rattle.game_room.proofs.Steps.{game-push}
use Rattle.game_room.proofs.Stays.{game-append}
use Rattle.game_room.proofs.Cases.{StepCase, WasOver, WasDue, Looked, Refused, Did, step_case, game-done, DoesItsOwn}
use Rattle.game_room.proofs.Found.{done_more, done_now, Found, Earlier, JustNow, found, nothing_done}

-- a side has offered since the last move
abbrev pub offered_by : Game → Colour → Bool
offered_by g White = g.white_offered
offered_by g Black = g.black_offered

-- the action is an offer of this side
abbrev pub offers : Colour → Action → Colour → Bool
offers by action.Offer side = same_colour by side
offers by _ side = false

-- the action is a move
abbrev pub is_move : Action → Bool
is_move (action.Move m) = true
is_move _ = false

-- what an action makes of it
record Offers (g after : Game) (by : Colour) (a : Action) : Type 0 where
  pub offered : (side : Colour) → offered_by after side ≡ cond (is_move a) false (offered_by g side || offers by a side)
  pub moves : is_move a ≡ false → after.moves ≡ g.moves
  pub longer : is_move a ≡ true → length after.moves ≡ length g.moves + 1

or_nothing : (b : Bool) → b ≡ (b || false)
or_nothing true = refl
or_nothing false = refl

or_yes : (b c : Bool) → b ≡ true → (b || c) ≡ true
or_yes true c e = refl
or_yes false c e = cc

or_true : (b : Bool) → true ≡ (b || true)
or_true true = refl
or_true false = refl

plain_offers : (g after : Game) (by : Colour) (a : Action) → is_move a ≡ false → ((side : Colour) → offers by a side ≡ false) → after.moves ≡ g.moves
    → after.white_offered ≡ g.white_offered → after.black_offered ≡ g.black_offered → Offers g after by a
plain_offers g after by a plain none same white black = record {
  offered = λ side. elim side as (λ s. offered_by after s ≡ cond (is_move a) false (offered_by g s || offers by a s)) [
    | White ↦ white ∙ (or_nothing g.white_offered ∙ sym (λ i. cond (plain i) false (g.white_offered || none White i)))
    | Black ↦ black ∙ (or_nothing g.black_offered ∙ sym (λ i. cond (plain i) false (g.black_offered || none Black i)))
  ];
  moves = λ e. same;
  longer = λ e. cc;
}

offers_after : (h : Header) (g : Game) (by : Colour) (a : Action) (t : ℕ) → Offers g (after_action h g by a t) by a
unfolding settled moved
offers_after h g by (action.Move m) t = record {
  offered = λ side. elim side as (λ s. offered_by (after_action h g by (action.Move m) t) s ≡ false) [ White ↦ refl | Black ↦ refl ];
  moves = λ e. cc;
  longer = λ e. length-append g.moves (m ∷ []);
}
offers_after h g by action.Resign t = plain_offers g _ by action.Resign refl (λ s. refl) refl refl refl
offers_after h g White action.Offer t = record {
  offered = λ side. elim side as (λ s. offered_by (after_action h g White action.Offer t) s ≡ (offered_by g s || same_colour White s)) [ White ↦ or_true g.white_offered | Black ↦ or_nothing g.black_offered ];
  moves = λ e. refl;
  longer = λ e. cc;
}
offers_after h g Black action.Offer t = record {
  offered = λ side. elim side as (λ s. offered_by (after_action h g Black action.Offer t) s ≡ (offered_by g s || same_colour Black s)) [ White ↦ or_nothing g.white_offered | Black ↦ or_true g.black_offered ];
  moves = λ e. refl;
  longer = λ e. cc;
}
offers_after h g by action.Accept t = plain_offers g _ by action.Accept refl (λ s. refl) refl refl refl
offers_after h g by action.Decline t = plain_offers g _ by action.Decline refl (λ s. refl) refl refl refl
offers_after h g by action.Claim t = plain_offers g _ by action.Claim refl (λ s. refl) refl refl refl
offers_after h g by action.Berserk t = plain_offers g _ by action.Berserk refl (λ s. refl) refl refl refl

offered_due : (h : Header) (g : Game) (t : ℕ) (side : Colour) → offered_by (after_due h g t) side ≡ offered_by g side
unfolding settled
offered_due h g t White = refl
offered_due h g t Black = refl

moves_due : (h : Header) (g : Game) (t : ℕ) → (after_due h g t).moves ≡ g.moves
unfolding settled
moves_due h g t = refl

-- an event changes neither the offers nor the moves, or it is an action that was done
data Unmoved (h : Header) (g : Game) (e : Event) : Type 0 where
  Still : ((side : Colour) → offered_by (after_event h g e) side ≡ offered_by g side) → (after_event h g e).moves ≡ g.moves → Unmoved h g e
  Acting : (by : Colour) (a : Action) → e ≡ act_of by a e.stamp → DoesItsOwn h g by a e.stamp → Offers g (after_event h g e) by a → Unmoved h g e

unmoved : (h : Header) (g : Game) (e : Event) → StepCase h g e → Unmoved h g e
unmoved h g e (WasOver o over same) = Still (λ s. ap (λ x. offered_by x s) same) (ap (λ (x : Game). x.moves) same)
unmoved h g e (WasDue going due same) = Still (λ s. ap (λ x. offered_by x s) same ∙ offered_due h g e.stamp s) (ap (λ (x : Game). x.moves) same ∙ moves_due h g e.stamp)
unmoved h g e (Looked going due look same) = Still (λ s. ap (λ x. offered_by x s) same) (ap (λ (x : Game). x.moves) same)
unmoved h g e (Refused by a r going due act is same) = Still (λ s. ap (λ x. offered_by x s) same) (ap (λ (x : Game). x.moves) same)
unmoved h g e (Did by a going due act is same) =
    Acting by a act (record { going = going; in_time = due; accepted = is }) (subst (λ x. Offers g x by a) (sym same) (offers_after h g by a e.stamp))

cases_move : (a : Action) → (is_move a ≡ true) ⊎ (is_move a ≡ false)
cases_move (action.Move m) = inl refl
cases_move action.Resign = inr refl
cases_move action.Offer = inr refl
cases_move action.Accept = inr refl
cases_move action.Decline = inr refl
cases_move action.Claim = inr refl
cases_move action.Berserk = inr refl

longer_or_same : (g after : Game) (by : Colour) (a : Action) → Offers g after by a → length g.moves ≤ length after.moves
longer_or_same g after by a o =
    elim (cases_move a)
    [ inl move ↦ (let more = o.longer move in omega arith) | inr plain ↦ (let same = ap (λ (l : List MoveWord). length l) (o.moves plain) in omega arith) ]

moves_grow_once : (h : Header) (g : Game) (e : Event) → Unmoved h g e → length g.moves ≤ length (after_event h g e).moves
moves_grow_once h g e (Still offers same) = let equal = ap (λ (l : List MoveWord). length l) same in omega arith
moves_grow_once h g e (Acting by a act own o) = longer_or_same g (after_event h g e) by a o

moves_grow : (h : Header) (g : Game) (later : List Event) → length g.moves ≤ length (fold (after_event h) g later).moves
moves_grow h g [] = omega arith
moves_grow h g (e ∷ later) =
    let one = moves_grow_once h g e (unmoved h g e (step_case h g e)) in
    let rest = moves_grow h (after_event h g e) later in
    omega arith

-- a list has no fewer moves than a beginning of it
pub moves_of_beginning : (h : Header) (events before after : List Event) → events ≡ before ++ after → length (moves h before) ≤ length (moves h events)
unfolding moves
moves_of_beginning h events before after same =
    let grown = moves_grow h (game h before) after in
    let there = ap (λ l. length (game h l).moves) same ∙ ap (λ (g : Game). length g.moves) (game-append h before after) in
    omega arith

-- an offer at this ply
abbrev pub OfferedHere : Header → List Event → Colour → Type 0
OfferedHere h events side = (x : DoneAt h events side action.Offer) × (moves h x.before ≡ moves h events)

abbrev pub Told : Header → List Event → Type 0
Told h events = (side : Colour) → (offered_by (game h events) side ≡ true) ↔ OfferedHere h events side

is_offer : (by : Colour) (a : Action) (side : Colour) → offers by a side ≡ true → (by ≡ side) × (a ≡ action.Offer)
is_offer White action.Offer White e = (refl, refl)
is_offer Black action.Offer Black e = (refl, refl)
is_offer White action.Offer Black e = cc
is_offer Black action.Offer White e = cc
is_offer by (action.Move m) side e = cc
is_offer by action.Resign side e = cc
is_offer by action.Accept side e = cc
is_offer by action.Decline side e = cc
is_offer by action.Claim side e = cc
is_offer by action.Berserk side e = cc

here_more : (h : Header) (events : List Event) (e : Event) (side : Colour) → moves h (events ++ e ∷ []) ≡ moves h events → OfferedHere h events side → OfferedHere h (events ++ e ∷ []) side
here_more h events e side same x = (done_more h events e side action.Offer x.0, x.1 ∙ sym same)

no_move : (b c : Bool) → cond b false c ≡ true → (b ≡ false) × (c ≡ true)
no_move true c e = cc
no_move false c e = (refl, e)

offered_was : (h : Header) (events : List Event) (e : Event) (side : Colour) → Unmoved h (game h events) e → Told h events
    → offered_by (after_event h (game h events) e) side ≡ true → OfferedHere h (events ++ e ∷ []) side
unfolding moves
offered_was h events e side (Still offers same) told b =
    here_more h events e side (ap (λ (g : Game). g.moves) (game-push h events e) ∙ same) ((told side).0 (sym (offers side) ∙ b))
offered_was h events e side (Acting by a act own o) told b =
    let two = no_move (is_move a) (offered_by (game h events) side || offers by a side) (sym (o.offered side) ∙ b) in
    let same : moves h (events ++ e ∷ []) ≡ moves h events = ap (λ (g : Game). g.moves) (game-push h events e) ∙ o.moves two.0 in
    elim (or_cases (offered_by (game h events) side) (offers by a side) two.1) [
      | inl old ↦ here_more h events e side same ((told side).0 old)
      | inr new ↦ (let it = is_offer by a side new in
          let its_act : e ≡ act_of side action.Offer e.stamp = act ∙ (λ i. act_of (it.0 i) (it.1 i) e.stamp) in
          let its_own : DoesItsOwn h (game h events) side action.Offer e.stamp = subst (λ s. DoesItsOwn h (game h events) s action.Offer e.stamp) it.0 (subst (λ x. DoesItsOwn h (game h events) by x e.stamp) it.1 own) in
          (done_now h events e side action.Offer its_act its_own, sym same))
    ]

offered_stays : (h : Header) (events : List Event) (e : Event) (side : Colour) → Unmoved h (game h events) e → length (moves h (events ++ e ∷ [])) ≤ length (moves h events)
    → offered_by (game h events) side ≡ true → offered_by (after_event h (game h events) e) side ≡ true
unfolding moves
offered_stays h events e side (Still offers same) few b = offers side ∙ b
offered_stays h events e side (Acting by a act own o) few b =
    elim (cases_move a) [
      | inl move ↦ (let longer = o.longer move in
          let pushed = ap (λ (g : Game). length g.moves) (game-push h events e) in
          absurd (omega arith))
      | inr plain ↦ o.offered side ∙ (λ i. cond (plain i) false (or_yes (offered_by (game h events) side) (offers by a side) b i))
    ]

same_moves : (h : Header) (events : List Event) (e : Event) → Unmoved h (game h events) e → length (moves h (events ++ e ∷ [])) ≤ length (moves h events) → moves h (events ++ e ∷ []) ≡ moves h events
unfolding moves
same_moves h events e (Still offers same) few = ap (λ (g : Game). g.moves) (game-push h events e) ∙ same
same_moves h events e (Acting by a act own o) few =
    elim (cases_move a) [
      | inl move ↦ (let longer = o.longer move in
          let pushed = ap (λ (g : Game). length g.moves) (game-push h events e) in
          absurd (omega arith))
      | inr plain ↦ ap (λ (g : Game). g.moves) (game-push h events e) ∙ o.moves plain
    ]

offered_now : (h : Header) (g : Game) (side : Colour) (t : ℕ) → offered_by (after_action h g side action.Offer t) side ≡ true
offered_now h g White t = refl
offered_now h g Black t = refl

offered_is : (h : Header) (events : List Event) (e : Event) (side : Colour) (before : List Event) → Found h events e side action.Offer before → moves h before ≡ moves h (events ++ e ∷ [])
    → Told h events → offered_by (game h (events ++ e ∷ [])) side ≡ true
offered_is h events e side before (Earlier y place) same told =
    let case = unmoved h (game h events) e (step_case h (game h events) e) in
    let at : moves h y.before ≡ moves h (events ++ e ∷ []) = ap (moves h) place ∙ same in
    let beginning = moves_of_beginning h events y.before (act_of side action.Offer y.stamp ∷ y.after) y.place in
    let few : length (moves h (events ++ e ∷ [])) ≤ length (moves h events) = subst (λ (l : List MoveWord). length l ≤ length (moves h events)) at beginning in
    ap (λ g. offered_by g side) (game-push h events e) ∙ offered_stays h events e side case few ((told side).1 (y, at ∙ same_moves h events e case few))
offered_is h events e side before (JustNow t place act done) same told =
    ap (λ x. offered_by (game h (events ++ x ∷ [])) side) act
    ∙ (ap (λ g. offered_by g side) (game-done h events side action.Offer t done) ∙ offered_now h (game h events) side t)

none_offered : (h : Header) (side : Colour) → offered_by (game h []) side ≡ false
unfolding game
none_offered h White = refl
none_offered h Black = refl

told : (h : Header) (events : List Event) → Told h events
told h =
    snoc_induction (Told h)
    (λ side. (λ b. absurd (let off = none_offered h side in cc), λ x. absurd (nothing_done h side action.Offer x.0)))
    (λ xs x p side.
    (λ b. offered_was h xs x side (unmoved h (game h xs) x (step_case h (game h xs) x)) p (sym (ap (λ g. offered_by g side) (game-push h xs x)) ∙ b), λ d. offered_is h xs x side d.0.before (found h xs x side action.Offer d.0) d.1 p))

offered_of_game : (h : Header) (events : List Event) (side : Colour) → has_offered (standing h events) side ≡ offered_by (game h events) side
unfolding standing standing_of
offered_of_game h events White = refl
offered_of_game h events Black = refl

pub offered_means : (h : Header) (events : List Event) (side : Colour) → IsTrue (has_offered (standing h events) side) ↔ ((x : DoneAt h events side action.Offer) × (moves h x.before ≡ moves h events))
offered_means h events side =
    (λ b. (told h events side).0 (sym (offered_of_game h events side) ∙ b), λ d. offered_of_game h events side ∙ (told h events side).1 d)
