-- An offer stands exactly where the side offered, the game goes on, and the other side has not answered since.
use Rattle.std.proofs.Common.{◌≡◌, ℕ, ◌<◌, List, [], ◌∷◌, ◌++◌, length, Bool, true, false, not, ◌||◌, cond, Option, None, Some, refl, sym, ap, subst, ◌∙◌, ◌⊎◌, inl, inr, IsTrue, arith}
use Rattle.std.specs.Prelude.{◌↔◌, is_some}
use Rattle.board.specs.declared.piece.Colour.{Colour}
use Rattle.board.specs.declared.piece.Colour.TheVariants.{White, Black}
use Rattle.board.specs.Piece.{other}
use Rattle.board.specs.Moves.{MoveWord}
use Rattle.game_line.proofs.Lists.{snoc_induction}
use Rattle.entries.specs.declared.action.Action.{Action}
use Rattle.entries.specs.declared.action.Action.TheVariants as action
use Rattle.game_clock.specs.Clocks.{clocks}
use Rattle.game_room.specs.declared.header.Header.{Header}
use Rattle.game_room.specs.declared.ending.Ending.{Ending}
use Rattle.game_room.specs.declared.outcome.Outcome.{Outcome}
use Rattle.game_room.specs.declared.refusal.ActRefusal.{ActRefusal}
use Rattle.game_room.specs.Events.{Event, Acted, Ticked, act_of}
use Rattle.game_room.specs.Standing.{is_offer_of}
use Rattle.game_room.specs.Endings.{outcome_if_ended}
use Rattle.game_room.specs.Refusals.{own_refusal}
use Rattle.game_room.specs.Games.{Game, standing_of, standing, game, outcome, settled, moved, offer_after_move, after_event, after_due, after_action}
use Rattle.game_room.specs.Meanings.{IsDone, DoneAt, is_answer}
use Rattle.game_room.proofs.Steps.{game-push}
use Rattle.game_room.proofs.Stays.{ended_stays}
use Rattle.game_room.proofs.Cases.{StepCase, WasOver, WasDue, Looked, Refused, Did, step_case, game-done, DoesItsOwn, does_its_own}
use Rattle.game_room.proofs.Found.{done_more, done_now, Found, Earlier, JustNow, found, nothing_done, done_below, same_side, same_action}

settled_offer : (h : Header) (g : Game) (e : Option Ending) (t : ℕ) (side : Colour) → is_offer_of side (settled h g e t).offer ≡ true → (e ≡ None) × (is_offer_of side g.offer ≡ true)
unfolding settled
settled_offer h g None t side b = (refl, b)
settled_offer h g (Some e) t side b = cc

settled_stays : (h : Header) (g : Game) (e : Option Ending) (t : ℕ) (side : Colour) → (settled h g e t).outcome ≡ None → is_offer_of side g.offer ≡ true → is_offer_of side (settled h g e t).offer ≡ true
unfolding settled
settled_stays h g None t side none b = b
settled_stays h g (Some e) t side none b = cc

settled_goes : (h : Header) (g : Game) (e : Option Ending) (t : ℕ) → e ≡ None → (settled h g e t).outcome ≡ None
unfolding settled
settled_goes h g e t none = ap (λ x. outcome_if_ended (clocks h.control h.start g.clock) x t) none

settled_ends : (h : Header) (g : Game) (e : Ending) (t : ℕ) → (settled h g (Some e) t).outcome ≡ None → ⊥
unfolding settled
settled_ends h g e t none = cc

-- an offer that stands after a move is that of the side that moved
offer_moved : (by : Colour) (o : Option Colour) (side : Colour) → is_offer_of side (offer_after_move by o) ≡ true → (is_offer_of side o ≡ true) × (by ≡ side)
offer_moved by None side b = cc
offer_moved White (Some White) White b = (refl, refl)
offer_moved White (Some White) Black b = cc
offer_moved White (Some Black) White b = cc
offer_moved White (Some Black) Black b = cc
offer_moved Black (Some White) White b = cc
offer_moved Black (Some White) Black b = cc
offer_moved Black (Some Black) White b = cc
offer_moved Black (Some Black) Black b = (refl, refl)

offer_kept : (by : Colour) (o : Option Colour) → is_offer_of by o ≡ true → is_offer_of by (offer_after_move by o) ≡ true
offer_kept by None b = cc
offer_kept White (Some White) b = refl
offer_kept White (Some Black) b = cc
offer_kept Black (Some White) b = cc
offer_kept Black (Some Black) b = refl

moved_offer : (g : Game) (by : Colour) (m : MoveWord) (t : ℕ) → (moved g by m t).offer ≡ offer_after_move by g.offer
unfolding moved
moved_offer g by m t = refl

-- one of the two sides
either_side : (by side : Colour) → (by ≡ side) ⊎ (by ≡ other side)
either_side White White = inl refl
either_side White Black = inr refl
either_side Black White = inr refl
either_side Black Black = inl refl

not_other : (side : Colour) → side ≡ other side → ⊥
not_other White e = cc
not_other Black e = cc

own_offer : (side : Colour) → is_offer_of side (Some side) ≡ true
own_offer White = refl
own_offer Black = refl

offer_side : (by side : Colour) → is_offer_of side (Some by) ≡ true → by ≡ side
offer_side White White b = refl
offer_side White Black b = cc
offer_side Black White b = cc
offer_side Black Black b = refl

-- what stands of an offer: the game goes on, the side offered, and the other side has neither declined nor moved since
abbrev pub Unanswered : Header → List Event → Colour → List Event → Type 0
Unanswered h events side before = (a : Action) (y : DoneAt h events (other side) a) → IsTrue (is_answer a) → length y.before < length before

abbrev pub Stands : Header → List Event → Colour → Type 0
Stands h events side = (outcome h events ≡ None) × (x : DoneAt h events side action.Offer) × Unanswered h events side x.before

abbrev pub Told : Header → List Event → Type 0
Told h events = (side : Colour) → (is_offer_of side (game h events).offer ≡ true) ↔ Stands h events side

outcome_pushed : (h : Header) (events : List Event) (e : Event) (o : Option Outcome) → (after_event h (game h events) e).outcome ≡ o → outcome h (events ++ e ∷ []) ≡ o
unfolding outcome
outcome_pushed h events e o is = ap (λ (g : Game). g.outcome) (game-push h events e) ∙ is

outcome_of_game : (h : Header) (events : List Event) → outcome h events ≡ (game h events).outcome
unfolding outcome
outcome_of_game h events = refl

unanswered_more : (h : Header) (events : List Event) (e : Event) (side : Colour) (before : List Event) → Unanswered h events side before
    → ((a : Action) (t : ℕ) → e ≡ act_of (other side) a t → IsDone h events (other side) a t → IsTrue (is_answer a) → ⊥)
    → (a : Action) (b : List Event) → Found h events e (other side) a b → IsTrue (is_answer a) → length b < length before
unanswered_more h events e side before un no_answer a b (Earlier y place) answer = subst (λ (l : List Event). length l < length before) place (un a y answer)
unanswered_more h events e side before un no_answer a b (JustNow t place act done) answer = absurd (no_answer a t act done answer)

-- an offer that stood goes on standing
goes_on : (h : Header) (events : List Event) (e : Event) (side : Colour) → outcome h (events ++ e ∷ []) ≡ None
    → ((a : Action) (t : ℕ) → e ≡ act_of (other side) a t → IsDone h events (other side) a t → IsTrue (is_answer a) → ⊥)
    → Stands h events side → Stands h (events ++ e ∷ []) side
goes_on h events e side none no_answer stands =
    (none, done_more h events e side action.Offer stands.1, λ a y answer. unanswered_more h events e side stands.1.before stands.2 no_answer a y.before (found h events e (other side) a y) answer)

-- an action that is no answer leaves an offer that stood
not_an_answer : (h : Header) (events : List Event) (e : Event) (side by : Colour) (a : Action) → e ≡ act_of by a e.stamp → is_answer a ≡ false
    → (b : Action) (t : ℕ) → e ≡ act_of (other side) b t → IsDone h events (other side) b t → IsTrue (is_answer b) → ⊥
not_an_answer h events e side by a act plain b t same done answer =
    let one : a ≡ b = same_action e by (other side) a b e.stamp t act same in
    let both : false ≡ true = sym plain ∙ (ap is_answer one ∙ answer) in cc

-- so does an action of the side that offered
own_action : (h : Header) (events : List Event) (e : Event) (side by : Colour) (a : Action) → e ≡ act_of by a e.stamp → by ≡ side
    → (b : Action) (t : ℕ) → e ≡ act_of (other side) b t → IsDone h events (other side) b t → IsTrue (is_answer b) → ⊥
own_action h events e side by a act its b t same done answer =
    not_other side (sym its ∙ same_side e by (other side) a b e.stamp t act same)

new_by : (h : Header) (events : List Event) (e : Event) (side : Colour) → e ≡ act_of side action.Offer e.stamp → (a : Action) (before : List Event) → IsTrue (is_answer a)
    → Found h events e (other side) a before → length before < length events
new_by h events e side act a before answer (Earlier y place) = subst (λ (l : List Event). length l < length events) place (done_below h events (other side) a y)
new_by h events e side act a before answer (JustNow t place same done) = absurd (own_action h events e side side action.Offer act refl a t same done answer)

-- nobody has answered a new offer
new_offer : (h : Header) (events : List Event) (e : Event) (side : Colour) → e ≡ act_of side action.Offer e.stamp → Unanswered h (events ++ e ∷ []) side events
new_offer h events e side act a y answer = new_by h events e side act a y.before answer (found h events e (other side) a y)

stood_by : (h : Header) (events : List Event) (e : Event) (side by : Colour) (a : Action) → Told h events → (game h events).outcome ≡ None → e ≡ act_of by a e.stamp
    → DoesItsOwn h (game h events) by a e.stamp → after_event h (game h events) e ≡ after_action h (game h events) by a e.stamp
    → is_offer_of side (after_action h (game h events) by a e.stamp).offer ≡ true → Stands h (events ++ e ∷ []) side
stood_by h events e side by (action.Move m) told going act own same b =
    let g : Game = game h events in
    let two = settled_offer h (moved g by m e.stamp) _ e.stamp side b in
    let before = offer_moved by g.offer side (sym (ap (is_offer_of side) (moved_offer g by m e.stamp)) ∙ two.1) in
    goes_on h events e side
    (outcome_pushed h events e None (ap (λ (x : Game). x.outcome) same ∙ settled_goes h (moved g by m e.stamp) _ e.stamp two.0))
    (own_action h events e side by (action.Move m) act before.1) ((told side).0 before.0)
stood_by h events e side by action.Resign told going act own same b =
    let two = settled_offer h (game h events) _ e.stamp side b in
    goes_on h events e side
    (outcome_pushed h events e None (ap (λ (x : Game). x.outcome) same ∙ settled_goes h (game h events) _ e.stamp two.0))
    (not_an_answer h events e side by action.Resign act refl) ((told side).0 two.1)
stood_by h events e side White action.Offer told going act own same b =
    let its : White ≡ side = offer_side White side b in
    let its_act : e ≡ act_of side action.Offer e.stamp = act ∙ ap (λ s. act_of s action.Offer e.stamp) its in
    let its_own = subst (λ s. DoesItsOwn h (game h events) s action.Offer e.stamp) its own in
    (outcome_pushed h events e None (ap (λ (x : Game). x.outcome) same ∙ going), done_now h events e side action.Offer its_act its_own, new_offer h events e side its_act)
stood_by h events e side Black action.Offer told going act own same b =
    let its : Black ≡ side = offer_side Black side b in
    let its_act : e ≡ act_of side action.Offer e.stamp = act ∙ ap (λ s. act_of s action.Offer e.stamp) its in
    let its_own = subst (λ s. DoesItsOwn h (game h events) s action.Offer e.stamp) its own in
    (outcome_pushed h events e None (ap (λ (x : Game). x.outcome) same ∙ going), done_now h events e side action.Offer its_act its_own, new_offer h events e side its_act)
stood_by h events e side by action.Accept told going act own same b =
    let two = settled_offer h (game h events) _ e.stamp side b in
    goes_on h events e side
    (outcome_pushed h events e None (ap (λ (x : Game). x.outcome) same ∙ settled_goes h (game h events) _ e.stamp two.0))
    (not_an_answer h events e side by action.Accept act refl) ((told side).0 two.1)
stood_by h events e side by action.Decline told going act own same b = cc
stood_by h events e side by action.Claim told going act own same b =
    let two = settled_offer h (game h events) _ e.stamp side b in
    goes_on h events e side
    (outcome_pushed h events e None (ap (λ (x : Game). x.outcome) same ∙ settled_goes h (game h events) _ e.stamp two.0))
    (not_an_answer h events e side by action.Claim act refl) ((told side).0 two.1)
stood_by h events e side by action.Berserk told going act own same b =
    goes_on h events e side (outcome_pushed h events e None (ap (λ (x : Game). x.outcome) same ∙ going)) (not_an_answer h events e side by action.Berserk act refl) ((told side).0 b)

due_offer : (h : Header) (g : Game) (t : ℕ) (side : Colour) → is_offer_of side (after_due h g t).offer ≡ true → ⊥
due_offer h g t side b = let two = settled_offer h g _ t side b in cc

stood : (h : Header) (events : List Event) (e : Event) (side : Colour) → StepCase h (game h events) e → Told h events
    → is_offer_of side (after_event h (game h events) e).offer ≡ true → Stands h (events ++ e ∷ []) side
stood h events e side (WasOver o over same) told b =
    let stands = (told side).0 (sym (ap (λ (x : Game). is_offer_of side x.offer) same) ∙ b) in
    absurd (let none = sym (outcome_of_game h events) ∙ stands.0 in cc)
stood h events e side (WasDue going due same) told b = absurd (due_offer h (game h events) e.stamp side (sym (ap (λ (x : Game). is_offer_of side x.offer) same) ∙ b))
stood h events e side (Looked going due look same) told b =
    goes_on h events e side
    (outcome_pushed h events e None (ap (λ (x : Game). x.outcome) same ∙ going))
    (λ a t act done answer. let deeds : Ticked ≡ Acted (other side) a = sym look ∙ ap (λ (x : Event). x.deed) act in cc)
    ((told side).0 (sym (ap (λ (x : Game). is_offer_of side x.offer) same) ∙ b))
stood h events e side (Refused by a r going due act is same) told b =
    goes_on h events e side
    (outcome_pushed h events e None (ap (λ (x : Game). x.outcome) same ∙ going))
    (λ a' t act' done answer.
    let its : by ≡ other side = same_side e by (other side) a a' e.stamp t act act' in
    let one : a ≡ a' = same_action e by (other side) a a' e.stamp t act act' in
    let none = (does_its_own h events (other side) a' t done).accepted in
    let some : own_refusal (standing_of h (game h events)) (other side) a' ≡ Some r = sym (λ i. own_refusal (standing_of h (game h events)) (its i) (one i)) ∙ is in
    cc)
    ((told side).0 (sym (ap (λ (x : Game). is_offer_of side x.offer) same) ∙ b))
stood h events e side (Did by a going due act is same) told b =
    stood_by h events e side by a told going act (record { going = going; in_time = due; accepted = is }) same (sym (ap (λ (x : Game). is_offer_of side x.offer) same) ∙ b)

some_offer : (side : Colour) (o : Option Colour) (rest : Bool) → is_offer_of side o ≡ true → (is_some o || rest) ≡ true
some_offer side None rest b = cc
some_offer side (Some by) rest b = refl

refused_offer : (c : Bool) (r : ActRefusal) → c ≡ true → cond c (Some r) None ≡ None → ⊥
refused_offer true r e h = cc
refused_offer false r e h = cc

replied : (c : Bool) (r : ActRefusal) → cond (not c) (Some r) None ≡ None → c ≡ true
replied true r h = refl
replied false r h = cc

one_offer : (s t : Colour) (o : Option Colour) → is_offer_of s o ≡ true → is_offer_of t o ≡ true → s ≡ t
one_offer s t None a b = cc
one_offer s t (Some by) a b = sym (offer_side by s a) ∙ offer_side by t b

-- the other side's answer would stand behind the offer
answered : (h : Header) (events : List Event) (e : Event) (side : Colour) (y : DoneAt h events side action.Offer) → Unanswered h (events ++ e ∷ []) side y.before
    → (a : Action) → e ≡ act_of (other side) a e.stamp → DoesItsOwn h (game h events) (other side) a e.stamp → IsTrue (is_answer a) → ⊥
answered h events e side y un a act own answer =
    let late = un a (done_now h events e (other side) a act own) answer in
    let early = done_below h events side action.Offer y in
    absurd (omega arith)

still_by : (h : Header) (events : List Event) (e : Event) (side by : Colour) (a : Action) (y : DoneAt h events side action.Offer) → Unanswered h (events ++ e ∷ []) side y.before
    → e ≡ act_of by a e.stamp → DoesItsOwn h (game h events) by a e.stamp → (after_action h (game h events) by a e.stamp).outcome ≡ None
    → is_offer_of side (game h events).offer ≡ true → is_offer_of side (after_action h (game h events) by a e.stamp).offer ≡ true
unfolding standing_of
still_by h events e side by (action.Move m) y un act own none b =
    elim (either_side by side) [
      | inl its ↦ settled_stays h (moved (game h events) by m e.stamp) _ e.stamp side none
          (ap (is_offer_of side) (moved_offer (game h events) by m e.stamp)
          ∙ (ap (λ s. is_offer_of side (offer_after_move s (game h events).offer)) its ∙ offer_kept side (game h events).offer b))
      | inr theirs ↦ absurd
          (answered h events e side y un (action.Move m) (act ∙ ap (λ s. act_of s (action.Move m) e.stamp) theirs) (subst (λ s. DoesItsOwn h (game h events) s (action.Move m) e.stamp) theirs own) refl)
    ]
still_by h events e side by action.Resign y un act own none b = absurd (settled_ends h (game h events) _ e.stamp none)
still_by h events e side by action.Offer y un act own none b = absurd (refused_offer _ _ (some_offer side (game h events).offer _ b) own.accepted)
still_by h events e side by action.Accept y un act own none b = absurd (settled_ends h (game h events) _ e.stamp none)
still_by h events e side by action.Decline y un act own none b =
    let offered : is_offer_of (other by) (game h events).offer ≡ true = replied _ _ own.accepted in
    let its : other by ≡ side = one_offer (other by) side (game h events).offer offered b in
    elim (either_side by side) [
      | inl same ↦ absurd (not_other by (same ∙ sym its))
      | inr theirs ↦ absurd
          (answered h events e side y un action.Decline (act ∙ ap (λ s. act_of s action.Decline e.stamp) theirs) (subst (λ s. DoesItsOwn h (game h events) s action.Decline e.stamp) theirs own) refl)
    ]
still_by h events e side by action.Claim y un act own none b = settled_stays h (game h events) _ e.stamp side none b
still_by h events e side by action.Berserk y un act own none b = b

due_ends : (h : Header) (g : Game) (t : ℕ) → (after_due h g t).outcome ≡ None → ⊥
due_ends h g t none = settled_ends h g _ t none

still : (h : Header) (events : List Event) (e : Event) (side : Colour) (y : DoneAt h events side action.Offer) → Unanswered h (events ++ e ∷ []) side y.before
    → StepCase h (game h events) e → (after_event h (game h events) e).outcome ≡ None → is_offer_of side (game h events).offer ≡ true → is_offer_of side (after_event h (game h events) e).offer ≡ true
still h events e side y un (WasOver o over same) none b = ap (λ (x : Game). is_offer_of side x.offer) same ∙ b
still h events e side y un (WasDue going due same) none b = absurd (due_ends h (game h events) e.stamp (sym (ap (λ (x : Game). x.outcome) same) ∙ none))
still h events e side y un (Looked going due look same) none b = ap (λ (x : Game). is_offer_of side x.offer) same ∙ b
still h events e side y un (Refused by a r going due act is same) none b = ap (λ (x : Game). is_offer_of side x.offer) same ∙ b
still h events e side y un (Did by a going due act is same) none b =
    ap (λ (x : Game). is_offer_of side x.offer) same
    ∙ still_by h events e side by a y un act (record { going = going; in_time = due; accepted = is }) (sym (ap (λ (x : Game). x.outcome) same) ∙ none) b

went_on : (h : Header) (events : List Event) (e : Event) (o : Option Outcome) → outcome h events ≡ o → outcome h (events ++ e ∷ []) ≡ None → outcome h events ≡ None
went_on h events e None is none = is
went_on h events e (Some o) is none =
    let stays : outcome h (events ++ e ∷ []) ≡ outcome h events = outcome_of_game h (events ++ e ∷ []) ∙ (ap (λ (g : Game). g.outcome) (ended_stays h events (e ∷ []) o is) ∙ sym (outcome_of_game h events)) in
    sym stays ∙ none

offer_made : (h : Header) (g : Game) (side : Colour) (t : ℕ) → is_offer_of side (after_action h g side action.Offer t).offer ≡ true
offer_made h g White t = refl
offer_made h g Black t = refl

stands_by : (h : Header) (events : List Event) (e : Event) (side : Colour) (before : List Event) → Found h events e side action.Offer before → outcome h (events ++ e ∷ []) ≡ None
    → Unanswered h (events ++ e ∷ []) side before → Told h events → is_offer_of side (game h (events ++ e ∷ [])).offer ≡ true
stands_by h events e side before (JustNow t place act done) none un told =
    ap (λ x. is_offer_of side (game h (events ++ x ∷ [])).offer) act
    ∙ (ap (λ (g : Game). is_offer_of side g.offer) (game-done h events side action.Offer t done) ∙ offer_made h (game h events) side t)
stands_by h events e side before (Earlier y place) none un told =
    let since : Unanswered h (events ++ e ∷ []) side y.before = subst (λ l. Unanswered h (events ++ e ∷ []) side l) (sym place) un in
    let then_on : outcome h events ≡ None = went_on h events e (outcome h events) refl none in
    let stood_then = (told side).1 (then_on, y, λ a z answer. since a (done_more h events e (other side) a z) answer) in
    let none_after = sym (ap (λ (g : Game). g.outcome) (game-push h events e)) ∙ (sym (outcome_of_game h (events ++ e ∷ [])) ∙ none) in
    ap (λ (g : Game). is_offer_of side g.offer) (game-push h events e)
    ∙ still h events e side y since (step_case h (game h events) e) none_after stood_then

none_stands : (h : Header) (side : Colour) → is_offer_of side (game h []).offer ≡ false
unfolding game
none_stands h side = refl

told : (h : Header) (events : List Event) → Told h events
told h =
    snoc_induction (Told h)
    (λ side. (λ b. absurd (let off = none_stands h side in cc), λ x. absurd (nothing_done h side action.Offer x.1)))
    (λ xs x p side. (
      λ b. stood h xs x side (step_case h (game h xs) x) p (sym (ap (λ (g : Game). is_offer_of side g.offer) (game-push h xs x)) ∙ b),
      λ d. stands_by h xs x side d.1.before (found h xs x side action.Offer d.1) d.0 d.2 p,
    ))

offer_of_game : (h : Header) (events : List Event) (side : Colour) → is_offer_of side (standing h events).offer ≡ is_offer_of side (game h events).offer
unfolding standing standing_of
offer_of_game h events side = refl

pub offer_means : (h : Header) (events : List Event) (side : Colour) → IsTrue (is_offer_of side (standing h events).offer) ↔ Stands h events side
offer_means h events side =
    (λ b. (told h events side).0 (sym (offer_of_game h events side) ∙ b), λ d. offer_of_game h events side ∙ (told h events side).1 d)
