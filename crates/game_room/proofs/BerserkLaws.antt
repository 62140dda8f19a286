-- A side has berserked exactly where its berserk was done.
use Rattle.std.proofs.Common.{◌≡◌, ℕ, List, [], ◌∷◌, ◌++◌, Bool, true, false, ◌||◌, refl, sym, ap, subst, ◌∙◌, inl, inr, IsTrue}
use Rattle.std.specs.Prelude.{◌↔◌}
use Rattle.std.proofs.lemmas.Bool.{or_cases}
use Rattle.board.specs.declared.piece.Colour.{Colour}
use Rattle.board.specs.declared.piece.Colour.TheVariants.{White, Black}
use Rattle.board.specs.Piece.{same_colour}
use Rattle.game_line.proofs.Lists.{snoc_induction}
use Rattle.entries.specs.declared.action.Action.{Action}
use Rattle.entries.specs.declared.action.Action.TheVariants as action
use Rattle.game_clock.specs.ClockEvents.{MovedAt, BerserkedBy, has_berserked}
use Rattle.game_clock.specs.Clocks.{clocks, berserk_of}
use Rattle.game_clock.proofs.MoreEvents.{has_berserked-push}
use Rattle.game_room.specs.declared.header.Header.{Header}
use Rattle.game_room.specs.Events.{Event}
use Rattle.game_room.specs.Games.{Game, standing_of, standing, game, settled, moved, after_event, after_due, after_action}
use Rattle.game_room.specs.Meanings.{DoneAt}
use Rattle.game_room.proofs.Steps.{game-push}
use Rattle.game_room.proofs.Cases.{StepCase, WasOver, WasDue, Looked, Refused, Did, step_case, game-done}
use Rattle.game_room.proofs.Found.{done_more, done_now, Found, Earlier, JustNow, found, nothing_done}

-- the action is a berserk of this side
abbrev pub berserks : Colour → Action → Colour → Bool
berserks by action.Berserk side = same_colour by side
berserks by _ side = false

or_nothing : (b : Bool) → b ≡ (b || false)
or_nothing true = refl
or_nothing false = refl

or_one : (b c : Bool) → (b || (c || false)) ≡ (b || c)
or_one true c = refl
or_one false true = refl
or_one false false = refl

berserk_after : (h : Header) (g : Game) (by : Colour) (a : Action) (t : ℕ) (side : Colour)
    → has_berserked (after_action h g by a t).clock side ≡ (has_berserked g.clock side || berserks by a side)
unfolding settled moved
berserk_after h g by (action.Move m) t side = has_berserked-push g.clock (MovedAt t) side ∙ or_one (has_berserked g.clock side) false
berserk_after h g by action.Resign t side = or_nothing (has_berserked g.clock side)
berserk_after h g White action.Offer t side = or_nothing (has_berserked g.clock side)
berserk_after h g Black action.Offer t side = or_nothing (has_berserked g.clock side)
berserk_after h g by action.Accept t side = or_nothing (has_berserked g.clock side)
berserk_after h g by action.Decline t side = or_nothing (has_berserked g.clock side)
berserk_after h g by action.Claim t side = or_nothing (has_berserked g.clock side)
berserk_after h g by action.Berserk t side = has_berserked-push g.clock (BerserkedBy by) side ∙ or_one (has_berserked g.clock side) (same_colour by side)

berserk_due : (h : Header) (g : Game) (t : ℕ) (side : Colour) → has_berserked (after_due h g t).clock side ≡ has_berserked g.clock side
unfolding settled
berserk_due h g t side = refl

or_yes : (b c : Bool) → b ≡ true → (b || c) ≡ true
or_yes true c e = refl
or_yes false c e = cc

or_last : (b c : Bool) → c ≡ true → (b || c) ≡ true
or_last true c e = refl
or_last false c e = e

berserk_stays : (h : Header) (g : Game) (e : Event) (side : Colour) → StepCase h g e → has_berserked g.clock side ≡ true → has_berserked (after_event h g e).clock side ≡ true
berserk_stays h g e side (WasOver o over same) b = ap (λ (x : Game). has_berserked x.clock side) same ∙ b
berserk_stays h g e side (WasDue going due same) b = ap (λ (x : Game). has_berserked x.clock side) same ∙ (berserk_due h g e.stamp side ∙ b)
berserk_stays h g e side (Looked going due look same) b = ap (λ (x : Game). has_berserked x.clock side) same ∙ b
berserk_stays h g e side (Refused by a r going due act is same) b = ap (λ (x : Game). has_berserked x.clock side) same ∙ b
berserk_stays h g e side (Did by a going due act is same) b =
    ap (λ (x : Game). has_berserked x.clock side) same ∙ (berserk_after h g by a e.stamp side ∙ or_yes _ _ b)

is_berserk : (by : Colour) (a : Action) (side : Colour) → berserks by a side ≡ true → (by ≡ side) × (a ≡ action.Berserk)
is_berserk White action.Berserk White e = (refl, refl)
is_berserk Black action.Berserk Black e = (refl, refl)
is_berserk White action.Berserk Black e = cc
is_berserk Black action.Berserk White e = cc
is_berserk by (action.Move m) side e = cc
is_berserk by action.Resign side e = cc
is_berserk by action.Offer side e = cc
is_berserk by action.Accept side e = cc
is_berserk by action.Decline side e = cc
is_berserk by action.Claim side e = cc

abbrev pub Told : Header → List Event → Type 0
Told h events = (side : Colour) → (has_berserked (game h events).clock side ≡ true) ↔ DoneAt h events side action.Berserk

berserk_was : (h : Header) (events : List Event) (e : Event) (side : Colour) → StepCase h (game h events) e → Told h events
    → has_berserked (after_event h (game h events) e).clock side ≡ true → DoneAt h (events ++ e ∷ []) side action.Berserk
berserk_was h events e side (WasOver o over same) told b =
    done_more h events e side action.Berserk ((told side).0 (sym (ap (λ (x : Game). has_berserked x.clock side) same) ∙ b))
berserk_was h events e side (WasDue going due same) told b =
    done_more h events e side action.Berserk ((told side).0 (sym (ap (λ (x : Game). has_berserked x.clock side) same ∙ berserk_due h (game h events) e.stamp side) ∙ b))
berserk_was h events e side (Looked going due look same) told b =
    done_more h events e side action.Berserk ((told side).0 (sym (ap (λ (x : Game). has_berserked x.clock side) same) ∙ b))
berserk_was h events e side (Refused by a r going due act is same) told b =
    done_more h events e side action.Berserk ((told side).0 (sym (ap (λ (x : Game). has_berserked x.clock side) same) ∙ b))
berserk_was h events e side (Did by a going due act is same) told b =
    elim (or_cases (has_berserked (game h events).clock side) (berserks by a side) (sym (ap (λ (x : Game). has_berserked x.clock side) same ∙ berserk_after h (game h events) by a e.stamp side) ∙ b)) [
      | inl old ↦ done_more h events e side action.Berserk ((told side).0 old)
      | inr new ↦ (let it = is_berserk by a side new in
          subst (λ s. DoneAt h (events ++ e ∷ []) s action.Berserk) it.0
          (subst (DoneAt h (events ++ e ∷ []) by) it.1 (done_now h events e by a act (record { going = going; in_time = due; accepted = is }))))
    ]

same_itself : (side : Colour) → same_colour side side ≡ true
same_itself White = refl
same_itself Black = refl

berserk_is : (h : Header) (events : List Event) (e : Event) (side : Colour) (before : List Event) → Found h events e side action.Berserk before → Told h events
    → has_berserked (game h (events ++ e ∷ [])).clock side ≡ true
berserk_is h events e side before (Earlier y same) told =
    ap (λ (x : Game). has_berserked x.clock side) (game-push h events e) ∙ berserk_stays h (game h events) e side (step_case h (game h events) e) ((told side).1 y)
berserk_is h events e side before (JustNow t same act done) told =
    ap (λ x. has_berserked (game h (events ++ x ∷ [])).clock side) act
    ∙ (ap (λ (x : Game). has_berserked x.clock side) (game-done h events side action.Berserk t done)
    ∙ (berserk_after h (game h events) side action.Berserk t side ∙ or_last _ _ (same_itself side)))

none_yet : (h : Header) (side : Colour) → has_berserked (game h []).clock side ≡ false
unfolding game has_berserked
none_yet h side = refl

told : (h : Header) (events : List Event) → Told h events
told h =
    snoc_induction (Told h)
    (λ side. (λ b. absurd (let off = none_yet h side in cc), λ x. absurd (nothing_done h side action.Berserk x)))
    (λ xs x p side.
    (λ b. berserk_was h xs x side (step_case h (game h xs) x) p (sym (ap (λ (g : Game). has_berserked g.clock side) (game-push h xs x)) ∙ b), λ d. berserk_is h xs x side d.before (found h xs x side action.Berserk d) p))

berserk_of_game : (h : Header) (events : List Event) (side : Colour) → berserk_of (standing h events).clocks side ≡ has_berserked (game h events).clock side
unfolding standing standing_of clocks
berserk_of_game h events White = refl
berserk_of_game h events Black = refl

pub berserk_means : (h : Header) (events : List Event) (side : Colour) → IsTrue (berserk_of (standing h events).clocks side) ↔ DoneAt h events side action.Berserk
berserk_means h events side =
    (λ b. (told h events side).0 (sym (berserk_of_game h events side) ∙ b), λ d. berserk_of_game h events side ∙ (told h events side).1 d)
