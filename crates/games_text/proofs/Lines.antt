-- The moves of a game are a legal line.
use Rattle.std.proofs.Common.{◌≡◌, ℕ, None, List, [], ◌∷◌, ◌++◌, ◌&&◌, Bool, true, false, refl, sym, subst}
use Rattle.std.specs.List.{fold}
use Rattle.board.specs.declared.piece.Colour.{Colour}
use Rattle.board.specs.declared.piece.Colour.TheVariants.{White, Black}
use Rattle.board.specs.declared.parts.Parts.{Parts}
use Rattle.board.specs.Moves.{MoveWord}
use Rattle.board.specs.Start.{start_parts}
use Rattle.move_rules.specs.After.{after}
use Rattle.move_rules.specs.Legal.{legal}
use Rattle.entries.specs.declared.action.Action.{Action}
use Rattle.entries.specs.declared.action.Action.TheVariants as action
use Rattle.game_line.specs.Line.{position_after}
use Rattle.game_room.specs.declared.header.Header.{Header}
use Rattle.game_room.specs.Events.{Event}
use Rattle.game_room.specs.Refusals.{own_refusal}
use Rattle.game_room.specs.Games.{Game, new_game, standing_of, moves, settled, moved, after_event, after_due, after_action}
use Rattle.game_room.proofs.Accepted.{move_is_legal}
use Rattle.game_room.proofs.Cases.{StepCase, WasOver, WasDue, Looked, Refused, Did, step_case}
use Rattle.game_room.proofs.Counted.{kept_by_events}
use Rattle.pgn_text.specs.Games.{is_line}
use Rattle.games_text.specs.Sent.{MovesAreALine}

both : (a b : Bool) → a ≡ true → b ≡ true → (a && b) ≡ true
both true b x y = y
both false b x y = x

first_of : (a b : Bool) → (a && b) ≡ true → (a ≡ true) × (b ≡ true)
first_of true b x = (refl, x)
first_of false b x = cc

-- a line with one move more that is legal behind it
line_more : (p : Parts) (ms : List MoveWord) (m : MoveWord) → is_line p ms ≡ true → legal (fold after p ms) m ≡ true → is_line p (ms ++ m ∷ []) ≡ true
unfolding is_line
line_more p [] m is ok = both (legal p m) true ok refl
line_more p (x ∷ ms) m is ok =
    let parts = first_of (legal p x) (is_line (after p x) ms) is in
    both (legal p x) (is_line (after p x) (ms ++ m ∷ [])) parts.0 (line_more (after p x) ms m parts.1 ok)

-- the moves of a game are a legal line
abbrev HasLine : Game → Type 0
HasLine g = is_line start_parts g.moves ≡ true

line_after : (h : Header) (g : Game) (side : Colour) (a : Action) (t : ℕ) → own_refusal (standing_of h g) side a ≡ None → HasLine g → HasLine (after_action h g side a t)
unfolding settled moved standing_of position_after
line_after h g side (action.Move m) t ok f = line_more start_parts g.moves m f (move_is_legal (standing_of h g) side m ok)
line_after h g side action.Resign t ok f = f
line_after h g White action.Offer t ok f = f
line_after h g Black action.Offer t ok f = f
line_after h g side action.Accept t ok f = f
line_after h g side action.Decline t ok f = f
line_after h g side action.Claim t ok f = f
line_after h g side action.Berserk t ok f = f

line_due : (h : Header) (g : Game) (t : ℕ) → HasLine g → HasLine (after_due h g t)
unfolding settled
line_due h g t f = f

line_case : (h : Header) (g : Game) (e : Event) → StepCase h g e → HasLine g → HasLine (after_event h g e)
line_case h g e (WasOver o over same) f = subst HasLine (sym same) f
line_case h g e (WasDue going due same) f = subst HasLine (sym same) (line_due h g e.stamp f)
line_case h g e (Looked going due look same) f = subst HasLine (sym same) f
line_case h g e (Refused side a r going due act is same) f = subst HasLine (sym same) f
line_case h g e (Did side a going due act is same) f = subst HasLine (sym same) (line_after h g side a e.stamp is f)

line_new : HasLine new_game
unfolding is_line
line_new = refl

pub moves_are_a_line : MovesAreALine
unfolding moves
moves_are_a_line h xs = kept_by_events h HasLine line_new (λ g e f. line_case h g e (step_case h g e) f) xs
