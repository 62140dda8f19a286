-- What an action is answered.
use Rattle.std.specs.Prelude.{ℕ, ◌==◌, not, ◌||◌, if◌then◌else◌, Option, None, Some, is_some, is_none}
use Rattle.board.specs.declared.piece.Colour.{Colour}
use Rattle.board.specs.Piece.{other, same_colour}
use Rattle.board.specs.Moves.{MoveWord}
use Rattle.move_rules.specs.Legal.{legal}
use Rattle.entries.specs.declared.action.Action.{Action}
use Rattle.entries.specs.declared.action.Action.TheVariants as action
use Rattle.game_clock.specs.ClockEvents.{has_moved}
use Rattle.game_clock.specs.Clocks.{berserk_of, is_due}
use Rattle.game_room.specs.declared.refusal.ActRefusal.{ActRefusal}
use Rattle.game_room.specs.declared.refusal.ActRefusal.TheVariants as refused
use Rattle.game_room.specs.Standing.{Standing, is_over, has_offered, is_offer_of}
use Rattle.game_room.specs.Endings.{claim_cause}

-- a move is refused to the other side, and where it is not legal
abbrev pub move_refusal : Standing → Colour → MoveWord → Option ActRefusal
move_refusal s side m =
    if not (same_colour side s.position.turn) then Some refused.NotYourTurn
    else if not (legal s.position m) then Some refused.Illegal
    else None

-- an offer is refused where one stands, and where this side has offered since the last move
abbrev pub offer_refusal : Standing → Colour → Option ActRefusal
offer_refusal s side = if is_some s.offer || has_offered s side then Some refused.OfferStands else None

-- accepting and declining are refused where no offer of the other side stands
abbrev pub reply_refusal : Standing → Colour → Option ActRefusal
reply_refusal s side = if not (is_offer_of (other side) s.offer) then Some refused.NoOffer else None

-- a claim is refused to the other side, and where nothing can be claimed
abbrev pub claim_refusal : Standing → Colour → Option ActRefusal
claim_refusal s side =
    if not (same_colour side s.position.turn) then Some refused.NotYourTurn
    else if is_none (claim_cause s.times s.quiet) then Some refused.NoClaim
    else None

-- a berserk is refused once the side has made a move, once it has berserked, and where the initial time is 0
abbrev pub berserk_refusal : Standing → Colour → Option ActRefusal
berserk_refusal s side =
    if has_moved side s.clocks.moves then Some refused.BerserkLate
    else if berserk_of s.clocks side then Some refused.BerserkTwice
    else if s.clocks.control.initial_ms == 0 then Some refused.BerserkZero
    else None

-- the first refusal of an action in a game that goes on and is not due
abbrev pub own_refusal : Standing → Colour → Action → Option ActRefusal
own_refusal s side (action.Move m) = move_refusal s side m
own_refusal s side action.Resign = None
own_refusal s side action.Offer = offer_refusal s side
own_refusal s side action.Accept = reply_refusal s side
own_refusal s side action.Decline = reply_refusal s side
own_refusal s side action.Claim = claim_refusal s side
own_refusal s side action.Berserk = berserk_refusal s side

-- the refusal of an action at t: in an ended game any is refused, in a due game none, and else its own refusals come in order
unfoldable pub refusal : Standing → Colour → Action → ℕ → Option ActRefusal
refusal s side a t =
    if is_over s then Some refused.Over
    else if is_due s.clocks t then None
    else own_refusal s side a
