-- What holds of an action that is not refused.
use Rattle.std.proofs.Common.{◌≡◌, Bool, true, false, not, cond, None, Some, refl, IsTrue}
use Rattle.std.specs.Prelude.{◌==◌}
use Rattle.board.specs.declared.piece.Colour.{Colour}
use Rattle.board.specs.Piece.{same_colour}
use Rattle.board.specs.Moves.{MoveWord}
use Rattle.move_rules.specs.Legal.{legal}
use Rattle.game_clock.specs.ClockEvents.{has_moved}
use Rattle.game_clock.specs.Clocks.{berserk_of}
use Rattle.game_room.specs.declared.refusal.ActRefusal.{ActRefusal}
use Rattle.game_room.specs.Standing.{Standing}
use Rattle.game_room.specs.Refusals.{move_refusal, berserk_refusal}

passes : (a b : Bool) (r q : ActRefusal) → cond (not a) (Some r) (cond (not b) (Some q) None) ≡ None → IsTrue b
passes true true r q h = refl
passes true false r q h = cc
passes false b r q h = cc

-- a move is legal
pub move_is_legal : (s : Standing) (side : Colour) (m : MoveWord) → move_refusal s side m ≡ None → IsTrue (legal s.position m)
move_is_legal s side m h = passes (same_colour side s.position.turn) (legal s.position m) _ _ h

both_pass : (a b c : Bool) (r q p : ActRefusal) → cond a (Some r) (cond b (Some q) (cond c (Some p) None)) ≡ None → (a ≡ false) × (b ≡ false)
both_pass false false c r q p h = (refl, refl)
both_pass true b c r q p h = cc
both_pass false true c r q p h = cc

-- a side that berserks has made no move and has not berserked before
pub berserk_is_early : (s : Standing) (side : Colour) → berserk_refusal s side ≡ None → (has_moved side s.clocks.moves ≡ false) × (berserk_of s.clocks side ≡ false)
berserk_is_early s side h = both_pass (has_moved side s.clocks.moves) (berserk_of s.clocks side) (s.clocks.control.initial_ms == 0) _ _ _ h
