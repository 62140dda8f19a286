-- A piece that comes to a square where another stands strikes it; so no king is ever captured.
use Rattle.std.proofs.Common.{◌≡◌, ℕ, ◌<◌, refl, arith, Bool, true, false, ◌&&◌, Option, None, Some, is_none}
use Rattle.std.proofs.lemmas.Bool.{and_parts, and_from, or_cases, false_from_ne_true, both_ways}
use Rattle.board.specs.declared.piece.Colour.{Colour}
use Rattle.board.specs.declared.piece.Colour.TheVariants.{White, Black}
use Rattle.board.specs.declared.piece.Kind.{Kind}
use Rattle.board.specs.declared.piece.Kind.TheVariants.{Pawn, Knight, Bishop, Rook, Queen, King}
use Rattle.board.specs.declared.piece.Piece.{Piece}
use Rattle.board.specs.declared.parts.Parts.{Parts}
use Rattle.board.specs.Piece.{other, is_piece}
use Rattle.board.specs.Attack.{piece_on, strikes_as, strikes_from, attacked, king_attacked, pawn_strike, king_step}
use Rattle.board.proofs.Equal.{same_colour-itself}
use Rattle.board.specs.Cells.{is_empty}
use Rattle.board.specs.Pawns.{pawn_reaches}
use Rattle.board.specs.Castling.{castles_short, castles_long}
use Rattle.board.specs.Reach.{king_reaches, kind_reaches}
use Rattle.board.proofs.RangeTests.{any_at}
use Rattle.move_rules.proofs.Castlings.{short_tells, long_tells}
use Rattle.move_rules.proofs.Reached.{Reach}

-- a king that castles comes to an empty square
castles_to_empty_short : (p : Parts) (a b : ℕ) → castles_short p a b ≡ true → is_empty p.cells b ≡ true
castles_to_empty_short p a b h = (short_tells p a b h).arrives

castles_to_empty_long : (p : Parts) (a b : ℕ) → castles_long p a b ≡ true → is_empty p.cells b ≡ true
castles_to_empty_long p a b h = (long_tells p a b h).arrives

pawn_strikes : (p : Parts) (a b : ℕ) → pawn_reaches p a b ≡ true → is_empty p.cells b ≡ false → pawn_strike p.turn a b ≡ true
pawn_strikes p a b h full = grind (arith, and_parts, or_cases)

king_strikes : (p : Parts) (a b : ℕ) → king_reaches p a b ≡ true → is_empty p.cells b ≡ false → king_step a b ≡ true
king_strikes p a b h full = grind (arith, castles_to_empty_short p a b, castles_to_empty_long p a b)

kind_strikes : (p : Parts) (k : Kind) (a b : ℕ) → kind_reaches p k a b ≡ true → is_empty p.cells b ≡ false → strikes_as p.cells k p.turn a b ≡ true
unfolding strikes_as
kind_strikes p Pawn a b h full = pawn_strikes p a b h full
kind_strikes p King a b h full = king_strikes p a b h full
kind_strikes p Knight a b h full = h
kind_strikes p Bishop a b h full = h
kind_strikes p Rook a b h full = h
kind_strikes p Queen a b h full = h

pub strike_of : (p : Parts) (a b : ℕ) (r : Reach p a b) → is_empty p.cells b ≡ false → strikes_from p.cells p.turn b a ≡ true
unfolding strikes_from
strike_of p a b r full = rw (r.stands, r.own) (and_from _ _ (same_colour-itself p.turn) (kind_strikes p r.piece.kind a b r.how full))

full_by : (c : Colour) (k : Kind) (cell : Option Piece) → is_piece c k cell ≡ true → is_none cell ≡ false
full_by c k None h = cc
full_by c k (Some piece) h = refl

pub other_other : (c : Colour) → other (other c) ≡ c
other_other White = refl
other_other Black = refl

attacked_by : (p : Parts) (a b : ℕ) → a < 64 → strikes_from p.cells p.turn b a ≡ true → attacked p.cells b p.turn ≡ true
unfolding attacked
attacked_by p a b a_on h = any_at (λ s. strikes_from p.cells p.turn b s) 64 a a_on h

-- the other side is not in check, so its king does not stand where a piece goes
pub no_king_taken : (p : Parts) (a b : ℕ) → a < 64 → b < 64 → Reach p a b → king_attacked p.cells (other p.turn) ≡ false → is_piece (other p.turn) King (piece_on p.cells b) ≡ false
unfolding king_attacked
no_king_taken p a b a_on b_on r safe =
    false_from_ne_true (is_piece (other p.turn) King (piece_on p.cells b))
    (λ king.
    let full : is_empty p.cells b ≡ false = full_by (other p.turn) King (piece_on p.cells b) king in
    let struck : attacked p.cells b (other (other p.turn)) ≡ true = rw other_other (attacked_by p a b a_on (strike_of p a b r full)) in
    let f : ℕ → Bool = λ s. is_piece (other p.turn) King (piece_on p.cells s) && attacked p.cells s (other (other p.turn)) in
    both_ways _ safe (any_at f 64 b b_on (and_from _ _ king struck)))
