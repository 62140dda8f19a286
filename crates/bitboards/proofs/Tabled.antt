-- The tables of steps are those of the definitions, by computation.
use Rattle.std.proofs.Common.{◌≡◌, ℕ, ◌<◌, refl, arith, get_or, true}
use Rattle.board.specs.declared.piece.Colour.{Colour}
use Rattle.board.specs.declared.piece.Colour.TheVariants.{White, Black}
use Rattle.board.specs.Square.{file_of, rank_of, apart}
use Rattle.board.specs.Piece.{other}
use Rattle.board.specs.Attack.{knight_step, king_step, pawn_strike}
use Rattle.board.specs.Sets.{IsSetOf}
use Rattle.bitboards.specs.declared.tables.TheConstants.{KNIGHT, KING, WHITE_PAWN, BLACK_PAWN}
use Rattle.bitboards.proofs.Agreement.{rows_agree, table_at}

knights : rows_agree (λ s. get_or KNIGHT s 0) knight_step 64 ≡ true
knights = refl

kings : rows_agree (λ s. get_or KING s 0) king_step 64 ≡ true
kings = refl

white_pawns : rows_agree (λ s. get_or WHITE_PAWN s 0) (pawn_strike White) 64 ≡ true
white_pawns = refl

black_pawns : rows_agree (λ s. get_or BLACK_PAWN s 0) (pawn_strike Black) 64 ≡ true
black_pawns = refl

pub knight_at : (s : ℕ) → s < 64 → IsSetOf (get_or KNIGHT s 0) (knight_step s)
knight_at s on = λ t t_on. table_at (λ s. get_or KNIGHT s 0) knight_step knights s t on t_on

pub king_at : (s : ℕ) → s < 64 → IsSetOf (get_or KING s 0) (king_step s)
king_at s on = λ t t_on. table_at (λ s. get_or KING s 0) king_step kings s t on t_on

pub white_pawn_at : (s : ℕ) → s < 64 → IsSetOf (get_or WHITE_PAWN s 0) (pawn_strike White s)
white_pawn_at s on = λ t t_on. table_at (λ s. get_or WHITE_PAWN s 0) (pawn_strike White) white_pawns s t on t_on

pub black_pawn_at : (s : ℕ) → s < 64 → IsSetOf (get_or BLACK_PAWN s 0) (pawn_strike Black s)
black_pawn_at s on = λ t t_on. table_at (λ s. get_or BLACK_PAWN s 0) (pawn_strike Black) black_pawns s t on t_on

-- a step back is a step
pub apart_turned : (a b : ℕ) → apart a b ≡ apart b a
apart_turned a b = omega arith

pub knight_turned : (a b : ℕ) → knight_step a b ≡ knight_step b a
knight_turned a b = rw (apart_turned (file_of a) (file_of b), apart_turned (rank_of a) (rank_of b)) refl

pub king_turned : (a b : ℕ) → king_step a b ≡ king_step b a
king_turned a b = rw (apart_turned (file_of a) (file_of b), apart_turned (rank_of a) (rank_of b)) refl

-- a pawn strikes where a pawn of the other side would strike back
pub pawn_turned : (c : Colour) (a b : ℕ) → pawn_strike c a b ≡ pawn_strike (other c) b a
pawn_turned White a b = rw (apart_turned (file_of a) (file_of b)) refl
pawn_turned Black a b = rw (apart_turned (file_of a) (file_of b)) refl
