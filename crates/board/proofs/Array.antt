-- The usual array is a position.
use Rattle.std.proofs.Common.{refl, arith}
use Rattle.board.specs.Attack.{is_clear, strikes_as, strikes_from, attacked, king_attacked}
use Rattle.board.specs.Position.{IsPosition}
use Rattle.board.specs.Start.{start_parts}

pub start_is_position : IsPosition start_parts
unfolding is_clear strikes_as strikes_from attacked king_attacked
start_is_position = record {
  board = record { squares = refl; white_king = refl; black_king = refl; first_rank = refl; last_rank = refl };
  safe = refl;
  rights = record { white_short = refl; white_long = refl; black_short = refl; black_long = refl };
  ep = refl;
  half_most = omega arith;
  number_least = omega arith;
  number_most = omega arith;
}
