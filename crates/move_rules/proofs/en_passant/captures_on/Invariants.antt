use Rattle.std.proofs.Common.{◌≡◌, ℕ, None}
use Rattle.std.specs.List.{list_any}
use Rattle.bitboards.specs.Squares.{squares_in}
use Rattle.move_rules.specs.Lists.{squares, move_of}
use Rattle.move_rules.specs.EnPassant.{is_legal_en_passant}
use Rattle.move_rules.proofs.en_passant.captures_on.Given as goal

abbrev pub invariant-loop-pawns : goal.invariant-loop-pawns
invariant-loop-pawns l =
    list_any (λ (a : ℕ). is_legal_en_passant l.p (move_of a l.to None)) (squares_in l.pawns) ≡ list_any (λ (a : ℕ). is_legal_en_passant l.p (move_of a l.to None)) squares

abbrev pub decreases-loop-pawns : goal.decreases-loop-pawns
decreases-loop-pawns l = l.pawns
