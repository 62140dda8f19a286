-- The parts after a legal move are those of a position.
use Rattle.std.proofs.Common.{◌≡◌, ℕ, ◌+◌, ◌≤◌, List, length, arith, ◌∙◌, nat_lt, true, ◌||◌, not, Option, None, inl, inr}
use Rattle.std.proofs.Math.ListN.{set, length-set}
use Rattle.std.proofs.lemmas.Bool.{cond_both}
use Rattle.board.specs.declared.piece.Colour.{Colour}
use Rattle.board.specs.declared.piece.Colour.TheVariants.{White, Black}
use Rattle.board.specs.declared.piece.Piece.{Piece}
use Rattle.board.specs.declared.parts.Parts.{Parts}
use Rattle.board.specs.Moves.{MoveWord, IsMove}
use Rattle.board.specs.Attack.{piece_on}
use Rattle.board.specs.Position.{IsPosition, is_pawnless, home}
use Rattle.board.specs.Cells.{is_empty}
use Rattle.move_rules.specs.After.{after, cells_after, rights_after, half_after, number_after, next_count, moved_cells, rook_moved_cells, castled_cells, passed_pawn, is_en_passant, is_castling, is_pawn_move}
use Rattle.move_rules.specs.Legal.{legal}
use Rattle.board.proofs.RangeTests.{all_from}
use Rattle.move_rules.proofs.Strikes.{other_other}
use Rattle.move_rules.proofs.Legality.{legal_move, king_safe, length_moved}
use Rattle.move_rules.proofs.KingsKept.{kings_after}
use Rattle.move_rules.proofs.PawnRanks.{pawnless_after}
use Rattle.move_rules.proofs.RightsKept.{right_keeps}
use Rattle.move_rules.proofs.PassedSquare.{ep_keeps}

length_rook_moved : (cells : List (Option Piece)) (a b : ℕ) → length (rook_moved_cells cells a b) ≡ length cells
length_rook_moved cells a b = length-set (set cells a None) b (piece_on cells a) ∙ length-set cells a None

length_castled : (p : Parts) (m : MoveWord) → length (castled_cells p m) ≡ length p.cells
length_castled p m =
    let h = home p.turn in
    let rook = λ (a b : ℕ). length_rook_moved (moved_cells p m) a b ∙ length_moved p m in
    cond_both (nat_lt m.from m.to) (rook_moved_cells (moved_cells p m) (h + 7) (h + 5)) (rook_moved_cells (moved_cells p m) h (h + 3))
    (λ cells. length cells ≡ length p.cells) (λ _. rook (h + 7) (h + 5)) (λ _. rook h (h + 3))

length_after : (p : Parts) (m : MoveWord) → length (cells_after p m) ≡ length p.cells
unfolding cells_after
length_after p m =
    let same : List (Option Piece) → Type 0 = λ cells. length cells ≡ length p.cells in
    cond_both (is_en_passant p m) _ _ same
    (λ _. length-set (moved_cells p m) (passed_pawn m) None ∙ length_moved p m)
    (λ _. cond_both (is_castling p m) _ _ same (λ _. length_castled p m) (λ _. length_moved p m))

half_kept : (p : Parts) (m : MoveWord) → half_after p m ≤ 65535
unfolding half_after
half_kept p m = cond_both (is_pawn_move p m || not (is_empty p.cells m.to)) 0 (next_count p.half) (λ n. n ≤ 65535) (λ _. omega arith) (λ _. omega arith)

number_kept : (c : Colour) (n : ℕ) → 1 ≤ n → n ≤ 65535 → (1 ≤ number_after c n) × (number_after c n ≤ 65535)
number_kept White n least most = (least, most)
number_kept Black n least most = (omega arith, omega arith)

pub after_is_position : (p : Parts) (m : MoveWord) → IsPosition p → IsMove m → legal p m ≡ true → IsPosition (after p m)
unfolding rights_after
after_is_position p m position word h =
    let l = legal_move p m position word h in
    let number = number_kept p.turn p.number position.number_least position.number_most in
    record {
      board = record {
        squares = length_after p m ∙ position.board.squares;
        white_king = kings_after p m White l ∙ position.board.white_king;
        black_king = kings_after p m Black l ∙ position.board.black_king;
        first_rank = all_from (is_pawnless (cells_after p m)) 0 8 (λ k low high. pawnless_after p m k l (omega arith) (inl (omega arith)));
        last_rank = all_from (is_pawnless (cells_after p m)) 56 8 (λ k low high. pawnless_after p m k l (omega arith) (inr (omega arith)));
      };
      safe = rw other_other (king_safe p m h);
      rights = record {
        white_short = right_keeps p m White 7 p.rights.white_short (omega arith) l position.rights.white_short;
        white_long = right_keeps p m White 0 p.rights.white_long (omega arith) l position.rights.white_long;
        black_short = right_keeps p m Black 7 p.rights.black_short (omega arith) l position.rights.black_short;
        black_long = right_keeps p m Black 0 p.rights.black_long (omega arith) l position.rights.black_long;
      };
      ep = ep_keeps p m l;
      half_most = half_kept p m;
      number_least = number.0;
      number_most = number.1;
    }
