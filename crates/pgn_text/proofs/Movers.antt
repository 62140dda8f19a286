-- What is known of the piece that makes a legal move.
use Rattle.std.proofs.Common.{◌≡◌, refl, true, false, ◌&&◌, Option, None, Some, is_none, is_some, eqb, sym, ap, ◌∙◌}
use Rattle.std.proofs.lemmas.Bool.{and_parts, and_left, cond-false}
use Rattle.board.specs.declared.piece.Kind.{Kind}
use Rattle.board.specs.declared.piece.Piece.{Piece}
use Rattle.board.specs.declared.parts.Parts.{Parts}
use Rattle.board.specs.Moves.{MoveWord}
use Rattle.board.specs.Piece.{same_kind}
use Rattle.board.specs.Square.{rank_of}
use Rattle.board.specs.Attack.{piece_on}
use Rattle.board.specs.Cells.{is_kind}
use Rattle.board.specs.Pawns.{last_rank}
use Rattle.board.specs.Reach.{reaches, cell_reaches, kind_reaches}
use Rattle.move_rules.specs.After.{is_pawn_move}
use Rattle.move_rules.specs.Legal.{is_move, is_promotion, names_promo, leaves_king_safe, legal}
use Rattle.pgn_text.specs.San.{kind_at}

-- a piece of this kind makes the move by its way of moving, and names a promotion where there is one
pub record Mover (p : Parts) (m : MoveWord) (k : Kind) : Type 0 where
  pub kinds : (j : Kind) → is_kind j (piece_on p.cells m.from) ≡ same_kind k j
  pub kind : kind_at (piece_on p.cells m.from) ≡ k
  pub how : kind_reaches p k m.from m.to ≡ true
  pub promo : names_promo p m ≡ true

cell_moves : (p : Parts) (m : MoveWord) (cell : Option Piece) → piece_on p.cells m.from ≡ cell → cell_reaches p m.from m.to cell ≡ true → names_promo p m ≡ true → Mover p m (kind_at cell)
cell_moves p m None e h named = cc
cell_moves p m (Some piece) e h named = record {
  kinds = λ j. ap (is_kind j) e;
  kind = ap kind_at e;
  how = (and_parts _ _ h).1;
  promo = named;
}

-- the piece of a legal move
pub mover : (p : Parts) (m : MoveWord) → legal p m ≡ true → Mover p m (kind_at (piece_on p.cells m.from))
unfolding legal reaches
mover p m h =
    let one = and_parts (is_move m && reaches p m.from m.to && names_promo p m) (leaves_king_safe p m) h in
    let two = and_parts (is_move m && reaches p m.from m.to) (names_promo p m) one.0 in
    cell_moves p m (piece_on p.cells m.from) refl (and_parts (is_move m) (reaches p m.from m.to) two.0).1 two.1

none_from_is_none : (k : Option Kind) → is_none k ≡ true → k ≡ None
none_from_is_none None h = refl
none_from_is_none (Some k) h = cc

-- what is no pawn becomes nothing
pub no_promotion : (p : Parts) (m : MoveWord) → is_pawn_move p m ≡ false → names_promo p m ≡ true → m.promo ≡ None
unfolding names_promo
no_promotion p m none h =
    none_from_is_none m.promo (sym (cond-false (is_promotion p m) (is_some m.promo) (is_none m.promo) (and_left (is_pawn_move p m) (eqb (rank_of m.to) (last_rank p.turn)) none)) ∙ h)
