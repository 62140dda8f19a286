-- Moves as they are named: a king's move of two squares for castling, and what a pawn becomes on the last rank.
use Rattle.std.specs.Prelude.{ℕ, ◌<◌, Option, None, Some, Bool, true, false, IsTrue}
use Rattle.board.specs.declared.piece.Kind.{Kind}
use Rattle.board.specs.declared.piece.Kind.TheVariants.{Pawn, Knight, Bishop, Rook, Queen, King}

-- from where, to where, and what a pawn becomes
pub record MoveWord : Type 0 where
  pub from : ℕ
  pub to : ℕ
  pub promo : Option Kind

-- a pawn becomes a knight, a bishop, a rook or a queen, or nothing is named
abbrev pub can_be_promo : Option Kind → Bool
can_be_promo None = true
can_be_promo (Some Knight) = true
can_be_promo (Some Bishop) = true
can_be_promo (Some Rook) = true
can_be_promo (Some Queen) = true
can_be_promo (Some Pawn) = false
can_be_promo (Some King) = false

-- two squares of the board, and a promotion that there is
pub record IsMove (m : MoveWord) : Type 0 where
  pub from : m.from < 64
  pub to : m.to < 64
  pub promo : IsTrue (can_be_promo m.promo)
