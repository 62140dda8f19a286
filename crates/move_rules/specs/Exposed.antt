-- Which moves can leave the own king attacked.
use Rattle.std.specs.Prelude.{ℕ, ◌≡◌, Bool, false, Option, None, Some, IsTrue}
use Rattle.board.specs.declared.piece.Colour.{Colour}
use Rattle.board.specs.declared.parts.Parts.{Parts}
use Rattle.board.specs.Attack.{pawn_strike}
use Rattle.board.specs.Moves.{MoveWord, IsMove}
use Rattle.board.specs.Reach.{reaches}
use Rattle.board.specs.Sets.{has}
use Rattle.move_rules.specs.Legal.{leaves_king_safe}

-- a pawn of this colour strikes the en passant square from here
abbrev pub strikes_ep : Colour → Option ℕ → ℕ → Bool
strikes_ep c None s = false
strikes_ep c (Some e) s = pawn_strike c s e

-- a piece that leaves a square outside the set leaves its king safe
abbrev pub IsSafeOutside : Parts → ℕ → Type 0
IsSafeOutside p set = (m : MoveWord)
    → IsMove m
    → IsTrue (reaches p m.from m.to)
    → has set m.from ≡ false
    → IsTrue (leaves_king_safe p m)
