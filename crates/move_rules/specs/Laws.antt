-- Laws of the definitions, for every position and move.
use Rattle.std.specs.Prelude.{◌≡◌, ◌<◌, ◌↔◌, true, false, IsTrue}
use Rattle.board.specs.declared.parts.Parts.{Parts}
use Rattle.board.specs.Moves.{MoveWord, IsMove}
use Rattle.board.specs.Position.{IsPosition}
use Rattle.move_rules.specs.After.{is_quiet, is_en_passant, after}
use Rattle.move_rules.specs.Legal.{legal}
use Rattle.move_rules.specs.Lists.{SomeMove}
use Rattle.move_rules.specs.EnPassant.{ep_legal}
use Rattle.move_rules.specs.Weight.{weight_of}

-- a legal word is a move
abbrev pub LegalWordsAreMoves : Type 0
LegalWordsAreMoves = (p : Parts) (m : MoveWord) → IsTrue (legal p m) → IsMove m

-- a legal move leads from a position to a position
abbrev pub MovesLeadToPositions : Type 0
MovesLeadToPositions = (p : Parts) (m : MoveWord)
    → IsPosition p
    → IsMove m
    → IsTrue (legal p m)
    → IsPosition (after p m)

-- a pawn move or a capture takes weight off the board
abbrev pub OthersTakeWeight : Type 0
OthersTakeWeight = (p : Parts) (m : MoveWord)
    → IsPosition p
    → IsMove m
    → IsTrue (legal p m)
    → is_quiet p m ≡ false
    → weight_of (after p m) < weight_of p

-- a quiet move leaves it as it is
abbrev pub QuietMovesKeepWeight : Type 0
QuietMovesKeepWeight = (p : Parts) (m : MoveWord)
    → IsPosition p
    → IsMove m
    → IsTrue (legal p m)
    → is_quiet p m ≡ true
    → weight_of (after p m) ≡ weight_of p

-- an en passant square matters exactly where some legal move captures there
abbrev pub EnPassantIsByAMove : Type 0
EnPassantIsByAMove = (p : Parts)
    → IsTrue (ep_legal p) ↔ SomeMove (λ m. IsTrue (is_en_passant p m) × IsTrue (legal p m))
