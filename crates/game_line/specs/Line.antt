-- A line of moves from the start of a game, the positions along it, and when it is legal.
use Rattle.std.specs.Prelude.{List, [], ◌∷◌, map, IsTrue}
use Rattle.std.specs.List.{All, fold}
use Rattle.board.specs.declared.parts.Parts.{Parts}
use Rattle.board.specs.Moves.{MoveWord, IsMove}
use Rattle.board.specs.Start.{start_parts}
use Rattle.move_rules.specs.After.{after}
use Rattle.move_rules.specs.Legal.{legal}

-- a move, and the position in which it is made
pub record Ply : Type 0 where
  pub before : Parts
  pub move : MoveWord

-- the position after it
abbrev pub after_ply : Ply → Parts
after_ply ply = after ply.before ply.move

-- the moves, each with the position in which it is made, from a position on
abbrev pub plies_from : Parts → List MoveWord → List Ply
plies_from p [] = []
plies_from p (m ∷ ms) = record { before = p; move = m } ∷ plies_from (after p m) ms

-- the same from the start of a game on
unfoldable pub plies : List MoveWord → List Ply
plies ms = plies_from start_parts ms

-- the position after all of the moves
unfoldable pub position_after : List MoveWord → Parts
position_after ms = fold after start_parts ms

-- a position, and the position after each move from it on
unfoldable pub line_from : Parts → List MoveWord → List Parts
line_from p ms = p ∷ map after_ply (plies_from p ms)

-- the line: the position at the start and the position after each move
unfoldable pub line : List MoveWord → List Parts
line ms = line_from start_parts ms

-- a move that can be named, and that is legal in the position in which it is made
pub record IsLegalPly (ply : Ply) : Type 0 where
  pub word : IsMove ply.move
  pub legal : IsTrue (legal ply.before ply.move)

-- each move of the line is legal
unfoldable pub IsLegalLine : List MoveWord → Type 0
IsLegalLine ms = All IsLegalPly (plies ms)
