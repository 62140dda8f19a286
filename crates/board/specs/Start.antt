-- The start of a game.
use Rattle.std.specs.Prelude.{List, [], ◌∷◌, ◌++◌, Option, None, Some, map, replicate, true}
use Rattle.board.specs.declared.piece.Colour.{Colour}
use Rattle.board.specs.declared.piece.Colour.TheVariants.{White, Black}
use Rattle.board.specs.declared.piece.Kind.{Kind}
use Rattle.board.specs.declared.piece.Kind.TheVariants.{Pawn, Knight, Bishop, Rook, Queen, King}
use Rattle.board.specs.declared.piece.Piece.{Piece}
use Rattle.board.specs.declared.parts.Parts.{Parts}

-- the cell of a piece of this colour and kind
abbrev pub man : Colour → Kind → Option Piece
man c k = Some (record { colour = c; kind = k })

-- the pieces behind the pawns, from the a-file on
abbrev pub officers : Colour → List (Option Piece)
officers c = map (man c) (Rook ∷ Knight ∷ Bishop ∷ Queen ∷ King ∷ Bishop ∷ Knight ∷ Rook ∷ [])

-- eight pawns
abbrev pub pawns : Colour → List (Option Piece)
pawns c = replicate 8 (man c Pawn)

-- the usual array, with White to move, every castling left and no pawn just crossed
abbrev pub start_parts : Parts
start_parts = record {
  cells = officers White ++ pawns White ++ replicate 32 None ++ pawns Black ++ officers Black;
  turn = White;
  rights = record { white_short = true; white_long = true; black_short = true; black_long = true };
  ep = None;
  half = 0;
  number = 1;
}
