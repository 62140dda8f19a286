-- How squares, kinds and moves are written.
use Rattle.std.specs.Prelude.{ℕ, ◌+◌, List, [], ◌∷◌, ◌++◌, Option, None, Some}
use Rattle.board.specs.declared.piece.Kind.{Kind}
use Rattle.board.specs.declared.piece.Kind.TheVariants.{Pawn, Knight, Bishop, Rook, Queen, King}
use Rattle.board.specs.Square.{file_of, rank_of}
use Rattle.board.specs.Moves.{MoveWord}

-- the file's letter and the rank's digit, from a1 to h8: 97 is `a`, and 49 is `1`
abbrev pub square_word : ℕ → List ℕ
square_word s = (97 + file_of s) ∷ (49 + rank_of s) ∷ []

-- the letter of a kind: p, n, b, r, q, k
abbrev pub kind_letter : Kind → ℕ
kind_letter Pawn = 112
kind_letter Knight = 110
kind_letter Bishop = 98
kind_letter Rook = 114
kind_letter Queen = 113
kind_letter King = 107

-- the letter of what a pawn becomes, or nothing
abbrev pub promo_word : Option Kind → List ℕ
promo_word None = []
promo_word (Some k) = kind_letter k ∷ []

-- the square from, the square to, and what a pawn becomes
abbrev pub move_word : MoveWord → List ℕ
move_word m = square_word m.from ++ square_word m.to ++ promo_word m.promo
