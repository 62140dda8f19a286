-- The text of a game.
use Rattle.std.specs.Prelude.{ℕ, ◌≡◌, ◌+◌, ◌==◌, nat_le, if◌then◌else◌, List, [], ◌∷◌, ◌++◌, length, codes}
use Rattle.std.specs.List.{flat_map}
use Rattle.std.specs.Fmt.{decimal}
use Rattle.board.specs.declared.piece.Colour.{Colour}
use Rattle.board.specs.declared.piece.Colour.TheVariants.{White, Black}
use Rattle.board.specs.declared.parts.Parts.{Parts}
use Rattle.board.specs.Moves.{MoveWord}
use Rattle.board.specs.Start.{start_parts}
use Rattle.move_rules.specs.After.{after}
use Rattle.pgn_text.specs.declared.game.Tag.{Tag}
use Rattle.pgn_text.specs.declared.game.PgnResult.{PgnResult}
use Rattle.pgn_text.specs.declared.game.PgnResult.TheVariants.{White as WhiteWins, Black as BlackWins, Draw, Unknown}
use Rattle.pgn_text.specs.declared.game.PgnGame.{PgnGame}
use Rattle.pgn_text.specs.San.{san}

-- the line `[NAME "VALUE"]` and its line feed
abbrev pub tag_line : Tag → List ℕ
tag_line t = 91 ∷ t.name ++ 32 ∷ 34 ∷ t.value ++ 34 ∷ 93 ∷ 10 ∷ []

-- the last token
abbrev pub result_text : PgnResult → List ℕ
result_text WhiteWins = codes "1-0"
result_text BlackWins = codes "0-1"
result_text Draw = codes "1/2-1/2"
result_text Unknown = codes "*"

-- before a move of White's stands its number and a dot
abbrev pub number_tokens : Colour → ℕ → List (List ℕ)
number_tokens White n = (decimal n ++ codes ".") ∷ []
number_tokens Black n = []

-- the number rises after a move of Black's
abbrev pub next_number : Colour → ℕ → ℕ
next_number White n = n
next_number Black n = n + 1

-- the tokens of moves from a position, of which the next has this number, and then the result
unfoldable pub tokens_from : ℕ → Parts → List MoveWord → PgnResult → List (List ℕ)
tokens_from n p [] r = result_text r ∷ []
tokens_from n p (m ∷ ms) r = number_tokens p.turn n ++ san p m ∷ tokens_from (next_number p.turn n) (after p m) ms r

-- one space before a token, or a line feed where the line would pass 79 bytes with it; nothing before the first
abbrev pub separator : ℕ → List ℕ → List ℕ
separator column token = if column == 0 then [] else if nat_le (column + 1 + length token) 79 then 32 ∷ [] else 10 ∷ []

-- how many bytes the line has with the token
abbrev pub column_after : ℕ → List ℕ → ℕ
column_after column token =
    if column == 0 then length token else if nat_le (column + 1 + length token) 79 then column + 1 + length token else length token

-- the tokens on lines, of which the first has so many bytes already
unfoldable pub laid : ℕ → List (List ℕ) → List ℕ
laid column [] = []
laid column (token ∷ tokens) = separator column token ++ token ++ laid (column_after column token) tokens

-- with these tokens put behind a text whose last line has so many bytes, it goes on with any further ones
abbrev pub Lays : List ℕ → List ℕ → ℕ → ℕ → List (List ℕ) → Type 0
Lays before behind column next tokens = (more : List (List ℕ)) → behind ++ laid next more ≡ before ++ laid column (tokens ++ more)

-- the tokens of all moves and the result, on lines
abbrev pub movetext : PgnGame → List ℕ
movetext g = laid 0 (tokens_from 1 start_parts g.moves g.result)

-- the tags, an empty line, the moves, and an empty line
unfoldable pub pgn_of : PgnGame → List ℕ
pgn_of g = flat_map tag_line g.tags ++ 10 ∷ movetext g ++ 10 ∷ 10 ∷ []
