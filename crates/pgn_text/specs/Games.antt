-- Games that can be written.
use Rattle.std.specs.Prelude.{ℕ, ◌==◌, nat_le, Bool, true, ◌&&◌, ◌||◌, not, List, [], ◌∷◌, length, codes, IsTrue}
use Rattle.std.specs.List.{list_all}
use Rattle.std.specs.Str.{bytes_eq}
use Rattle.board.specs.declared.parts.Parts.{Parts}
use Rattle.board.specs.Moves.{MoveWord}
use Rattle.board.specs.Start.{start_parts}
use Rattle.move_rules.specs.After.{after}
use Rattle.move_rules.specs.Legal.{legal}
use Rattle.pgn_text.specs.declared.game.Tag.{Tag}
use Rattle.pgn_text.specs.declared.game.PgnGame.{PgnGame}

-- a digit, `0` to `9`
abbrev pub is_digit : ℕ → Bool
is_digit b = nat_le 48 b && nat_le b 57

-- a letter, a digit or `_`
abbrev pub is_name_byte : ℕ → Bool
is_name_byte b = (nat_le 65 b && nat_le b 90) || (nat_le 97 b && nat_le b 122) || is_digit b || (b == 95)

-- a byte of at least 32 that is neither `"` nor `\`
abbrev pub is_value_byte : ℕ → Bool
is_value_byte b = nat_le 32 b && not (b == 34) && not (b == 92)

-- `FEN` or `SetUp`, the names of tags that say from where a game starts
abbrev pub is_start_name : List ℕ → Bool
is_start_name name = bytes_eq name (codes "FEN") || bytes_eq name (codes "SetUp")

-- one or more letters, digits or `_`
abbrev pub is_name : List ℕ → Bool
is_name name = not (length name == 0) && list_all is_name_byte name

-- a name, and a value that needs no escape
abbrev pub is_tag : Tag → Bool
is_tag t = is_name t.name && list_all is_value_byte t.value

-- each move is legal after those before it
unfoldable pub is_line : Parts → List MoveWord → Bool
is_line p [] = true
is_line p (m ∷ ms) = legal p m && is_line (after p m) ms

-- the position after moves
unfoldable pub position_after : Parts → List MoveWord → Parts
position_after p [] = p
position_after p (m ∷ ms) = position_after (after p m) ms

-- a game that can be written: its tags have the form of tags and none says from where it starts, and its moves are a legal
-- line from the start
pub record IsGame (g : PgnGame) : Type 0 where
  pub tags : IsTrue (list_all is_tag g.tags)
  pub start : IsTrue (list_all (λ (t : Tag). not (is_start_name t.name)) g.tags)
  pub line : IsTrue (is_line start_parts g.moves)
