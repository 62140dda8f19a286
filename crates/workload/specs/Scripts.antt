-- The six scripts of games: in each the two players act in turn.
use Rattle.std.specs.Prelude.{ℕ, ◌==◌, List, [], ◌∷◌, ◌++◌, Option, Some, codes, if◌then◌else◌}
use Rattle.std.specs.Option.{option_map, option_to_list}
use Rattle.std.specs.Str.{bytes_eq}
use Rattle.board.specs.declared.piece.Colour.{Colour}
use Rattle.board.specs.declared.piece.Colour.TheVariants.{White, Black}
use Rattle.board.specs.Piece.{other}
use Rattle.board.specs.Reading.{move_in}
use Rattle.entries.specs.declared.action.Action.{Action}
use Rattle.entries.specs.declared.action.Action.TheVariants.{Move, Resign, Offer, Accept, Berserk}
use Rattle.entries.specs.declared.journal.Entry.{Entry}
use Rattle.entries.specs.declared.journal.Start.{Start}
use Rattle.arena_rules.specs.declared.command.Command.TheVariants.{Act}
use Rattle.arena_rules.specs.Commands.{entry_of}

-- who begins, and the words of what the two players do in turn
pub record Script : Type 0 where
  pub first : Colour
  pub words : List (List ℕ)

-- White resigns
abbrev pub resigned : Script
resigned = record { first = White; words = codes "resign" ∷ [] }

-- Black mates in four plies
abbrev pub mated : Script
mated = record { first = White; words = codes "f2f3" ∷ codes "e7e5" ∷ codes "g2g4" ∷ codes "d8h4" ∷ [] }

-- a draw is agreed after one ply
abbrev pub agreed : Script
agreed = record { first = White; words = codes "e2e4" ∷ codes "offer" ∷ codes "accept" ∷ [] }

-- Black goes berserk, and resigns after one ply
abbrev pub given_up : Script
given_up = record { first = Black; words = codes "berserk" ∷ codes "e2e4" ∷ codes "resign" ∷ [] }

-- a stalemate in nineteen plies
abbrev pub stalemated : Script
stalemated = record {
  first = White;
  words =
      codes "e2e3" ∷ codes "a7a5" ∷ codes "d1h5" ∷ codes "a8a6" ∷ codes "h5a5" ∷ codes "h7h5" ∷ codes "h2h4" ∷ codes "a6h6"
      ∷ codes "a5c7" ∷ codes "f7f6" ∷ codes "c7d7" ∷ codes "e8f7" ∷ codes "d7b7" ∷ codes "d8d3" ∷ codes "b7b8" ∷ codes "d3h7"
      ∷ codes "b8c8" ∷ codes "f7g6" ∷ codes "c8e6" ∷ [];
}

-- a position that occurs for the fifth time at the twentieth ply
abbrev pub repeated : Script
repeated = record {
  first = White;
  words =
      codes "e2e4" ∷ codes "e7e5" ∷ codes "d2d4" ∷ codes "d7d5"
      ∷ codes "g1f3" ∷ codes "g8f6" ∷ codes "f3g1" ∷ codes "f6g8" ∷ codes "g1f3" ∷ codes "g8f6" ∷ codes "f3g1" ∷ codes "f6g8"
      ∷ codes "g1f3" ∷ codes "g8f6" ∷ codes "f3g1" ∷ codes "f6g8" ∷ codes "g1f3" ∷ codes "g8f6" ∷ codes "f3g1" ∷ codes "f6g8" ∷ [];
}

-- the script with this number, from 0
unfoldable pub script : ℕ → Script
script number =
    if number == 0 then resigned
    else if number == 1 then mated
    else if number == 2 then agreed
    else if number == 3 then given_up
    else if number == 4 then stalemated
    else repeated

-- the action of a word: a move's word, or another action's
unfoldable pub action_of : List ℕ → Option Action
action_of word =
    if bytes_eq word (codes "resign") then Some Resign else (
    if bytes_eq word (codes "offer") then Some Offer else (
    if bytes_eq word (codes "accept") then Some Accept else (
    if bytes_eq word (codes "berserk") then Some Berserk else
    option_map Move (move_in word))))

-- the player of a side of a game
abbrev pub player_of : Colour → Start → ℕ
player_of White g = g.white
player_of Black g = g.black

-- the entry of a word of a side, in game number `number` at t; a word that is no action's has none
abbrev pub act_of : ℕ → ℕ → Start → Colour → List ℕ → List Entry
act_of t number g side word = option_to_list (option_map (λ a. entry_of t 0 (Act (player_of side g) number a)) (action_of word))

-- the entries of words in turn
abbrev pub acts_from : ℕ → ℕ → Start → Colour → List (List ℕ) → List Entry
acts_from t number g side [] = []
acts_from t number g side (word ∷ words) = act_of t number g side word ++ acts_from t number g (other side) words

-- the entries of a script played to its end
unfoldable pub acts : ℕ → ℕ → Start → Script → List Entry
acts t number g played = acts_from t number g played.first played.words
