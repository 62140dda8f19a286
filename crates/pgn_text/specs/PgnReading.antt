-- The game of a text, or the first fault: what the text has in front is read, and then what stands behind it.
use Rattle.std.specs.Prelude.{ℕ, ◌≡◌, ◌+◌, ◌-◌, ◌==◌, zero, suc, Bool, true, false, ◌&&◌, not, if◌then◌else◌, List, [], ◌∷◌, ◌++◌, Option, None, Some, Result, Ok, Err, length, take, drop, IsTrue}
use Rattle.std.specs.List.{position, list_all}
use Rattle.board.specs.declared.parts.Parts.{Parts}
use Rattle.board.specs.Moves.{MoveWord}
use Rattle.board.specs.Start.{start_parts}
use Rattle.move_rules.specs.After.{after}
use Rattle.pgn_text.specs.declared.game.Tag.{Tag as ATag}
use Rattle.pgn_text.specs.declared.game.PgnResult.{PgnResult}
use Rattle.pgn_text.specs.declared.game.PgnGame.{PgnGame}
use Rattle.pgn_text.specs.declared.fault.PgnCause.{PgnCause}
use Rattle.pgn_text.specs.declared.fault.PgnCause.TheVariants.{Tag, Start, Result as NoResult, After}
use Rattle.pgn_text.specs.declared.fault.PgnFault.{PgnFault}
use Rattle.pgn_text.specs.declared.fault.ReadPgnFault.{ReadPgnFault}
use Rattle.pgn_text.specs.declared.fault.ReadPgnFault.TheVariants.{Bad, OutOfMemory}
use Rattle.pgn_text.specs.declared.word.Said.{Said}
use Rattle.pgn_text.specs.declared.word.Said.TheVariants.{Passed, Played, Over, Wrong}
use Rattle.pgn_text.specs.Games.{is_tag, is_start_name, is_line, position_after}
use Rattle.pgn_text.specs.Tokens.{Tagged, tag_in, number_len, word_said}
use Rattle.pgn_text.specs.Runs.{is_skipped, ends, run_len}
use Rattle.pgn_text.specs.declared.runs.Run.TheVariants.{Token, Skipped, Comment}

-- what has been read so far: the tags, the moves, the position after them, and whether a token was read
pub record Sofar : Type 0 where
  pub tags : List ATag
  pub moves : List MoveWord
  pub position : Parts
  pub began : Bool

-- what has been read can be written: its tags have the form of tags and none says from where it starts, and its moves are a
-- legal line from the start to the position
pub record IsReadable (s : Sofar) : Type 0 where
  pub tags : IsTrue (list_all is_tag s.tags)
  pub start : IsTrue (list_all (λ (t : ATag). not (is_start_name t.name)) s.tags)
  pub line : IsTrue (is_line start_parts s.moves)
  pub position : position_after start_parts s.moves ≡ s.position

-- nothing
abbrev pub fresh : Sofar
fresh = record { tags = []; moves = []; position = start_parts; began = false }

-- a token more
abbrev pub with_token : Sofar → Sofar
with_token s = record s { began = true }

-- a tag more
abbrev pub with_tag : Sofar → ATag → Sofar
with_tag s tag = record s { tags = s.tags ++ tag ∷ [] }

-- a move more
abbrev pub with_move : Sofar → MoveWord → Sofar
with_move s m = record { tags = s.tags; moves = s.moves ++ m ∷ []; position = after s.position m; began = true }

-- the game with this result
abbrev pub game_of : Sofar → PgnResult → PgnGame
game_of s r = record { tags = s.tags; moves = s.moves; result = r }

-- a fault where so much of a text is left, of which this is the length
abbrev pub fault_at : ℕ → List ℕ → PgnCause → PgnFault
fault_at total rest cause = record { at = total - length rest; cause = cause }

-- what has been read, the result if it was read, and the bytes behind
abbrev pub Item : Type 0
Item = Sofar × Option PgnResult × List ℕ

-- the bytes behind the `}` at this place
abbrev pub behind_comment : ℕ → List ℕ → Option ℕ → Result (List ℕ) PgnFault
behind_comment total text None = Err (fault_at total [] NoResult)
behind_comment total text (Some n) = Ok (drop (n + 1) text)

-- a comment is passed over up to the next `}`, which is 125
unfoldable pub comment_in : ℕ → List ℕ → Result (List ℕ) PgnFault
comment_in total text = behind_comment total text (position (ends Comment) text)

-- nothing of the game, and these bytes behind
abbrev pub passed : Sofar → Result (List ℕ) PgnFault → Result Item PgnFault
passed s (Err fault) = Err fault
passed s (Ok rest) = Ok (s, None, rest)

-- a tag, which may not say from where the game starts
abbrev pub tag_read : ℕ → Sofar → List ℕ → Option Tagged → Result Item PgnFault
tag_read total s text None = Err (fault_at total text Tag)
tag_read total s text (Some tagged) =
    if is_start_name tagged.0.name then Err (fault_at total text Start) else Ok (with_tag s tagged.0, None, tagged.1)

-- the line of a tag
unfoldable pub tag_item : ℕ → Sofar → List ℕ → Result Item PgnFault
tag_item total s text = tag_read total s text (tag_in text)

-- what a token says
abbrev pub token_read : ℕ → Sofar → List ℕ → List ℕ → Said → Result Item PgnFault
token_read total s text rest Passed = Ok (with_token s, None, rest)
token_read total s text rest (Played m) = Ok (with_move s m, None, rest)
token_read total s text rest (Over r) = Ok (with_token s, Some r, rest)
token_read total s text rest (Wrong cause) = Err (fault_at total text cause)

-- a number is passed over, and what stands behind its dots is a token of its own; every other token says something
unfoldable pub token_item : ℕ → Sofar → List ℕ → Result Item PgnFault
token_item total s text =
    if number_len text == 0 then
    token_read total s text (drop (run_len Token text) text) (word_said s.position (take (run_len Token text) text))
    else Ok (with_token s, None, drop (number_len text) text)

-- what stands in front: a skipped byte, a comment, the line of a tag while no token was read, or a token
unfoldable pub item : ℕ → Sofar → List ℕ → Result Item PgnFault
item total s [] = Ok (s, None, [])
item total s (b ∷ bs) =
    if is_skipped b then Ok (s, None, bs)
    else if b == 123 then passed s (comment_in total bs)
    else if (b == 91) && not s.began then tag_item total s (b ∷ bs)
    else token_item total s (b ∷ bs)

-- the bytes from the first on that is not skipped
abbrev pub past_skipped : List ℕ → List ℕ
past_skipped text = drop (run_len Skipped text) text

-- behind the result only skipped bytes may stand
unfoldable pub ended : ℕ → Sofar → PgnResult → List ℕ → Result PgnGame PgnFault
ended total s r rest =
    if length (past_skipped rest) == 0 then Ok (game_of s r) else Err (fault_at total (past_skipped rest) After)

-- after an item: the end, or what stands behind it
abbrev pub follow : ℕ → Result Item PgnFault → (Sofar → List ℕ → Result PgnGame PgnFault) → Result PgnGame PgnFault
follow total (Err fault) further = Err fault
follow total (Ok (s, None, rest)) further = further s rest
follow total (Ok (s, Some r, rest)) further = ended total s r rest

-- the game that is read from here on in fewer than k items, each of which has a byte or more
unfoldable pub run : ℕ → ℕ → Sofar → List ℕ → Result PgnGame PgnFault
run total zero s text = Err (fault_at total [] NoResult)
run total (suc k) s [] = Err (fault_at total [] NoResult)
run total (suc k) s (b ∷ bs) = follow total (item total s (b ∷ bs)) (λ t rest. run total k t rest)

-- what is left to be read after an item: nothing behind a result
abbrev pub turned : ℕ → ℕ → Sofar → Option PgnResult → List ℕ → Result PgnGame PgnFault
turned total k s None rest = run total k s rest
turned total k s (Some r) rest = Ok (game_of s r)

-- the game of the whole text, or its first fault
unfoldable pub game_in : List ℕ → Result PgnGame PgnFault
game_in text = run (length text) (length text + 1) fresh text

-- the whole reading ends in this fault, unless memory ran out
abbrev pub EndsIn : {Y : Type 0} → ReadPgnFault → Result Y PgnFault → Type 0
EndsIn (Bad fault) whole = whole ≡ Err fault
EndsIn OutOfMemory whole = Unit {0}

-- the whole reading goes on from what was answered, or ends in the fault that was answered
abbrev pub GoesOn : {X Y : Type 0} → (X → Result Y PgnFault) → Result X ReadPgnFault → Result Y PgnFault → Type 0
GoesOn further (Ok x) whole = whole ≡ further x
GoesOn further (Err fault) whole = EndsIn fault whole

-- what a function answered, seen by view, is what reading gives
abbrev pub Shows : {X Y : Type 0} → (X → Y) → Result X PgnFault → Result Y PgnFault → Type 0
Shows view (Ok x) reading = reading ≡ Ok (view x)
Shows view (Err fault) reading = reading ≡ Err fault
