-- What stands at the front of a game's bytes.
use Rattle.std.specs.Prelude.{ℕ, ◌+◌, ◌==◌, Bool, false, ◌&&◌, ◌||◌, not, if◌then◌else◌, List, [], ◌∷◌, Option, None, Some, length, take, drop, reverse, codes, IsTrue}
use Rattle.std.specs.Str.{bytes_eq}
use Rattle.board.specs.declared.parts.Parts.{Parts}
use Rattle.board.specs.Moves.{MoveWord}
use Rattle.move_rules.specs.Legal.{legal}
use Rattle.pgn_text.specs.declared.game.Tag.{Tag}
use Rattle.pgn_text.specs.declared.game.PgnResult.{PgnResult}
use Rattle.pgn_text.specs.declared.game.PgnResult.TheVariants.{White, Black, Draw, Unknown}
use Rattle.pgn_text.specs.declared.fault.PgnCause.TheVariants.{San, Variation}
use Rattle.pgn_text.specs.declared.word.Said.{Said}
use Rattle.pgn_text.specs.declared.word.Said.TheVariants.{Passed, Played, Over, Wrong}
use Rattle.pgn_text.specs.Reading.{san_in}
use Rattle.pgn_text.specs.declared.runs.Run.TheVariants.{Digits, Dots, Name, Value}
use Rattle.pgn_text.specs.Runs.{run_len}

-- the next step, where this one found what it looked for
infixl 10 ◌>>=◌
abbrev pub ◌>>=◌ : {A B : Type 0} → Option A → (A → Option B) → Option B
None >>= f = None
(Some x) >>= f = f x

-- the bytes behind this one, where it stands in front
abbrev pub past : ℕ → List ℕ → Option (List ℕ)
past c [] = None
past c (b ∷ bs) = if b == c then Some bs else None

-- ---- a line of a tag

-- the bytes behind a CR, or all where none stands in front
abbrev pub past_return : List ℕ → List ℕ
past_return [] = []
past_return (b ∷ bs) = if b == 13 then bs else b ∷ bs

-- a tag, and the bytes behind its line
abbrev pub Tagged : Type 0
Tagged = Tag × List ℕ

-- the name in front, if it has a byte, and the bytes behind it
unfoldable pub name_in : List ℕ → Option (List ℕ × List ℕ)
name_in text =
    let n = run_len Name text in
    if n == 0 then None else Some (take n text, drop n text)

-- the value in front, and the bytes behind it
unfoldable pub value_in : List ℕ → List ℕ × List ℕ
value_in text = let n = run_len Value text in (take n text, drop n text)

-- `[NAME "VALUE"]` and a line feed, before which a CR may stand
unfoldable pub tag_in : List ℕ → Option Tagged
tag_in text = do
  inside ← past 91 text
  name ← name_in inside
  blank ← past 32 name.1
  quoted ← past 34 blank
  quote ← past 34 (value_in quoted).1
  bracket ← past 93 quote
  behind ← past 10 (past_return bracket)
  Some (record { name = name.0; value = (value_in quoted).0 }, behind)

-- ---- a token

-- how many bytes the number in front has: digits and one or more dots; 0 where none stands there
unfoldable pub number_len : List ℕ → ℕ
number_len text =
    let digits = run_len Digits text in
    let dots = run_len Dots (drop digits text) in
    if (digits == 0) || (dots == 0) then 0 else digits + dots

-- `$` and digits: 36 is `$`
abbrev pub is_glyph : List ℕ → Bool
is_glyph [] = false
is_glyph (b ∷ bs) = (b == 36) && not (length bs == 0) && (run_len Digits bs == length bs)

-- `!` or `?`
abbrev pub is_mark : ℕ → Bool
is_mark b = (b == 33) || (b == 63)

-- the bytes behind a mark, or all where none stands in front
abbrev pub past_mark : List ℕ → List ℕ
past_mark [] = []
past_mark (b ∷ bs) = if is_mark b then bs else b ∷ bs

-- a word without one mark at its end
unfoldable pub unmark : List ℕ → List ℕ
unmark word = reverse (past_mark (reverse word))

-- the result of a word
unfoldable pub result_in : List ℕ → Option PgnResult
result_in word =
    if bytes_eq word (codes "1-0") then Some White
    else if bytes_eq word (codes "0-1") then Some Black
    else if bytes_eq word (codes "1/2-1/2") then Some Draw
    else if bytes_eq word (codes "*") then Some Unknown
    else None

-- the word begins with `(`, which is 40
abbrev pub opens : List ℕ → Bool
opens [] = false
opens (b ∷ bs) = b == 40

-- a move, or none
abbrev pub move_said : Option MoveWord → Said
move_said None = Wrong San
move_said (Some m) = Played m

-- a result, or else a move
abbrev pub end_said : Option PgnResult → Option MoveWord → Said
end_said (Some r) move = Over r
end_said None move = move_said move

-- what a word without marks says: a variation, a result, or a move of the position
unfoldable pub said_of : Parts → List ℕ → Said
said_of p word = if opens word then Wrong Variation else end_said (result_in word) (san_in p word)

-- what a token says that is no number: nothing, as `$` and digits, or what it says without one or two marks at its end
unfoldable pub word_said : Parts → List ℕ → Said
word_said p word = if is_glyph word then Passed else said_of p (unmark (unmark word))

-- a move that was said is legal
abbrev pub IsPlayable : Parts → Said → Type 0
IsPlayable p (Played m) = IsTrue (legal p m)
IsPlayable p said = Unit {0}
