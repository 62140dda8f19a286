-- Laws of the definitions, for every list of moves.
use Rattle.std.specs.Prelude.{ℕ, ◌≡◌, ◌≢◌, ◌+◌, ◌<◌, ◌==◌, ◌↔◌, min, true, false, List, [], ◌∷◌, ◌++◌, length, Some, None, IsTrue, if◌then◌else◌}
use Rattle.std.specs.List.{All, last_or}
use Rattle.board.specs.declared.parts.Parts.{Parts}
use Rattle.board.specs.Moves.{MoveWord}
use Rattle.board.specs.Position.{IsPosition}
use Rattle.board.specs.Start.{start_parts}
use Rattle.move_rules.specs.After.{after, is_en_passant, is_quiet}
use Rattle.move_rules.specs.Legal.{legal}
use Rattle.move_rules.specs.Lists.{SomeMove}
use Rattle.move_rules.specs.EnPassant.{canonical}
use Rattle.draw_rules.specs.Appearance.{appearance_of, occurrences}
use Rattle.game_line.specs.Line.{position_after, line_from, line, IsLegalPly, IsLegalLine}
use Rattle.game_line.specs.Repetition.{capture_square, IsRepetition, is_repetition, times}
use Rattle.game_line.specs.Quiet.{quiet, positions_before, positions_since}
use Rattle.game_line.specs.Kept.{kept_as, kept}

-- with no moves there is the start alone, and nothing that is not legal
pub record BeginsAtTheStart : Type 0 where
  pub position : position_after [] ≡ start_parts
  pub line : line [] ≡ start_parts ∷ []
  pub legal : IsLegalLine []

-- one move more leads to the position after it
abbrev pub OneMoreMove : Type 0
OneMoreMove = (ms : List MoveWord) (m : MoveWord) → position_after (ms ++ m ∷ []) ≡ after (position_after ms) m

-- and puts this position at the end of the line
abbrev pub OneMorePosition : Type 0
OneMorePosition = (ms : List MoveWord) (m : MoveWord) → line (ms ++ m ∷ []) ≡ line ms ++ position_after (ms ++ m ∷ []) ∷ []

-- the position after all moves is the last of the line
abbrev pub EndsWithThePosition : Type 0
EndsWithThePosition = (ms : List MoveWord) → last_or None (line ms) ≡ Some (position_after ms)

-- a line has one position more than moves
abbrev pub LineLength : Type 0
LineLength = (ms : List MoveWord) → length (line ms) ≡ length ms + 1

-- a line with one move more is legal exactly where it is and the move is legal after it
abbrev pub OneMoreIsLegal : Type 0
OneMoreIsLegal = (ms : List MoveWord) (m : MoveWord)
    → IsLegalLine (ms ++ m ∷ []) ↔ (IsLegalLine ms × IsLegalPly (record { before = position_after ms; move = m }))

-- a beginning of a legal line is legal
abbrev pub BeginningsAreLegal : Type 0
BeginningsAreLegal = (ms ns : List MoveWord) → IsLegalLine (ms ++ ns) → IsLegalLine ms

-- along a legal line all are positions that a game can have
abbrev pub LegalLinesKeepPositions : Type 0
LegalLinesKeepPositions = (ms : List MoveWord) → IsLegalLine ms → All IsPosition (line ms)

-- with no moves there are no quiet ones
abbrev pub NoMoveIsQuiet : Type 0
NoMoveIsQuiet = quiet [] ≡ 0

-- one move more counts if it is quiet, and else the count begins anew
abbrev pub OneMoreQuietMove : Type 0
OneMoreQuietMove = (ms : List MoveWord) (m : MoveWord)
    → quiet (ms ++ m ∷ []) ≡ (if is_quiet (position_after ms) m then quiet ms + 1 else 0)

-- the half count of the last position is this count, up to 65,535, where it stays
abbrev pub HalfCountIsQuiet : Type 0
HalfCountIsQuiet = (ms : List MoveWord) → (position_after ms).half ≡ min 65535 (quiet ms)

-- after a pawn move or a capture the board is never again one that stood before it
abbrev pub NothingIsUndone : Type 0
NothingIsUndone = (ms : List MoveWord) (m : MoveWord) (ns : List MoveWord)
    → IsLegalLine (ms ++ m ∷ ns)
    → is_quiet (position_after ms) m ≡ false
    → All (λ (p : Parts). All (λ (q : Parts). p.cells ≢ q.cells) (line_from (after (position_after ms) m) ns)) (line ms)

-- so what comes after the last such move repeats no position before it
abbrev pub NoneBeforeIsRepeated : Type 0
NoneBeforeIsRepeated = (ms : List MoveWord)
    → IsLegalLine ms
    → All (λ (p : Parts). All (λ (q : Parts). is_repetition p q ≡ false) (positions_since ms)) (positions_before ms)

-- the test of a repetition says what a repetition is
abbrev pub RepetitionMeans : Type 0
RepetitionMeans = (p q : Parts) → IsTrue (is_repetition p q) ↔ IsRepetition p q

-- a pawn may be captured en passant on the square where a legal move does so
abbrev pub CaptureSquareMeans : Type 0
CaptureSquareMeans = (p : Parts) (s : ℕ)
    → (capture_square p ≡ Some s) ↔ SomeMove (λ m. IsTrue (is_en_passant p m) × IsTrue (legal p m) × (m.to ≡ s))

-- each position repeats itself
abbrev pub EachRepeatsItself : Type 0
EachRepeatsItself = (p : Parts) → is_repetition p p ≡ true

-- with a castling lost a position is another one
abbrev pub LostRightIsAnother : Type 0
LostRightIsAnother = (p q : Parts) → p.rights ≢ q.rights → is_repetition p q ≡ false

-- with another en passant capture a position is another one
abbrev pub OtherCaptureIsAnother : Type 0
OtherCaptureIsAnother = (p q : Parts) → capture_square p ≢ capture_square q → is_repetition p q ≡ false

-- how often the last of the kept positions stands among them is how often it has occurred in the whole line
abbrev pub KeptAreEnough : Type 0
KeptAreEnough = (ms : List MoveWord) → IsLegalLine ms → occurrences (kept ms) ≡ times ms

-- at the start one position is kept
abbrev pub KeptAtTheStart : Type 0
KeptAtTheStart = kept [] ≡ appearance_of (canonical start_parts) ∷ []

-- one move more adds its position, which alone is kept after a pawn move or a capture
abbrev pub OneMoreKept : Type 0
OneMoreKept = (ms : List MoveWord) (m : MoveWord)
    → let next = kept_as (position_after (ms ++ m ∷ [])) in
    kept (ms ++ m ∷ []) ≡ (if is_quiet (position_after ms) m then kept ms ++ next ∷ [] else next ∷ [])

-- the same in the words of the new position's half count
abbrev pub OneMoreKeptByHalfCount : Type 0
OneMoreKeptByHalfCount = (ms : List MoveWord) (m : MoveWord)
    → let next = canonical (position_after (ms ++ m ∷ [])) in
    kept (ms ++ m ∷ []) ≡ (if next.half == 0 then appearance_of next ∷ [] else kept ms ++ appearance_of next ∷ [])

-- one position more is kept than there are quiet moves at the end
abbrev pub KeptLength : Type 0
KeptLength = (ms : List MoveWord) → length (kept ms) ≡ quiet ms + 1

-- in the words of the half count, where it is not at its end
abbrev pub KeptLengthByHalfCount : Type 0
KeptLengthByHalfCount = (ms : List MoveWord)
    → (position_after ms).half < 65535 → length (kept ms) ≡ (position_after ms).half + 1

-- a half count that is not 0, and not at its end, is the number of the positions kept before the last move
abbrev pub HalfCountIsKeptLength : Type 0
HalfCountIsKeptLength = (ms : List MoveWord) (m : MoveWord)
    → let next = canonical (position_after (ms ++ m ∷ [])) in
    next.half ≢ 0 → next.half < 65535 → next.half ≡ length (kept ms)
