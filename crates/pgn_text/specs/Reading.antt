-- Which move of a position a SAN names.
use Rattle.std.specs.Prelude.{ℕ, ◌==◌, ◌<◌, ◌≡◌, ◌⊎◌, Bool, true, false, ◌&&◌, ◌||◌, List, [], ◌∷◌, ◌++◌, Option, None, Some, IsTrue}
use Rattle.std.specs.List.{find}
use Rattle.std.specs.Str.{bytes_eq}
use Rattle.board.specs.declared.piece.Kind.{Kind}
use Rattle.board.specs.declared.parts.Parts.{Parts}
use Rattle.board.specs.Moves.{MoveWord, IsMove, can_be_promo}
use Rattle.board.specs.Words.{square_word}
use Rattle.move_rules.specs.Legal.{legal}
use Rattle.move_rules.specs.Lists.{squares, move_of, all_moves}
use Rattle.pgn_text.specs.San.{promotion_text, plain, san}

-- `+` or `#`
abbrev pub is_sign : ℕ → Bool
is_sign b = (b == 43) || (b == 35)

-- the bytes are the move's SAN, with or without the sign at its end
unfoldable pub spells : Parts → List ℕ → MoveWord → Bool
spells p bytes m = bytes_eq bytes (plain p m) || bytes_eq bytes (san p m)

-- the move is legal and the bytes are its SAN
abbrev pub is_named : Parts → List ℕ → MoveWord → Bool
is_named p bytes m = legal p m && spells p bytes m

-- the square from which a move to this target, with this promotion, has these bytes
unfoldable pub origin_in : Parts → List ℕ → ℕ → Option Kind → Option ℕ
origin_in p bytes to promo = find (λ (a : ℕ). is_named p bytes (move_of a to promo)) squares

-- the legal move that has these bytes
unfoldable pub san_in : Parts → List ℕ → Option MoveWord
san_in p bytes = find (is_named p bytes) all_moves

-- these bytes name this move: it is a move and legal, and they are its SAN, with or without the sign
pub record Names (p : Parts) (bytes : List ℕ) (m : MoveWord) : Type 0 where
  pub move : IsMove m
  pub legal : IsTrue (legal p m)
  pub spelled : (bytes ≡ san p m) ⊎ (bytes ≡ plain p m)

-- ---- what the parts of reading answer

-- bytes that end in a sign, without it
abbrev pub TakesSign : List ℕ → List ℕ → Type 0
TakesSign bytes text = (front : List ℕ) (b : ℕ) → bytes ≡ front ++ b ∷ [] → is_sign b ≡ true → text ≡ front

-- bytes that end in none, as they are
abbrev pub LeavesText : List ℕ → List ℕ → Type 0
LeavesText bytes text = (front : List ℕ) (b : ℕ) → bytes ≡ front ++ b ∷ [] → is_sign b ≡ false → text ≡ bytes

-- bytes that end in a promotion, without it, and what the pawn becomes
abbrev pub TakesPromotion : List ℕ → List ℕ → Option Kind → Type 0
TakesPromotion text rest promo = (front : List ℕ) (k : Kind) → IsTrue (can_be_promo (Some k)) → text ≡ front ++ promotion_text (Some k) → (rest ≡ front) × (promo ≡ Some k)

-- bytes that end in a square, as they are
abbrev pub LeavesTarget : List ℕ → List ℕ → Option Kind → Type 0
LeavesTarget text rest promo = (front : List ℕ) (s : ℕ) → s < 64 → text ≡ front ++ square_word s → (rest ≡ text) × (promo ≡ None)

-- the square in which bytes end
abbrev pub FindsTarget : List ℕ → Option ℕ → Type 0
FindsTarget rest to = (front : List ℕ) (s : ℕ) → s < 64 → rest ≡ front ++ square_word s → to ≡ Some s
