-- Each square and each move has one word, and is read from it.
use Rattle.std.proofs.Common.{◌≡◌, ℕ, ◌+◌, ◌<◌, refl, sym, ap, List, [], ◌∷◌, true, Option, None, Some, IfSome, arith}
use Rattle.std.proofs.lemmas.Bool.{eqb-true}
use Rattle.std.proofs.lemmas.Bool.Decides.{nat_tests}
use Rattle.board.specs.declared.piece.Kind.{Kind}
use Rattle.board.specs.declared.piece.Kind.TheVariants.{Pawn, Knight, Bishop, Rook, Queen, King}
use Rattle.board.specs.Square.{file_of, rank_of}
use Rattle.board.specs.Moves.{MoveWord, IsMove, can_be_promo}
use Rattle.board.specs.Words.{kind_letter, square_word, promo_word, move_word}
use Rattle.board.specs.Reading.{square_in, kind_in, promotion, promo_in, joined, joined_with, move_in}

some_one : (a b : ℕ) → ◌≡◌ {A = Option ℕ} (Some a) (Some b) → a ≡ b
some_one a b h = cc

-- the letter and the digit of a square that was read
square_in-parts : (f r s : ℕ) → square_in f r ≡ Some s → (97 + file_of s ≡ f) × (49 + rank_of s ≡ r)
square_in-parts f r s h = grind (arith, nat_tests, some_one)

pub square_in-spells : (f r s : ℕ) → square_in f r ≡ Some s → square_word s ≡ f ∷ r ∷ []
square_in-spells f r s h = let t = square_in-parts f r s h in rw (t.0, t.1) refl

-- a square is read from its letter and its digit
pub square_in-word : (s : ℕ) → s < 64 → square_in (97 + file_of s) (49 + rank_of s) ≡ Some s
square_in-word s h = grind (arith, nat_tests)

-- a letter that was read as a kind is its letter
pub kind_in-spells : (b : ℕ) (k : Kind) → kind_in b ≡ Some k → kind_letter k ≡ b
kind_in-spells b k h = grind (arith, eqb-true)

promotion-some : (o : Option Kind) (k : Kind) → promotion o ≡ Some k → o ≡ Some k
promotion-some None k h = h
promotion-some (Some Pawn) k h = cc
promotion-some (Some Knight) k h = h
promotion-some (Some Bishop) k h = h
promotion-some (Some Rook) k h = h
promotion-some (Some Queen) k h = h
promotion-some (Some King) k h = cc

promo_in-spells : (b : ℕ) (k : Kind) → promo_in b ≡ Some k → kind_letter k ≡ b
promo_in-spells b k h = kind_in-spells b k (promotion-some (kind_in b) k h)

promo_in-letter : (k : Kind) → can_be_promo (Some k) ≡ true → promo_in (kind_letter k) ≡ Some k
promo_in-letter Pawn h = cc
promo_in-letter Knight h = refl
promo_in-letter Bishop h = refl
promo_in-letter Rook h = refl
promo_in-letter Queen h = refl
promo_in-letter King h = cc

joined-parts : (x y : Option ℕ) (promo : Option Kind) (m : MoveWord) → joined x y promo ≡ Some m → (x ≡ Some m.from) × (y ≡ Some m.to) × (m.promo ≡ promo)
joined-parts None y promo m h = cc
joined-parts (Some a) None promo m h = cc
joined-parts (Some a) (Some b) promo m h =
    let e : record { from = a; to = b; promo = promo } ≡ m = cc in
    (ap (λ (w : MoveWord). Some w.from) e, ap (λ (w : MoveWord). Some w.to) e, sym (ap (λ (w : MoveWord). w.promo) e))

-- a move between two squares that were read is spelled by their bytes
joined-spells : (a b c d : ℕ) (promo : Option Kind) (o : Option MoveWord) → joined (square_in a b) (square_in c d) promo ≡ o → IfSome o (λ m. move_word m ≡ a ∷ b ∷ c ∷ d ∷ promo_word promo)
joined-spells a b c d promo None h = tt
joined-spells a b c d promo (Some m) h =
    let t = joined-parts (square_in a b) (square_in c d) promo m h in
    let from = square_in-parts a b m.from t.0 in
    let to = square_in-parts c d m.to t.1 in
    rw (from.0, from.1, to.0, to.1, t.2) refl

joined_with-spells : (a b c d e : ℕ) (p : Option Kind) → promo_in e ≡ p → IfSome (joined_with (square_in a b) (square_in c d) p) (λ m. move_word m ≡ a ∷ b ∷ c ∷ d ∷ e ∷ [])
joined_with-spells a b c d e None h = tt
joined_with-spells a b c d e (Some k) h =
    rw (← promo_in-spells e k h) (joined-spells a b c d (Some k) (joined (square_in a b) (square_in c d) (Some k)) refl)

-- what was read is spelled by the bytes
pub move_in-spells : (bytes : List ℕ) → IfSome (move_in bytes) (λ m. move_word m ≡ bytes)
move_in-spells (a ∷ b ∷ c ∷ d ∷ []) = joined-spells a b c d None (joined (square_in a b) (square_in c d) None) refl
move_in-spells (a ∷ b ∷ c ∷ d ∷ e ∷ []) = joined_with-spells a b c d e (promo_in e) refl
move_in-spells _ = tt

word_read : (m : MoveWord) (p : Option Kind) → m.promo ≡ p → m.from < 64 → m.to < 64 → can_be_promo p ≡ true → move_in (move_word m) ≡ Some m
word_read m None e from to can = rw (e, square_in-word m.from from, square_in-word m.to to) refl
word_read m (Some k) e from to can =
    rw (e, promo_in-letter k can, square_in-word m.from from, square_in-word m.to to) refl

-- each move is read from its word
pub move_in-word : (m : MoveWord) → IsMove m → move_in (move_word m) ≡ Some m
move_in-word m ok = word_read m m.promo refl ok.from ok.to ok.promo
