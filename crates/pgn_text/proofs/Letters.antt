-- The letters and digits of SAN can be told apart.
use Rattle.std.proofs.Common.{◌≡◌, ◌≢◌, ℕ, ◌<◌, ◌≤◌, refl, sym, ap, ◌∙◌, arith, List, [], ◌∷◌, ◌++◌, Option, None, Some, cond, eqb}
use Rattle.std.proofs.lemmas.List.{same_from_push, append_assoc}
use Rattle.board.specs.declared.piece.Kind.{Kind}
use Rattle.board.specs.declared.piece.Kind.TheVariants.{Pawn, Knight, Bishop, Rook, Queen, King}
use Rattle.board.specs.Square.{file_of, rank_of}
use Rattle.board.specs.Words.{square_word}
use Rattle.pgn_text.specs.San.{letter, file_letter, rank_digit, promotion_text}

pub heads : {A : Type 0} (x y : A) (xs ys : List A) → x ∷ xs ≡ y ∷ ys → x ≡ y
heads x y xs ys e = cc

pub tails : {A : Type 0} (x y : A) (xs ys : List A) → x ∷ xs ≡ y ∷ ys → xs ≡ ys
tails x y xs ys e = cc

-- the kind of a capital letter
letter_back : ℕ → Option Kind
letter_back b =
    cond (eqb b 80) (Some Pawn) (cond (eqb b 78) (Some Knight) (cond (eqb b 66) (Some Bishop) (cond (eqb b 82) (Some Rook) (cond (eqb b 81) (Some Queen) (cond (eqb b 75) (Some King) None)))))

letter_back_is : (k : Kind) → letter_back (letter k) ≡ Some k
unfolding letter_back
letter_back_is Pawn = refl
letter_back_is Knight = refl
letter_back_is Bishop = refl
letter_back_is Rook = refl
letter_back_is Queen = refl
letter_back_is King = refl

-- no two kinds have one letter
pub one_letter : (j k : Kind) → letter j ≡ letter k → j ≡ k
one_letter j k e =
    let s : ◌≡◌ {A = Option Kind} (Some j) (Some k) = sym (letter_back_is j) ∙ ap letter_back e ∙ letter_back_is k in
    cc

pub letter_low : (k : Kind) → letter k < 97
letter_low Pawn = omega arith
letter_low Knight = omega arith
letter_low Bishop = omega arith
letter_low Rook = omega arith
letter_low Queen = omega arith
letter_low King = omega arith

pub letter_no_o : (k : Kind) → letter k ≢ 79
letter_no_o Pawn e = omega arith
letter_no_o Knight e = omega arith
letter_no_o Bishop e = omega arith
letter_no_o Rook e = omega arith
letter_no_o Queen e = omega arith
letter_no_o King e = omega arith

pub letter_no_sign : (k : Kind) → 43 < letter k
letter_no_sign Pawn = omega arith
letter_no_sign Knight = omega arith
letter_no_sign Bishop = omega arith
letter_no_sign Rook = omega arith
letter_no_sign Queen = omega arith
letter_no_sign King = omega arith

-- each is a capital from B on
pub letter_least : (k : Kind) → 66 ≤ letter k
letter_least Pawn = omega arith
letter_least Knight = omega arith
letter_least Bishop = omega arith
letter_least Rook = omega arith
letter_least Queen = omega arith
letter_least King = omega arith

pub letter_most : (k : Kind) → letter k < 91
letter_most Pawn = omega arith
letter_most Knight = omega arith
letter_most Bishop = omega arith
letter_most Rook = omega arith
letter_most Queen = omega arith
letter_most King = omega arith

promo_back : List ℕ → Option Kind
promo_back [] = None
promo_back (x ∷ []) = None
promo_back (x ∷ y ∷ ys) = letter_back y

promo_back_is : (k : Option Kind) → promo_back (promotion_text k) ≡ k
unfolding promo_back
promo_back_is None = refl
promo_back_is (Some k) = letter_back_is k

-- no two promotions have one text
pub one_promotion : (j k : Option Kind) → promotion_text j ≡ promotion_text k → j ≡ k
one_promotion j k e = sym (promo_back_is j) ∙ ap promo_back e ∙ promo_back_is k

-- two texts that end in two bytes each
pub one_pair : (xs ys : List ℕ) (a b c d : ℕ) → xs ++ a ∷ b ∷ [] ≡ ys ++ c ∷ d ∷ [] → (xs ≡ ys) × (a ≡ c) × (b ≡ d)
one_pair xs ys a b c d e =
    let split : (xs ++ a ∷ []) ++ b ∷ [] ≡ (ys ++ c ∷ []) ++ d ∷ [] = append_assoc xs (a ∷ []) (b ∷ []) ∙ e ∙ sym (append_assoc ys (c ∷ []) (d ∷ [])) in
    let last = same_from_push (xs ++ a ∷ []) (ys ++ c ∷ []) b d split in
    let first = same_from_push xs ys a c last.0 in
    (first.0, first.1, last.1)

-- a square is its file and its rank
pub one_square : (a b : ℕ) → file_of a ≡ file_of b → rank_of a ≡ rank_of b → a ≡ b
one_square a b f r = omega arith

-- two texts that end in squares end in the same one
pub one_target : (xs ys : List ℕ) (a b : ℕ) → xs ++ square_word a ≡ ys ++ square_word b → (xs ≡ ys) × (a ≡ b)
one_target xs ys a b e =
    let t = one_pair xs ys (file_letter a) (rank_digit a) (file_letter b) (rank_digit b) e in
    let f : file_letter a ≡ file_letter b = t.1 in
    let r : rank_digit a ≡ rank_digit b = t.2 in
    (t.0, one_square a b (omega arith) (omega arith))

-- the same with promotions behind
pub one_promoted : (a b : ℕ) (j k : Option Kind) → square_word a ++ promotion_text j ≡ square_word b ++ promotion_text k → (a ≡ b) × (j ≡ k)
one_promoted a b j k e =
    let f : file_letter a ≡ file_letter b = heads _ _ _ _ e in
    let rest : rank_digit a ∷ promotion_text j ≡ rank_digit b ∷ promotion_text k = tails _ _ _ _ e in
    let r : rank_digit a ≡ rank_digit b = heads _ _ _ _ rest in
    (one_square a b (omega arith) (omega arith), one_promotion j k (tails _ _ _ _ rest))
