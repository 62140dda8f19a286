-- Two legal moves with one SAN are one move.
use Rattle.std.proofs.Common.{◌≡◌, ◌≢◌, ℕ, ◌+◌, ◌<◌, refl, sym, ap, ◌∙◌, arith, true, false, Bool, not, ◌||◌, ◌==◌, List, [], ◌∷◌, ◌++◌, Option, None, Some, is_none, length, cond, codes, ◌⊎◌, inl, inr, subst}
use Rattle.std.proofs.lemmas.Bool.{and_parts, and_left, or_from, eqb-true, ne_eqb, both_ways, cond-false, cond-true, cases_Bool}
use Rattle.std.proofs.lemmas.List.{append_assoc, append_cancel_right, append-nil, same_from_push}
use Rattle.board.specs.declared.piece.Colour.{Colour}
use Rattle.board.specs.declared.piece.Colour.TheVariants.{White, Black}
use Rattle.board.specs.declared.piece.Kind.{Kind}
use Rattle.board.specs.declared.piece.Kind.TheVariants.{Pawn}
use Rattle.board.specs.declared.piece.Piece.{Piece}
use Rattle.board.specs.declared.parts.Parts.{Parts}
use Rattle.board.specs.Moves.{MoveWord, IsMove}
use Rattle.board.specs.Square.{file_of, rank_of, apart}
use Rattle.board.specs.Attack.{piece_on, pawn_strike}
use Rattle.board.specs.Words.{square_word}
use Rattle.board.specs.Cells.{is_kind, is_empty}
use Rattle.board.specs.Pawns.{is_ep, ahead, halfway, single_step, double_step}
use Rattle.move_rules.specs.After.{is_pawn_move, is_en_passant, after}
use Rattle.move_rules.specs.Legal.{legal, in_check}
use Rattle.move_rules.specs.Lists.{has_legal_move}
use Rattle.pgn_text.specs.San.{captures, cross, piece_text, promotion_text, apart_text, letter, file_letter, rank_digit, plain, sign, san}
use Rattle.pgn_text.specs.Reading.{is_sign, Names}
use Rattle.pgn_text.specs.Tokens.{is_mark}
use Rattle.pgn_text.proofs.Letters.{heads, tails, one_square, one_target, one_promoted, one_letter, letter_low, letter_no_o, letter_no_sign, letter_least}
use Rattle.pgn_text.proofs.Shapes.{Shape, Castles, Steps, Takes, Goes, castling_move, castling_word, double_parts, one_word, shape}
use Rattle.pgn_text.proofs.Apart.{one_origin}

-- a pawn goes straight ahead to a square from one square by one step, and from one by two
ahead_from : (c : Colour) (n a b t : ℕ) → ahead c n a t ≡ true → ahead c n b t ≡ true → a ≡ b
ahead_from White n a b t h g =
    let x = and_parts (file_of a == file_of t) (rank_of t == rank_of a + n) h in
    let y = and_parts (file_of b == file_of t) (rank_of t == rank_of b + n) g in
    let xf : file_of a ≡ file_of t = eqb-true _ _ x.0 in
    let yf : file_of b ≡ file_of t = eqb-true _ _ y.0 in
    let xr : rank_of t ≡ rank_of a + n = eqb-true _ _ x.1 in
    let yr : rank_of t ≡ rank_of b + n = eqb-true _ _ y.1 in
    one_square a b (omega arith) (omega arith)
ahead_from Black n a b t h g =
    let x = and_parts (file_of a == file_of t) (rank_of a == rank_of t + n) h in
    let y = and_parts (file_of b == file_of t) (rank_of b == rank_of t + n) g in
    let xf : file_of a ≡ file_of t = eqb-true _ _ x.0 in
    let yf : file_of b ≡ file_of t = eqb-true _ _ y.0 in
    let xr : rank_of a ≡ rank_of t + n = eqb-true _ _ x.1 in
    let yr : rank_of b ≡ rank_of t + n = eqb-true _ _ y.1 in
    one_square a b (omega arith) (omega arith)

-- where one pawn steps once and another twice, the first stands halfway
stands_between : (c : Colour) (a b t : ℕ) → ahead c 1 a t ≡ true → ahead c 2 b t ≡ true → halfway b t ≡ a
stands_between White a b t h g =
    let x = and_parts (file_of a == file_of t) (rank_of t == rank_of a + 1) h in
    let y = and_parts (file_of b == file_of t) (rank_of t == rank_of b + 2) g in
    let xf : file_of a ≡ file_of t = eqb-true _ _ x.0 in
    let yf : file_of b ≡ file_of t = eqb-true _ _ y.0 in
    let xr : rank_of t ≡ rank_of a + 1 = eqb-true _ _ x.1 in
    let yr : rank_of t ≡ rank_of b + 2 = eqb-true _ _ y.1 in
    omega arith
stands_between Black a b t h g =
    let x = and_parts (file_of a == file_of t) (rank_of a == rank_of t + 1) h in
    let y = and_parts (file_of b == file_of t) (rank_of b == rank_of t + 2) g in
    let xf : file_of a ≡ file_of t = eqb-true _ _ x.0 in
    let yf : file_of b ≡ file_of t = eqb-true _ _ y.0 in
    let xr : rank_of a ≡ rank_of t + 1 = eqb-true _ _ x.1 in
    let yr : rank_of b ≡ rank_of t + 2 = eqb-true _ _ y.1 in
    omega arith

stands : (k : Kind) (cell : Option Piece) → is_kind k cell ≡ true → is_none cell ≡ true → ⊥
stands k None h e = cc
stands k (Some piece) h e = cc

-- no pawn steps twice over another
no_jump : (p : Parts) (a b t : ℕ) → is_kind Pawn (piece_on p.cells a) ≡ true → single_step p a t ≡ true → double_step p b t ≡ true → ⊥
no_jump p a b t pawn one two =
    let x = and_parts (ahead p.turn 1 a t) (is_empty p.cells t) one in
    let y = double_parts p b t two in
    let free : is_none (piece_on p.cells a) ≡ true = subst (λ (s : ℕ). is_none (piece_on p.cells s) ≡ true) (stands_between p.turn a b t x.0 y.0) y.1 in
    stands Pawn (piece_on p.cells a) pawn free

-- how a pawn goes ahead
abbrev GoesAhead : Parts → ℕ → ℕ → Type 0
GoesAhead p a t = (single_step p a t ≡ true) ⊎ (double_step p a t ≡ true)

steps_from : (p : Parts) (a b t : ℕ) → is_kind Pawn (piece_on p.cells a) ≡ true → is_kind Pawn (piece_on p.cells b) ≡ true → GoesAhead p a t → GoesAhead p b t → a ≡ b
steps_from p a b t ap_ bp (inl x) (inl y) = ahead_from p.turn 1 a b t (and_parts (ahead p.turn 1 a t) (is_empty p.cells t) x).0 (and_parts (ahead p.turn 1 b t) (is_empty p.cells t) y).0
steps_from p a b t ap_ bp (inl x) (inr y) = absurd (no_jump p a b t ap_ x y)
steps_from p a b t ap_ bp (inr x) (inl y) = absurd (no_jump p b a t bp y x)
steps_from p a b t ap_ bp (inr x) (inr y) = ahead_from p.turn 2 a b t (double_parts p a t x).0 (double_parts p b t y).0

strike_from : (c : Colour) (a b t : ℕ) → file_of a ≡ file_of b → pawn_strike c a t ≡ true → pawn_strike c b t ≡ true → a ≡ b
strike_from White a b t f h g =
    let xr : rank_of t ≡ rank_of a + 1 = eqb-true _ _ (and_parts (apart (file_of a) (file_of t) == 1) (rank_of t == rank_of a + 1) h).1 in
    let yr : rank_of t ≡ rank_of b + 1 = eqb-true _ _ (and_parts (apart (file_of b) (file_of t) == 1) (rank_of t == rank_of b + 1) g).1 in
    one_square a b f (omega arith)
strike_from Black a b t f h g =
    let xr : rank_of a ≡ rank_of t + 1 = eqb-true _ _ (and_parts (apart (file_of a) (file_of t) == 1) (rank_of a == rank_of t + 1) h).1 in
    let yr : rank_of b ≡ rank_of t + 1 = eqb-true _ _ (and_parts (apart (file_of b) (file_of t) == 1) (rank_of b == rank_of t + 1) g).1 in
    one_square a b f (omega arith)

or_false : (x y : Bool) → y ≡ false → (x || y) ≡ x
or_false true y h = refl
or_false false y h = h

captures_by : (p : Parts) (m : MoveWord) → is_en_passant p m ≡ false → captures p m ≡ not (is_empty p.cells m.to)
captures_by p m h = or_false (not (is_empty p.cells m.to)) (is_en_passant p m) h

-- what is no pawn captures where something stands
officer_cross : (p : Parts) (m n : MoveWord) → is_pawn_move p m ≡ false → is_pawn_move p n ≡ false → m.to ≡ n.to → cross p m ≡ cross p n
officer_cross p m n mo no_ to =
    let plainly : (w : MoveWord) → is_pawn_move p w ≡ false → captures p w ≡ not (is_empty p.cells w.to) = λ w none. captures_by p w (and_left _ (not (file_of w.from == file_of w.to)) (and_left _ (is_ep w.to p.ep) none)) in
    ap (λ (b : Bool). cond b (codes "x") []) (plainly m mo ∙ ap (λ (t : ℕ). not (is_empty p.cells t)) to ∙ sym (plainly n no_))

pub castling_words : (s t : Bool) → castling_word s ≡ castling_word t → s ≡ t
castling_words true true e = refl
castling_words true false e = let l : ◌≡◌ {A = ℕ} 3 5 = ap length e in absurd (omega arith)
castling_words false true e = let l : ◌≡◌ {A = ℕ} 5 3 = ap length e in absurd (omega arith)
castling_words false false e = refl

-- two moves of officers with one text are one
officers : (p : Parts) (m n : MoveWord) (j k : Kind) → IsMove m → IsMove n → legal p m ≡ true → legal p n ≡ true → is_kind j (piece_on p.cells m.from) ≡ true → is_kind k (piece_on p.cells n.from) ≡ true → is_pawn_move p m ≡ false → is_pawn_move p n ≡ false → m.promo ≡ None → n.promo ≡ None → piece_text p m j ≡ piece_text p n k → m ≡ n
officers p m n j k mw nw ml nl mk nk mo no_ mp np e =
    let kinds : j ≡ k = one_letter j k (heads _ _ _ _ e) in
    let ends : (apart_text p m j ++ cross p m) ++ square_word m.to ≡ (apart_text p n k ++ cross p n) ++ square_word n.to =
    tails _ _ _ _ e in
    let both = one_target (apart_text p m j ++ cross p m) (apart_text p n k ++ cross p n) m.to n.to ends in
    let front : apart_text p m j ++ cross p n ≡ apart_text p n k ++ cross p n = ap (λ (x : List ℕ). apart_text p m j ++ x) (sym (officer_cross p m n mo no_ both.1)) ∙ both.0 in
    let told : apart_text p m j ≡ apart_text p n k = append_cancel_right (apart_text p m j) (apart_text p n k) (cross p n) front in
    let as_k : apart_text p m k ≡ apart_text p n k = ap (apart_text p m) (sym kinds) ∙ told in
    let mk_ : is_kind k (piece_on p.cells m.from) ≡ true = subst (λ (x : Kind). is_kind x (piece_on p.cells m.from) ≡ true) kinds mk in
    one_word m n (one_origin p m n k mw nw ml nl mk_ nk mp np both.1 as_k) both.1 (mp ∙ sym np)

-- the first byte of a castling is `O`, of a pawn's move a small letter, of another move a capital that is no `O`
castles_first : (s : Bool) → (rest : List ℕ) × (castling_word s ≡ 79 ∷ rest)
castles_first true = (45 ∷ 79 ∷ [], refl)
castles_first false = (45 ∷ 79 ∷ 45 ∷ 79 ∷ [], refl)

no_o : (s : Bool) (x : ℕ) (xs : List ℕ) → x ≢ 79 → castling_word s ≡ x ∷ xs → ⊥
no_o s x xs away e = let first = castles_first s in away (sym (heads 79 x first.0 xs (sym first.1 ∙ e)))

steps_no_take : (t a : ℕ) (xs ys : List ℕ) → t < 64 → square_word t ++ xs ≡ file_letter a ∷ 120 ∷ ys → ⊥
steps_no_take t a xs ys on e =
    let second : rank_digit t ≡ 120 = heads _ _ _ _ (tails _ _ _ _ e) in
    omega arith

pawn_no_officer : (f : ℕ) (k : Kind) (xs ys : List ℕ) → (97 + f) ∷ xs ≡ letter k ∷ ys → ⊥
pawn_no_officer f k xs ys e =
    let first : 97 + f ≡ letter k = heads _ _ _ _ e in
    let low = letter_low k in
    omega arith

one_shape : (p : Parts) (m n : MoveWord) → IsMove m → IsMove n → legal p m ≡ true → legal p n ≡ true → plain p m ≡ plain p n → Shape p m → Shape p n → m ≡ n
one_shape p m n mw nw ml nl e (Castles s mc mt) (Castles t nc nt) = mc ∙ ap (castling_move p) (castling_words s t (sym mt ∙ e ∙ nt)) ∙ sym nc
one_shape p m n mw nw ml nl e (Castles s mc mt) (Steps _ _ nt) = absurd (no_o s (file_letter n.to) _ (λ h. omega arith) (sym mt ∙ e ∙ nt))
one_shape p m n mw nw ml nl e (Castles s mc mt) (Takes _ nt) = absurd (no_o s (file_letter n.from) _ (λ h. omega arith) (sym mt ∙ e ∙ nt))
one_shape p m n mw nw ml nl e (Castles s mc mt) (Goes k _ _ _ nt) = absurd (no_o s (letter k) _ (letter_no_o k) (sym mt ∙ e ∙ nt))
one_shape p m n mw nw ml nl e (Steps _ _ mt) (Castles t nc nt) = absurd (no_o t (file_letter m.to) _ (λ h. omega arith) (sym nt ∙ sym e ∙ mt))
one_shape p m n mw nw ml nl e (Steps mk mh mt) (Steps nk nh nt) =
    let both = one_promoted m.to n.to m.promo n.promo (sym mt ∙ e ∙ nt) in
    one_word m n (steps_from p m.from n.from n.to mk nk (subst (λ (t : ℕ). GoesAhead p m.from t) both.0 mh) nh) both.0 both.1
one_shape p m n mw nw ml nl e (Steps _ _ mt) (Takes _ nt) = absurd (steps_no_take m.to n.from _ _ mw.to (sym mt ∙ e ∙ nt))
one_shape p m n mw nw ml nl e (Steps _ _ mt) (Goes k _ _ _ nt) = absurd (pawn_no_officer (file_of m.to) k _ _ (sym mt ∙ e ∙ nt))
one_shape p m n mw nw ml nl e (Takes _ mt) (Castles t nc nt) = absurd (no_o t (file_letter m.from) _ (λ h. omega arith) (sym nt ∙ sym e ∙ mt))
one_shape p m n mw nw ml nl e (Takes _ mt) (Steps _ _ nt) = absurd (steps_no_take n.to m.from _ _ nw.to (sym nt ∙ sym e ∙ mt))
one_shape p m n mw nw ml nl e (Takes mh mt) (Takes nh nt) =
    let text : file_letter m.from ∷ 120 ∷ square_word m.to ++ promotion_text m.promo ≡ file_letter n.from ∷ 120 ∷ square_word n.to ++ promotion_text n.promo = sym mt ∙ e ∙ nt in
    let file : file_letter m.from ≡ file_letter n.from = heads _ _ _ _ text in
    let both = one_promoted m.to n.to m.promo n.promo (tails _ _ _ _ (tails _ _ _ _ text)) in
    one_word m n (strike_from p.turn m.from n.from n.to (omega arith) (subst (λ (t : ℕ). pawn_strike p.turn m.from t ≡ true) both.0 mh) nh) both.0 both.1
one_shape p m n mw nw ml nl e (Takes _ mt) (Goes k _ _ _ nt) = absurd (pawn_no_officer (file_of m.from) k _ _ (sym mt ∙ e ∙ nt))
one_shape p m n mw nw ml nl e (Goes j _ _ _ mt) (Castles t nc nt) = absurd (no_o t (letter j) _ (letter_no_o j) (sym nt ∙ sym e ∙ mt))
one_shape p m n mw nw ml nl e (Goes j _ _ _ mt) (Steps _ _ nt) = absurd (pawn_no_officer (file_of n.to) j _ _ (sym nt ∙ sym e ∙ mt))
one_shape p m n mw nw ml nl e (Goes j _ _ _ mt) (Takes _ nt) = absurd (pawn_no_officer (file_of n.from) j _ _ (sym nt ∙ sym e ∙ mt))
one_shape p m n mw nw ml nl e (Goes j mk mo mp mt) (Goes k nk no_ np nt) = officers p m n j k mw nw ml nl mk nk mo no_ mp np (sym mt ∙ e ∙ nt)

-- ---- signs

-- a text that ends in no sign, and in no mark either
pub record IsBare (text : List ℕ) : Type 0 where
  pub front : List ℕ
  pub last : ℕ
  pub is : text ≡ front ++ last ∷ []
  pub bare : is_sign last ≡ false
  pub no_mark : is_mark last ≡ false

no_sign : (b : ℕ) → 43 < b → is_sign b ≡ false
no_sign b h = or_from (b == 43) (b == 35) (ne_eqb b 43 (λ e. omega arith)) (ne_eqb b 35 (λ e. omega arith))

no_mark : (b : ℕ) → b ≢ 33 → b ≢ 63 → is_mark b ≡ false
no_mark b x y = or_from (b == 33) (b == 63) (ne_eqb b 33 x) (ne_eqb b 63 y)

bare_promotion : (front : List ℕ) (t : ℕ) (k : Option Kind) → t < 64 → IsBare (front ++ square_word t ++ promotion_text k)
bare_promotion front t None on = record {
  front = front ++ file_letter t ∷ [];
  last = rank_digit t;
  is = append-nil (front ++ square_word t) ∙ sym (append_assoc front (file_letter t ∷ []) (rank_digit t ∷ []));
  bare = no_sign (rank_digit t) (omega arith);
  no_mark = no_mark (rank_digit t) (λ e. omega arith) (λ e. omega arith);
}
bare_promotion front t (Some k) on = record {
  front = front ++ file_letter t ∷ rank_digit t ∷ 61 ∷ [];
  last = letter k;
  is = append_assoc front (square_word t) (promotion_text (Some k)) ∙ sym (append_assoc front (file_letter t ∷ rank_digit t ∷ 61 ∷ []) (letter k ∷ []));
  bare = no_sign (letter k) (letter_no_sign k);
  no_mark = no_mark (letter k) (λ e. let l = letter_no_sign k in omega arith) (λ e. let l = letter_least k in omega arith);
}

bare_word : (s : Bool) → IsBare (castling_word s)
bare_word true = record { front = 79 ∷ 45 ∷ []; last = 79; is = refl; bare = refl; no_mark = refl }
bare_word false = record { front = 79 ∷ 45 ∷ 79 ∷ 45 ∷ []; last = 79; is = refl; bare = refl; no_mark = refl }

-- a text that ends in the target and what the pawn becomes
pub record EndsThere (m : MoveWord) (text : List ℕ) : Type 0 where
  pub front : List ℕ
  pub is : text ≡ front ++ square_word m.to ++ promotion_text m.promo

officer_end : (front : List ℕ) (m : MoveWord) → m.promo ≡ None → front ++ square_word m.to ≡ front ++ square_word m.to ++ promotion_text m.promo
officer_end front m e = sym (append-nil (front ++ square_word m.to)) ∙ ap (λ (k : Option Kind). front ++ square_word m.to ++ promotion_text k) (sym e)

-- the text of a legal move is a castling's, or it ends in the target and what the pawn becomes
pub shape_ends : (p : Parts) (m : MoveWord) → Shape p m → ((s : Bool) × (m ≡ castling_move p s) × (plain p m ≡ castling_word s)) ⊎ EndsThere m (plain p m)
shape_ends p m (Castles s at text) = inl (s, at, text)
shape_ends p m (Steps _ _ text) = inr (record { front = []; is = text })
shape_ends p m (Takes _ text) = inr (record { front = file_letter m.from ∷ 120 ∷ []; is = text })
shape_ends p m (Goes k _ _ promo text) = inr (record {
  front = letter k ∷ (apart_text p m k ++ cross p m);
  is = text ∙ officer_end (letter k ∷ (apart_text p m k ++ cross p m)) m promo;
})

pub bare : (p : Parts) (m : MoveWord) → m.to < 64 → legal p m ≡ true → IsBare (plain p m)
bare p m on ok =
    elim (shape_ends p m (shape p m ok)) [
      | inl castles ↦ subst IsBare (sym castles.2) (bare_word castles.0)
      | inr ends ↦ subst IsBare (sym ends.is) (bare_promotion ends.front m.to m.promo on)
    ]

-- the text itself, or the text and one sign
pub data Signed (text bytes : List ℕ) : Type 0 where
  Bare : bytes ≡ text → Signed text bytes
  With : (b : ℕ) → is_sign b ≡ true → bytes ≡ text ++ b ∷ [] → Signed text bytes

pub sign_tells : (q : Parts) → (sign q ≡ []) ⊎ ((b : ℕ) × (is_sign b ≡ true) × (sign q ≡ b ∷ []))
unfolding sign
sign_tells q =
    elim (cases_Bool (in_check q)) [
      | inr no_check ↦ inl (cond-false _ _ _ no_check)
      | inl check ↦ elim (cases_Bool (has_legal_move q)) [
        | inl going ↦ inr (43, refl, cond-true _ _ _ check ∙ cond-true _ _ _ going)
        | inr mate ↦ inr (35, refl, cond-true _ _ _ check ∙ cond-false _ _ _ mate)
      ]
    ]

signed_san : (p : Parts) (m : MoveWord) (bytes : List ℕ) → bytes ≡ san p m → Signed (plain p m) bytes
unfolding san
signed_san p m bytes e =
    elim (sign_tells (after p m)) [
      | inl none ↦ Bare (e ∙ ap (λ (x : List ℕ). plain p m ++ x) none ∙ append-nil (plain p m))
      | inr some ↦ With some.0 some.1 (e ∙ ap (λ (x : List ℕ). plain p m ++ x) some.2)
    ]

pub signed : (p : Parts) (m : MoveWord) (bytes : List ℕ) → Names p bytes m → Signed (plain p m) bytes
signed p m bytes n = elim n.spelled [ inl whole ↦ signed_san p m bytes whole | inr text ↦ Bare text ]

unlike : (xs ys : List ℕ) (b : ℕ) → IsBare xs → is_sign b ≡ true → xs ≡ ys ++ b ∷ [] → ⊥
unlike xs ys b t h e =
    let last : t.last ≡ b = (same_from_push t.front ys t.last b (sym t.is ∙ e)).1 in
    both_ways (is_sign b) (subst (λ (x : ℕ). is_sign x ≡ false) last t.bare) h

-- bytes have one text without a sign
one_text : (xs ys bytes : List ℕ) → IsBare xs → IsBare ys → Signed xs bytes → Signed ys bytes → xs ≡ ys
one_text xs ys bytes x y (Bare e) (Bare f) = sym e ∙ f
one_text xs ys bytes x y (Bare e) (With b h f) = absurd (unlike xs ys b x h (sym e ∙ f))
one_text xs ys bytes x y (With b h e) (Bare f) = absurd (unlike ys xs b y h (sym f ∙ e))
one_text xs ys bytes x y (With b h e) (With c g f) = (same_from_push xs ys b c (sym e ∙ f)).0

-- two legal moves that these bytes name are one
pub one_move : (p : Parts) (bytes : List ℕ) (m n : MoveWord) → Names p bytes m → Names p bytes n → m ≡ n
one_move p bytes m n x y =
    one_shape p m n x.move y.move x.legal y.legal (one_text (plain p m) (plain p n) bytes (bare p m x.move.to x.legal) (bare p n y.move.to y.legal) (signed p m bytes x) (signed p n bytes y)) (shape p m x.legal) (shape p n y.legal)
