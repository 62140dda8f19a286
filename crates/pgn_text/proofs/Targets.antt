-- Where a move goes is read off its text.
use Rattle.std.proofs.Common.{◌≡◌, ◌≢◌, ℕ, ◌<◌, refl, sym, ap, ◌∙◌, arith, true, false, Bool, List, [], ◌∷◌, ◌++◌, Option, None, Some, inl, inr, IsTrue}
use Rattle.std.proofs.lemmas.List.{append_assoc, append-nil, same_from_push}
use Rattle.board.specs.declared.piece.Kind.{Kind}
use Rattle.board.specs.declared.parts.Parts.{Parts}
use Rattle.board.specs.Moves.{MoveWord, IsMove, can_be_promo}
use Rattle.board.specs.Words.{square_word}
use Rattle.pgn_text.specs.San.{promotion_text, plain, letter, file_letter, rank_digit}
use Rattle.pgn_text.specs.Reading.{Names, TakesSign, LeavesText, TakesPromotion, LeavesTarget, FindsTarget}
use Rattle.pgn_text.proofs.Letters.{letter_no_o}
use Rattle.pgn_text.proofs.Shapes.{castling_move, castling_word, shape}
use Rattle.pgn_text.proofs.OneMove.{IsBare, Signed, Bare, With, EndsThere, shape_ends, bare, signed, castling_words}

unsigned_is : (text bytes body : List ℕ) → IsBare body → Signed body bytes → TakesSign bytes text → LeavesText bytes text → text ≡ body
unsigned_is text bytes body t (Bare e) takes leaves = leaves t.front t.last (e ∙ t.is) t.bare ∙ e
unsigned_is text bytes body t (With b h e) takes leaves = takes body b e h

-- without a sign the bytes that name a move are its text
pub text_is : (p : Parts) (m : MoveWord) (bytes text : List ℕ) → Names p bytes m → TakesSign bytes text → LeavesText bytes text → text ≡ plain p m
text_is p m bytes text n takes leaves = unsigned_is text bytes (plain p m) (bare p m n.move.to n.legal) (signed p m bytes n) takes leaves

last_no_o : (front xs : List ℕ) (t : ℕ) (k : Option Kind) → t < 64 → front ++ square_word t ++ promotion_text k ≡ xs ++ 79 ∷ [] → ⊥
last_no_o front xs t None on e =
    let split : (front ++ file_letter t ∷ []) ++ rank_digit t ∷ [] ≡ xs ++ 79 ∷ [] = append_assoc front (file_letter t ∷ []) (rank_digit t ∷ []) ∙ sym (append-nil (front ++ square_word t)) ∙ e in
    let last : rank_digit t ≡ 79 = (same_from_push (front ++ file_letter t ∷ []) xs (rank_digit t) 79 split).1 in
    omega arith
last_no_o front xs t (Some k) on e =
    let split : (front ++ file_letter t ∷ rank_digit t ∷ 61 ∷ []) ++ letter k ∷ [] ≡ xs ++ 79 ∷ [] = append_assoc front (file_letter t ∷ rank_digit t ∷ 61 ∷ []) (letter k ∷ []) ∙ sym (append_assoc front (square_word t) (promotion_text (Some k))) ∙ e in
    letter_no_o k (same_from_push (front ++ file_letter t ∷ rank_digit t ∷ 61 ∷ []) xs (letter k) 79 split).1

word_ends : (s : Bool) → (front : List ℕ) × (castling_word s ≡ front ++ 79 ∷ [])
word_ends true = (79 ∷ 45 ∷ [], refl)
word_ends false = (79 ∷ 45 ∷ 79 ∷ 45 ∷ [], refl)

-- a castling's text is that of the castling alone
pub castles_there : (p : Parts) (m : MoveWord) (bytes text : List ℕ) (s : Bool) → Names p bytes m → text ≡ plain p m → text ≡ castling_word s → m ≡ castling_move p s
castles_there p m bytes text s n is e =
    elim (shape_ends p m (shape p m n.legal)) [
      | inl castles ↦ castles.1 ∙ ap (castling_move p) (castling_words castles.0 s (sym castles.2 ∙ sym is ∙ e))
      | inr ends ↦ let w = word_ends s in absurd (last_no_o ends.front w.0 m.to m.promo n.move.to (sym ends.is ∙ sym is ∙ e ∙ w.1))
    ]

no_word : (text : List ℕ) (s : Bool) → text ≢ castling_word true → text ≢ castling_word false → text ≡ castling_word s → ⊥
no_word text true short long e = short e
no_word text false short long e = long e

-- every other text ends in the target and what the pawn becomes
pub ends_there : (p : Parts) (m : MoveWord) (bytes text : List ℕ) → Names p bytes m → text ≡ plain p m → text ≢ castling_word true → text ≢ castling_word false → EndsThere m text
ends_there p m bytes text n is short long =
    elim (shape_ends p m (shape p m n.legal)) [
      | inl castles ↦ absurd (no_word text castles.0 short long (is ∙ castles.2))
      | inr ends ↦ record { front = ends.front; is = is ∙ ends.is }
    ]

target_by : (text rest front : List ℕ) (promo found : Option Kind) (s : ℕ) (to : Option ℕ) → s < 64 → IsTrue (can_be_promo promo) → text ≡ front ++ square_word s ++ promotion_text promo → TakesPromotion text rest found → LeavesTarget text rest found → FindsTarget rest to → (to ≡ Some s) × (found ≡ promo)
target_by text rest front None found s to on can e takes leaves finds =
    let plainly = e ∙ append-nil (front ++ square_word s) in
    let left = leaves front s on plainly in
    (finds front s on (left.0 ∙ plainly), left.1)
target_by text rest front (Some k) found s to on can e takes leaves finds =
    let taken = takes (front ++ square_word s) k can e in
    (finds front s on taken.0, taken.1)

-- so the target and the promotion are found
pub target_found : (m : MoveWord) (text rest : List ℕ) (found : Option Kind) (to : Option ℕ) → IsMove m → EndsThere m text → TakesPromotion text rest found → LeavesTarget text rest found → FindsTarget rest to → (to ≡ Some m.to) × (found ≡ m.promo)
target_found m text rest found to w ends takes leaves finds = target_by text rest ends.front m.promo found m.to to w.to w.promo ends.is takes leaves finds
