-- What the text of a legal move without its sign looks like.
use Rattle.std.proofs.Common.{◌≡◌, ℕ, ◌+◌, ◌==◌, refl, ap, ◌∙◌, arith, true, false, Bool, not, ◌&&◌, ◌||◌, List, [], ◌∷◌, ◌++◌, Option, None, Some, is_none, codes, ◌⊎◌, inl, inr}
use Rattle.std.proofs.lemmas.Bool.{and_parts, and_left, and_right, and_from, or_cases, or_from, or_left, or_right, eqb-true, ne_eqb, eq-eqb, not_from_true, not_from_false, cond-false, cond-true, cases_Bool, lt-ltb, le-ltb}
use Rattle.board.specs.declared.piece.Colour.{Colour}
use Rattle.board.specs.declared.piece.Colour.TheVariants.{White, Black}
use Rattle.board.specs.declared.piece.Kind.{Kind}
use Rattle.board.specs.declared.piece.Kind.TheVariants.{Pawn, Knight, Bishop, Rook, Queen, King}
use Rattle.board.specs.declared.piece.Piece.{Piece}
use Rattle.board.specs.declared.parts.Parts.{Parts}
use Rattle.board.specs.Moves.{MoveWord}
use Rattle.board.specs.Piece.{same_kind, other}
use Rattle.board.specs.Position.{home}
use Rattle.board.specs.Square.{file_of, rank_of, apart, distance}
use Rattle.board.specs.Attack.{piece_on, pawn_strike, king_step}
use Rattle.board.specs.Words.{square_word}
use Rattle.board.specs.Cells.{is_kind, is_of, is_empty}
use Rattle.board.specs.Pawns.{ahead, pawn_rank, halfway, is_ep, single_step, double_step, pawn_capture}
use Rattle.board.specs.Castling.{castles, castles_short, castles_long, short_right, long_right, all_empty, all_safe}
use Rattle.move_rules.specs.After.{is_pawn_move, is_en_passant, is_castling}
use Rattle.move_rules.specs.Legal.{legal}
use Rattle.move_rules.specs.Lists.{move_of}
use Rattle.pgn_text.specs.San.{captures, castling_text, pawn_text, piece_text, promotion_text, kind_at, plain, file_letter}
use Rattle.pgn_text.proofs.Movers.{Mover, mover, no_promotion}

-- the castling with the rook of the h-file, or of the a-file
abbrev pub castling_move : Parts → Bool → MoveWord
castling_move p true = move_of (home p.turn + 4) (home p.turn + 6) None
castling_move p false = move_of (home p.turn + 4) (home p.turn + 2) None

abbrev pub castling_word : Bool → List ℕ
castling_word true = codes "O-O"
castling_word false = codes "O-O-O"

-- the ways in which a legal move is written
pub data Shape (p : Parts) (m : MoveWord) : Type 0 where
  Castles : (short : Bool) → m ≡ castling_move p short → plain p m ≡ castling_word short → Shape p m
  Steps : is_kind Pawn (piece_on p.cells m.from) ≡ true → (single_step p m.from m.to ≡ true) ⊎ (double_step p m.from m.to ≡ true) → plain p m ≡ square_word m.to ++ promotion_text m.promo → Shape p m
  Takes : pawn_strike p.turn m.from m.to ≡ true → plain p m ≡ file_letter m.from ∷ 120 ∷ square_word m.to ++ promotion_text m.promo → Shape p m
  Goes : (k : Kind) → is_kind k (piece_on p.cells m.from) ≡ true → is_pawn_move p m ≡ false → m.promo ≡ None → plain p m ≡ piece_text p m k → Shape p m

-- two moves with one start, one target and one promotion are one
pub one_word : (m n : MoveWord) → m.from ≡ n.from → m.to ≡ n.to → m.promo ≡ n.promo → m ≡ n
one_word m n a b c = λ i. record { from = a i; to = b i; promo = c i }

plain_castling : (p : Parts) (m : MoveWord) → is_castling p m ≡ true → plain p m ≡ castling_text m
unfolding plain
plain_castling p m c = cond-true _ _ _ c

plain_pawn : (p : Parts) (m : MoveWord) → is_castling p m ≡ false → is_pawn_move p m ≡ true → plain p m ≡ pawn_text p m
unfolding plain
plain_pawn p m c w = cond-false _ _ _ c ∙ cond-true _ _ _ w

plain_piece : (p : Parts) (m : MoveWord) (k : Kind) → is_castling p m ≡ false → is_pawn_move p m ≡ false → kind_at (piece_on p.cells m.from) ≡ k → plain p m ≡ piece_text p m k
unfolding plain
plain_piece p m k c w e = cond-false _ _ _ c ∙ cond-false _ _ _ w ∙ ap (piece_text p m) e

-- what a double step asks
pub double_parts : (p : Parts) (a b : ℕ) → double_step p a b ≡ true → (ahead p.turn 2 a b ≡ true) × (is_empty p.cells (halfway a b) ≡ true) × (is_empty p.cells b ≡ true)
double_parts p a b h =
    let three = and_parts ((rank_of a == pawn_rank p.turn) && ahead p.turn 2 a b && is_empty p.cells (halfway a b)) (is_empty p.cells b) h in
    let two = and_parts ((rank_of a == pawn_rank p.turn) && ahead p.turn 2 a b) (is_empty p.cells (halfway a b)) three.0 in
    let one = and_parts (rank_of a == pawn_rank p.turn) (ahead p.turn 2 a b) two.0 in
    (one.1, two.1, three.1)

-- straight ahead, from one square alone
pub ahead_tells : (c : Colour) (n a b : ℕ) → ahead c n a b ≡ true → (file_of a ≡ file_of b) × (apart (rank_of a) (rank_of b) ≡ n)
ahead_tells White n a b h =
    let t = and_parts (file_of a == file_of b) (rank_of b == rank_of a + n) h in
    let up : rank_of b ≡ rank_of a + n = eqb-true _ _ t.1 in
    (eqb-true _ _ t.0, omega arith)
ahead_tells Black n a b h =
    let t = and_parts (file_of a == file_of b) (rank_of a == rank_of b + n) h in
    let down : rank_of a ≡ rank_of b + n = eqb-true _ _ t.1 in
    (eqb-true _ _ t.0, omega arith)

strike_aside : (c : Colour) (a b : ℕ) → pawn_strike c a b ≡ true → apart (file_of a) (file_of b) ≡ 1
strike_aside White a b h = eqb-true _ _ (and_parts (apart (file_of a) (file_of b) == 1) (rank_of b == rank_of a + 1) h).0
strike_aside Black a b h = eqb-true _ _ (and_parts (apart (file_of a) (file_of b) == 1) (rank_of a == rank_of b + 1) h).0

-- a move to an empty square on the same file captures nothing
quiet : (p : Parts) (m : MoveWord) → file_of m.from ≡ file_of m.to → is_empty p.cells m.to ≡ true → captures p m ≡ false
quiet p m f e =
    or_from (not (is_empty p.cells m.to)) (is_en_passant p m) (not_from_true _ e)
    (and_right (is_pawn_move p m && is_ep m.to p.ep) (not (file_of m.from == file_of m.to)) (not_from_true _ (eq-eqb _ _ f)))

steps_text : (p : Parts) (m : MoveWord) → captures p m ≡ false → pawn_text p m ≡ square_word m.to ++ promotion_text m.promo
steps_text p m h = ap (λ (start : List ℕ). start ++ square_word m.to ++ promotion_text m.promo) (cond-false (captures p m) (file_letter m.from ∷ codes "x") [] h)

takes_text : (p : Parts) (m : MoveWord) → captures p m ≡ true → pawn_text p m ≡ file_letter m.from ∷ 120 ∷ square_word m.to ++ promotion_text m.promo
takes_text p m h = ap (λ (start : List ℕ). start ++ square_word m.to ++ promotion_text m.promo) (cond-true (captures p m) (file_letter m.from ∷ codes "x") [] h)

not_empty : (c : Colour) (cell : Option Piece) → is_of c cell ≡ true → is_none cell ≡ false
not_empty c None h = cc
not_empty c (Some piece) h = refl

-- a pawn's capture captures
takes : (p : Parts) (m : MoveWord) → is_pawn_move p m ≡ true → pawn_capture p m.from m.to ≡ true → captures p m ≡ true
takes p m w h =
    let t = and_parts (pawn_strike p.turn m.from m.to) (is_of (other p.turn) (piece_on p.cells m.to) || is_ep m.to p.ep) h in
    let aside = strike_aside p.turn m.from m.to t.0 in
    elim (or_cases (is_of (other p.turn) (piece_on p.cells m.to)) (is_ep m.to p.ep) t.1) [
      | inl stands ↦ or_left (not (is_empty p.cells m.to)) (is_en_passant p m) (not_from_false _ (not_empty _ _ stands))
      | inr passed ↦ or_right (not (is_empty p.cells m.to)) (is_en_passant p m) (and_from _ _ (and_from _ _ w passed) (not_from_false _ (ne_eqb _ _ (λ e. omega arith))))
    ]

no_castling : (p : Parts) (m : MoveWord) → is_kind King (piece_on p.cells m.from) ≡ false → is_castling p m ≡ false
no_castling p m h = and_left (is_kind King (piece_on p.cells m.from)) (distance m.from m.to == 2) h

pawn_shape : (p : Parts) (m : MoveWord) → Mover p m Pawn → Shape p m
pawn_shape p m t =
    let text = plain_pawn p m (no_castling p m (t.kinds King)) (t.kinds Pawn) in
    elim (or_cases (single_step p m.from m.to || double_step p m.from m.to) (pawn_capture p m.from m.to) t.how) [
      | inl steps ↦ elim (or_cases (single_step p m.from m.to) (double_step p m.from m.to) steps) [
        | inl one ↦
            let parts = and_parts (ahead p.turn 1 m.from m.to) (is_empty p.cells m.to) one in
            Steps (t.kinds Pawn) (inl one) (text ∙ steps_text p m (quiet p m (ahead_tells p.turn 1 m.from m.to parts.0).0 parts.1))
        | inr two ↦
            let parts = double_parts p m.from m.to two in
            Steps (t.kinds Pawn) (inr two) (text ∙ steps_text p m (quiet p m (ahead_tells p.turn 2 m.from m.to parts.0).0 parts.2))
      ]
      | inr capture ↦
          Takes (and_parts (pawn_strike p.turn m.from m.to) (is_of (other p.turn) (piece_on p.cells m.to) || is_ep m.to p.ep) capture).0 (text ∙ takes_text p m (takes p m (t.kinds Pawn) capture))
    ]

-- an officer is no pawn and does not castle
officer_shape : (p : Parts) (m : MoveWord) (k : Kind) → Mover p m k → same_kind k k ≡ true → same_kind k Pawn ≡ false → same_kind k King ≡ false → Shape p m
officer_shape p m k t itself pawn king =
    let no_pawn = t.kinds Pawn ∙ pawn in
    Goes k (t.kinds k ∙ itself) no_pawn (no_promotion p m no_pawn t.promo) (plain_piece p m k (no_castling p m (t.kinds King ∙ king)) no_pawn t.kind)

short_squares : (p : Parts) (a b : ℕ) → castles_short p a b ≡ true → (a ≡ home p.turn + 4) × (b ≡ home p.turn + 6)
short_squares p a b h =
    let four = and_parts (short_right p.turn p.rights && (a == home p.turn + 4) && (b == home p.turn + 6) && all_empty p.cells (home p.turn + 5) 2) (all_safe p.cells p.turn (home p.turn + 4) 3) h in
    let three = and_parts (short_right p.turn p.rights && (a == home p.turn + 4) && (b == home p.turn + 6)) (all_empty p.cells (home p.turn + 5) 2) four.0 in
    let two = and_parts (short_right p.turn p.rights && (a == home p.turn + 4)) (b == home p.turn + 6) three.0 in
    let one = and_parts (short_right p.turn p.rights) (a == home p.turn + 4) two.0 in
    (eqb-true _ _ one.1, eqb-true _ _ two.1)

long_squares : (p : Parts) (a b : ℕ) → castles_long p a b ≡ true → (a ≡ home p.turn + 4) × (b ≡ home p.turn + 2)
long_squares p a b h =
    let four = and_parts (long_right p.turn p.rights && (a == home p.turn + 4) && (b == home p.turn + 2) && all_empty p.cells (home p.turn + 1) 3) (all_safe p.cells p.turn (home p.turn + 2) 3) h in
    let three = and_parts (long_right p.turn p.rights && (a == home p.turn + 4) && (b == home p.turn + 2)) (all_empty p.cells (home p.turn + 1) 3) four.0 in
    let two = and_parts (long_right p.turn p.rights && (a == home p.turn + 4)) (b == home p.turn + 2) three.0 in
    let one = and_parts (long_right p.turn p.rights) (a == home p.turn + 4) two.0 in
    (eqb-true _ _ one.1, eqb-true _ _ two.1)

king_shape : (p : Parts) (m : MoveWord) → Mover p m King → Shape p m
king_shape p m t =
    let no_pawn = t.kinds Pawn in
    let none = no_promotion p m no_pawn t.promo in
    elim (cases_Bool (distance m.from m.to == 2)) [
      | inl two ↦
          let text = plain_castling p m (and_from _ _ (t.kinds King) two) in
          let far : distance m.from m.to ≡ 2 = eqb-true _ _ two in
          elim (or_cases (king_step m.from m.to) (castles p m.from m.to) t.how) [
            | inl step ↦ let near : distance m.from m.to ≡ 1 = eqb-true _ _ step in absurd (omega arith)
            | inr castling ↦ elim (or_cases (castles_short p m.from m.to) (castles_long p m.from m.to) castling) [
              | inl short ↦
                  let at = short_squares p m.from m.to short in
                  Castles true (one_word m (castling_move p true) at.0 at.1 none) (text ∙ cond-true _ _ _ (lt-ltb m.from m.to (omega arith)))
              | inr long ↦
                  let at = long_squares p m.from m.to long in
                  Castles false (one_word m (castling_move p false) at.0 at.1 none) (text ∙ cond-false _ _ _ (le-ltb m.from m.to (omega arith)))
            ]
          ]
      | inr other ↦
          Goes King (t.kinds King) no_pawn none (plain_piece p m King (and_right (is_kind King (piece_on p.cells m.from)) (distance m.from m.to == 2) other) no_pawn t.kind)
    ]

shape_of : (p : Parts) (m : MoveWord) (k : Kind) → Mover p m k → Shape p m
shape_of p m Pawn t = pawn_shape p m t
shape_of p m Knight t = officer_shape p m Knight t refl refl refl
shape_of p m Bishop t = officer_shape p m Bishop t refl refl refl
shape_of p m Rook t = officer_shape p m Rook t refl refl refl
shape_of p m Queen t = officer_shape p m Queen t refl refl refl
shape_of p m King t = king_shape p m t

-- each legal move is written in one of these ways
pub shape : (p : Parts) (m : MoveWord) → legal p m ≡ true → Shape p m
shape p m h = shape_of p m (kind_at (piece_on p.cells m.from)) (mover p m h)
