-- A legal move leaves no pawn on the first or the last rank.
use Rattle.std.proofs.Common.{add-zero, ◌≡◌, ℕ, ◌+◌, ◌<◌, List, length, refl, arith, ap, ◌∙◌, if◌then◌else◌, Bool, true, false, ◌&&◌, not, Option, None, Some, is_none, is_some, subst, ◌⊎◌, inl, inr, get_or-set_other, get_or-set_same, ◌==◌}
use Rattle.std.proofs.Math.ListN.{set, length-set}
use Rattle.std.proofs.lemmas.Bool.{and_parts, and_from, or_cases, eqb-true, cond_both, cases_eq, false_from_ne_true, eq-eqb, not_from_false}
use Rattle.board.specs.declared.piece.Colour.{Colour}
use Rattle.board.specs.declared.piece.Colour.TheVariants.{White, Black}
use Rattle.board.specs.declared.piece.Kind.{Kind}
use Rattle.board.specs.declared.piece.Kind.TheVariants.{Pawn, Knight, Bishop, Rook, Queen, King}
use Rattle.board.specs.declared.piece.Piece.{Piece}
use Rattle.board.specs.declared.parts.Parts.{Parts}
use Rattle.board.specs.Moves.{MoveWord, can_be_promo}
use Rattle.board.specs.Square.{file_of, rank_of, apart}
use Rattle.board.specs.Piece.{is_piece}
use Rattle.board.specs.Attack.{piece_on, pawn_strike}
use Rattle.board.specs.Position.{home, IsPosition, is_pawnless}
use Rattle.board.specs.Cells.{is_kind}
use Rattle.board.specs.Pawns.{ahead, last_rank, pawn_reaches}
use Rattle.move_rules.specs.After.{promoted_cell, arriving_cell, moved_cells, rook_moved_cells, cells_after, passed_pawn, is_en_passant, is_castling}
use Rattle.move_rules.specs.Legal.{names_promo}
use Rattle.board.proofs.RangeTests.{all_at}
use Rattle.move_rules.proofs.Reached.{no_kind}
use Rattle.move_rules.proofs.Legality.{Legal, goes_as, length_moved}
use Rattle.move_rules.proofs.SpecialMoves.{castling}

-- a write keeps what holds of the old cell and of the new one
set_keeps : (f : Option Piece → Bool) (cells : List (Option Piece)) (i : ℕ) (y : Option Piece) (s : ℕ) → s < length cells → (s ≡ i → f y ≡ true) → f (piece_on cells s) ≡ true → f (piece_on (set cells i y) s) ≡ true
set_keeps f cells i y s inside new old =
    elim (cases_eq s i) [
      | inl e ↦ ap f (subst (λ (j : ℕ). piece_on (set cells j y) s ≡ y) e (get_or-set_same cells s y None inside)) ∙ new e
      | inr ne ↦ ap f (get_or-set_other cells i s y None ne) ∙ old
    ]

-- no pawn stands in the cell
abbrev pub pawnless : Option Piece → Bool
pawnless cell = not (is_piece White Pawn cell) && not (is_piece Black Pawn cell)

-- the square lies on the first or the last rank
abbrev pub OnEdge : ℕ → Type 0
OnEdge s = (rank_of s ≡ 0) ⊎ (rank_of s ≡ 7)

-- no pawn stands on the first or the last rank of a position
pub edge_pawnless : (p : Parts) (k : ℕ) → IsPosition p → k < 64 → OnEdge k → pawnless (piece_on p.cells k) ≡ true
edge_pawnless p k h on edge =
    elim edge [
      | inl e ↦ all_at (is_pawnless p.cells) 0 8 k h.board.first_rank (omega arith) (omega arith)
      | inr e ↦ all_at (is_pawnless p.cells) 56 8 k h.board.last_rank (omega arith) (omega arith)
    ]

pawnless_unless : (cell : Option Piece) → is_kind Pawn cell ≡ false → pawnless cell ≡ true
pawnless_unless cell h = and_from _ _ (not_from_false _ (no_kind White Pawn cell h)) (not_from_false _ (no_kind Black Pawn cell h))

-- b lies ahead of a for a pawn of this colour
abbrev pub Climbs : Colour → ℕ → ℕ → Type 0
Climbs White a b = rank_of a < rank_of b
Climbs Black a b = rank_of b < rank_of a

ahead_climbs : (c : Colour) (n a b : ℕ) → 0 < n → ahead c n a b ≡ true → Climbs c a b
ahead_climbs White n a b some h = grind (arith, and_parts, eqb-true)
ahead_climbs Black n a b some h = grind (arith, and_parts, eqb-true)

strike_climbs : (c : Colour) (a b : ℕ) → pawn_strike c a b ≡ true → Climbs c a b
strike_climbs White a b h = let up = eqb-true (rank_of b) (rank_of a + 1) (and_parts (apart (file_of a) (file_of b) == 1) (rank_of b == rank_of a + 1) h).1 in omega arith
strike_climbs Black a b h = let up = eqb-true (rank_of a) (rank_of b + 1) (and_parts (apart (file_of a) (file_of b) == 1) (rank_of a == rank_of b + 1) h).1 in omega arith

pawn_ways : (p : Parts) (a b : ℕ) → pawn_reaches p a b ≡ true → ((ahead p.turn 1 a b ≡ true) ⊎ (ahead p.turn 2 a b ≡ true)) ⊎ (pawn_strike p.turn a b ≡ true)
pawn_ways p a b h = grind (arith, and_parts, or_cases)

-- each move of a pawn takes it nearer its last rank
pub pawn_climbs : (p : Parts) (a b : ℕ) → pawn_reaches p a b ≡ true → Climbs p.turn a b
pawn_climbs p a b h =
    elim (pawn_ways p a b h) [
      | inl x ↦ elim x [ inl one ↦ ahead_climbs p.turn 1 a b (omega arith) one | inr two ↦ ahead_climbs p.turn 2 a b (omega arith) two ]
      | inr s ↦ strike_climbs p.turn a b s
    ]

-- a pawn that comes to the first or the last rank comes to its last
comes_last : (c : Colour) (a b : ℕ) → a < 64 → b < 64 → Climbs c a b → OnEdge b → rank_of b ≡ last_rank c
comes_last White a b a_on b_on h edge = elim edge [ inl e ↦ omega arith | inr e ↦ e ]
comes_last Black a b a_on b_on h edge = elim edge [ inl e ↦ e | inr e ↦ omega arith ]

-- a piece that a pawn has become, and what is no pawn
promoted_pawnless : (d : Colour) (cell : Option Piece) (promo : Option Kind) (last : Bool) → can_be_promo promo ≡ true → (if is_kind Pawn cell && last then is_some promo else is_none promo) ≡ true → (is_kind Pawn cell ≡ true → last ≡ true) → pawnless (promoted_cell d cell promo) ≡ true
promoted_pawnless d cell None last ok h edge = pawnless_unless cell (false_from_ne_true (is_kind Pawn cell) (λ pawn. let n : (if is_kind Pawn cell && last then false else true) ≡ true = h in let z : false ≡ true = rw (pawn, edge pawn) at n in cc))
promoted_pawnless d cell (Some Pawn) last ok h edge = cc
promoted_pawnless d cell (Some King) last ok h edge = cc
promoted_pawnless d cell (Some Knight) last ok h edge = pawnless_unless (promoted_cell d cell (Some Knight)) refl
promoted_pawnless d cell (Some Bishop) last ok h edge = pawnless_unless (promoted_cell d cell (Some Bishop)) refl
promoted_pawnless d cell (Some Rook) last ok h edge = pawnless_unless (promoted_cell d cell (Some Rook)) refl
promoted_pawnless d cell (Some Queen) last ok h edge = pawnless_unless (promoted_cell d cell (Some Queen)) refl

arriving_pawnless : (p : Parts) (m : MoveWord) → Legal p m → OnEdge m.to → pawnless (arriving_cell p m) ≡ true
unfolding names_promo
arriving_pawnless p m l edge =
    promoted_pawnless p.turn (piece_on p.cells m.from) m.promo (rank_of m.to == last_rank p.turn) l.word.promo l.promo
    (λ pawn. eq-eqb _ _ (comes_last p.turn m.from m.to l.word.from l.word.to (pawn_climbs p m.from m.to (goes_as p m Pawn l pawn)) edge))

moved_pawnless : (p : Parts) (m : MoveWord) (s : ℕ) → Legal p m → s < 64 → OnEdge s → pawnless (piece_on (moved_cells p m) s) ≡ true
moved_pawnless p m s l on edge =
    let long = l.position.board.squares in
    set_keeps pawnless (set p.cells m.from None) m.to (arriving_cell p m) s (omega (arith, length-set p.cells m.from None))
    (λ e. arriving_pawnless p m l (subst OnEdge e edge))
    (set_keeps pawnless p.cells m.from None s (omega arith) (λ _. refl) (edge_pawnless p s l.position on edge))

rook_pawnless : (cells : List (Option Piece)) (a b s : ℕ) → s < length cells → pawnless (piece_on cells a) ≡ true → pawnless (piece_on cells s) ≡ true → pawnless (piece_on (rook_moved_cells cells a b) s) ≡ true
rook_pawnless cells a b s on rook old =
    set_keeps pawnless (set cells a None) b (piece_on cells a) s (omega (arith, length-set cells a None)) (λ _. rook)
    (set_keeps pawnless cells a None s on (λ _. refl) old)

home_edge : (c : Colour) (j : ℕ) → j < 8 → OnEdge (home c + j)
home_edge White j h = inl (omega arith)
home_edge Black j h = inr (omega arith)

pub pawnless_after : (p : Parts) (m : MoveWord) (s : ℕ) → Legal p m → s < 64 → OnEdge s → pawnless (piece_on (cells_after p m) s) ≡ true
unfolding cells_after
pawnless_after p m s l on edge =
    let long : length (moved_cells p m) ≡ 64 = length_moved p m ∙ l.position.board.squares in
    let good : List (Option Piece) → Type 0 = λ cells. pawnless (piece_on cells s) ≡ true in
    let here = moved_pawnless p m s l on edge in
    cond_both (is_en_passant p m) _ _ good
    (λ _. set_keeps pawnless (moved_cells p m) (passed_pawn m) None s (omega arith) (λ _. refl) here)
    (λ _. cond_both (is_castling p m) _ _ good
    (λ h. elim (castling p m l h) [
      | inl t ↦ rw (t.0) (let k = t.1 in let at = home_edge p.turn 7 (omega arith) in rook_pawnless (moved_cells p m) (home p.turn + 7) (home p.turn + 5) s (omega arith) (moved_pawnless p m _ l k.x_on at) here)
      | inr t ↦ rw (t.0) (let k = t.1 in let at = subst OnEdge (add-zero (home p.turn)) (home_edge p.turn 0 (omega arith)) in rook_pawnless (moved_cells p m) (home p.turn) (home p.turn + 3) s (omega arith) (moved_pawnless p m _ l k.x_on at) here)
    ])
    (λ _. here))
