-- A legal move leaves each side its king.
use Rattle.std.proofs.Common.{◌≡◌, ℕ, ◌+◌, ◌<◌, List, length, refl, arith, ap, sym, ◌∙◌, if◌then◌else◌, Bool, true, false, ◌&&◌, Option, None, Some, ◌≢◌, is_none, is_some, subst, inl, inr, cond, get_or-set_other, count_by, ◌==◌}
use Rattle.std.proofs.Math.ListN.{set, length-set}
use Rattle.std.proofs.lemmas.Bool.{and_right, cond_both}
use Rattle.std.proofs.lemmas.List.Sums.{sum_by-set}
use Rattle.board.specs.declared.piece.Colour.{Colour}
use Rattle.board.specs.declared.piece.Kind.{Kind}
use Rattle.board.specs.declared.piece.Kind.TheVariants.{Pawn, Knight, Bishop, Rook, Queen, King}
use Rattle.board.specs.declared.piece.Piece.{Piece}
use Rattle.board.specs.declared.parts.Parts.{Parts}
use Rattle.board.specs.Moves.{MoveWord, can_be_promo}
use Rattle.board.specs.Square.{rank_of}
use Rattle.board.specs.Piece.{other, same_colour, same_kind, is_piece}
use Rattle.board.specs.Attack.{piece_on}
use Rattle.board.specs.Position.{home}
use Rattle.board.proofs.Equal.{same_kind-true}
use Rattle.board.specs.Cells.{is_kind}
use Rattle.board.specs.Pawns.{last_rank}
use Rattle.move_rules.specs.After.{promoted_cell, arriving_cell, moved_cells, rook_moved_cells, castled_cells, cells_after, passed_pawn, is_en_passant, is_castling}
use Rattle.move_rules.specs.Legal.{names_promo}
use Rattle.move_rules.proofs.Reached.{goes_elsewhere, no_piece_of, piece_is_one}
use Rattle.move_rules.proofs.Strikes.{no_king_taken}
use Rattle.move_rules.proofs.Legality.{Legal, length_moved, moved_other}
use Rattle.move_rules.proofs.SpecialMoves.{passing, castling}

-- how many cells pass a test, after one is written
count_by-set : (f : Option Piece → Bool) (cells : List (Option Piece)) (s : ℕ) (y : Option Piece) → s < length cells → count_by f (set cells s y) + cond (f (piece_on cells s)) 1 0 ≡ count_by f cells + cond (f y) 1 0
count_by-set f cells s y inside = sum_by-set (λ x. cond (f x) 1 0) cells s y None inside

-- a cell is written by one that passes as the old one did
count_by-set_same : (f : Option Piece → Bool) (cells : List (Option Piece)) (s : ℕ) (y : Option Piece) → s < length cells → f (piece_on cells s) ≡ f y → count_by f (set cells s y) ≡ count_by f cells
count_by-set_same f cells s y inside e =
    let n : count_by f (set cells s y) + cond (f y) 1 0 ≡ count_by f cells + cond (f y) 1 0 = subst (λ (b : Bool). count_by f (set cells s y) + cond b 1 0 ≡ count_by f cells + cond (f y) 1 0) e (count_by-set f cells s y inside) in
    omega arith

-- what passes goes from a to b, in place of what does not
count_by-moved : (f : Option Piece → Bool) (cells : List (Option Piece)) (a b : ℕ) (y : Option Piece) → a < length cells → b < length cells → a ≢ b → f None ≡ false → f (piece_on cells b) ≡ false → f y ≡ f (piece_on cells a) → count_by f (set (set cells a None) b y) ≡ count_by f cells
count_by-moved f cells a b y a_on b_on ne none free same =
    let one : count_by f (set cells a None) + cond (f (piece_on cells a)) 1 0 ≡ count_by f cells + cond (f None) 1 0 = count_by-set f cells a None a_on in
    let elsewhere : b ≢ a = λ e. ne (sym e) in
    let kept : piece_on (set cells a None) b ≡ piece_on cells b = get_or-set_other cells a b None None elsewhere in
    let two : count_by f (set (set cells a None) b y) + cond (f (piece_on (set cells a None) b)) 1 0 ≡ count_by f (set cells a None) + cond (f y) 1 0 = count_by-set f (set cells a None) b y (omega (arith, length-set cells a None)) in
    let three : count_by f (set (set cells a None) b y) + 0 ≡ count_by f (set cells a None) + cond (f (piece_on cells a)) 1 0 = rw (kept, free, same) at two in
    let four : count_by f (set cells a None) + cond (f (piece_on cells a)) 1 0 ≡ count_by f cells + 0 = rw none at one in
    omega arith

pawn_is_no_king : (c : Colour) (cell : Option Piece) → is_kind Pawn cell ≡ true → is_piece c King cell ≡ false
pawn_is_no_king c None h = refl
pawn_is_no_king c (Some piece) h =
    let pawn : piece.kind ≡ Pawn = same_kind-true _ _ h in
    and_right (same_colour piece.colour c) (same_kind piece.kind King) (rw pawn refl)

-- what is promoted is a pawn
promoted_is_pawn : (pawn last : Bool) → (if pawn && last then true else false) ≡ true → pawn ≡ true
promoted_is_pawn true last h = refl
promoted_is_pawn false last h = cc

promoted_king : (c d : Colour) (cell : Option Piece) (promo : Option Kind) (last : Bool) → can_be_promo promo ≡ true → (if is_kind Pawn cell && last then is_some promo else is_none promo) ≡ true → is_piece c King (promoted_cell d cell promo) ≡ is_piece c King cell
promoted_king c d cell None last ok h = refl
promoted_king c d cell (Some Pawn) last ok h = cc
promoted_king c d cell (Some King) last ok h = cc
promoted_king c d cell (Some Knight) last ok h = and_right _ _ refl ∙ sym (pawn_is_no_king c cell (promoted_is_pawn _ last h))
promoted_king c d cell (Some Bishop) last ok h = and_right _ _ refl ∙ sym (pawn_is_no_king c cell (promoted_is_pawn _ last h))
promoted_king c d cell (Some Rook) last ok h = and_right _ _ refl ∙ sym (pawn_is_no_king c cell (promoted_is_pawn _ last h))
promoted_king c d cell (Some Queen) last ok h = and_right _ _ refl ∙ sym (pawn_is_no_king c cell (promoted_is_pawn _ last h))

-- what stands on the square of arrival before the move is no king
target_is_no_king : (p : Parts) (m : MoveWord) (c : Colour) → Legal p m → is_piece c King (piece_on p.cells m.to) ≡ false
target_is_no_king p m c l =
    no_piece_of c p.turn King (piece_on p.cells m.to) l.reach.free (no_king_taken p m.from m.to l.word.from l.word.to l.reach l.position.safe)

arriving_king : (p : Parts) (m : MoveWord) (c : Colour) → Legal p m → is_piece c King (arriving_cell p m) ≡ is_piece c King (piece_on p.cells m.from)
unfolding names_promo
arriving_king p m c l = promoted_king c p.turn (piece_on p.cells m.from) m.promo (rank_of m.to == last_rank p.turn) l.word.promo l.promo

kings_moved : (p : Parts) (m : MoveWord) (c : Colour) → Legal p m → count_by (is_piece c King) (moved_cells p m) ≡ count_by (is_piece c King) p.cells
kings_moved p m c l =
    let long = l.position.board.squares in
    let from_on = l.word.from in
    let to_on = l.word.to in
    count_by-moved (is_piece c King) p.cells m.from m.to (arriving_cell p m) (omega arith) (omega arith) (goes_elsewhere p m.from m.to l.reach) refl (target_is_no_king p m c l) (arriving_king p m c l)

kings_passing : (p : Parts) (m : MoveWord) (c : Colour) → Legal p m → is_en_passant p m ≡ true → count_by (is_piece c King) (set (moved_cells p m) (passed_pawn m) None) ≡ count_by (is_piece c King) (moved_cells p m)
kings_passing p m c l h =
    let e = passing p m l h in
    let on = e.on in
    let long = l.position.board.squares in
    count_by-set_same (is_piece c King) (moved_cells p m) (passed_pawn m) None (omega (arith, length_moved p m))
    (ap (is_piece c King) (moved_other p m (passed_pawn m) e.from e.to) ∙ piece_is_one c (other p.turn) Pawn King (piece_on p.cells (passed_pawn m)) e.pawn refl)

none_no_piece : (c : Colour) (k : Kind) (cell : Option Piece) → is_none cell ≡ true → is_piece c k cell ≡ false
none_no_piece c k None h = refl
none_no_piece c k (Some piece) h = cc

kings_rook : (cells : List (Option Piece)) (c : Colour) (a b : ℕ) → a < length cells → b < length cells → a ≢ b → is_none (piece_on cells b) ≡ true → count_by (is_piece c King) (rook_moved_cells cells a b) ≡ count_by (is_piece c King) cells
kings_rook cells c a b a_on b_on ne free = count_by-moved (is_piece c King) cells a b (piece_on cells a) a_on b_on ne refl (none_no_piece c King _ free) refl

kings_castling : (p : Parts) (m : MoveWord) (c : Colour) → Legal p m → is_castling p m ≡ true → count_by (is_piece c King) (castled_cells p m) ≡ count_by (is_piece c King) (moved_cells p m)
kings_castling p m c l h =
    let long : length (moved_cells p m) ≡ 64 = length_moved p m ∙ l.position.board.squares in
    elim (castling p m l h) [
      | inl t ↦ rw (t.0) (let k = t.1 in kings_rook (moved_cells p m) c (home p.turn + 7) (home p.turn + 5) (omega arith) (omega arith) k.apart k.free)
      | inr t ↦ rw (t.0) (let k = t.1 in kings_rook (moved_cells p m) c (home p.turn) (home p.turn + 3) (omega arith) (omega arith) k.apart k.free)
    ]

pub kings_after : (p : Parts) (m : MoveWord) (c : Colour) → Legal p m → count_by (is_piece c King) (cells_after p m) ≡ count_by (is_piece c King) p.cells
unfolding cells_after
kings_after p m c l =
    let same : List (Option Piece) → Type 0 = λ cells. count_by (is_piece c King) cells ≡ count_by (is_piece c King) p.cells in
    cond_both (is_en_passant p m) _ _ same
    (λ h. kings_passing p m c l h ∙ kings_moved p m c l)
    (λ _. cond_both (is_castling p m) _ _ same (λ h. kings_castling p m c l h ∙ kings_moved p m c l) (λ _. kings_moved p m c l))
