-- The en passant square after a double step is one that a position may have.
use Rattle.std.proofs.Common.{◌≡◌, ℕ, ◌+◌, ◌-◌, List, refl, arith, ap, ◌∙◌, if◌then◌else◌, Bool, true, false, ◌&&◌, ◌||◌, Option, None, Some, is_none, is_some, inl, inr, get_or-set_other, get_or-set_same, ◌==◌}
use Rattle.std.proofs.Math.ListN.{set, length-set}
use Rattle.std.proofs.lemmas.Bool.{and_parts, and_from, and_right, or_cases, both_ways, eqb-true, and_left, not_from_true, cond_both, false_from_ne_true, eq-eqb}
use Rattle.board.specs.declared.piece.Colour.{Colour}
use Rattle.board.specs.declared.piece.Colour.TheVariants.{White, Black}
use Rattle.board.specs.declared.piece.Kind.{Kind}
use Rattle.board.specs.declared.piece.Kind.TheVariants.{Pawn, King}
use Rattle.board.specs.declared.piece.Piece.{Piece}
use Rattle.board.specs.declared.parts.Parts.{Parts}
use Rattle.board.specs.Moves.{MoveWord}
use Rattle.board.specs.Square.{file_of, rank_of, apart, distance}
use Rattle.board.specs.Piece.{other, is_piece}
use Rattle.board.specs.Attack.{piece_on, pawn_strike}
use Rattle.board.specs.Position.{ep_holds}
use Rattle.board.proofs.Equal.{same_colour-itself}
use Rattle.board.specs.Cells.{is_of, is_kind, is_empty}
use Rattle.board.specs.Pawns.{ahead, pawn_rank, last_rank, halfway, is_ep, single_step, double_step, pawn_capture, pawn_reaches}
use Rattle.move_rules.specs.After.{promoted_cell, arriving_cell, moved_cells, cells_after, is_pawn_move, is_en_passant, is_castling, ep_after}
use Rattle.move_rules.specs.Legal.{names_promo}
use Rattle.move_rules.proofs.Reached.{goes_elsewhere, kind_of}
use Rattle.move_rules.proofs.Legality.{Legal, goes_as, moved_other}

-- the ranks of a step ahead
ranks_ahead : (c : Colour) (n a b : ℕ) → ahead c n a b ≡ true → (file_of a ≡ file_of b) × (apart (rank_of a) (rank_of b) ≡ n)
ranks_ahead White n a b h =
    let parts = and_parts (file_of a == file_of b) (rank_of b == rank_of a + n) h in
    let up = eqb-true (rank_of b) (rank_of a + n) parts.1 in
    (eqb-true _ _ parts.0, omega arith)
ranks_ahead Black n a b h =
    let parts = and_parts (file_of a == file_of b) (rank_of a == rank_of b + n) h in
    let up = eqb-true (rank_of a) (rank_of b + n) parts.1 in
    (eqb-true _ _ parts.0, omega arith)

-- a pawn that captures goes one rank
ranks_struck : (c : Colour) (a b : ℕ) → pawn_strike c a b ≡ true → apart (rank_of a) (rank_of b) ≡ 1
ranks_struck White a b h = let up = eqb-true (rank_of b) (rank_of a + 1) (and_parts (apart (file_of a) (file_of b) == 1) (rank_of b == rank_of a + 1) h).1 in omega arith
ranks_struck Black a b h = let up = eqb-true (rank_of a) (rank_of b + 1) (and_parts (apart (file_of a) (file_of b) == 1) (rank_of a == rank_of b + 1) h).1 in omega arith

-- a pawn that goes two ranks makes a double step
is_double : (p : Parts) (a b : ℕ) → pawn_reaches p a b ≡ true → apart (rank_of a) (rank_of b) ≡ 2 → double_step p a b ≡ true
is_double p a b h two =
    elim (or_cases (single_step p a b || double_step p a b) (pawn_capture p a b) h) [
      | inl x ↦ elim (or_cases (single_step p a b) (double_step p a b) x) [
        | inl one ↦ let at = (ranks_ahead p.turn 1 a b (and_parts (ahead p.turn 1 a b) (is_empty p.cells b) one).0).1 in absurd (omega arith)
        | inr double ↦ double
      ]
      | inr take ↦ let at = ranks_struck p.turn a b (and_parts (pawn_strike p.turn a b) (is_of (other p.turn) (piece_on p.cells b) || is_ep b p.ep) take).0 in absurd (omega arith)
    ]

-- what a double step asks, but for the square where it ends
record Double (p : Parts) (a b : ℕ) : Type 0 where
  rank : rank_of a ≡ pawn_rank p.turn
  steps : ahead p.turn 2 a b ≡ true
  over : is_empty p.cells (halfway a b) ≡ true

double_parts : (w x y z : Bool) → (w && x && y && z) ≡ true → (w ≡ true) × (x ≡ true) × (y ≡ true)
double_parts w x y z h = grind (arith, and_parts)

double : (p : Parts) (a b : ℕ) → double_step p a b ≡ true → Double p a b
double p a b h =
    let t = double_parts (rank_of a == pawn_rank p.turn) (ahead p.turn 2 a b) (is_empty p.cells (halfway a b)) (is_empty p.cells b) h in
    record { rank = eqb-true _ _ t.0; steps = t.1; over = t.2 }

-- a double step does not end on the last rank
not_last : (c : Colour) (a b : ℕ) → rank_of a ≡ pawn_rank c → ahead c 2 a b ≡ true → (rank_of b == last_rank c) ≡ false
not_last White a b r h = false_from_ne_true (rank_of b == 7) (λ e. let x = eqb-true (rank_of b) 7 e in let y = (ranks_ahead White 2 a b h).1 in omega arith)
not_last Black a b r h = false_from_ne_true (rank_of b == 0) (λ e. let x = eqb-true (rank_of b) 0 e in let y = (ranks_ahead Black 2 a b h).1 in omega arith)

-- the square that was crossed, between where the pawn started and where it stands
ep_between : (c : Colour) (cells : List (Option Piece)) (a b : ℕ) → rank_of a ≡ pawn_rank c → ahead c 2 a b ≡ true → is_none (piece_on cells (halfway a b)) ≡ true → is_none (piece_on cells a) ≡ true → is_piece c Pawn (piece_on cells b) ≡ true → ep_holds cells (other c) (Some (halfway a b)) ≡ true
ep_between White cells a b r h over left pawn =
    let t = and_parts (file_of a == file_of b) (rank_of b == rank_of a + 2) h in
    let f = eqb-true (file_of a) (file_of b) t.0 in
    let y = eqb-true (rank_of b) (rank_of a + 2) t.1 in
    let low : halfway a b - 8 ≡ a = omega arith in
    let high : halfway a b + 8 ≡ b = omega arith in
    let mid : rank_of (halfway a b) ≡ 2 = omega arith in
    rw (low, high, eq-eqb _ _ mid, over, left, pawn)
ep_between Black cells a b r h over left pawn =
    let t = and_parts (file_of a == file_of b) (rank_of a == rank_of b + 2) h in
    let f = eqb-true (file_of a) (file_of b) t.0 in
    let y = eqb-true (rank_of a) (rank_of b + 2) t.1 in
    let low : halfway a b - 8 ≡ b = omega arith in
    let high : halfway a b + 8 ≡ a = omega arith in
    let mid : rank_of (halfway a b) ≡ 5 = omega arith in
    rw (low, high, eq-eqb _ _ mid, over, left, pawn)

none_promoted : (b : Bool) → (if b then true else false) ≡ true → b ≡ true
none_promoted true h = refl
none_promoted false h = h

-- off its last rank a pawn stays what it is
unpromoted : (d : Colour) (cell : Option Piece) (promo : Option Kind) (last : Bool) → last ≡ false → (if is_kind Pawn cell && last then is_some promo else is_none promo) ≡ true → promoted_cell d cell promo ≡ cell
unpromoted d cell None last e h = refl
unpromoted d cell (Some k) last e h = let n : (if is_kind Pawn cell && last then true else false) ≡ true = h in absurd (both_ways _ (and_right (is_kind Pawn cell) last e) (none_promoted _ n))

pub plain_move : (p : Parts) (m : MoveWord) → is_en_passant p m ≡ false → is_castling p m ≡ false → cells_after p m ≡ moved_cells p m
unfolding cells_after
plain_move p m no_pass no_castle = rw (no_pass, no_castle)

pawn_is_not_king : (piece : Piece) (cell : Option Piece) → cell ≡ Some piece → piece.kind ≡ Pawn → is_kind King cell ≡ false
pawn_is_not_king piece cell at kind = rw (at, kind) refl

is_own_pawn : (c : Colour) (piece : Piece) (cell : Option Piece) → cell ≡ Some piece → piece.colour ≡ c → piece.kind ≡ Pawn → is_piece c Pawn cell ≡ true
is_own_pawn c piece cell at own kind = rw (at, own, kind) (and_from _ _ (same_colour-itself c) refl)

ep_none : (cells : List (Option Piece)) (c : Colour) → ep_holds cells c None ≡ true
ep_none cells White = refl
ep_none cells Black = refl

pub ep_keeps : (p : Parts) (m : MoveWord) → Legal p m → ep_holds (cells_after p m) (other p.turn) (ep_after p m) ≡ true
unfolding ep_after names_promo
ep_keeps p m l =
    let good : Option ℕ → Type 0 = λ e. ep_holds (cells_after p m) (other p.turn) e ≡ true in
    cond_both (is_pawn_move p m && (apart (rank_of m.from) (rank_of m.to) == 2)) _ _ good
    (λ h.
    let parts = and_parts (is_pawn_move p m) (apart (rank_of m.from) (rank_of m.to) == 2) h in
    let kind : l.reach.piece.kind ≡ Pawn = kind_of Pawn (piece_on p.cells m.from) l.reach.piece l.reach.stands parts.0 in
    let two : apart (rank_of m.from) (rank_of m.to) ≡ 2 = eqb-true _ _ parts.1 in
    let d = double p m.from m.to (is_double p m.from m.to (goes_as p m Pawn l parts.0) two) in
    let file = (ranks_ahead p.turn 2 m.from m.to d.steps).0 in
    let no_pass : is_en_passant p m ≡ false = and_right (is_pawn_move p m && is_ep m.to p.ep) _ (not_from_true _ (eq-eqb _ _ file)) in
    let no_castle : is_castling p m ≡ false = and_left _ (distance m.from m.to == 2) (pawn_is_not_king l.reach.piece (piece_on p.cells m.from) l.reach.stands kind) in
    let long = l.position.board.squares in
    let to_on = l.word.to in
    let from_on = l.word.from in
    let elsewhere = goes_elsewhere p m.from m.to l.reach in
    let at_to : piece_on (moved_cells p m) m.to ≡ piece_on p.cells m.from = get_or-set_same (set p.cells m.from None) m.to (arriving_cell p m) None (omega (arith, length-set p.cells m.from None)) ∙ unpromoted p.turn (piece_on p.cells m.from) m.promo (rank_of m.to == last_rank p.turn) (not_last p.turn m.from m.to d.rank d.steps) l.promo in
    let at_from : piece_on (moved_cells p m) m.from ≡ None = get_or-set_other (set p.cells m.from None) m.to m.from (arriving_cell p m) None elsewhere ∙ get_or-set_same p.cells m.from None None (omega arith) in
    let at_mid : piece_on (moved_cells p m) (halfway m.from m.to) ≡ piece_on p.cells (halfway m.from m.to) = moved_other p m (halfway m.from m.to) (λ e. omega arith) (λ e. omega arith) in
    rw (plain_move p m no_pass no_castle)
    (ep_between p.turn (moved_cells p m) m.from m.to d.rank d.steps (ap is_none at_mid ∙ d.over) (ap is_none at_from) (is_own_pawn p.turn l.reach.piece (piece_on (moved_cells p m) m.to) (at_to ∙ l.reach.stands) l.reach.own kind)))
    (λ _. ep_none (cells_after p m) (other p.turn))
