-- After a legal move king and rook still stand at home for each castling that is left.
use Rattle.std.proofs.Common.{add-zero, ◌≡◌, ℕ, ◌+◌, ◌<◌, List, refl, arith, ap, sym, ◌∙◌, Bool, true, false, ◌&&◌, not, Option, None, ◌≢◌, inl, inr, get_or-set_other, ◌==◌}
use Rattle.std.proofs.Math.ListN.{set}
use Rattle.std.proofs.lemmas.Bool.{and_parts, and_from, both_ways, eqb-false, or_parts, cond_both}
use Rattle.board.specs.declared.piece.Colour.{Colour}
use Rattle.board.specs.declared.piece.Colour.TheVariants.{White, Black}
use Rattle.board.specs.declared.piece.Kind.{Kind}
use Rattle.board.specs.declared.piece.Kind.TheVariants.{Pawn, Rook, King}
use Rattle.board.specs.declared.piece.Piece.{Piece}
use Rattle.board.specs.declared.parts.Parts.{Parts}
use Rattle.board.specs.Moves.{MoveWord}
use Rattle.board.specs.Piece.{other, same_kind, is_piece}
use Rattle.board.specs.Attack.{piece_on}
use Rattle.board.specs.Position.{home, right_holds}
use Rattle.move_rules.specs.After.{moved_cells, rook_moved_cells, cells_after, passed_pawn, is_en_passant, is_castling, right_after, touches}
use Rattle.move_rules.proofs.Reached.{piece_is_one}
use Rattle.move_rules.proofs.Legality.{Legal, moved_other}
use Rattle.move_rules.proofs.SpecialMoves.{passing, castling}

rook_moved_other : (cells : List (Option Piece)) (a b s : ℕ) → s ≢ a → s ≢ b → piece_on (rook_moved_cells cells a b) s ≡ piece_on cells s
rook_moved_other cells a b s not_a not_b = get_or-set_other (set cells a None) b s (piece_on cells a) None not_b ∙ get_or-set_other cells a s None None not_a

-- a piece other than a pawn stays, where the move touches neither its square nor, in castling, the castling side's first rank
stays_after : (p : Parts) (m : MoveWord) (c : Colour) (k : Kind) (s : ℕ) → Legal p m → s ≢ m.from → s ≢ m.to → is_piece c k (piece_on p.cells s) ≡ true → same_kind Pawn k ≡ false → (m.from ≡ home p.turn + 4 → (j : ℕ) → j < 8 → s ≢ home p.turn + j) → piece_on (cells_after p m) s ≡ piece_on p.cells s
unfolding cells_after
stays_after p m c k s l from to is officer far =
    let same : List (Option Piece) → Type 0 = λ cells. piece_on cells s ≡ piece_on p.cells s in
    let here = moved_other p m s from to in
    cond_both (is_en_passant p m) _ _ same
    (λ h.
    let e = passing p m l h in
    get_or-set_other (moved_cells p m) (passed_pawn m) s None None
    (λ at.
    let pawn : is_piece (other p.turn) Pawn (piece_on p.cells s) ≡ true = rw at e.pawn in
    both_ways _ (piece_is_one c (other p.turn) Pawn k (piece_on p.cells s) pawn officer) is)
    ∙ here)
    (λ _. cond_both (is_castling p m) _ _ same
    (λ h. elim (castling p m l h) [
      | inl t ↦ let r = t.1 in rw (t.0) (rook_moved_other (moved_cells p m) (home p.turn + 7) (home p.turn + 5) s (far r.king 7 (omega arith)) (far r.king 5 (omega arith)) ∙ here)
      | inr t ↦ let r = t.1 in rw (t.0) (rook_moved_other (moved_cells p m) (home p.turn) (home p.turn + 3) s (λ e. far r.king 0 (omega arith) (e ∙ sym (add-zero _))) (far r.king 3 (omega arith)) ∙ here)
    ])
    (λ _. here))

untouched : (m : MoveWord) (s : ℕ) → touches m s ≡ false → (s ≢ m.from) × (s ≢ m.to)
untouched m s h =
    let parts = or_parts (m.from == s) (m.to == s) h in
    (λ e. eqb-false m.from s parts.0 (sym e), λ e. eqb-false m.to s parts.1 (sym e))

-- the side that castles is not the one whose king has not moved
far_home : (c t : Colour) (i j from : ℕ) → i < 8 → j < 8 → home c + 4 ≢ from → from ≡ home t + 4 → home c + i ≢ home t + j
far_home White White i j from i8 j8 ne e h = absurd (ne (sym e))
far_home Black Black i j from i8 j8 ne e h = absurd (ne (sym e))
far_home White Black i j from i8 j8 ne e h = omega arith
far_home Black White i j from i8 j8 ne e h = omega arith

right_stays : (p : Parts) (m : MoveWord) (c : Colour) (file : ℕ) → file < 8 → Legal p m → touches m (home c + 4) ≡ false → touches m (home c + file) ≡ false → right_holds p.cells c file true ≡ true → right_holds (cells_after p m) c file true ≡ true
right_stays p m c file small l king rook h =
    let both = and_parts (is_piece c King (piece_on p.cells (home c + 4))) (is_piece c Rook (piece_on p.cells (home c + file))) h in
    let k = untouched m (home c + 4) king in
    let r = untouched m (home c + file) rook in
    let king_stays = stays_after p m c King (home c + 4) l k.0 k.1 both.0 refl (λ e j j8. far_home c p.turn 4 j m.from (omega arith) j8 k.0 e) in
    let rook_stays = stays_after p m c Rook (home c + file) l r.0 r.1 both.1 refl (λ e j j8. far_home c p.turn file j m.from small j8 k.0 e) in
    and_from _ _ (ap (is_piece c King) king_stays ∙ both.0) (ap (is_piece c Rook) rook_stays ∙ both.1)

right_by : (p : Parts) (m : MoveWord) (c : Colour) (file : ℕ) (x y : Bool) → file < 8 → Legal p m → touches m (home c + 4) ≡ x → touches m (home c + file) ≡ y → right_holds p.cells c file true ≡ true → right_holds (cells_after p m) c file (true && not x && not y) ≡ true
right_by p m c file true y small l king rook h = refl
right_by p m c file false true small l king rook h = refl
right_by p m c file false false small l king rook h = right_stays p m c file small l king rook h

pub right_keeps : (p : Parts) (m : MoveWord) (c : Colour) (file : ℕ) (right : Bool) → file < 8 → Legal p m → right_holds p.cells c file right ≡ true → right_holds (cells_after p m) c file (right_after m c file right) ≡ true
right_keeps p m c file false small l h = refl
right_keeps p m c file true small l h =
    right_by p m c file (touches m (home c + 4)) (touches m (home c + file)) small l refl refl h
