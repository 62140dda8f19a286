-- What holds at an en passant capture and at a castling.
use Rattle.std.proofs.Common.{◌≡◌, ℕ, ◌+◌, ◌-◌, ◌<◌, List, arith, true, false, ◌&&◌, not, Option, None, Some, ◌≢◌, is_none, ◌⊎◌, inl, inr, ◌==◌, nat_lt}
use Rattle.std.proofs.lemmas.Bool.{and_parts, or_cases, eqb-true, not-true, lt-ltb, le-ltb}
use Rattle.board.specs.declared.piece.Colour.{Colour}
use Rattle.board.specs.declared.piece.Colour.TheVariants.{White, Black}
use Rattle.board.specs.declared.piece.Kind.TheVariants.{Pawn, King}
use Rattle.board.specs.declared.piece.Piece.{Piece}
use Rattle.board.specs.declared.parts.Parts.{Parts}
use Rattle.board.specs.Moves.{MoveWord}
use Rattle.board.specs.Square.{file_of, rank_of, apart, distance}
use Rattle.board.specs.Piece.{other, is_piece}
use Rattle.board.specs.Attack.{piece_on, pawn_strike}
use Rattle.board.specs.Position.{home, ep_holds}
use Rattle.board.specs.Cells.{is_kind}
use Rattle.board.specs.Pawns.{is_ep, pawn_reaches}
use Rattle.board.specs.Castling.{castles_short, castles_long}
use Rattle.board.specs.Reach.{king_reaches}
use Rattle.move_rules.specs.After.{is_pawn_move, is_en_passant, is_castling, moved_cells, passed_pawn}
use Rattle.move_rules.proofs.Legality.{Legal, goes_as, moved_other}
use Rattle.move_rules.proofs.Castlings.{short_tells, long_tells, home_low}

-- the square in front of which the pawn stands that has just crossed s
abbrev pub behind : Colour → ℕ → ℕ
behind White s = s - 8
behind Black s = s + 8

-- the rank of the en passant square
abbrev pub ep_rank : Colour → ℕ
ep_rank White = 5
ep_rank Black = 2

pub ep_tells : (cells : List (Option Piece)) (c : Colour) (ep : Option ℕ) (s : ℕ) → ep_holds cells c ep ≡ true → is_ep s ep ≡ true → (rank_of s ≡ ep_rank c) × (is_none (piece_on cells s) ≡ true) × (is_piece (other c) Pawn (piece_on cells (behind c s)) ≡ true)
ep_tells cells White None s h at = cc
ep_tells cells Black None s h at = cc
ep_tells cells White (Some e) s h at = grind (arith, and_parts, eqb-true)
ep_tells cells Black (Some e) s h at = grind (arith, and_parts, eqb-true)

-- a pawn that changes its file captures
pub captures_aside : (p : Parts) (a b : ℕ) → pawn_reaches p a b ≡ true → (file_of a == file_of b) ≡ false → pawn_strike p.turn a b ≡ true
captures_aside p a b h away = grind (arith, and_parts, or_cases)

passed_pawn_is : (c : Colour) (m : MoveWord) → pawn_strike c m.from m.to ≡ true → rank_of m.to ≡ ep_rank c → (passed_pawn m ≡ behind c m.to) × (passed_pawn m ≢ m.from) × (passed_pawn m ≢ m.to)
passed_pawn_is White m h r =
    let parts = and_parts (apart (file_of m.from) (file_of m.to) == 1) (rank_of m.to == rank_of m.from + 1) h in
    let aside : apart (file_of m.from) (file_of m.to) ≡ 1 = eqb-true _ _ parts.0 in
    let up : rank_of m.to ≡ rank_of m.from + 1 = eqb-true _ _ parts.1 in
    (omega arith, λ e. omega arith, λ e. omega arith)
passed_pawn_is Black m h r =
    let parts = and_parts (apart (file_of m.from) (file_of m.to) == 1) (rank_of m.from == rank_of m.to + 1) h in
    let aside : apart (file_of m.from) (file_of m.to) ≡ 1 = eqb-true _ _ parts.0 in
    let up : rank_of m.from ≡ rank_of m.to + 1 = eqb-true _ _ parts.1 in
    (omega arith, λ e. omega arith, λ e. omega arith)

-- the pawn that is captured en passant: an enemy pawn on a square that the move neither leaves nor reaches
pub record Passing (p : Parts) (m : MoveWord) : Type 0 where
  pub on : passed_pawn m < 64
  pub from : passed_pawn m ≢ m.from
  pub to : passed_pawn m ≢ m.to
  pub pawn : is_piece (other p.turn) Pawn (piece_on p.cells (passed_pawn m)) ≡ true
  pub rank : rank_of m.to ≡ ep_rank p.turn

pub passing : (p : Parts) (m : MoveWord) → Legal p m → is_en_passant p m ≡ true → Passing p m
passing p m l h =
    let parts = and_parts (is_pawn_move p m && is_ep m.to p.ep) (not (file_of m.from == file_of m.to)) h in
    let two = and_parts (is_pawn_move p m) (is_ep m.to p.ep) parts.0 in
    let step = captures_aside p m.from m.to (goes_as p m Pawn l two.0) (not-true (file_of m.from == file_of m.to) parts.1) in
    let ep = ep_tells p.cells p.turn p.ep m.to l.position.ep two.1 in
    let at = passed_pawn_is p.turn m step ep.0 in
    record { on = (let low = l.word.from in omega arith); from = at.1; to = at.2; pawn = rw (at.0) ep.2; rank = ep.0 }

-- a king that goes two squares castles
castle_tells : (p : Parts) (a b : ℕ) → king_reaches p a b ≡ true → (distance a b == 2) ≡ true → (castles_short p a b ≡ true) ⊎ (castles_long p a b ≡ true)
castle_tells p a b h two = grind (arith, or_cases, eqb-true)

-- the rook of a castling goes from x to y, which is empty, and the king starts from his own square
pub record Castling (p : Parts) (m : MoveWord) (x y : ℕ) : Type 0 where
  pub x_on : x < 64
  pub y_on : y < 64
  pub apart : x ≢ y
  pub free : is_none (piece_on (moved_cells p m) y) ≡ true
  pub king : m.from ≡ home p.turn + 4

castling_short : (p : Parts) (m : MoveWord) → castles_short p m.from m.to ≡ true → Castling p m (home p.turn + 7) (home p.turn + 5)
castling_short p m h =
    let t = short_tells p m.from m.to h in
    let low = home_low p.turn in
    record {
      x_on = omega arith;
      y_on = omega arith;
      apart = λ e. omega arith;
      free = rw (moved_other p m (home p.turn + 5) (λ e. omega arith) (λ e. omega arith)) t.crosses;
      king = t.from;
    }

castling_long : (p : Parts) (m : MoveWord) → castles_long p m.from m.to ≡ true → Castling p m (home p.turn) (home p.turn + 3)
castling_long p m h =
    let t = long_tells p m.from m.to h in
    let low = home_low p.turn in
    record {
      x_on = omega arith;
      y_on = omega arith;
      apart = λ e. omega arith;
      free = rw (moved_other p m (home p.turn + 3) (λ e. omega arith) (λ e. omega arith)) t.crosses;
      king = t.from;
    }

-- which castling it is
pub castling : (p : Parts) (m : MoveWord) → Legal p m → is_castling p m ≡ true → ((nat_lt m.from m.to ≡ true) × Castling p m (home p.turn + 7) (home p.turn + 5)) ⊎ ((nat_lt m.from m.to ≡ false) × Castling p m (home p.turn) (home p.turn + 3))
castling p m l h =
    let parts = and_parts (is_kind King (piece_on p.cells m.from)) (distance m.from m.to == 2) h in
    elim (castle_tells p m.from m.to (goes_as p m King l parts.0) parts.1) [
      | inl short ↦ let t = short_tells p m.from m.to short in inl (lt-ltb _ _ (omega arith), castling_short p m short)
      | inr long ↦ let t = long_tells p m.from m.to long in inr (le-ltb _ _ (omega arith), castling_long p m long)
    ]
