-- A legal move of a position, as the proofs use it.
use Rattle.std.proofs.Common.{◌≡◌, ℕ, nat_lt, length, ◌∙◌, true, false, ◌&&◌, not, None, ◌≢◌, subst, ltb-true, get_or-set_other}
use Rattle.std.proofs.Math.ListN.{set, length-set}
use Rattle.std.proofs.lemmas.Bool.{and_parts, not-true}
use Rattle.board.specs.declared.piece.Kind.{Kind}
use Rattle.board.specs.declared.parts.Parts.{Parts}
use Rattle.board.specs.Moves.{MoveWord, IsMove, can_be_promo}
use Rattle.board.specs.Attack.{piece_on, king_attacked}
use Rattle.board.specs.Position.{IsPosition}
use Rattle.board.specs.Cells.{is_kind}
use Rattle.board.specs.Reach.{reaches, kind_reaches}
use Rattle.move_rules.specs.After.{arriving_cell, moved_cells, cells_after}
use Rattle.move_rules.specs.Legal.{is_move, names_promo, leaves_king_safe, legal}
use Rattle.move_rules.proofs.Reached.{Reach, reach_of, kind_of}

-- a legal move of a position, but for the safety of the own king
pub record Legal (p : Parts) (m : MoveWord) : Type 0 where
  pub position : IsPosition p
  pub word : IsMove m
  pub reach : Reach p m.from m.to
  pub promo : names_promo p m ≡ true

legal_parts : (p : Parts) (m : MoveWord) → legal p m ≡ true → (reaches p m.from m.to ≡ true) × (names_promo p m ≡ true) × (king_attacked (cells_after p m) p.turn ≡ false)
unfolding legal leaves_king_safe
legal_parts p m h =
    let one = and_parts (is_move m && reaches p m.from m.to && names_promo p m) (not (king_attacked (cells_after p m) p.turn)) h in
    let two = and_parts (is_move m && reaches p m.from m.to) (names_promo p m) one.0 in
    let three = and_parts (is_move m) (reaches p m.from m.to) two.0 in
    (three.1, two.1, not-true _ one.1)

is_move_means : (m : MoveWord) → is_move m ≡ true → IsMove m
unfolding is_move
is_move_means m h =
    let one = and_parts (nat_lt m.from 64 && nat_lt m.to 64) (can_be_promo m.promo) h in
    let two = and_parts (nat_lt m.from 64) (nat_lt m.to 64) one.0 in
    record { from = ltb-true m.from 64 two.0; to = ltb-true m.to 64 two.1; promo = one.1 }

-- a legal word is a move
pub legal_word : (p : Parts) (m : MoveWord) → legal p m ≡ true → IsMove m
unfolding legal
legal_word p m h =
    let one = and_parts (is_move m && reaches p m.from m.to && names_promo p m) (leaves_king_safe p m) h in
    let two = and_parts (is_move m && reaches p m.from m.to) (names_promo p m) one.0 in
    is_move_means m (and_parts (is_move m) (reaches p m.from m.to) two.0).0

pub legal_move : (p : Parts) (m : MoveWord) → IsPosition p → IsMove m → legal p m ≡ true → Legal p m
legal_move p m position word h =
    let t = legal_parts p m h in
    record { position = position; word = word; reach = reach_of p m.from m.to t.0; promo = t.1 }

pub legal_reaches : (p : Parts) (m : MoveWord) → legal p m ≡ true → reaches p m.from m.to ≡ true
legal_reaches p m h = (legal_parts p m h).0

pub king_safe : (p : Parts) (m : MoveWord) → legal p m ≡ true → king_attacked (cells_after p m) p.turn ≡ false
king_safe p m h = (legal_parts p m h).2

-- a move that a piece of this kind makes goes as the kind goes
pub goes_as : (p : Parts) (m : MoveWord) (k : Kind) → Legal p m → is_kind k (piece_on p.cells m.from) ≡ true → kind_reaches p k m.from m.to ≡ true
goes_as p m k l h =
    subst (λ (j : Kind). kind_reaches p j m.from m.to ≡ true) (kind_of k (piece_on p.cells m.from) l.reach.piece l.reach.stands h) l.reach.how

pub length_moved : (p : Parts) (m : MoveWord) → length (moved_cells p m) ≡ length p.cells
length_moved p m = length-set (set p.cells m.from None) m.to (arriving_cell p m) ∙ length-set p.cells m.from None

-- a square that the move neither leaves nor reaches keeps its piece
pub moved_other : (p : Parts) (m : MoveWord) (s : ℕ) → s ≢ m.from → s ≢ m.to → piece_on (moved_cells p m) s ≡ piece_on p.cells s
moved_other p m s from to = get_or-set_other (set p.cells m.from None) m.to s (arriving_cell p m) None to ∙ get_or-set_other p.cells m.from s None None from
