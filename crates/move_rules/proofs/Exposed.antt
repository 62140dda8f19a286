-- A piece that leaves a square which the own king does not see uncovers nothing: what strikes the king then struck it before.
use Rattle.std.proofs.Common.{◌≡◌, ◌≢◌, ℕ, ◌<◌, List, length, refl, arith, ap, sym, subst, ◌∙◌, true, false, ◌&&◌, ◌||◌, not, Option, None, Some, is_none, is_some, inl, inr, ◌==◌, get_or-set_other, get_or-set_same}
use Rattle.std.proofs.Math.ListN.{set, length-set}
use Rattle.std.proofs.lemmas.Bool.{and_parts, and_from, and_left, and_right, or_parts, or_left, or_right, not-true, not_from_false, false_from_ne_true, both_ways, cases_eq, eqb-true}
use Rattle.board.specs.declared.piece.Colour.{Colour}
use Rattle.board.specs.declared.piece.Colour.TheVariants.{White, Black}
use Rattle.board.specs.declared.piece.Kind.{Kind}
use Rattle.board.specs.declared.piece.Kind.TheVariants.{Pawn, Knight, Bishop, Rook, Queen, King}
use Rattle.board.specs.declared.piece.Piece.{Piece}
use Rattle.board.specs.declared.parts.Parts.{Parts}
use Rattle.board.specs.Square.{file_of, distance}
use Rattle.board.specs.Piece.{other, same_colour, is_piece}
use Rattle.board.specs.Attack.{piece_on, straight, diagonal, on_line, is_clear, pawn_strike, strikes_as, cell_strikes, strikes_from, attacked, king_attacked}
use Rattle.board.specs.Moves.{MoveWord, IsMove, can_be_promo}
use Rattle.board.specs.Cells.{is_of, is_kind}
use Rattle.board.specs.Pawns.{is_ep, pawn_reaches}
use Rattle.board.specs.Reach.{reaches, kind_reaches}
use Rattle.board.proofs.Equal.{same_colour-itself}
use Rattle.board.proofs.RangeTests.{any_at, any_none}
use Rattle.bitboards.specs.Sight.{sees, seen_by_king}
use Rattle.bitboards.proofs.Sight.{clear_unless_seen}
use Rattle.move_rules.specs.After.{promoted_cell, arriving_cell, moved_cells, is_pawn_move, is_en_passant}
use Rattle.move_rules.specs.Legal.{leaves_king_safe}
use Rattle.move_rules.specs.Exposed.{strikes_ep}
use Rattle.move_rules.proofs.Reached.{Reach, reach_of, kind_of, no_kind, goes_elsewhere}
use Rattle.move_rules.proofs.Legality.{moved_other}
use Rattle.move_rules.proofs.SpecialMoves.{captures_aside}
use Rattle.move_rules.proofs.PassedSquare.{plain_move}

-- a piece of the side to move goes where it reaches, on a board of 64 squares
pub record Goes (p : Parts) (m : MoveWord) : Type 0 where
  pub long : length p.cells ≡ 64
  pub word : IsMove m
  pub reach : Reach p m.from m.to

-- what arrives is of the own side, and a king only where a king has gone
arrives_own : (c : Colour) (cell : Option Piece) (piece : Piece) (promo : Option Kind) → cell ≡ Some piece → piece.colour ≡ c → is_of c (promoted_cell c cell promo) ≡ true
arrives_own c cell piece None at own = rw (at, own) (same_colour-itself c)
arrives_own c cell piece (Some k) at own = same_colour-itself c

arrives_no_king : (c : Colour) (cell : Option Piece) (promo : Option Kind) → is_kind King cell ≡ false → can_be_promo promo ≡ true → is_piece c King (promoted_cell c cell promo) ≡ false
arrives_no_king c cell None officer ok = no_kind c King cell officer
arrives_no_king c cell (Some Pawn) officer ok = cc
arrives_no_king c cell (Some King) officer ok = cc
arrives_no_king c cell (Some Knight) officer ok = and_right _ _ refl
arrives_no_king c cell (Some Bishop) officer ok = and_right _ _ refl
arrives_no_king c cell (Some Rook) officer ok = and_right _ _ refl
arrives_no_king c cell (Some Queen) officer ok = and_right _ _ refl

own_is_some : (c : Colour) (cell : Option Piece) → is_of c cell ≡ true → is_none cell ≡ false
own_is_some c None h = cc
own_is_some c (Some piece) h = refl

arrives : (p : Parts) (m : MoveWord) → Goes p m → is_of p.turn (arriving_cell p m) ≡ true
arrives p m h = arrives_own p.turn (piece_on p.cells m.from) h.reach.piece m.promo h.reach.stands h.reach.own

at_arrival : (p : Parts) (m : MoveWord) → Goes p m → piece_on (moved_cells p m) m.to ≡ arriving_cell p m
at_arrival p m h =
    let long = h.long in
    let on = h.word.to in
    get_or-set_same (set p.cells m.from None) m.to (arriving_cell p m) None (omega (arith, length-set p.cells m.from None))

at_departure : (p : Parts) (m : MoveWord) → Goes p m → piece_on (moved_cells p m) m.from ≡ None
at_departure p m h =
    let long = h.long in
    let on = h.word.from in
    get_or-set_other (set p.cells m.from None) m.to m.from (arriving_cell p m) None (goes_elsewhere p m.from m.to h.reach)
    ∙ get_or-set_same p.cells m.from None None (omega arith)

-- what is empty after the move, but for the square that was left, was empty before
was_empty : (p : Parts) (m : MoveWord) → Goes p m → (w : ℕ) → w < 64 → w ≢ m.from → is_none (piece_on (moved_cells p m) w) ≡ true → is_none (piece_on p.cells w) ≡ true
was_empty p m h w on ne free = elim (cases_eq w m.to) [
  | inl e ↦
      let here : is_none (arriving_cell p m) ≡ true = sym (ap is_none (at_arrival p m h)) ∙ subst (λ (x : ℕ). is_none (piece_on (moved_cells p m) x) ≡ true) e free in
      absurd (both_ways _ (own_is_some p.turn (arriving_cell p m) (arrives p m h)) here)
  | inr away ↦ ap is_none (sym (moved_other p m w ne away)) ∙ free
]

other_colour : (d c : Colour) → same_colour d c ≡ true → same_colour d (other c) ≡ false
other_colour White White h = refl
other_colour Black Black h = refl
other_colour White Black h = cc
other_colour Black White h = cc

-- a piece of one side is no striker of the other
own_never_strikes : (cells : List (Option Piece)) (c : Colour) (s a : ℕ) (cell : Option Piece) → is_of c cell ≡ true → cell_strikes cells (other c) s a cell ≡ false
own_never_strikes cells c s a None h = refl
own_never_strikes cells c s a (Some piece) h = and_left _ _ (other_colour piece.colour c h)

-- a piece that strikes on one board does so on another where the line is clear too
kind_before : (before after : List (Option Piece)) (c : Colour) (k : Kind) (a s : ℕ) → (on_line a s ≡ true → is_clear after a s ≡ true → is_clear before a s ≡ true) → strikes_as after k c a s ≡ true → strikes_as before k c a s ≡ true
unfolding strikes_as
kind_before before after c Pawn a s back h = h
kind_before before after c Knight a s back h = h
kind_before before after c King a s back h = h
kind_before before after c Bishop a s back h =
    let t = and_parts (diagonal a s) (is_clear after a s) h in
    and_from (diagonal a s) (is_clear before a s) t.0 (back (or_right (straight a s) (diagonal a s) t.0) t.1)
kind_before before after c Rook a s back h =
    let t = and_parts (straight a s) (is_clear after a s) h in
    and_from (straight a s) (is_clear before a s) t.0 (back (or_left (straight a s) (diagonal a s) t.0) t.1)
kind_before before after c Queen a s back h =
    let t = and_parts (on_line a s) (is_clear after a s) h in
    and_from (on_line a s) (is_clear before a s) t.0 (back t.0 t.1)

cell_before : (before after : List (Option Piece)) (c : Colour) (a s : ℕ) (cell : Option Piece) → (on_line a s ≡ true → is_clear after a s ≡ true → is_clear before a s ≡ true) → cell_strikes after c s a cell ≡ true → cell_strikes before c s a cell ≡ true
cell_before before after c a s None back h = h
cell_before before after c a s (Some piece) back h =
    let t = and_parts (same_colour piece.colour c) (strikes_as after piece.kind piece.colour a s) h in
    and_from (same_colour piece.colour c) _ t.0 (kind_before before after piece.colour piece.kind a s back t.1)

-- what strikes a square from which the square that was left is not seen struck it before
struck_before : (p : Parts) (m : MoveWord) (s a : ℕ) → Goes p m → s < 64 → a < 64 → sees p.cells s m.from ≡ false → strikes_from (moved_cells p m) (other p.turn) s a ≡ true → strikes_from p.cells (other p.turn) s a ≡ true
unfolding strikes_from
struck_before p m s a h on a_on unseen strikes =
    let after = moved_cells p m in
    let c = other p.turn in
    elim (cases_eq a m.from) [
      | inl e ↦
          let gone : cell_strikes after c s a (piece_on after a) ≡ false = ap (cell_strikes after c s a) (ap (piece_on after) e ∙ at_departure p m h) in
          absurd (both_ways _ gone strikes)
      | inr not_from ↦ elim (cases_eq a m.to) [
        | inl e ↦
            let own : is_of p.turn (piece_on after a) ≡ true = ap (λ x. is_of p.turn (piece_on after x)) e ∙ ap (is_of p.turn) (at_arrival p m h) ∙ arrives p m h in
            absurd (both_ways _ (own_never_strikes after p.turn s a (piece_on after a) own) strikes)
        | inr not_to ↦
            cell_before p.cells after c a s (piece_on p.cells a)
            (λ line clear. clear_unless_seen p.cells after a s m.from a_on on line (was_empty p m h) unseen clear)
            (ap (cell_strikes after c s a) (sym (moved_other p m a not_from not_to)) ∙ strikes)
      ]
    ]

not_struck : (p : Parts) (m : MoveWord) (s : ℕ) → Goes p m → s < 64 → sees p.cells s m.from ≡ false → attacked p.cells s (other p.turn) ≡ false → attacked (moved_cells p m) s (other p.turn) ≡ false
unfolding attacked
not_struck p m s h on unseen safe =
    any_none (λ a. strikes_from (moved_cells p m) (other p.turn) s a) 0 64
    (λ a low a_on. false_from_ne_true (strikes_from (moved_cells p m) (other p.turn) s a)
    (λ strikes. both_ways _ safe (any_at (λ b. strikes_from p.cells (other p.turn) s b) 64 a a_on (struck_before p m s a h on a_on unseen strikes))))

-- where no king has gone, each king stood where it stands
king_stood : (p : Parts) (m : MoveWord) (s : ℕ) → Goes p m → is_kind King (piece_on p.cells m.from) ≡ false → is_piece p.turn King (piece_on (moved_cells p m) s) ≡ true → is_piece p.turn King (piece_on p.cells s) ≡ true
king_stood p m s h officer king = elim (cases_eq s m.from) [
  | inl e ↦
      let gone : is_piece p.turn King (piece_on (moved_cells p m) s) ≡ false = ap (is_piece p.turn King) (ap (piece_on (moved_cells p m)) e ∙ at_departure p m h) in
      absurd (both_ways _ gone king)
  | inr not_from ↦ elim (cases_eq s m.to) [
    | inl e ↦
        let none : is_piece p.turn King (piece_on (moved_cells p m) s) ≡ false = ap (is_piece p.turn King) (ap (piece_on (moved_cells p m)) e ∙ at_arrival p m h) ∙ arrives_no_king p.turn (piece_on p.cells m.from) m.promo officer h.word.promo in
        absurd (both_ways _ none king)
    | inr not_to ↦ ap (is_piece p.turn King) (sym (moved_other p m s not_from not_to)) ∙ king
  ]
]

kings_safe : (p : Parts) (m : MoveWord) → Goes p m → king_attacked p.cells p.turn ≡ false → is_kind King (piece_on p.cells m.from) ≡ false → seen_by_king p.cells p.turn m.from ≡ false → king_attacked (moved_cells p m) p.turn ≡ false
unfolding king_attacked seen_by_king
kings_safe p m h safe officer unseen =
    any_none (λ s. is_piece p.turn King (piece_on (moved_cells p m) s) && attacked (moved_cells p m) s (other p.turn)) 0 64
    (λ s low on. false_from_ne_true (is_piece p.turn King (piece_on (moved_cells p m) s) && attacked (moved_cells p m) s (other p.turn))
    (λ both.
    let t = and_parts (is_piece p.turn King (piece_on (moved_cells p m) s)) (attacked (moved_cells p m) s (other p.turn)) both in
    let king = king_stood p m s h officer t.0 in
    let free : attacked p.cells s (other p.turn) ≡ false = false_from_ne_true (attacked p.cells s (other p.turn)) (λ x. both_ways _ safe (any_at (λ k. is_piece p.turn King (piece_on p.cells k) && attacked p.cells k (other p.turn)) 64 s on (and_from _ _ king x))) in
    let blind : sees p.cells s m.from ≡ false = false_from_ne_true (sees p.cells s m.from) (λ x. both_ways _ unseen (any_at (λ k. is_piece p.turn King (piece_on p.cells k) && sees p.cells k m.from) 64 s on (and_from _ _ king x))) in
    both_ways _ (not_struck p m s h on blind free) t.1))

safe_unless_seen : (p : Parts) (m : MoveWord) → Goes p m → king_attacked p.cells p.turn ≡ false → is_kind King (piece_on p.cells m.from) ≡ false → seen_by_king p.cells p.turn m.from ≡ false → is_en_passant p m ≡ false → leaves_king_safe p m ≡ true
unfolding leaves_king_safe
safe_unless_seen p m h safe officer unseen no_pass =
    not_from_false _
    (ap (λ cells. king_attacked cells p.turn) (plain_move p m no_pass (and_left (is_kind King (piece_on p.cells m.from)) (distance m.from m.to == 2) officer))
    ∙ kings_safe p m h safe officer unseen)

strikes_to : (c : Colour) (ep : Option ℕ) (a b : ℕ) → is_ep b ep ≡ true → pawn_strike c a b ≡ true → strikes_ep c ep a ≡ true
strikes_to c None a b at h = cc
strikes_to c (Some e) a b at h = subst (λ (x : ℕ). pawn_strike c a x ≡ true) (eqb-true b e at) h

-- a pawn that captures en passant comes from where it strikes the en passant square
pub passes_from : (p : Parts) (m : MoveWord) → Reach p m.from m.to → is_en_passant p m ≡ true → strikes_ep p.turn p.ep m.from ≡ true
passes_from p m reach e =
    let t = and_parts (is_pawn_move p m && is_ep m.to p.ep) (not (file_of m.from == file_of m.to)) e in
    let two = and_parts (is_pawn_move p m) (is_ep m.to p.ep) t.0 in
    let kind = kind_of Pawn (piece_on p.cells m.from) reach.piece reach.stands two.0 in
    let goes : pawn_reaches p m.from m.to ≡ true = subst (λ (j : Kind). kind_reaches p j m.from m.to ≡ true) kind reach.how in
    strikes_to p.turn p.ep m.from m.to two.1 (captures_aside p m.from m.to goes (not-true _ t.1))

-- what is not exposed
pub safe_outside : (p : Parts) (m : MoveWord) → length p.cells ≡ 64 → IsMove m → reaches p m.from m.to ≡ true → king_attacked p.cells p.turn ≡ false → ((is_kind King (piece_on p.cells m.from) || seen_by_king p.cells p.turn m.from) || strikes_ep p.turn p.ep m.from) ≡ false → leaves_king_safe p m ≡ true
safe_outside p m long word h safe out =
    let goes : Goes p m = record { long = long; word = word; reach = reach_of p m.from m.to h } in
    let one = or_parts (is_kind King (piece_on p.cells m.from) || seen_by_king p.cells p.turn m.from) (strikes_ep p.turn p.ep m.from) out in
    let two = or_parts (is_kind King (piece_on p.cells m.from)) (seen_by_king p.cells p.turn m.from) one.0 in
    safe_unless_seen p m goes safe two.0 two.1 (false_from_ne_true (is_en_passant p m) (λ e. both_ways _ one.1 (passes_from p m goes.reach e)))

-- no piece leaves an empty square
pub none_outside : (p : Parts) (m : MoveWord) → reaches p m.from m.to ≡ true → is_some (piece_on p.cells m.from) ≡ false → leaves_king_safe p m ≡ true
none_outside p m h out =
    let full : is_some (piece_on p.cells m.from) ≡ true = ap is_some (reach_of p m.from m.to h).stands in
    absurd (both_ways _ out full)
