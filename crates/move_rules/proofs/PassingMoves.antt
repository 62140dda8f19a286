-- The legal en passant captures are the ones that go to the en passant square and promote to nothing.
use Rattle.std.proofs.Common.{◌≡◌, ◌↔◌, ℕ, ◌+◌, ◌<◌, refl, arith, sym, subst, ◌∙◌, length, get_or, ◌==◌, Bool, true, false, ◌&&◌, not, Option, None, Some, is_none}
use Rattle.std.specs.List.{list_any, range_with_len}
use Rattle.std.proofs.lemmas.Bool.{and_parts, and_from, and_right, eqb-true, eq-eqb, false_from_ne_true, both_ways, not-true}
use Rattle.std.proofs.lemmas.List.Folds.{Any-from_list_any}
use Rattle.std.proofs.lemmas.List.FromFn.{length-range_with_len, get_or-range_with_len}
use Rattle.board.specs.declared.piece.Colour.{Colour}
use Rattle.board.specs.declared.piece.Colour.TheVariants.{White, Black}
use Rattle.board.specs.declared.piece.Kind.{Kind}
use Rattle.board.specs.declared.piece.Kind.TheVariants.{Pawn}
use Rattle.board.specs.declared.parts.Parts.{Parts}
use Rattle.board.specs.Square.{file_of, rank_of}
use Rattle.board.specs.Moves.{MoveWord, IsMove}
use Rattle.board.specs.Position.{IsPosition}
use Rattle.board.specs.Piece.{other}
use Rattle.board.specs.Attack.{piece_on, pawn_strike}
use Rattle.board.specs.Pawns.{is_ep, last_rank, pawn_reaches}
use Rattle.board.specs.Reach.{kind_reaches}
use Rattle.board.specs.Sets.{has, IsSetOf}
use Rattle.bitboards.specs.Squares.{squares_in}
use Rattle.bitboards.proofs.Tabled.{pawn_turned}
use Rattle.move_rules.specs.After.{is_pawn_move, is_en_passant}
use Rattle.move_rules.specs.Legal.{names_promo, is_promotion, legal}
use Rattle.move_rules.specs.Lists.{SomeMove, move_of, all_moves}
use Rattle.move_rules.specs.EnPassant.{is_legal_en_passant, ep_legal}
use Rattle.board.proofs.RangeTests.{any_at}
use Rattle.move_rules.proofs.MoveOrder.{some_move}
use Rattle.move_rules.proofs.MoveLists.{any_left_out}
use Rattle.move_rules.proofs.Reached.{reach_of, kind_of}
use Rattle.move_rules.proofs.Legality.{legal_move, legal_reaches}
use Rattle.move_rules.proofs.SpecialMoves.{passing, ep_rank, ep_tells, captures_aside}

same_truth : (b c : Bool) → (b ≡ true → c ≡ true) → (c ≡ true → b ≡ true) → b ≡ c
same_truth true c there back = sym (there refl)
same_truth false true there back = back refl
same_truth false false there back = refl

-- no en passant square lies on a last rank
not_last : (c : Colour) (s : ℕ) → rank_of s ≡ ep_rank c → (rank_of s == last_rank c) ≡ false
not_last White s h = false_from_ne_true (rank_of s == 7) (λ e. let x = eqb-true (rank_of s) 7 e in absurd (omega arith))
not_last Black s h = false_from_ne_true (rank_of s == 0) (λ e. let x = eqb-true (rank_of s) 0 e in absurd (omega arith))

names_none : (p : Parts) (m : MoveWord) → is_promotion p m ≡ false → names_promo p m ≡ true → is_none m.promo ≡ true
unfolding names_promo
names_none p m h named = rw h at named

is_none_true : {A : Type 0} (o : Option A) → is_none o ≡ true → o ≡ None
is_none_true None h = refl
is_none_true (Some x) h = cc

-- a legal en passant capture, by where it starts
captured_from : (p : Parts) (e : ℕ) (m : MoveWord) → IsPosition p → p.ep ≡ Some e → IsMove m → is_legal_en_passant p m ≡ true → m ≡ move_of m.from e None
captured_from p e m position at word h =
    let t = and_parts (is_en_passant p m) (legal p m) h in
    let l = legal_move p m position word t.1 in
    let rank = (passing p m l t.0).rank in
    let unpromoted : is_promotion p m ≡ false = and_right (is_pawn_move p m) (rank_of m.to == last_rank p.turn) (not_last p.turn m.to rank) in
    let promo : m.promo ≡ None = is_none_true m.promo (names_none p m unpromoted l.promo) in
    let aside = and_parts (is_pawn_move p m && is_ep m.to p.ep) (not (file_of m.from == file_of m.to)) t.0 in
    let to_ep : is_ep m.to p.ep ≡ true = (and_parts (is_pawn_move p m) (is_ep m.to p.ep) aside.0).1 in
    let to : m.to ≡ e = eqb-true m.to e (rw at at to_ep) in
    λ i. record { from = m.from; to = to i; promo = promo i }

-- whether some move from a square is a legal en passant capture
abbrev pub captures_on : Parts → ℕ → Bool
captures_on p e = list_any (λ a. is_legal_en_passant p (move_of a e None)) (range_with_len 0 64)

-- a legal capture on e comes from where a pawn strikes e, which is where a pawn of the other side on e would strike
struck_back : (p : Parts) (e a : ℕ) → is_legal_en_passant p (move_of a e None) ≡ true → pawn_strike (other p.turn) e a ≡ true
struck_back p e a h =
    let t = and_parts (is_en_passant p (move_of a e None)) (legal p (move_of a e None)) h in
    let reach = reach_of p a e (legal_reaches p (move_of a e None) t.1) in
    let aside = and_parts (is_pawn_move p (move_of a e None) && is_ep e p.ep) (not (file_of a == file_of e)) t.0 in
    let pawn = (and_parts (is_pawn_move p (move_of a e None)) (is_ep e p.ep) aside.0).0 in
    let kind = kind_of Pawn (piece_on p.cells a) reach.piece reach.stands pawn in
    let goes : pawn_reaches p a e ≡ true = subst (λ (j : Kind). kind_reaches p j a e ≡ true) kind reach.how in
    sym (pawn_turned p.turn a e) ∙ captures_aside p a e goes (not-true _ aside.1)

-- so it is enough to ask those squares
pub captures_listed : (p : Parts) (e set : ℕ) → IsSetOf set (pawn_strike (other p.turn) e) → list_any (λ a. is_legal_en_passant p (move_of a e None)) (squares_in set) ≡ captures_on p e
unfolding squares_in
captures_listed p e set is =
    any_left_out (λ a. is_legal_en_passant p (move_of a e None)) (has set)
    (λ a on gone. false_from_ne_true (is_legal_en_passant p (move_of a e None)) (λ h. both_ways _ (sym (is a on) ∙ gone) (struck_back p e a h)))

in_range : (k x : ℕ) → k < length (range_with_len 0 64) → get_or (range_with_len 0 64) k x ≡ x → x < 64
in_range k x inside at =
    let low : k < 64 = omega (arith, length-range_with_len 0 64) in
    let is : get_or (range_with_len 0 64) k x ≡ 0 + k = get_or-range_with_len 0 64 k x low in
    omega arith

on_board : (p : Parts) (e : ℕ) → IsPosition p → p.ep ≡ Some e → e < 64
on_board p e position at =
    let here : is_ep e p.ep ≡ true = rw at (eq-eqb e e refl) in
    low p.turn (ep_tells p.cells p.turn p.ep e position.ep here).0
  where
    low : (c : Colour) → rank_of e ≡ ep_rank c → e < 64
    low White h = omega arith
    low Black h = omega arith

pub ep_legal_some : (p : Parts) (e : ℕ) → IsPosition p → p.ep ≡ Some e → ep_legal p ≡ captures_on p e
unfolding ep_legal
ep_legal_some p e position at =
    same_truth (list_any (is_legal_en_passant p) all_moves) (captures_on p e)
    (λ h.
    let t = (some_move (is_legal_en_passant p)).0 h in
    let same = captured_from p e t.0 position at t.1 t.2 in
    any_at (λ a. is_legal_en_passant p (move_of a e None)) 64 t.0.from t.1.from (subst (λ (m : MoveWord). is_legal_en_passant p m ≡ true) same t.2))
    (λ h.
    let t = Any-from_list_any (λ a. is_legal_en_passant p (move_of a e None)) (range_with_len 0 64) h in
    let start : t.1 < 64 = in_range t.0 t.1 t.2 t.3 in
    let word : IsMove (move_of t.1 e None) = record { from = start; to = on_board p e position at; promo = refl } in
    (some_move (is_legal_en_passant p)).1 (move_of t.1 e None, word, t.4))

pub ep_legal_none : (p : Parts) → p.ep ≡ None → ep_legal p ≡ false
unfolding ep_legal
ep_legal_none p at =
    false_from_ne_true (list_any (is_legal_en_passant p) all_moves)
    (λ h.
    let m = (some_move (is_legal_en_passant p)).0 h in
    let one = and_parts (is_en_passant p m.0) (legal p m.0) m.2 in
    let two = and_parts (is_pawn_move p m.0 && is_ep m.0.to p.ep) (not (file_of m.0.from == file_of m.0.to)) one.0 in
    let here = (and_parts (is_pawn_move p m.0) (is_ep m.0.to p.ep) two.0).1 in
    let nowhere : is_ep m.0.to None ≡ true = subst (λ (e : Option ℕ). is_ep m.0.to e ≡ true) at here in cc)

-- the promise in words: some move is a legal en passant capture
pub ep_legal_means : (p : Parts) → (ep_legal p ≡ true) ↔ SomeMove (λ m. (is_en_passant p m ≡ true) × (legal p m ≡ true))
unfolding ep_legal
ep_legal_means p = (
  λ h. let t = (some_move (is_legal_en_passant p)).0 h in (t.0, t.1, and_parts (is_en_passant p t.0) (legal p t.0) t.2),
  λ t. (some_move (is_legal_en_passant p)).1 (t.0, t.1, and_from _ _ t.2.0 t.2.1),
)
