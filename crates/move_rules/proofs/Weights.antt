-- The weight of the board falls with each move of a pawn and each capture, and stays as it is with all other moves.
use Rattle.std.proofs.Common.{zero, suc, add-zero, ◌≡◌, ℕ, ◌+◌, ◌<◌, ◌≤◌, List, [], ◌∷◌, length, get_or, refl, arith, ap, sym, ◌∙◌, if◌then◌else◌, Bool, true, false, ◌&&◌, not, Option, None, Some, ◌≢◌, is_none, is_some, subst, inl, inr, get_or-set_other, get_or-set_same, ◌==◌}
use Rattle.std.proofs.Math.ListN.{set, length-set}
use Rattle.std.proofs.lemmas.Bool.{and_parts, both_ways, not-true, cond_both, cases_eq, cases_Bool}
use Rattle.board.specs.declared.piece.Colour.{Colour}
use Rattle.board.specs.declared.piece.Colour.TheVariants.{White, Black}
use Rattle.board.specs.declared.piece.Kind.{Kind}
use Rattle.board.specs.declared.piece.Kind.TheVariants.{Pawn, Knight, Bishop, Rook, Queen, King}
use Rattle.board.specs.declared.piece.Piece.{Piece}
use Rattle.board.specs.declared.parts.Parts.{Parts}
use Rattle.board.specs.Moves.{MoveWord, IsMove, can_be_promo}
use Rattle.board.specs.Square.{rank_of, distance}
use Rattle.board.specs.Piece.{same_kind}
use Rattle.board.specs.Attack.{piece_on}
use Rattle.board.specs.Position.{home, IsPosition}
use Rattle.board.specs.Cells.{is_kind, is_empty}
use Rattle.board.specs.Pawns.{is_ep, last_rank}
use Rattle.move_rules.specs.After.{is_pawn_move, is_quiet, is_en_passant, is_castling, promoted_cell, arriving_cell, moved_cells, passed_pawn, rook_moved_cells, castled_cells, cells_after}
use Rattle.move_rules.specs.Legal.{names_promo, legal}
use Rattle.move_rules.specs.Weight.{weight_as, weight, weigh}
use Rattle.move_rules.proofs.Reached.{kind_of, goes_elsewhere}
use Rattle.move_rules.proofs.Legality.{Legal, legal_move, goes_as, length_moved, moved_other}
use Rattle.move_rules.proofs.SpecialMoves.{passing, castling}
use Rattle.move_rules.proofs.PawnRanks.{pawnless, OnEdge, edge_pawnless, Climbs, pawn_climbs}

weigh_set : (s i j : ℕ) (xs : List (Option Piece)) (y : Option Piece) → s + i ≡ j → i < length xs → weigh s (set xs i y) + weight j (get_or xs i None) ≡ weigh s xs + weight j y
weigh_set s i j [] y e h = absurd (omega arith)
weigh_set s zero j (x ∷ xs) y e h = let at : s ≡ j = omega arith in rw at (omega arith)
weigh_set s (suc i) j (x ∷ xs) y e h = let rest = weigh_set (s + 1) i j xs y (omega arith) (omega arith) in omega arith

weigh_moved : (p : Parts) (m : MoveWord) → Legal p m → weigh 0 (moved_cells p m) + weight m.from (piece_on p.cells m.from) + weight m.to (piece_on p.cells m.to) ≡ weigh 0 p.cells + weight m.to (arriving_cell p m)
weigh_moved p m l =
    let long = l.position.board.squares in
    let from_on = l.word.from in
    let to_on = l.word.to in
    let elsewhere = goes_elsewhere p m.from m.to l.reach in
    let one = weigh_set 0 m.from m.from p.cells None (omega arith) (omega arith) in
    let two = weigh_set 0 m.to m.to (set p.cells m.from None) (arriving_cell p m) (omega arith) (omega (arith, length-set p.cells m.from None)) in
    let kept : piece_on (set p.cells m.from None) m.to ≡ piece_on p.cells m.to = get_or-set_other p.cells m.from m.to None None (λ e. elsewhere (sym e)) in
    let three = rw kept at two in
    omega arith

weight_some : (s : ℕ) (k : Kind) (c : Colour) → s < 64 → 0 < weight_as k c s
weight_some s Pawn White on = omega arith
weight_some s Pawn Black on = omega arith
weight_some s Knight c on = omega arith
weight_some s Bishop c on = omega arith
weight_some s Rook c on = omega arith
weight_some s Queen c on = omega arith
weight_some s King c on = omega arith

full_weighs : (s : ℕ) (cell : Option Piece) → s < 64 → is_none cell ≡ false → 0 < weight s cell
full_weighs s None on h = cc
full_weighs s (Some piece) on h = weight_some s piece.kind piece.colour on

empty_weighs : (s : ℕ) (cell : Option Piece) → is_none cell ≡ true → weight s cell ≡ 0
empty_weighs s None h = refl
empty_weighs s (Some piece) h = cc

officer_weighs : (s t : ℕ) (k : Kind) (c : Colour) → same_kind k Pawn ≡ false → weight_as k c s ≡ weight_as k c t
officer_weighs s t Pawn White h = cc
officer_weighs s t Pawn Black h = cc
officer_weighs s t Knight c h = refl
officer_weighs s t Bishop c h = refl
officer_weighs s t Rook c h = refl
officer_weighs s t Queen c h = refl
officer_weighs s t King c h = refl

-- an officer's weight does not depend on its square
no_pawn_weighs : (s t : ℕ) (cell : Option Piece) → is_kind Pawn cell ≡ false → weight s cell ≡ weight t cell
no_pawn_weighs s t None h = refl
no_pawn_weighs s t (Some piece) h = officer_weighs s t piece.kind piece.colour h

-- each step of a pawn takes weight from it, and before its last it is still heavier than an officer
pawn_lightens : (c : Colour) (a b : ℕ) → a < 64 → b < 64 → Climbs c a b → (weight_as Pawn c b < weight_as Pawn c a) × (1 < weight_as Pawn c a)
pawn_lightens White a b a_on b_on h = (omega arith, omega arith)
pawn_lightens Black a b a_on b_on h = (omega arith, omega arith)

arrives_lighter : (c : Colour) (a b : ℕ) (piece : Piece) (promo : Option Kind) → a < 64 → b < 64 → Climbs c a b → piece.colour ≡ c → piece.kind ≡ Pawn → can_be_promo promo ≡ true → weight b (promoted_cell c (Some piece) promo) < weight a (Some piece)
arrives_lighter c a b piece None a_on b_on h own kind ok = rw (own, kind) (pawn_lightens c a b a_on b_on h).0
arrives_lighter c a b piece (Some Pawn) a_on b_on h own kind ok = cc
arrives_lighter c a b piece (Some King) a_on b_on h own kind ok = cc
arrives_lighter c a b piece (Some Knight) a_on b_on h own kind ok = rw (own, kind) (pawn_lightens c a b a_on b_on h).1
arrives_lighter c a b piece (Some Bishop) a_on b_on h own kind ok = rw (own, kind) (pawn_lightens c a b a_on b_on h).1
arrives_lighter c a b piece (Some Rook) a_on b_on h own kind ok = rw (own, kind) (pawn_lightens c a b a_on b_on h).1
arrives_lighter c a b piece (Some Queen) a_on b_on h own kind ok = rw (own, kind) (pawn_lightens c a b a_on b_on h).1

pawn_move_lightens : (p : Parts) (m : MoveWord) → Legal p m → is_pawn_move p m ≡ true → weigh 0 (moved_cells p m) < weigh 0 p.cells
pawn_move_lightens p m l h =
    let kind : l.reach.piece.kind ≡ Pawn = kind_of Pawn (piece_on p.cells m.from) l.reach.piece l.reach.stands h in
    let less : weight m.to (promoted_cell p.turn (piece_on p.cells m.from) m.promo) < weight m.from (piece_on p.cells m.from) =
    rw (l.reach.stands) (arrives_lighter p.turn m.from m.to l.reach.piece m.promo l.word.from l.word.to (pawn_climbs p m.from m.to (goes_as p m Pawn l h)) l.reach.own kind l.word.promo) in
    let sum = weigh_moved p m l in
    omega arith

-- an officer arrives as it was
officer_arrives : (d : Colour) (cell : Option Piece) (promo : Option Kind) (last : Bool) → is_kind Pawn cell ≡ false → (if is_kind Pawn cell && last then is_some promo else is_none promo) ≡ true → promoted_cell d cell promo ≡ cell
officer_arrives d cell None last e h = refl
officer_arrives d cell (Some k) last e h = let n : (if is_kind Pawn cell && last then true else false) ≡ true = h in let z : false ≡ true = rw e at n in cc

arrives_as_it_was : (p : Parts) (m : MoveWord) → Legal p m → is_pawn_move p m ≡ false → arriving_cell p m ≡ piece_on p.cells m.from
unfolding names_promo
arrives_as_it_was p m l h = officer_arrives p.turn (piece_on p.cells m.from) m.promo (rank_of m.to == last_rank p.turn) h l.promo

officer_move_weighs : (p : Parts) (m : MoveWord) → Legal p m → is_pawn_move p m ≡ false → weigh 0 (moved_cells p m) + weight m.to (piece_on p.cells m.to) ≡ weigh 0 p.cells
officer_move_weighs p m l h =
    let same : weight m.to (arriving_cell p m) ≡ weight m.from (piece_on p.cells m.from) = rw (arrives_as_it_was p m l h) (no_pawn_weighs m.to m.from (piece_on p.cells m.from) h) in
    let sum = weigh_moved p m l in
    omega arith

rook_weighs : (cells : List (Option Piece)) (a b : ℕ) → a < length cells → b < length cells → a ≢ b → is_none (piece_on cells b) ≡ true → is_kind Pawn (piece_on cells a) ≡ false → weigh 0 (rook_moved_cells cells a b) ≡ weigh 0 cells
rook_weighs cells a b a_on b_on ne free rook =
    let one = weigh_set 0 a a cells None (omega arith) a_on in
    let two = weigh_set 0 b b (set cells a None) (piece_on cells a) (omega arith) (omega (arith, length-set cells a None)) in
    let kept : piece_on (set cells a None) b ≡ piece_on cells b = get_or-set_other cells a b None None (λ e. ne (sym e)) in
    let three = rw kept at two in
    let none : weight b (piece_on cells b) ≡ 0 = empty_weighs b (piece_on cells b) free in
    let same = no_pawn_weighs a b (piece_on cells a) rook in
    omega arith

passing_weighs : (p : Parts) (m : MoveWord) → Legal p m → is_en_passant p m ≡ true → weigh 0 (set (moved_cells p m) (passed_pawn m) None) ≤ weigh 0 (moved_cells p m)
passing_weighs p m l h =
    let e = passing p m l h in
    let on = e.on in
    let long = l.position.board.squares in
    let sum = weigh_set 0 (passed_pawn m) (passed_pawn m) (moved_cells p m) None (omega arith) (omega (arith, length_moved p m)) in
    omega arith

no_pawn_by : (cell : Option Piece) → pawnless cell ≡ true → is_kind Pawn cell ≡ false
no_pawn_by cell h = grind arith

-- an officer's move brings no pawn to the edge ranks, which have none
officer_keeps_edge : (p : Parts) (m : MoveWord) (s : ℕ) → Legal p m → is_pawn_move p m ≡ false → s < 64 → OnEdge s → is_kind Pawn (piece_on (moved_cells p m) s) ≡ false
officer_keeps_edge p m s l h on edge =
    let long = l.position.board.squares in
    let without = set p.cells m.from None in
    let inside : s < length p.cells = omega arith in
    elim (cases_eq s m.to) [
      | inl at ↦
          let inside_too : s < length without = omega (arith, length-set p.cells m.from None) in
          let here : piece_on (set without s (arriving_cell p m)) s ≡ arriving_cell p m = get_or-set_same without s (arriving_cell p m) None inside_too in
          let there : piece_on (moved_cells p m) s ≡ arriving_cell p m = subst (λ (j : ℕ). piece_on (set without j (arriving_cell p m)) s ≡ arriving_cell p m) at here in
          ap (is_kind Pawn) (there ∙ arrives_as_it_was p m l h) ∙ h
      | inr elsewhere ↦ elim (cases_eq s m.from) [
        | inl at ↦
            let left : piece_on (set p.cells s None) s ≡ None = get_or-set_same p.cells s None None inside in
            let gone : piece_on without s ≡ None = subst (λ (j : ℕ). piece_on (set p.cells j None) s ≡ None) at left in
            ap (is_kind Pawn) (get_or-set_other without m.to s (arriving_cell p m) None elsewhere ∙ gone)
        | inr away ↦ ap (is_kind Pawn) (moved_other p m s away elsewhere) ∙ no_pawn_by (piece_on p.cells s) (edge_pawnless p s l.position on edge)
      ]
    ]

home_edge : (c : Colour) (j : ℕ) → j < 8 → OnEdge (home c + j)
home_edge White j h = inl (omega arith)
home_edge Black j h = inr (omega arith)

castling_weighs : (p : Parts) (m : MoveWord) → Legal p m → is_pawn_move p m ≡ false → is_castling p m ≡ true → weigh 0 (castled_cells p m) ≡ weigh 0 (moved_cells p m)
castling_weighs p m l officer h =
    let long : length (moved_cells p m) ≡ 64 = length_moved p m ∙ l.position.board.squares in
    elim (castling p m l h) [
      | inl t ↦
          let k = t.1 in
          let at = home_edge p.turn 7 (omega arith) in
          rw (t.0) (rook_weighs (moved_cells p m) (home p.turn + 7) (home p.turn + 5) (omega arith) (omega arith) k.apart k.free (officer_keeps_edge p m _ l officer k.x_on at))
      | inr t ↦
          let k = t.1 in
          let at = subst OnEdge (add-zero (home p.turn)) (home_edge p.turn 0 (omega arith)) in
          rw (t.0) (rook_weighs (moved_cells p m) (home p.turn) (home p.turn + 3) (omega arith) (omega arith) k.apart k.free (officer_keeps_edge p m _ l officer k.x_on at))
    ]

castling_is_no_pawn_move : (p : Parts) (m : MoveWord) → Legal p m → is_castling p m ≡ true → is_pawn_move p m ≡ false
castling_is_no_pawn_move p m l h =
    elim (cases_Bool (is_pawn_move p m)) [
      | inl pawn ↦
          let king : l.reach.piece.kind ≡ King = kind_of King (piece_on p.cells m.from) l.reach.piece l.reach.stands (and_parts (is_kind King (piece_on p.cells m.from)) (distance m.from m.to == 2) h).0 in
          let too : l.reach.piece.kind ≡ Pawn = kind_of Pawn (piece_on p.cells m.from) l.reach.piece l.reach.stands pawn in cc
      | inr officer ↦ officer
    ]

moved_lightens : (p : Parts) (m : MoveWord) → Legal p m → is_quiet p m ≡ false → weigh 0 (moved_cells p m) < weigh 0 p.cells
moved_lightens p m l h =
    elim (cases_Bool (is_pawn_move p m)) [
      | inl pawn ↦ pawn_move_lightens p m l pawn
      | inr officer ↦
          let full : is_none (piece_on p.cells m.to) ≡ false = rw officer at h in
          let some = full_weighs m.to (piece_on p.cells m.to) l.word.to full in
          let sum = officer_move_weighs p m l officer in
          omega arith
    ]

-- a pawn move or a capture lowers the weight
falls : (p : Parts) (m : MoveWord) → Legal p m → is_quiet p m ≡ false → weigh 0 (cells_after p m) < weigh 0 p.cells
unfolding cells_after
falls p m l h =
    let less = moved_lightens p m l h in
    let lighter : List (Option Piece) → Type 0 = λ cells. weigh 0 cells < weigh 0 p.cells in
    cond_both (is_en_passant p m) _ _ lighter
    (λ e. let x = passing_weighs p m l e in omega arith)
    (λ _. cond_both (is_castling p m) _ _ lighter (λ e. let x = castling_weighs p m l (castling_is_no_pawn_move p m l e) e in omega arith) (λ _. less))

-- any other move keeps it
stays : (p : Parts) (m : MoveWord) → Legal p m → is_quiet p m ≡ true → weigh 0 (cells_after p m) ≡ weigh 0 p.cells
unfolding cells_after
stays p m l h =
    let parts = and_parts (not (is_pawn_move p m)) (is_empty p.cells m.to) h in
    let officer : is_pawn_move p m ≡ false = not-true _ parts.0 in
    let none = empty_weighs m.to (piece_on p.cells m.to) parts.1 in
    let sum = officer_move_weighs p m l officer in
    let here : weigh 0 (moved_cells p m) ≡ weigh 0 p.cells = omega arith in
    let same : List (Option Piece) → Type 0 = λ cells. weigh 0 cells ≡ weigh 0 p.cells in
    cond_both (is_en_passant p m) _ _ same
    (λ e. absurd (both_ways _ officer (and_parts (is_pawn_move p m) (is_ep m.to p.ep) (and_parts (is_pawn_move p m && is_ep m.to p.ep) _ e).0).0))
    (λ _. cond_both (is_castling p m) _ _ same (λ e. castling_weighs p m l officer e ∙ here) (λ _. here))

pub weight_falls : (p : Parts) (m : MoveWord) → IsPosition p → IsMove m → legal p m ≡ true → is_quiet p m ≡ false → weigh 0 (cells_after p m) < weigh 0 p.cells
weight_falls p m position word h = falls p m (legal_move p m position word h)

pub weight_stays : (p : Parts) (m : MoveWord) → IsPosition p → IsMove m → legal p m ≡ true → is_quiet p m ≡ true → weigh 0 (cells_after p m) ≡ weigh 0 p.cells
weight_stays p m position word h = stays p m (legal_move p m position word h)
