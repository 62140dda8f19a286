-- Four sets tell the cells of which they were made.
use Rattle.std.proofs.Common.{◌≡◌, ℕ, ◌+◌, ◌^◌, ◌<◌, ◌≤◌, ◌≢◌, refl, ap, sym, subst, ◌∙◌, length, List, Bool, true, false, ◌&&◌, ◌||◌, not, Option, None, Some, is_some, arith, take, bit_and, bit_or, w64}
use Rattle.std.proofs.Math.ListN.{set, length-set}
use Rattle.std.proofs.lemmas.List.{take_all, take_more, take_more_set}
use Rattle.std.specs.Int.{bit_not}
use Rattle.std.proofs.lemmas.List.FromFn.{fill_by_all, length-map-range_with_len, get_or-map-range_with_len}
use Rattle.board.specs.declared.piece.Colour.{Colour}
use Rattle.board.specs.declared.piece.Colour.TheVariants.{White, Black}
use Rattle.board.specs.declared.piece.Kind.{Kind}
use Rattle.board.specs.declared.piece.Kind.TheVariants.{Pawn, Knight, Bishop, Rook, Queen, King}
use Rattle.board.specs.declared.piece.Piece.{Piece}
use Rattle.board.specs.Piece.{same_colour, same_kind}
use Rattle.board.specs.Attack.{piece_on}
use Rattle.board.specs.Cells.{is_of, is_kind}
use Rattle.board.specs.Sets.{has, IsSetOf, set_of}
use Rattle.board.specs.Placement.{kind_steps, kind_slants, kind_runs, colour_is_black, cell_steps, cell_slants, cell_runs, cell_is_black, colour_in, kind_in, cell_in, cells_in, IsKept}
use Rattle.board.proofs.SetLaws.{has-set_of, set_of-small, set_of-set, and_of, or_of, not_of}

kind_back : (k : Kind) → kind_in (kind_steps k) (kind_slants k) (kind_runs k) ≡ Some k
kind_back Pawn = refl
kind_back Knight = refl
kind_back Bishop = refl
kind_back Rook = refl
kind_back Queen = refl
kind_back King = refl

pub colour_back : (c : Colour) → colour_in (colour_is_black c) ≡ c
colour_back White = refl
colour_back Black = refl

-- what stands in a cell is told by its four tests
pub cell_back : (cell : Option Piece) → cell_in (cell_steps cell) (cell_slants cell) (cell_runs cell) (cell_is_black cell) ≡ cell
cell_back None = refl
cell_back (Some piece) = rw (kind_back piece.kind, colour_back piece.colour) refl

pub length-cells_in : (a b c d : ℕ) → length (cells_in a b c d) ≡ 64
unfolding cells_in
length-cells_in a b c d = length-map-range_with_len (λ s. cell_in (has a s) (has b s) (has c s) (has d s)) 0 64

pub cell_at : (a b c d s : ℕ) → s < 64 → piece_on (cells_in a b c d) s ≡ cell_in (has a s) (has b s) (has c s) (has d s)
unfolding cells_in
cell_at a b c d s on = get_or-map-range_with_len (λ s. cell_in (has a s) (has b s) (has c s) (has d s)) 0 64 s s None on (omega arith)

pub cells_back : (cells : List (Option Piece)) → length cells ≡ 64 → cells_in (set_of cell_steps cells) (set_of cell_slants cells) (set_of cell_runs cells) (set_of cell_is_black cells) ≡ cells
unfolding cells_in
cells_back cells long =
    sym (fill_by_all (λ s. cell_in (has (set_of cell_steps cells) s) (has (set_of cell_slants cells) s) (has (set_of cell_runs cells) s) (has (set_of cell_is_black cells) s)) cells 64 None long
    (λ s on. rw (has-set_of cell_steps refl cells s, has-set_of cell_slants refl cells s, has-set_of cell_runs refl cells s, has-set_of cell_is_black refl cells s) (sym (cell_back (piece_on cells s)))))

-- sets that were made of 64 cells tell these
pub kept_cells : (a b c d : ℕ) (cells : List (Option Piece)) → length cells ≡ 64 → IsKept a b c d cells → cells_in a b c d ≡ cells
kept_cells a b c d cells long k = rw (k.steps, k.slants, k.runs, k.black) (cells_back cells long)

-- four sets that tell these cells and were made of them
pub record Tells (a b c d : ℕ) (cells : List (Option Piece)) : Type 0 where
  pub long : length cells ≡ 64
  pub kept : IsKept a b c d cells

pub tells : (a b c d : ℕ) (cells : List (Option Piece)) → cells_in a b c d ≡ cells → IsKept a b c d (cells_in a b c d) → Tells a b c d cells
tells a b c d cells e k = subst (λ (xs : List (Option Piece)). Tells a b c d xs) e (record { long = length-cells_in a b c d; kept = k })

-- a set gains or loses a square
pub record Written (old new s : ℕ) (wanted : Bool) : Type 0 where
  pub small : new < 2 ^ 64
  pub at : has new s ≡ wanted
  pub others : (t : ℕ) → t < 64 → t ≢ s → has new t ≡ has old t

pub written : (a b c d p q r t s : ℕ) (cell : Option Piece) (cells : List (Option Piece)) → Tells a b c d cells → s < 64 → Written a p s (cell_steps cell) → Written b q s (cell_slants cell) → Written c r s (cell_runs cell) → Written d t s (cell_is_black cell) → Tells p q r t (set cells s cell)
written a b c d p q r t s cell cells k on wa wb wc wd = record {
  long = length-set cells s cell ∙ k.long;
  kept = record {
    steps = set_of-set cell_steps refl cells s cell a p k.long on k.kept.steps wa.small wa.at wa.others;
    slants = set_of-set cell_slants refl cells s cell b q k.long on k.kept.slants wb.small wb.at wb.others;
    runs = set_of-set cell_runs refl cells s cell c r k.long on k.kept.runs wc.small wc.at wc.others;
    black = set_of-set cell_is_black refl cells s cell d t k.long on k.kept.black wd.small wd.at wd.others;
  };
}

-- they tell the cells, and so are kept
pub told : (a b c d : ℕ) (cells : List (Option Piece)) → Tells a b c d cells → (cells_in a b c d ≡ cells) × IsKept a b c d (cells_in a b c d)
told a b c d cells k =
    let e = kept_cells a b c d cells k.long k.kept in
    (e, subst (λ (xs : List (Option Piece)). IsKept a b c d xs) (sym e) k.kept)

-- one cell more is written
pub placed_more : (xs ys : List (Option Piece)) (i : ℕ) (x d : Option Piece) → length xs ≡ 64 → length ys ≡ 64 → i < 64 → take i xs ≡ take i ys → x ≡ piece_on ys i → take (i + 1) (set xs i x) ≡ take (i + 1) ys
placed_more xs ys i x d in_xs in_ys on before here =
    take_more_set xs i x (omega arith) ∙ rw (before, here) (sym (take_more ys i None (omega arith)))

pub placed_all : (xs ys : List (Option Piece)) (i : ℕ) → length xs ≡ 64 → length ys ≡ 64 → i ≤ 64 → 64 ≤ i → take i xs ≡ take i ys → xs ≡ ys
placed_all xs ys i in_xs in_ys most least h = sym (take_all i xs (omega arith)) ∙ h ∙ take_all i ys (omega arith)

-- the sets of one test
pub by_test : (f : Option Piece → Bool) → f None ≡ false → (cells : List (Option Piece)) (a : ℕ) → a ≡ set_of f cells → IsSetOf a (λ s. f (piece_on cells s))
by_test f none cells a is = λ s on. ap (λ n. has n s) is ∙ has-set_of f none cells s

small : (f : Option Piece → Bool) (cells : List (Option Piece)) (a : ℕ) → length cells ≡ 64 → a ≡ set_of f cells → a < 2 ^ 64
small f cells a long is = subst (λ (n : ℕ). n < 2 ^ 64) (sym is) (set_of-small f cells long)

-- how three tests tell a kind
occupied_kind : (k : Kind) → ((kind_steps k || kind_slants k) || kind_runs k) ≡ true
occupied_kind Pawn = refl
occupied_kind Knight = refl
occupied_kind Bishop = refl
occupied_kind Rook = refl
occupied_kind Queen = refl
occupied_kind King = refl

pawn_kind : (k : Kind) → ((kind_steps k && not (kind_slants k)) && not (kind_runs k)) ≡ same_kind k Pawn
pawn_kind Pawn = refl
pawn_kind Knight = refl
pawn_kind Bishop = refl
pawn_kind Rook = refl
pawn_kind Queen = refl
pawn_kind King = refl

knight_kind : (k : Kind) → (kind_steps k && kind_runs k) ≡ same_kind k Knight
knight_kind Pawn = refl
knight_kind Knight = refl
knight_kind Bishop = refl
knight_kind Rook = refl
knight_kind Queen = refl
knight_kind King = refl

bishop_kind : (k : Kind) → ((kind_slants k && not (kind_steps k)) && not (kind_runs k)) ≡ same_kind k Bishop
bishop_kind Pawn = refl
bishop_kind Knight = refl
bishop_kind Bishop = refl
bishop_kind Rook = refl
bishop_kind Queen = refl
bishop_kind King = refl

rook_kind : (k : Kind) → ((kind_runs k && not (kind_steps k)) && not (kind_slants k)) ≡ same_kind k Rook
rook_kind Pawn = refl
rook_kind Knight = refl
rook_kind Bishop = refl
rook_kind Rook = refl
rook_kind Queen = refl
rook_kind King = refl

queen_kind : (k : Kind) → (kind_slants k && kind_runs k) ≡ same_kind k Queen
queen_kind Pawn = refl
queen_kind Knight = refl
queen_kind Bishop = refl
queen_kind Rook = refl
queen_kind Queen = refl
queen_kind King = refl

king_kind : (k : Kind) → (kind_steps k && kind_slants k) ≡ same_kind k King
king_kind Pawn = refl
king_kind Knight = refl
king_kind Bishop = refl
king_kind Rook = refl
king_kind Queen = refl
king_kind King = refl

any_piece : (cell : Option Piece) → ((cell_steps cell || cell_slants cell) || cell_runs cell) ≡ is_some cell
any_piece None = refl
any_piece (Some piece) = occupied_kind piece.kind

black_piece : (cell : Option Piece) → cell_is_black cell ≡ is_of Black cell
black_piece None = refl
black_piece (Some piece) = black_colour piece.colour
  where
    black_colour : (c : Colour) → colour_is_black c ≡ same_colour c Black
    black_colour White = refl
    black_colour Black = refl

white_piece : (cell : Option Piece) → (is_some cell && not (cell_is_black cell)) ≡ is_of White cell
white_piece None = refl
white_piece (Some piece) = white_colour piece.colour
  where
    white_colour : (c : Colour) → (true && not (colour_is_black c)) ≡ same_colour c White
    white_colour White = refl
    white_colour Black = refl

pub occupied_of : (a b c d : ℕ) (cells : List (Option Piece)) → Tells a b c d cells → IsSetOf (bit_or (bit_or a b) c) (λ s. is_some (piece_on cells s))
occupied_of a b c d cells k =
    let sa = by_test cell_steps refl cells a k.kept.steps in
    let sb = by_test cell_slants refl cells b k.kept.slants in
    let sc = by_test cell_runs refl cells c k.kept.runs in
    λ s on. or_of _ c _ _ (or_of a b _ _ sa sb) sc s on ∙ any_piece (piece_on cells s)

pub black_of : (a b c d : ℕ) (cells : List (Option Piece)) → Tells a b c d cells → IsSetOf d (λ s. is_of Black (piece_on cells s))
black_of a b c d cells k = λ s on. by_test cell_is_black refl cells d k.kept.black s on ∙ black_piece (piece_on cells s)

pub white_of : (a b c d : ℕ) (cells : List (Option Piece)) → Tells a b c d cells → IsSetOf (bit_and (bit_or (bit_or a b) c) (bit_not w64 d)) (λ s. is_of White (piece_on cells s))
white_of a b c d cells k =
    let sd = not_of d _ (small cell_is_black cells d k.long k.kept.black) (by_test cell_is_black refl cells d k.kept.black) in
    λ s on. and_of _ _ _ _ (occupied_of a b c d cells k) sd s on ∙ white_piece (piece_on cells s)

pawn_cell : (cell : Option Piece) → ((cell_steps cell && not (cell_slants cell)) && not (cell_runs cell)) ≡ is_kind Pawn cell
pawn_cell None = refl
pawn_cell (Some piece) = pawn_kind piece.kind

pub pawns_of : (a b c d : ℕ) (cells : List (Option Piece)) → Tells a b c d cells → IsSetOf (bit_and (bit_and a (bit_not w64 b)) (bit_not w64 c)) (λ s. is_kind Pawn (piece_on cells s))
pawns_of a b c d cells k =
    let one = by_test cell_steps refl cells a k.kept.steps in
    let two = not_of b _ (small cell_slants cells b k.long k.kept.slants) (by_test cell_slants refl cells b k.kept.slants) in
    let three = not_of c _ (small cell_runs cells c k.long k.kept.runs) (by_test cell_runs refl cells c k.kept.runs) in
    λ s on. and_of _ _ _ _ (and_of a _ _ _ one two) three s on ∙ pawn_cell (piece_on cells s)

bishop_cell : (cell : Option Piece) → ((cell_slants cell && not (cell_steps cell)) && not (cell_runs cell)) ≡ is_kind Bishop cell
bishop_cell None = refl
bishop_cell (Some piece) = bishop_kind piece.kind

pub bishops_of : (a b c d : ℕ) (cells : List (Option Piece)) → Tells a b c d cells → IsSetOf (bit_and (bit_and b (bit_not w64 a)) (bit_not w64 c)) (λ s. is_kind Bishop (piece_on cells s))
bishops_of a b c d cells k =
    let one = by_test cell_slants refl cells b k.kept.slants in
    let two = not_of a _ (small cell_steps cells a k.long k.kept.steps) (by_test cell_steps refl cells a k.kept.steps) in
    let three = not_of c _ (small cell_runs cells c k.long k.kept.runs) (by_test cell_runs refl cells c k.kept.runs) in
    λ s on. and_of _ _ _ _ (and_of b _ _ _ one two) three s on ∙ bishop_cell (piece_on cells s)

rook_cell : (cell : Option Piece) → ((cell_runs cell && not (cell_steps cell)) && not (cell_slants cell)) ≡ is_kind Rook cell
rook_cell None = refl
rook_cell (Some piece) = rook_kind piece.kind

pub rooks_of : (a b c d : ℕ) (cells : List (Option Piece)) → Tells a b c d cells → IsSetOf (bit_and (bit_and c (bit_not w64 a)) (bit_not w64 b)) (λ s. is_kind Rook (piece_on cells s))
rooks_of a b c d cells k =
    let one = by_test cell_runs refl cells c k.kept.runs in
    let two = not_of a _ (small cell_steps cells a k.long k.kept.steps) (by_test cell_steps refl cells a k.kept.steps) in
    let three = not_of b _ (small cell_slants cells b k.long k.kept.slants) (by_test cell_slants refl cells b k.kept.slants) in
    λ s on. and_of _ _ _ _ (and_of c _ _ _ one two) three s on ∙ rook_cell (piece_on cells s)

knight_cell : (cell : Option Piece) → (cell_steps cell && cell_runs cell) ≡ is_kind Knight cell
knight_cell None = refl
knight_cell (Some piece) = knight_kind piece.kind

pub knights_of : (a b c d : ℕ) (cells : List (Option Piece)) → Tells a b c d cells → IsSetOf (bit_and a c) (λ s. is_kind Knight (piece_on cells s))
knights_of a b c d cells k = λ s on. and_of a c _ _ (by_test cell_steps refl cells a k.kept.steps) (by_test cell_runs refl cells c k.kept.runs) s on ∙ knight_cell (piece_on cells s)

queen_cell : (cell : Option Piece) → (cell_slants cell && cell_runs cell) ≡ is_kind Queen cell
queen_cell None = refl
queen_cell (Some piece) = queen_kind piece.kind

pub queens_of : (a b c d : ℕ) (cells : List (Option Piece)) → Tells a b c d cells → IsSetOf (bit_and b c) (λ s. is_kind Queen (piece_on cells s))
queens_of a b c d cells k = λ s on. and_of b c _ _ (by_test cell_slants refl cells b k.kept.slants) (by_test cell_runs refl cells c k.kept.runs) s on ∙ queen_cell (piece_on cells s)

king_cell : (cell : Option Piece) → (cell_steps cell && cell_slants cell) ≡ is_kind King cell
king_cell None = refl
king_cell (Some piece) = king_kind piece.kind

pub kings_of : (a b c d : ℕ) (cells : List (Option Piece)) → Tells a b c d cells → IsSetOf (bit_and a b) (λ s. is_kind King (piece_on cells s))
kings_of a b c d cells k = λ s on. and_of a b _ _ (by_test cell_steps refl cells a k.kept.steps) (by_test cell_slants refl cells b k.kept.slants) s on ∙ king_cell (piece_on cells s)
