-- Which pieces strike a square, by sets.
use Rattle.std.proofs.Common.{◌≡◌, ℕ, ◌<◌, ◌^◌, refl, arith, ap, sym, ◌∙◌, length, List, [], ◌∷◌, Bool, true, false, ◌&&◌, ◌||◌, not, ◌==◌, inl, inr, Option, None, Some, w64, filter}
use Rattle.std.proofs.lemmas.Bool.{cases_eq, ne_eqb, eq-eqb, cond_both}
use Rattle.std.proofs.lemmas.Nat.Bits.{bit_at-trailing_zeros}
use Rattle.std.specs.Int.{trailing_zeros}
use Rattle.std.specs.List.{list_any, range_with_len}
use Rattle.board.specs.declared.piece.Colour.{Colour}
use Rattle.board.specs.declared.piece.Kind.{Kind}
use Rattle.board.specs.declared.piece.Kind.TheVariants.{Pawn, Knight, Bishop, Rook, Queen, King}
use Rattle.board.specs.declared.piece.Piece.{Piece}
use Rattle.board.specs.Piece.{other, same_colour, same_kind, is_piece}
use Rattle.board.specs.Attack.{piece_on, straight, diagonal, is_clear, knight_step, king_step, pawn_strike, strikes_as, cell_strikes, strikes_from, attacked, king_attacked}
use Rattle.board.specs.Cells.{is_of, is_kind}
use Rattle.board.specs.Sets.{has, IsSetOf}
use Rattle.board.proofs.Equal.{same_colour-true}
use Rattle.board.proofs.RangeTests.{any_at, any_none, any_same}
use Rattle.bitboards.specs.Squares.{squares_in}
use Rattle.bitboards.specs.Sight.{sees, seen_by_king}
use Rattle.bitboards.proofs.Masks.{has-nothing}
use Rattle.bitboards.proofs.Tabled.{knight_turned, king_turned, pawn_turned}
use Rattle.bitboards.proofs.Turned.{diagonal_turned, straight_turned, clear_turned}

-- the answer of the kind's own test
by_kind : Kind → Bool → Bool → Bool → Bool → Bool → Bool
by_kind Pawn p n k d s = p
by_kind Knight p n k d s = n
by_kind Bishop p n k d s = d
by_kind Rook p n k d s = s
by_kind Queen p n k d s = d || s
by_kind King p n k d s = k

kind_tells : (kind : Kind) (p n k d s : Bool) → (((((same_kind kind Pawn && p) || (same_kind kind Knight && n)) || (same_kind kind King && k)) || ((same_kind kind Bishop || same_kind kind Queen) && d)) || ((same_kind kind Rook || same_kind kind Queen) && s)) ≡ by_kind kind p n k d s
unfolding by_kind
kind_tells Pawn true n k d s = refl
kind_tells Pawn false n k d s = refl
kind_tells Knight p true k d s = refl
kind_tells Knight p false k d s = refl
kind_tells Bishop p n k true s = refl
kind_tells Bishop p n k false s = refl
kind_tells Rook p n k d true = refl
kind_tells Rook p n k d false = refl
kind_tells Queen p n k d s = refl
kind_tells King p n true d s = refl
kind_tells King p n false d s = refl

turned_and : (x y c : Bool) → (c ≡ true → x ≡ y) → (x && c) ≡ (c && y)
turned_and true y true h = h refl
turned_and false y true h = h refl
turned_and true y false h = refl
turned_and false y false h = refl

either_line : (d s c : Bool) → ((d && c) || (s && c)) ≡ ((s || d) && c)
either_line true true true = refl
either_line true false true = refl
either_line false true true = refl
either_line false false true = refl
either_line true true false = refl
either_line true false false = refl
either_line false true false = refl
either_line false false false = refl

pub factor : (x y c : Bool) → ((x && c) || (y && c)) ≡ ((x || y) && c)
factor x y c = either_line x y c ∙ ap (λ b. b && c) (or_turned y x)
  where
    or_turned : (a b : Bool) → (a || b) ≡ (b || a)
    or_turned true true = refl
    or_turned true false = refl
    or_turned false true = refl
    or_turned false false = refl

-- a piece of this kind on a strikes s as a piece of the kind on s would strike a, a pawn as one of the other side
strikes_back : (cells : List (Option Piece)) (by : Colour) (s a : ℕ) (kind : Kind) → length cells ≡ 64 → s < 64 → a < 64 → by_kind kind (pawn_strike (other by) s a) (knight_step s a) (king_step s a) (diagonal s a && is_clear cells s a) (straight s a && is_clear cells s a) ≡ strikes_as cells kind by a s
unfolding by_kind strikes_as
strikes_back cells by s a Pawn long s_on a_on = sym (pawn_turned by a s)
strikes_back cells by s a Knight long s_on a_on = knight_turned s a
strikes_back cells by s a King long s_on a_on = king_turned s a
strikes_back cells by s a Bishop long s_on a_on = rw (diagonal_turned s a, clear_turned cells s a long s_on a_on) refl
strikes_back cells by s a Rook long s_on a_on = rw (straight_turned s a, clear_turned cells s a long s_on a_on) refl
strikes_back cells by s a Queen long s_on a_on =
    either_line (diagonal s a) (straight s a) (is_clear cells s a) ∙ rw (diagonal_turned s a, straight_turned s a, clear_turned cells s a long s_on a_on) refl

cell_tells : (cells : List (Option Piece)) (by : Colour) (s a : ℕ) (cell : Option Piece) (p n k d r : Bool) → ((kind : Kind) → by_kind kind p n k d r ≡ strikes_as cells kind by a s) → ((((((is_kind Pawn cell && p) || (is_kind Knight cell && n)) || (is_kind King cell && k)) || ((is_kind Bishop cell || is_kind Queen cell) && d)) || ((is_kind Rook cell || is_kind Queen cell) && r)) && is_of by cell) ≡ cell_strikes cells by s a cell
cell_tells cells by s a None p n k d r h = refl
cell_tells cells by s a (Some piece) p n k d r h =
    ap (λ b. b && same_colour piece.colour by) (kind_tells piece.kind p n k d r)
    ∙ turned_and (by_kind piece.kind p n k d r) (strikes_as cells piece.kind piece.colour a s) (same_colour piece.colour by)
    (λ own. h piece.kind ∙ ap (λ c. strikes_as cells piece.kind c a s) (sym (same_colour-true piece.colour by own)))

pub strike_tells : (cells : List (Option Piece)) (by : Colour) (s a : ℕ) → length cells ≡ 64 → s < 64 → a < 64 → ((((((is_kind Pawn (piece_on cells a) && pawn_strike (other by) s a) || (is_kind Knight (piece_on cells a) && knight_step s a)) || (is_kind King (piece_on cells a) && king_step s a)) || ((is_kind Bishop (piece_on cells a) || is_kind Queen (piece_on cells a)) && (diagonal s a && is_clear cells s a))) || ((is_kind Rook (piece_on cells a) || is_kind Queen (piece_on cells a)) && (straight s a && is_clear cells s a))) && is_of by (piece_on cells a)) ≡ strikes_from cells by s a
unfolding strikes_from
strike_tells cells by s a long s_on a_on =
    cell_tells cells by s a (piece_on cells a) _ _ _ _ _ (λ kind. strikes_back cells by s a kind long s_on a_on)

-- a set is empty exactly where no square passes its test
pub some_in : (set : ℕ) (f : ℕ → Bool) → set < 2 ^ 64 → IsSetOf set f → not (set == 0) ≡ list_any f (range_with_len 0 64)
some_in set f fits is = elim (cases_eq set 0) [
  | inl none ↦ ap not (eq-eqb set 0 none) ∙ sym (any_none f 0 64 (λ t low high. sym (is t high) ∙ ap (λ n. has n t) none ∙ has-nothing t))
  | inr some ↦
      let first = bit_at-trailing_zeros w64 set (omega arith) fits in
      let at = trailing_zeros w64 set in
      ap not (ne_eqb set 0 some) ∙ sym (any_at f 64 at first.0 (sym (is at first.0) ∙ eq-eqb _ _ first.1))
]

-- some square of a set passes a test
pub any_filtered : (p g : ℕ → Bool) (xs : List ℕ) → list_any g (filter p xs) ≡ list_any (λ s. p s && g s) xs
any_filtered p g [] = refl
any_filtered p g (x ∷ xs) = cond_both (p x) (x ∷ filter p xs) (filter p xs) (λ ys. list_any g ys ≡ list_any (λ s. p s && g s) (x ∷ xs)) (λ h. rw (h, any_filtered p g xs) refl) (λ h. rw (h, any_filtered p g xs) refl)

piece_by_sets : (c : Colour) (cell : Option Piece) → (is_kind King cell && is_of c cell) ≡ is_piece c King cell
piece_by_sets c None = refl
piece_by_sets c (Some piece) = and_comm (same_kind piece.kind King) (same_colour piece.colour c)
  where
    and_comm : (x y : Bool) → (x && y) ≡ (y && x)
    and_comm true true = refl
    and_comm true false = refl
    and_comm false true = refl
    and_comm false false = refl

-- some king of the side passes a test, asked of the squares of its kings
pub kings_pass : (cells : List (Option Piece)) (c : Colour) (kings : ℕ) (g : ℕ → Bool) → IsSetOf kings (λ s. is_kind King (piece_on cells s) && is_of c (piece_on cells s)) → list_any g (squares_in kings) ≡ list_any (λ s. is_piece c King (piece_on cells s) && g s) (range_with_len 0 64)
unfolding squares_in
kings_pass cells c kings g is =
    any_filtered (has kings) g (range_with_len 0 64)
    ∙ any_same _ _ 0 64 (λ s low on. ap (λ b. b && g s) (is s on ∙ piece_by_sets c (piece_on cells s)))

-- whether one of them is attacked
pub kings_asked : (cells : List (Option Piece)) (c : Colour) (kings : ℕ) → IsSetOf kings (λ s. is_kind King (piece_on cells s) && is_of c (piece_on cells s)) → list_any (λ s. attacked cells s (other c)) (squares_in kings) ≡ king_attacked cells c
unfolding king_attacked
kings_asked cells c kings is = kings_pass cells c kings (λ s. attacked cells s (other c)) is

-- whether one of them sees a square
pub kings_see : (cells : List (Option Piece)) (c : Colour) (kings t : ℕ) → IsSetOf kings (λ s. is_kind King (piece_on cells s) && is_of c (piece_on cells s)) → list_any (λ s. sees cells s t) (squares_in kings) ≡ seen_by_king cells c t
unfolding seen_by_king
kings_see cells c kings t is = kings_pass cells c kings (λ s. sees cells s t) is

-- one square of a set that passes settles it
pub found_in : (set first : ℕ) (g : ℕ → Bool) → first < 64 → has set first ≡ true → g first ≡ true → list_any g (squares_in set) ≡ true
unfolding squares_in
found_in set first g on here hit = any_filtered (has set) g (range_with_len 0 64) ∙ any_at (λ s. has set s && g s) 64 first on (rw (here, hit) refl)

pub nothing_in : squares_in 0 ≡ []
unfolding squares_in
nothing_in = refl
