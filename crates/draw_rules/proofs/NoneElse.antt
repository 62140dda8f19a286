-- That all cells pass a test is told by one set: that of the squares whose cells fail is empty.
use Rattle.std.proofs.Common.{◌≡◌, ℕ, ◌+◌, ◌*◌, ◌^◌, ◌<◌, zero, suc, refl, arith, ap, sym, ◌∙◌, length, map, List, [], ◌∷◌, Bool, true, false, ◌&&◌, ◌||◌, not, ◌==◌, inl, inr, Option, None, Some, is_some, cond, eq-eqb, count_by, count_ones, bit_and}
use Rattle.std.proofs.lemmas.Bool.{cases_eq, ne_eqb, false_from_ne_true, agree_below, agree_below_at}
use Rattle.std.proofs.lemmas.Nat.{and_le_l}
use Rattle.std.proofs.lemmas.Nat.Bits.{bit_at-zero}
use Rattle.std.proofs.lemmas.Simd.{ones-mask_l}
use Rattle.std.specs.Simd.Lanes.{mask_l}
use Rattle.std.specs.List.{list_all, range_with_len}
use Rattle.board.specs.declared.piece.Colour.{Colour}
use Rattle.board.specs.declared.piece.Kind.TheVariants.{Knight, Bishop, King}
use Rattle.board.specs.declared.piece.Piece.{Piece}
use Rattle.board.specs.Piece.{same_colour, same_kind}
use Rattle.board.specs.Attack.{piece_on}
use Rattle.board.specs.Cells.{is_of, is_kind}
use Rattle.board.specs.Same.{same_bool}
use Rattle.board.specs.Sets.{has, IsSetOf, set_of}
use Rattle.board.proofs.RangeTests.{all_at, all_from}
use Rattle.board.proofs.SetLaws.{same_sets, has-set_of, set_of-small}
use Rattle.draw_rules.specs.Material.{is_king_or_empty, is_bishop, is_minor, is_light, is_king_or_bishop_on, is_bare_of, kings_and_one_minor}

empty_step : (b : Bool) (n : ℕ) → (cond (not b) 1 0 + 2 * n == 0) ≡ (b && (n == 0))
empty_step true zero = refl
empty_step true (suc n) = ne_eqb (0 + 2 * suc n) 0 (λ e. omega arith) ∙ sym (ne_eqb (suc n) 0 (λ e. omega arith))
empty_step false n = ne_eqb (1 + 2 * n) 0 (λ e. omega arith)

none_fails : (f : Option Piece → Bool) (cells : List (Option Piece)) → (set_of (λ x. not (f x)) cells == 0) ≡ list_all f cells
unfolding set_of
none_fails f [] = refl
none_fails f (x ∷ xs) = empty_step (f x) (set_of (λ y. not (f y)) xs) ∙ ap (λ b. f x && b) (none_fails f xs)

-- over the cells
pub all_pass : (f : Option Piece → Bool) → f None ≡ true → (cells : List (Option Piece)) (set : ℕ) → length cells ≡ 64 → set < 2 ^ 64 → IsSetOf set (λ s. not (f (piece_on cells s))) → (set == 0) ≡ list_all f cells
all_pass f none cells set long small is =
    let same : set ≡ set_of (λ x. not (f x)) cells = same_sets set (set_of (λ x. not (f x)) cells) small (set_of-small (λ x. not (f x)) cells long) (λ s on. is s on ∙ sym (has-set_of (λ x. not (f x)) (ap not none) cells s)) in
    ap (λ n. n == 0) same ∙ none_fails f cells

not_back : (b : Bool) → not b ≡ false → b ≡ true
not_back true h = refl
not_back false h = cc

has_none : (s : ℕ) → has 0 s ≡ false
has_none s = ap (λ n. n == 1) (bit_at-zero s)

-- over the squares
pub all_squares_pass : (g : ℕ → Bool) (set : ℕ) → set < 2 ^ 64 → IsSetOf set (λ s. not (g s)) → (set == 0) ≡ list_all g (range_with_len 0 64)
all_squares_pass g set small is = elim (cases_eq set 0) [
  | inl e ↦ eq-eqb set 0 e ∙ sym (all_from g 0 64 (λ s low on. not_back (g s) (sym (is s on) ∙ ap (λ n. has n s) e ∙ has_none s)))
  | inr some ↦
      ne_eqb set 0 some
      ∙ sym (false_from_ne_true (list_all g (range_with_len 0 64)) (λ all.
      some (same_sets set 0 small (omega arith) (λ s on. is s on ∙ ap not (all_at g 0 64 s all (omega arith) on) ∙ sym (has_none s)))))
]

set_is_mask : (f : Option Piece → Bool) (cells : List (Option Piece)) → set_of f cells ≡ mask_l (map f cells)
unfolding set_of
set_is_mask f [] = refl
set_is_mask f (x ∷ xs) = ap (λ n. cond (f x) 1 0 + 2 * n) (set_is_mask f xs)

-- how many cells pass is how many squares the set of these has
pub as_many : (f : Option Piece → Bool) → f None ≡ false → (cells : List (Option Piece)) (set : ℕ) → length cells ≡ 64 → set < 2 ^ 64 → IsSetOf set (λ s. f (piece_on cells s)) → count_ones set ≡ count_by f cells
as_many f none cells set long small is =
    ap count_ones (same_sets set (set_of f cells) small (set_of-small f cells long) (λ s on. is s on ∙ sym (has-set_of f none cells s)) ∙ set_is_mask f cells)
    ∙ ones-mask_l f cells

-- what two sets share has 64 bits
pub and_small : (a b : ℕ) → a < 2 ^ 64 → bit_and a b < 2 ^ 64
and_small a b small = let least = and_le_l a b in omega arith

-- one minor piece beside kings
pub one_minor : (cells : List (Option Piece)) (others minors : ℕ) → length cells ≡ 64 → others < 2 ^ 64 → minors < 2 ^ 64 → IsSetOf others (λ s. not (is_king_or_empty (piece_on cells s) || is_minor (piece_on cells s))) → IsSetOf minors (λ s. is_minor (piece_on cells s)) → ((others == 0) && (count_ones minors == 1)) ≡ kings_and_one_minor cells
unfolding kings_and_one_minor
one_minor cells others minors long small_others small_minors is_others is_minors =
    λ i. all_pass (λ cell. is_king_or_empty cell || is_minor cell) refl cells others long small_others is_others i && (as_many is_minor refl cells minors long small_minors is_minors i == 1)

-- cell by cell
pub no_king : (cell : Option Piece) → (is_some cell && not (is_kind King cell)) ≡ not (is_king_or_empty cell)
no_king None = refl
no_king (Some piece) = refl

pub minor : (cell : Option Piece) → (is_kind Knight cell || is_kind Bishop cell) ≡ is_minor cell
minor None = refl
minor (Some piece) = refl

neither : (x y : Bool) → (not x && not y) ≡ not (x || y)
neither true y = refl
neither false y = refl

pub no_king_or_minor : (cell : Option Piece) → (not (is_king_or_empty cell) && not (is_minor cell)) ≡ not (is_king_or_empty cell || is_minor cell)
no_king_or_minor cell = neither (is_king_or_empty cell) (is_minor cell)

bishop_cell : (cell : Option Piece) → is_kind Bishop cell ≡ is_bishop cell
bishop_cell None = refl
bishop_cell (Some piece) = refl

pub no_king_or_bishop : (light : Bool) (cells : List (Option Piece)) (s : ℕ) → (not (is_king_or_empty (piece_on cells s)) && not (is_kind Bishop (piece_on cells s) && same_bool (is_light s) light)) ≡ not (is_king_or_bishop_on light cells s)
no_king_or_bishop light cells s =
    ap (λ b. not (is_king_or_empty (piece_on cells s)) && not (b && same_bool (is_light s) light)) (bishop_cell (piece_on cells s))
    ∙ neither (is_king_or_empty (piece_on cells s)) (is_bishop (piece_on cells s) && same_bool (is_light s) light)

own_no_king : (x k : Bool) → (x && not k) ≡ not (not x || k)
own_no_king true k = refl
own_no_king false k = refl

pub not_bare : (c : Colour) (cell : Option Piece) → (is_of c cell && not (is_kind King cell)) ≡ not (is_bare_of c cell)
not_bare c None = refl
not_bare c (Some piece) = own_no_king (same_colour piece.colour c) (same_kind piece.kind King)

-- the constant has the light squares
lights : agree_below (has 6172840429334713770) is_light 64 ≡ true
lights = refl

same_as : (b : Bool) → b ≡ same_bool b true
same_as true = refl
same_as false = refl

unlike : (b : Bool) → not b ≡ same_bool b false
unlike true = refl
unlike false = refl

pub light_squares : IsSetOf 6172840429334713770 (λ s. same_bool (is_light s) true)
light_squares = λ s on. agree_below_at (has 6172840429334713770) is_light 64 s lights on ∙ same_as (is_light s)

pub dark_squares : (s : ℕ) → not (same_bool (is_light s) true) ≡ same_bool (is_light s) false
dark_squares s = ap not (sym (same_as (is_light s))) ∙ unlike (is_light s)
