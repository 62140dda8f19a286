-- Laws of sets of squares: what a set has, and that this determines it.
use Rattle.std.proofs.Common.{◌≡◌, ℕ, ◌+◌, ◌-◌, ◌*◌, ◌/◌, ◌%◌, ◌^◌, ◌<◌, zero, suc, refl, arith, ap, sym, subst, ◌∙◌, length, List, [], ◌∷◌, Bool, true, false, ◌&&◌, ◌||◌, not, ◌==◌, ◌≢◌, inl, inr, Option, None, w64, min, max, bit_and, bit_or, cond, get_or-set_other, get_or-set_same}
use Rattle.std.proofs.Math.ListN.{set, length-set}
use Rattle.std.proofs.lemmas.Bool.{cases_eq}
use Rattle.std.proofs.lemmas.Nat.Bits.{bit_at_lowest, bit_at-suc, bit_at-zero, bit_at-lt, bit_at_and, bit_at_or, bit_at_not, same_from_bits_below}
use Rattle.std.specs.Int.{bit_at, bit_not}
use native.Mathlib.Numerals.{unary_clauses}
use Rattle.board.specs.declared.piece.Piece.{Piece}
use Rattle.board.specs.Attack.{piece_on}
use Rattle.board.specs.Sets.{has, IsSetOf, set_of}

-- a bit is told by whether it is 1
bit_from_test : (a b : ℕ) → a < 2 → b < 2 → (a == 1) ≡ (b == 1) → a ≡ b
bit_from_test zero zero la lb h = refl
bit_from_test zero (suc zero) la lb h = cc
bit_from_test (suc zero) zero la lb h = cc
bit_from_test (suc zero) (suc zero) la lb h = refl
bit_from_test (suc (suc a)) b la lb h = absurd (omega arith)
bit_from_test a (suc (suc b)) la lb h = absurd (omega arith)

-- two sets with the same squares are one number
pub same_sets : (a b : ℕ) → a < 2 ^ 64 → b < 2 ^ 64 → ((s : ℕ) → s < 64 → has a s ≡ has b s) → a ≡ b
same_sets a b la lb h =
    same_from_bits_below 64 a b la lb (λ s on. bit_from_test (bit_at a s) (bit_at b s) (bit_at-lt a s) (bit_at-lt b s) (h s on))

min_tests : (a b : ℕ) → a < 2 → b < 2 → (min a b == 1) ≡ ((a == 1) && (b == 1))
min_tests zero zero la lb = refl
min_tests zero (suc zero) la lb = refl
min_tests (suc zero) zero la lb = refl
min_tests (suc zero) (suc zero) la lb = refl
min_tests (suc (suc a)) b la lb = absurd (omega arith)
min_tests a (suc (suc b)) la lb = absurd (omega arith)

max_tests : (a b : ℕ) → a < 2 → b < 2 → (max a b == 1) ≡ ((a == 1) || (b == 1))
max_tests zero zero la lb = refl
max_tests zero (suc zero) la lb = refl
max_tests (suc zero) zero la lb = refl
max_tests (suc zero) (suc zero) la lb = refl
max_tests (suc (suc a)) b la lb = absurd (omega arith)
max_tests a (suc (suc b)) la lb = absurd (omega arith)

not_test : (a : ℕ) → a < 2 → (1 - a == 1) ≡ not (a == 1)
not_test zero la = refl
not_test (suc zero) la = refl
not_test (suc (suc a)) la = absurd (omega arith)

-- intersection, union and complement
pub has-and : (a b s : ℕ) → has (bit_and a b) s ≡ (has a s && has b s)
has-and a b s = ap (λ n. n == 1) (bit_at_and a b s) ∙ min_tests (bit_at a s) (bit_at b s) (bit_at-lt a s) (bit_at-lt b s)

pub has-or : (a b s : ℕ) → has (bit_or a b) s ≡ (has a s || has b s)
has-or a b s = ap (λ n. n == 1) (bit_at_or a b s) ∙ max_tests (bit_at a s) (bit_at b s) (bit_at-lt a s) (bit_at-lt b s)

pub has-not : (a s : ℕ) → a < 2 ^ 64 → s < 64 → has (bit_not w64 a) s ≡ not (has a s)
has-not a s la on = ap (λ n. n == 1) (bit_at_not w64 a s la on) ∙ not_test (bit_at a s) (bit_at-lt a s)

-- the squares whose cells pass a test, square by square
lowest_of : (b : Bool) (n : ℕ) → (cond b 1 0 + 2 * n) % 2 ≡ cond b 1 0
lowest_of true n = omega arith
lowest_of false n = omega arith

half_of : (b : Bool) (n : ℕ) → (cond b 1 0 + 2 * n) / 2 ≡ n
half_of true n = omega arith
half_of false n = omega arith

test_of : (b : Bool) → (cond b 1 0 == 1) ≡ b
test_of true = refl
test_of false = refl

pub has-set_of : (f : Option Piece → Bool) → f None ≡ false → (cells : List (Option Piece)) (s : ℕ) → has (set_of f cells) s ≡ f (piece_on cells s)
unfolding set_of
has-set_of f none [] s = ap (λ n. n == 1) (bit_at-zero s) ∙ sym none
has-set_of f none (cell ∷ cells) zero =
    ap (λ n. n == 1) (bit_at_lowest (cond (f cell) 1 0 + 2 * set_of f cells) ∙ lowest_of (f cell) (set_of f cells)) ∙ test_of (f cell)
has-set_of f none (cell ∷ cells) (suc s) =
    ap (λ n. n == 1) (bit_at-suc (cond (f cell) 1 0 + 2 * set_of f cells) s ∙ ap (λ n. bit_at n s) (half_of (f cell) (set_of f cells)))
    ∙ has-set_of f none cells s

one_more : (b : Bool) (n p : ℕ) → n < p → cond b 1 0 + 2 * n < p * 2
one_more true n p h = omega arith
one_more false n p h = omega arith

set_of-below : (f : Option Piece → Bool) (cells : List (Option Piece)) → set_of f cells < 2 ^ length cells
unfolding set_of
set_of-below f [] = omega arith
set_of-below f (cell ∷ cells) = simp unary_clauses (one_more (f cell) (set_of f cells) (2 ^ length cells) (set_of-below f cells))

pub set_of-small : (f : Option Piece → Bool) (cells : List (Option Piece)) → length cells ≡ 64 → set_of f cells < 2 ^ 64
set_of-small f cells long = subst (λ (n : ℕ). set_of f cells < 2 ^ n) long (set_of-below f cells)

-- a cell is written, and the set gains or loses its square
pub set_of-set : (f : Option Piece → Bool) → f None ≡ false → (cells : List (Option Piece)) (s : ℕ) (cell : Option Piece) (old new : ℕ) → length cells ≡ 64 → s < 64 → old ≡ set_of f cells → new < 2 ^ 64 → has new s ≡ f cell → ((t : ℕ) → t < 64 → t ≢ s → has new t ≡ has old t) → new ≡ set_of f (set cells s cell)
set_of-set f none cells s cell old new long on is small at others =
    same_sets new (set_of f (set cells s cell)) small (set_of-small f (set cells s cell) (length-set cells s cell ∙ long))
    (λ t t_on. elim (cases_eq t s) [
      | inl e ↦ subst (λ (k : ℕ). has new k ≡ has (set_of f (set cells s cell)) k) (sym e) (at ∙ ap f (sym (get_or-set_same cells s cell None (omega arith))) ∙ sym (has-set_of f none (set cells s cell) s))
      | inr ne ↦ others t t_on ne ∙ ap (λ n. has n t) is ∙ has-set_of f none cells t ∙ ap f (sym (get_or-set_other cells s t cell None ne)) ∙ sym (has-set_of f none (set cells s cell) t)
    ])

-- sets that were made by a test, joined
pub and_of : (a b : ℕ) (f g : ℕ → Bool) → IsSetOf a f → IsSetOf b g → IsSetOf (bit_and a b) (λ s. f s && g s)
and_of a b f g is_a is_b = λ s on. has-and a b s ∙ rw (is_a s on, is_b s on) refl

pub or_of : (a b : ℕ) (f g : ℕ → Bool) → IsSetOf a f → IsSetOf b g → IsSetOf (bit_or a b) (λ s. f s || g s)
or_of a b f g is_a is_b = λ s on. has-or a b s ∙ rw (is_a s on, is_b s on) refl

pub not_of : (a : ℕ) (f : ℕ → Bool) → a < 2 ^ 64 → IsSetOf a f → IsSetOf (bit_not w64 a) (λ s. not (f s))
not_of a f small is_a = λ s on. has-not a s small on ∙ rw (is_a s on) refl
