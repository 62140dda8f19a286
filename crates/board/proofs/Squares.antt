-- What holds on some square, and what on each.
use Rattle.std.proofs.Common.{◌≡◌, ℕ, ◌<◌, get_or, Bool, true, ◌&&◌, List, Option, ◌↔◌, IsTrue, arith, ap, sym, ◌∙◌, zero-add}
use Rattle.std.specs.List.{list_all, list_any, range_with_len}
use Rattle.std.proofs.lemmas.Bool.{and_parts, and_from}
use Rattle.std.proofs.lemmas.List.Sums.{AllPass-from_list_all}
use Rattle.std.proofs.lemmas.List.Folds.{Any-from_list_any, list_any_at}
use Rattle.std.proofs.lemmas.List.FromFn.{length-range_with_len, get_or-range_with_len}
use Rattle.board.specs.declared.piece.Colour.{Colour}
use Rattle.board.specs.declared.piece.Kind.TheVariants.{King}
use Rattle.board.specs.declared.piece.Piece.{Piece}
use Rattle.board.specs.Square.{SomeSquare}
use Rattle.board.specs.Piece.{other, is_piece}
use Rattle.board.specs.Attack.{piece_on, strikes_from, attacked, king_attacked}

-- a number of the first n stands at its own place
place_of : (n k : ℕ) → k < n → get_or (range_with_len 0 n) k 0 ≡ k
place_of n k inside = get_or-range_with_len 0 n k 0 inside ∙ zero-add k

-- a test that all numbers below n pass is passed by each
pub list_all-at : (f : ℕ → Bool) (n k : ℕ) → list_all f (range_with_len 0 n) ≡ true → k < n → f k ≡ true
list_all-at f n k all inside =
    ap f (sym (place_of n k inside))
    ∙ AllPass-from_list_all f (range_with_len 0 n) all k 0 (omega (arith, length-range_with_len 0 n))

-- a number below n that passes a test
pub list_any-from : (f : ℕ → Bool) (n k : ℕ) → k < n → f k ≡ true → list_any f (range_with_len 0 n) ≡ true
list_any-from f n k inside h =
    list_any_at f (range_with_len 0 n) k 0 (omega (arith, length-range_with_len 0 n)) (ap f (place_of n k inside) ∙ h)

pub list_any-some : (f : ℕ → Bool) (n : ℕ) → list_any f (range_with_len 0 n) ≡ true → (k : ℕ) × (k < n) × (f k ≡ true)
list_any-some f n h =
    let t = Any-from_list_any f (range_with_len 0 n) h in
    let inside : t.0 < n = omega (arith, t.2, length-range_with_len 0 n) in
    let at : t.1 ≡ t.0 = sym t.3 ∙ get_or-range_with_len 0 n t.0 t.1 inside ∙ zero-add t.0 in
    (t.0, inside, ap f (sym at) ∙ t.4)

-- a square is attacked exactly where a piece strikes it from some square
pub attacked-means : (cells : List (Option Piece)) (s : ℕ) (by : Colour) → IsTrue (attacked cells s by) ↔ SomeSquare (λ a. IsTrue (strikes_from cells by s a))
unfolding attacked
attacked-means cells s by = (list_any-some (strikes_from cells by s) 64, λ t. list_any-from (strikes_from cells by s) 64 t.0 t.1 t.2)

-- a king is attacked exactly where one stands on some square that the other side attacks
pub king_attacked-means : (cells : List (Option Piece)) (c : Colour) → IsTrue (king_attacked cells c) ↔ SomeSquare (λ s. IsTrue (is_piece c King (piece_on cells s)) × IsTrue (attacked cells s (other c)))
unfolding king_attacked
king_attacked-means cells c =
    let f : ℕ → Bool = λ s. is_piece c King (piece_on cells s) && attacked cells s (other c) in (
      λ h. let t = list_any-some f 64 h in (t.0, t.1, and_parts (is_piece c King (piece_on cells t.0)) (attacked cells t.0 (other c)) t.2),
      λ t. list_any-from f 64 t.0 t.1 (and_from _ _ t.2.0 t.2.1),
    )
