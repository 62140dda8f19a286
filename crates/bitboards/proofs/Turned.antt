-- What one square is to another on an empty board, the other is to it.
use Rattle.std.proofs.Common.{◌≡◌, ℕ, ◌-◌, ◌<◌, ◌^◌, refl, arith, ap, sym, ◌∙◌, length, List, true, not, ◌==◌, inl, inr, eq-eqb, Option, None, Some, is_none, is_some, bit_and}
use Rattle.std.proofs.lemmas.Bool.{cases_eq, cases_lt, ne_eqb, eqb-true}
use Rattle.std.proofs.lemmas.List.{get_or_past}
use Rattle.std.proofs.lemmas.Nat.Bits.{bit_at_above}
use Rattle.std.specs.List.{list_all, range_with_len}
use Rattle.board.specs.declared.piece.Piece.{Piece}
use Rattle.board.specs.Square.{file_of, rank_of, distance}
use Rattle.board.specs.Attack.{piece_on, straight, diagonal, on_the_way, is_clear}
use Rattle.board.specs.Sets.{has, IsSetOf, set_of}
use Rattle.board.proofs.SetLaws.{has-set_of, set_of-small}
use Rattle.bitboards.specs.Lines.{is_open}
use Rattle.bitboards.proofs.Agreement.{pairs_agree, pair_at}
use Rattle.bitboards.proofs.Open.{way_set, open_by_way}
use Rattle.bitboards.proofs.Tabled.{apart_turned}

eq_turned : (a b : ℕ) → (a == b) ≡ (b == a)
eq_turned a b = elim (cases_eq a b) [
  | inl e ↦ eq-eqb a b e ∙ sym (eq-eqb b a (sym e))
  | inr ne ↦ ne_eqb a b ne ∙ sym (ne_eqb b a (λ e. ne (sym e)))
]

pub diagonal_turned : (a b : ℕ) → diagonal a b ≡ diagonal b a
diagonal_turned a b = rw (eq_turned a b, apart_turned (file_of a) (file_of b), apart_turned (rank_of a) (rank_of b)) refl

pub straight_turned : (a b : ℕ) → straight a b ≡ straight b a
straight_turned a b = rw (eq_turned a b, eq_turned (file_of a) (file_of b), eq_turned (rank_of a) (rank_of b)) refl

ways_turned : pairs_agree (λ a b. way_set a b == way_set b a) (λ a b. true) 64 ≡ true
ways_turned = refl

pub open_turned : (set a b : ℕ) → a < 64 → b < 64 → is_open set a b ≡ is_open set b a
open_turned set a b a_on b_on =
    let way : way_set a b ≡ way_set b a = eqb-true _ _ (pair_at (λ a b. way_set a b == way_set b a) (λ a b. true) ways_turned a b a_on b_on) in
    open_by_way set a b ∙ ap (λ n. bit_and n set == 0) way ∙ sym (open_by_way set b a)

pub none_by_some : (cell : Option Piece) → is_none cell ≡ not (is_some cell)
none_by_some None = refl
none_by_some (Some piece) = refl

-- no piece stands between two squares where the way is open to the set of the occupied squares
pub clear_is_open : (cells : List (Option Piece)) (set : ℕ) → set < 2 ^ 64 → length cells ≡ 64 → IsSetOf set (λ s. is_some (piece_on cells s)) → (a b : ℕ) → is_clear cells a b ≡ is_open set a b
unfolding is_clear is_open
clear_is_open cells set fits long is a b =
    let same : (w : ℕ) → is_none (piece_on cells w) ≡ not (has set w) = λ w. elim (cases_lt w 64) [
      | inl on ↦ none_by_some (piece_on cells w) ∙ ap not (sym (is w on))
      | inr off ↦ ap is_none (get_or_past cells w None (omega arith)) ∙ ap (λ n. not (n == 1)) (sym (bit_at_above set 64 w fits off))
    ] in
    λ i. list_all (λ k. same (on_the_way a b (distance a b) k) i) (range_with_len 1 (distance a b - 1))

pub clear_turned : (cells : List (Option Piece)) (a b : ℕ) → length cells ≡ 64 → a < 64 → b < 64 → is_clear cells a b ≡ is_clear cells b a
clear_turned cells a b long a_on b_on =
    let set = set_of is_some cells in
    let is : IsSetOf set (λ s. is_some (piece_on cells s)) = λ s on. has-set_of is_some refl cells s in
    let fits = set_of-small is_some cells long in
    clear_is_open cells set fits long is a b ∙ open_turned set a b a_on b_on ∙ sym (clear_is_open cells set fits long is b a)
