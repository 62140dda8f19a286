-- What stands on the way between two squares is seen from the end of it where nothing else stands there.
use Rattle.std.proofs.Common.{◌≡◌, ◌≢◌, ℕ, ◌+◌, ◌-◌, ◌<◌, ◌≤◌, refl, arith, ap, sym, subst, ◌∙◌, List, Bool, true, false, ◌&&◌, ◌||◌, not, ◌==◌, inl, inr, Option, is_none, nat_lt}
use Rattle.std.proofs.lemmas.Bool.{and_parts, and_from, cases_eq, eqb-true, eqb-false, ltb-true, not-true, both_ways}
use Rattle.std.specs.List.{list_all, range_with_len}
use Rattle.board.specs.declared.piece.Piece.{Piece}
use Rattle.board.specs.Square.{distance}
use Rattle.board.specs.Attack.{piece_on, on_line, on_the_way, is_clear}
use Rattle.board.proofs.RangeTests.{all_at, all_from}
use Rattle.bitboards.specs.Sight.{sees}
use Rattle.bitboards.proofs.Agreement.{pairs_agree, pair_at}

-- the square after j of the steps from s back to t is that before the last j of the n steps from a to s, and it is not t
abbrev pub steps_back : ℕ → ℕ → ℕ → ℕ → Bool
steps_back a s t j =
    let w = on_the_way s t (distance s t) j in
    nat_lt w 64 && nat_lt j (distance a s) && not (w == t) && (w == on_the_way a s (distance a s) (distance a s - j))

-- the same of all steps back to the square after i of the steps from a to s
abbrev pub nests : ℕ → ℕ → ℕ → Bool
nests a s i =
    let t = on_the_way a s (distance a s) i in
    nat_lt t 64 && on_line s t && list_all (steps_back a s t) (range_with_len 1 (distance s t - 1))

abbrev pub all_nest : ℕ → ℕ → Bool
all_nest a s = not (on_line a s) || list_all (nests a s) (range_with_len 1 (distance a s - 1))

nested : pairs_agree all_nest (λ a s. true) 64 ≡ true
nested = refl

in_steps : (n j : ℕ) → 1 ≤ j → j < n → (1 ≤ n - j) × (n - j < 1 + (n - 1))
in_steps n j some low = (omega arith, omega arith)

-- a square on the way is seen where the rest of the way is empty
seen_on_way : (before after : List (Option Piece)) (a s i : ℕ) → nests a s i ≡ true → ((w : ℕ) → w < 64 → w ≢ on_the_way a s (distance a s) i → is_none (piece_on after w) ≡ true → is_none (piece_on before w) ≡ true) → is_clear after a s ≡ true → sees before s (on_the_way a s (distance a s) i) ≡ true
unfolding is_clear
seen_on_way before after a s i nest empty clear =
    let n = distance a s in
    let t = on_the_way a s n i in
    let k = distance s t in
    let parts = and_parts (nat_lt t 64 && on_line s t) (list_all (steps_back a s t) (range_with_len 1 (k - 1))) nest in
    and_from (on_line s t) _ (and_parts (nat_lt t 64) (on_line s t) parts.0).1
    (all_from (λ j. is_none (piece_on before (on_the_way s t k j))) 1 (k - 1)
    (λ j low high.
    let w = on_the_way s t k j in
    let step = all_at (steps_back a s t) 1 (k - 1) j parts.1 low high in
    let one = and_parts (nat_lt w 64 && nat_lt j n && not (w == t)) (w == on_the_way a s n (n - j)) step in
    let two = and_parts (nat_lt w 64 && nat_lt j n) (not (w == t)) one.0 in
    let three = and_parts (nat_lt w 64) (nat_lt j n) two.0 in
    let within = in_steps n j low (ltb-true _ _ three.1) in
    let free : is_none (piece_on after (on_the_way a s n (n - j))) ≡ true = all_at (λ h. is_none (piece_on after (on_the_way a s n h))) 1 (n - 1) (n - j) clear within.0 within.1 in
    empty w (ltb-true _ _ three.0) (eqb-false w t (not-true _ two.1)) (ap (λ x. is_none (piece_on after x)) (eqb-true _ _ one.1) ∙ free)))

-- a line that is clear after one square has become empty was clear before, unless that square is seen from its end
pub clear_unless_seen : (before after : List (Option Piece)) (a s left : ℕ) → a < 64 → s < 64 → on_line a s ≡ true → ((w : ℕ) → w < 64 → w ≢ left → is_none (piece_on after w) ≡ true → is_none (piece_on before w) ≡ true) → sees before s left ≡ false → is_clear after a s ≡ true → is_clear before a s ≡ true
unfolding is_clear
clear_unless_seen before after a s left a_on s_on line empty unseen clear =
    let n = distance a s in
    let pair : all_nest a s ≡ true = pair_at all_nest (λ x y. true) nested a s a_on s_on in
    let nest : list_all (nests a s) (range_with_len 1 (n - 1)) ≡ true = rw line at pair in
    all_from (λ i. is_none (piece_on before (on_the_way a s n i))) 1 (n - 1)
    (λ i low high.
    let t = on_the_way a s n i in
    let here = all_at (nests a s) 1 (n - 1) i nest low high in
    let free : is_none (piece_on after t) ≡ true = all_at (λ h. is_none (piece_on after (on_the_way a s n h))) 1 (n - 1) i clear low high in
    let on = ltb-true _ _ (and_parts (nat_lt t 64) (on_line s t) (and_parts (nat_lt t 64 && on_line s t) _ here).0).0 in
    elim (cases_eq t left) [
      | inl e ↦ absurd (both_ways _ unseen (subst (λ (x : ℕ). sees before s x ≡ true) e (seen_on_way before after a s i here (λ w w_on ne. empty w w_on (λ x. ne (x ∙ sym e))) clear)))
      | inr ne ↦ empty t on ne free
    ])
