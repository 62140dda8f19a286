-- Which move bytes name, read and as a fact.
use Rattle.std.proofs.Common.{◌≡◌, ℕ, ◌<◌, refl, ap, ◌∙◌, true, List, Option, None, Some, inl, inr, subst, IsTrue}
use Rattle.std.specs.List.{list_any}
use Rattle.std.specs.Str.{bytes_eq}
use Rattle.std.proofs.lemmas.Bool.{and_parts, and_from, or_cases, or_left, or_right, both_ways}
use Rattle.std.proofs.lemmas.Slice.Eq.{bytes_eq-Decides}
use Rattle.board.specs.declared.piece.Kind.{Kind}
use Rattle.board.specs.declared.parts.Parts.{Parts}
use Rattle.board.specs.Moves.{MoveWord, IsMove, can_be_promo}
use Rattle.move_rules.specs.Legal.{legal}
use Rattle.move_rules.specs.Lists.{squares, move_of, all_moves}
use Rattle.pgn_text.specs.San.{plain, san}
use Rattle.pgn_text.specs.Reading.{Names, spells, is_named, origin_in, san_in}
use Rattle.pgn_text.proofs.Apart.{some_square}
use Rattle.pgn_text.proofs.Shapes.{one_word}
use Rattle.pgn_text.proofs.OneMove.{one_move}
use Rattle.pgn_text.proofs.Finding.{found_passes, found_holds, none_passes, some_found, squares_below, all_are, some_move}

-- a move that passes the test is named
pub names_from : (p : Parts) (bytes : List ℕ) (m : MoveWord) → IsMove m → is_named p bytes m ≡ true → Names p bytes m
unfolding spells
names_from p bytes m w h =
    let parts = and_parts (legal p m) (spells p bytes m) h in
    record {
      move = w;
      legal = parts.0;
      spelled = elim (or_cases (bytes_eq bytes (plain p m)) (bytes_eq bytes (san p m)) parts.1) [
        | inl text ↦ inr ((bytes_eq-Decides bytes (plain p m)).0 text)
        | inr whole ↦ inl ((bytes_eq-Decides bytes (san p m)).0 whole)
      ];
    }

-- a move that is named passes the test
pub named_from : (p : Parts) (bytes : List ℕ) (m : MoveWord) → Names p bytes m → is_named p bytes m ≡ true
unfolding spells
named_from p bytes m n = and_from (legal p m) (spells p bytes m) n.legal (elim n.spelled [
  | inl whole ↦ or_right (bytes_eq bytes (plain p m)) (bytes_eq bytes (san p m)) ((bytes_eq-Decides bytes (san p m)).1 whole)
  | inr text ↦ or_left (bytes_eq bytes (plain p m)) (bytes_eq bytes (san p m)) ((bytes_eq-Decides bytes (plain p m)).1 text)
])

-- the search among all moves finds the move that is named
pub search_finds : (p : Parts) (bytes : List ℕ) (m : MoveWord) → Names p bytes m → san_in p bytes ≡ Some m
unfolding san_in
search_finds p bytes m n =
    let found = some_found (is_named p bytes) all_moves (some_move (is_named p bytes) m n.move (named_from p bytes m n)) in
    let other = names_from p bytes found.0 (found_holds IsMove (is_named p bytes) all_moves found.0 all_are found.1) (found_passes (is_named p bytes) all_moves found.0 found.1) in
    found.1 ∙ ap Some (one_move p bytes found.0 m other n)

found_is_named : (p : Parts) (bytes : List ℕ) (found : Option MoveWord) → san_in p bytes ≡ found → ((m : MoveWord) → Names p bytes m → ⊥) → found ≡ None
unfolding san_in
found_is_named p bytes None e h = refl
found_is_named p bytes (Some m) e h = absurd (h m (names_from p bytes m (found_holds IsMove (is_named p bytes) all_moves m all_are e) (found_passes (is_named p bytes) all_moves m e)))

-- and finds nothing where none is
pub search_fails : (p : Parts) (bytes : List ℕ) → ((m : MoveWord) → Names p bytes m → ⊥) → san_in p bytes ≡ None
search_fails p bytes h = found_is_named p bytes (san_in p bytes) refl h

-- what the search among the origins finds is below 64
pub origin_below : (p : Parts) (bytes : List ℕ) (to a : ℕ) (promo : Option Kind) → origin_in p bytes to promo ≡ Some a → a < 64
unfolding origin_in
origin_below p bytes to a promo e = found_holds (λ (x : ℕ). x < 64) (λ (x : ℕ). is_named p bytes (move_of x to promo)) squares a squares_below e

pub origin_named : (p : Parts) (bytes : List ℕ) (to a : ℕ) (promo : Option Kind) → to < 64 → IsTrue (can_be_promo promo) → origin_in p bytes to promo ≡ Some a → Names p bytes (move_of a to promo)
unfolding origin_in
origin_named p bytes to a promo on can e =
    names_from p bytes (move_of a to promo) (record { from = origin_below p bytes to a promo e; to = on; promo = can }) (found_passes (λ (x : ℕ). is_named p bytes (move_of x to promo)) squares a e)

-- where no origin is found, no move to this target with this promotion is named
pub no_origin : (p : Parts) (bytes : List ℕ) (to : ℕ) (promo : Option Kind) → origin_in p bytes to promo ≡ None → (m : MoveWord) → Names p bytes m → m.to ≡ to → m.promo ≡ promo → ⊥
unfolding origin_in
no_origin p bytes to promo e m n t k =
    let word : m ≡ move_of m.from to promo = one_word m (move_of m.from to promo) refl t k in
    let h : is_named p bytes (move_of m.from to promo) ≡ true = subst (λ (w : MoveWord). is_named p bytes w ≡ true) word (named_from p bytes m n) in
    both_ways (list_any (λ (x : ℕ). is_named p bytes (move_of x to promo)) squares) (none_passes (λ (x : ℕ). is_named p bytes (move_of x to promo)) squares e) (some_square (λ (x : ℕ). is_named p bytes (move_of x to promo)) m.from n.move.from h)
