-- The first square, or the first move, that passes a test.
use Rattle.std.proofs.Common.{◌||◌, ◌≡◌, ℕ, ◌+◌, ◌<◌, ◌≤◌, suc, zero, refl, sym, ap, ◌∙◌, arith, true, false, Bool, List, [], ◌∷◌, ◌++◌, Option, None, Some, inl, inr, subst, map, IsTrue}
use Rattle.std.specs.List.{find, range_with_len, flat_map, list_any}
use Rattle.std.proofs.lemmas.List.Folds.{list_any-append}
use Rattle.std.proofs.lemmas.Bool.{cases_Bool, cond-true, cond-false, or_from, or_left, or_right}
use Rattle.board.specs.declared.piece.Kind.{Kind}
use Rattle.board.specs.declared.piece.Kind.TheVariants.{Pawn, Knight, Bishop, Rook, Queen, King}
use Rattle.board.specs.Moves.{MoveWord, IsMove, can_be_promo}
use Rattle.move_rules.specs.Lists.{squares, promos, move_of, moves_between, moves_from, all_moves}
use Rattle.pgn_text.proofs.Apart.{some_square}

-- P holds of each element
abbrev pub Each : {X : Type 0} → (X → Type 0) → List X → Type 0
Each P [] = Unit {0}
Each P (x ∷ xs) = P x × Each P xs

-- what is found passes
pub found_passes : {X : Type 0} (test : X → Bool) (xs : List X) (x : X) → find test xs ≡ Some x → test x ≡ true
found_passes test [] x e = absurd cc
found_passes test (y ∷ ys) x e = elim (cases_Bool (test y)) [
  | inl h ↦ let same : ◌≡◌ {A = Option _} (Some y) (Some x) = sym (cond-true (test y) (Some y) (find test ys) h) ∙ e in let it : y ≡ x = cc in subst (λ z. test z ≡ true) it h
  | inr h ↦ found_passes test ys x (sym (cond-false (test y) (Some y) (find test ys) h) ∙ e)
]

-- what holds of each holds of what is found
pub found_holds : {X : Type 0} (P : X → Type 0) (test : X → Bool) (xs : List X) (x : X) → Each P xs → find test xs ≡ Some x → P x
found_holds P test [] x h e = absurd cc
found_holds P test (y ∷ ys) x h e = elim (cases_Bool (test y)) [
  | inl yes_ ↦ let same : ◌≡◌ {A = Option _} (Some y) (Some x) = sym (cond-true (test y) (Some y) (find test ys) yes_) ∙ e in let it : y ≡ x = cc in subst P it h.0
  | inr no_ ↦ found_holds P test ys x h.1 (sym (cond-false (test y) (Some y) (find test ys) no_) ∙ e)
]

-- where nothing is found nothing passes
pub none_passes : {X : Type 0} (test : X → Bool) (xs : List X) → find test xs ≡ None → list_any test xs ≡ false
none_passes test [] e = refl
none_passes test (y ∷ ys) e = elim (cases_Bool (test y)) [
  | inl h ↦ let clash : ◌≡◌ {A = Option _} (Some y) None = sym (cond-true (test y) (Some y) (find test ys) h) ∙ e in absurd cc
  | inr h ↦ or_from (test y) (list_any test ys) h (none_passes test ys (sym (cond-false (test y) (Some y) (find test ys) h) ∙ e))
]

-- where none passes nothing is found
pub none_found : {X : Type 0} (test : X → Bool) (xs : List X) → Each (λ x. test x ≡ false) xs → find test xs ≡ None
none_found test [] h = refl
none_found test (y ∷ ys) h = cond-false (test y) (Some y) (find test ys) h.0 ∙ none_found test ys h.1

-- where one passes something is found
pub some_found : {X : Type 0} (test : X → Bool) (xs : List X) → list_any test xs ≡ true → (x : X) × (find test xs ≡ Some x)
some_found test [] h = absurd cc
some_found test (y ∷ ys) h = elim (cases_Bool (test y)) [
  | inl yes_ ↦ (y, cond-true (test y) (Some y) (find test ys) yes_)
  | inr no_ ↦ let rest = some_found test ys (subst (λ (b : Bool). (b || list_any test ys) ≡ true) no_ h) in (rest.0, cond-false (test y) (Some y) (find test ys) no_ ∙ rest.1)
]

range_below : (a n top : ℕ) → a + n ≤ top → Each (λ (x : ℕ). x < top) (range_with_len a n)
range_below a zero top h = tt
range_below a (suc n) top h = (omega arith, range_below (a + 1) n top (omega arith))

pub squares_below : Each (λ (x : ℕ). x < 64) squares
squares_below = range_below 0 64 64 (omega arith)

each_weaker : {X : Type 0} (P Q : X → Type 0) → ((x : X) → P x → Q x) → (xs : List X) → Each P xs → Each Q xs
each_weaker P Q f [] h = tt
each_weaker P Q f (x ∷ xs) h = (f x h.0, each_weaker P Q f xs h.1)

each_append : {X : Type 0} (P : X → Type 0) (xs ys : List X) → Each P xs → Each P ys → Each P (xs ++ ys)
each_append P [] ys h g = g
each_append P (x ∷ xs) ys h g = (h.0, each_append P xs ys h.1 g)

each_flat : {X Y : Type 0} (P : Y → Type 0) (f : X → List Y) (xs : List X) → Each (λ x. Each P (f x)) xs → Each P (flat_map f xs)
each_flat P f [] h = tt
each_flat P f (x ∷ xs) h = each_append P (f x) (flat_map f xs) h.0 (each_flat P f xs h.1)

any_flat : {X Y : Type 0} (test : Y → Bool) (f : X → List Y) (xs : List X) → list_any test (flat_map f xs) ≡ list_any (λ x. list_any test (f x)) xs
any_flat test f [] = refl
any_flat test f (x ∷ xs) = list_any-append test (f x) (flat_map f xs) ∙ ap (λ (b : Bool). list_any test (f x) || b) (any_flat test f xs)

-- each of all moves is a move
between_are : (a b : ℕ) → a < 64 → b < 64 → Each IsMove (moves_between a b)
between_are a b h g =
    let it : (k : Option Kind) → IsTrue (can_be_promo k) → IsMove (move_of a b k) = λ k can. record { from = h; to = g; promo = can } in
    (it None refl, (it (Some Queen) refl, (it (Some Rook) refl, (it (Some Bishop) refl, (it (Some Knight) refl, tt)))))

from_are : (a : ℕ) → a < 64 → Each IsMove (moves_from a)
unfolding moves_from
from_are a h = each_flat IsMove (moves_between a) squares (each_weaker (λ (b : ℕ). b < 64) (λ b. Each IsMove (moves_between a b)) (λ b. between_are a b h) squares squares_below)

pub all_are : Each IsMove all_moves
unfolding all_moves
all_are = each_flat IsMove moves_from squares (each_weaker (λ (a : ℕ). a < 64) (λ a. Each IsMove (moves_from a)) from_are squares squares_below)

-- each move is one of all moves
-- behind one promotion, the rest
abbrev any_of_these : (MoveWord → Bool) → ℕ → ℕ → List (Option Kind) → Bool
any_of_these test a b ks = list_any test (map (move_of a b) ks)

here : (test : MoveWord → Bool) (a b : ℕ) (k : Option Kind) (ks : List (Option Kind)) → test (move_of a b k) ≡ true → any_of_these test a b (k ∷ ks) ≡ true
here test a b k ks h = or_left (test (move_of a b k)) (any_of_these test a b ks) h

behind : (test : MoveWord → Bool) (a b : ℕ) (k : Option Kind) (ks : List (Option Kind)) → any_of_these test a b ks ≡ true → any_of_these test a b (k ∷ ks) ≡ true
behind test a b k ks h = or_right (test (move_of a b k)) (any_of_these test a b ks) h

any_between : (test : MoveWord → Bool) (a b : ℕ) (k : Option Kind) → IsTrue (can_be_promo k) → test (move_of a b k) ≡ true → any_of_these test a b promos ≡ true
any_between test a b None can h = here test a b None (Some Queen ∷ Some Rook ∷ Some Bishop ∷ Some Knight ∷ []) h
any_between test a b (Some Queen) can h = behind test a b None (Some Queen ∷ Some Rook ∷ Some Bishop ∷ Some Knight ∷ []) (here test a b (Some Queen) (Some Rook ∷ Some Bishop ∷ Some Knight ∷ []) h)
any_between test a b (Some Rook) can h = behind test a b None (Some Queen ∷ Some Rook ∷ Some Bishop ∷ Some Knight ∷ []) (behind test a b (Some Queen) (Some Rook ∷ Some Bishop ∷ Some Knight ∷ []) (here test a b (Some Rook) (Some Bishop ∷ Some Knight ∷ []) h))
any_between test a b (Some Bishop) can h = behind test a b None (Some Queen ∷ Some Rook ∷ Some Bishop ∷ Some Knight ∷ []) (behind test a b (Some Queen) (Some Rook ∷ Some Bishop ∷ Some Knight ∷ []) (behind test a b (Some Rook) (Some Bishop ∷ Some Knight ∷ []) (here test a b (Some Bishop) (Some Knight ∷ []) h)))
any_between test a b (Some Knight) can h = behind test a b None (Some Queen ∷ Some Rook ∷ Some Bishop ∷ Some Knight ∷ []) (behind test a b (Some Queen) (Some Rook ∷ Some Bishop ∷ Some Knight ∷ []) (behind test a b (Some Rook) (Some Bishop ∷ Some Knight ∷ []) (behind test a b (Some Bishop) (Some Knight ∷ []) (here test a b (Some Knight) [] h))))
any_between test a b (Some Pawn) can h = cc
any_between test a b (Some King) can h = cc

any_from : (test : MoveWord → Bool) (a b : ℕ) → b < 64 → list_any test (moves_between a b) ≡ true → list_any test (moves_from a) ≡ true
unfolding moves_from
any_from test a b on h = any_flat test (moves_between a) squares ∙ some_square (λ (x : ℕ). list_any test (moves_between a x)) b on h

any_of_all : (test : MoveWord → Bool) (a : ℕ) → a < 64 → list_any test (moves_from a) ≡ true → list_any test all_moves ≡ true
unfolding all_moves
any_of_all test a on h = any_flat test moves_from squares ∙ some_square (λ (x : ℕ). list_any test (moves_from x)) a on h

-- a move that passes is found among all moves
pub some_move : (test : MoveWord → Bool) (m : MoveWord) → IsMove m → test m ≡ true → list_any test all_moves ≡ true
some_move test m w h = any_of_all test m.from w.from (any_from test m.from m.to w.to (any_between test m.from m.to m.promo w.promo h))
