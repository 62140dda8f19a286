-- All moves that can be named stand in order, each once, and none is missing.
use Rattle.std.proofs.Common.{◌≡◌, ◌≢◌, ◌↔◌, ℕ, ◌+◌, ◌*◌, ◌<◌, ◌≤◌, List, [], ◌∷◌, refl, arith, ap, sym, subst, ◌∙◌, nat_lt, Bool, true, ◌&&◌, Option, None, Some, filter}
use Rattle.std.specs.List.{All, AllPairs, Contains, flat_map, list_any}
use Rattle.std.proofs.lemmas.Bool.{and_parts, ltb-true, cond_both}
use Rattle.std.proofs.lemmas.List.Elements.{All-nil, All-cons, All-weaker, All-append, All-contains, All-filter, All-head, All-tail, All-from_get_or, All-from_recursion, filter_passes, Contains-append_left, Contains-append_right}
use Rattle.std.proofs.lemmas.List.Kept.{AllPairs-cons, AllPairs-filter}
use Rattle.std.proofs.lemmas.List.Folds.{Any-from_list_any, list_any_at}
use Rattle.std.proofs.lemmas.List.FromFn.{length-range_with_len, get_or-range_with_len}
use Rattle.board.specs.declared.piece.Kind.{Kind}
use Rattle.board.specs.declared.piece.Kind.TheVariants.{Pawn, Knight, Bishop, Rook, Queen, King}
use Rattle.board.specs.declared.parts.Parts.{Parts}
use Rattle.board.specs.Moves.{MoveWord, IsMove, can_be_promo}
use Rattle.move_rules.specs.Legal.{legal}
use Rattle.move_rules.specs.Lists.{SomeMove, squares, move_of, moves_between, moves_from, all_moves, legal_moves}

-- the place of a promotion
abbrev promo_place : Option Kind → ℕ
promo_place None = 0
promo_place (Some Queen) = 1
promo_place (Some Rook) = 2
promo_place (Some Bishop) = 3
promo_place (Some Knight) = 4
promo_place (Some Pawn) = 5
promo_place (Some King) = 6

-- the place of a move among all moves, with gaps
abbrev place : MoveWord → ℕ
place m = 512 * m.from + 8 * m.to + promo_place m.promo

-- each move's place is above those before it
abbrev rises_from : ℕ → List MoveWord → Bool
rises_from n [] = true
rises_from n (m ∷ ms) = nat_lt n (place m + 1) && rises_from (place m + 1) ms

all_rise : rises_from 0 all_moves ≡ true
unfolding all_moves moves_from
all_rise = refl

above : (n : ℕ) (ms : List MoveWord) → rises_from n ms ≡ true → All (λ m. n ≤ place m) ms
above n [] h = All-nil (λ m. n ≤ place m)
above n (m ∷ ms) h =
    let t = and_parts (nat_lt n (place m + 1)) (rises_from (place m + 1) ms) h in
    let low : n < place m + 1 = ltb-true _ _ t.0 in
    All-cons (λ x. n ≤ place x) m ms (omega arith)
    (All-weaker (λ x. place m + 1 ≤ place x) (λ x. n ≤ place x) (λ x more. omega arith) ms (above (place m + 1) ms t.1))

each_once : (n : ℕ) (ms : List MoveWord) → rises_from n ms ≡ true → AllPairs (λ x y. x ≢ y) ms
each_once n [] h = λ i j d before inside. absurd (omega arith)
each_once n (m ∷ ms) h =
    let t = and_parts (nat_lt n (place m + 1)) (rises_from (place m + 1) ms) h in
    AllPairs-cons (λ x y. x ≢ y) m ms
    (All-weaker (λ x. place m + 1 ≤ place x) (λ x. m ≢ x) (λ x more e. let same = ap place e in omega arith) ms (above (place m + 1) ms t.1))
    (each_once (place m + 1) ms t.1)

-- no legal move is listed twice
pub legal_once : (p : Parts) → AllPairs (λ x y. x ≢ y) (legal_moves p)
legal_once p = AllPairs-filter (λ x y. x ≢ y) (legal p) all_moves (each_once 0 all_moves all_rise)

-- every square is listed
has_square : (s : ℕ) → s < 64 → Contains squares s
has_square s on = (s, omega (arith, length-range_with_len 0 64), get_or-range_with_len 0 64 s s on ∙ omega arith)

-- what one of the lists has, all of them one after another have
has_in_lists : (g : ℕ → List MoveWord) (m : MoveWord) (xs : List ℕ) → All (λ x. Contains (g x) m → Contains (flat_map g xs) m) xs
has_in_lists g m [] = All-nil (λ x. Contains (g x) m → Contains (flat_map g []) m)
has_in_lists g m (x ∷ xs) =
    All-cons (λ y. Contains (g y) m → Contains (flat_map g (x ∷ xs)) m) x xs
    (λ h. Contains-append_left (g x) (flat_map g xs) m h)
    (All-weaker (λ y. Contains (g y) m → Contains (flat_map g xs) m) (λ y. Contains (g y) m → Contains (flat_map g (x ∷ xs)) m) (λ y later h. Contains-append_right (g x) (flat_map g xs) m (later h)) xs (has_in_lists g m xs))

has_in_squares : (g : ℕ → List MoveWord) (m : MoveWord) (s : ℕ) → s < 64 → Contains (g s) m → Contains (flat_map g squares) m
has_in_squares g m s on h = All-contains (λ x. Contains (g x) m → Contains (flat_map g squares) m) squares s (has_in_lists g m squares) (has_square s on) h

has_between : (a b : ℕ) (k : Option Kind) → can_be_promo k ≡ true → Contains (moves_between a b) (move_of a b k)
has_between a b None h = (0, omega arith, refl)
has_between a b (Some Queen) h = (1, omega arith, refl)
has_between a b (Some Rook) h = (2, omega arith, refl)
has_between a b (Some Bishop) h = (3, omega arith, refl)
has_between a b (Some Knight) h = (4, omega arith, refl)
has_between a b (Some Pawn) h = cc
has_between a b (Some King) h = cc

has_from : (a b : ℕ) (k : Option Kind) → b < 64 → can_be_promo k ≡ true → Contains (moves_from a) (move_of a b k)
unfolding moves_from
has_from a b k b_on h = has_in_squares (moves_between a) (move_of a b k) b b_on (has_between a b k h)

-- every move is listed
pub has_move : (m : MoveWord) → IsMove m → Contains all_moves m
unfolding all_moves
has_move m word = has_in_squares moves_from m m.from word.from (has_from m.from m.to m.promo word.to word.promo)

-- what holds of each of the lists holds of all of them one after another
all_in_lists : (P : MoveWord → Type 0) (g : ℕ → List MoveWord) (xs : List ℕ) → All (λ x. All P (g x)) xs → All P (flat_map g xs)
all_in_lists P g [] h = All-nil P
all_in_lists P g (x ∷ xs) h =
    All-append P (g x) (flat_map g xs) (All-head (λ y. All P (g y)) x xs h) (all_in_lists P g xs (All-tail (λ y. All P (g y)) x xs h))

all_squares : (P : ℕ → Type 0) → ((s : ℕ) → s < 64 → P s) → All P squares
all_squares P each = All-from_get_or P squares 0 (λ i inside. let on : i < 64 = omega (arith, length-range_with_len 0 64) in subst P (sym (get_or-range_with_len 0 64 i 0 on ∙ omega arith)) (each i on))

words_between : (a b : ℕ) → a < 64 → b < 64 → All IsMove (moves_between a b)
words_between a b a_on b_on =
    let word = λ (k : Option Kind) (h : can_be_promo k ≡ true). let w : IsMove (move_of a b k) = record { from = a_on; to = b_on; promo = h } in w in
    All-from_recursion IsMove (moves_between a b) (word None refl, (word (Some Queen) refl, (word (Some Rook) refl, (word (Some Bishop) refl, (word (Some Knight) refl, tt)))))

words_from : (a : ℕ) → a < 64 → All IsMove (moves_from a)
unfolding moves_from
words_from a a_on = all_in_lists IsMove (moves_between a) squares (all_squares (λ b. All IsMove (moves_between a b)) (λ b b_on. words_between a b a_on b_on))

-- each item of the list is a move
pub all_words : All IsMove all_moves
unfolding all_moves
all_words = all_in_lists IsMove moves_from squares (all_squares (λ a. All IsMove (moves_from a)) words_from)

-- a filter keeps what passes
keeps_passing : (f : MoveWord → Bool) (ms : List MoveWord) → All (λ m. f m ≡ true → Contains (filter f ms) m) ms
keeps_passing f [] = All-nil (λ m. f m ≡ true → Contains (filter f []) m)
keeps_passing f (m ∷ ms) =
    All-cons (λ x. f x ≡ true → Contains (filter f (m ∷ ms)) x) m ms
    (λ h. rw h (0, omega arith, refl))
    (All-weaker (λ x. f x ≡ true → Contains (filter f ms) x) (λ x. f x ≡ true → Contains (filter f (m ∷ ms)) x)
    (λ x later h. cond_both (f m) (m ∷ filter f ms) (filter f ms) (λ xs. Contains xs x) (λ _. Contains-append_right (m ∷ []) (filter f ms) x (later h)) (λ _. later h))
    ms (keeps_passing f ms))

-- the listed moves are the legal ones
pub legal_exactly : (p : Parts) (m : MoveWord) → Contains (legal_moves p) m ↔ (IsMove m × (legal p m ≡ true))
legal_exactly p m = (
  λ listed. (
    All-contains IsMove (legal_moves p) m (All-filter (legal p) IsMove all_moves all_words) listed,
    All-contains (λ x. legal p x ≡ true) (legal_moves p) m (filter_passes (legal p) all_moves) listed,
  ),
  λ h. All-contains (λ x. legal p x ≡ true → Contains (legal_moves p) x) all_moves m (keeps_passing (legal p) all_moves) (has_move m h.0) h.1,
)

-- some listed move passes exactly where some move does
pub some_move : (f : MoveWord → Bool) → (list_any f all_moves ≡ true) ↔ SomeMove (λ m. f m ≡ true)
some_move f = (
  λ h. let t = Any-from_list_any f all_moves h in (t.1, All-contains IsMove all_moves t.1 all_words (t.0, t.2, t.3), t.4),
  λ t. let at = has_move t.0 t.1 in list_any_at f all_moves at.0 t.0 at.1 (ap f at.2 ∙ t.2),
)
