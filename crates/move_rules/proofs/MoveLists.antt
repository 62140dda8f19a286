-- The lists of moves, square by square.
use Rattle.std.proofs.Common.{◌≡◌, ℕ, ◌+◌, List, [], ◌∷◌, ◌++◌, refl, arith, ap, sym, ◌∙◌, ◌<◌, ◌≤◌, zero, suc, inl, inr, append-nil, append_assoc, Bool, true, false, ◌&&◌, Option, None, Some, filter, nat_lt, lt-ltb}
use Rattle.std.proofs.lemmas.List.Elements.{filter-append}
use Rattle.std.proofs.lemmas.List.Concat.{flat_map-cons}
use Rattle.std.proofs.lemmas.List.Folds.{list_any-append}
use Rattle.std.proofs.lemmas.Bool.{false_from_ne_true, cases_Bool, and_left, and_right}
use Rattle.std.specs.List.{range_with_len, flat_map, list_any}
use Rattle.board.specs.declared.piece.Kind.{Kind}
use Rattle.board.specs.declared.piece.Kind.TheVariants.{Knight, Bishop, Rook, Queen}
use Rattle.board.specs.declared.piece.Piece.{Piece}
use Rattle.board.specs.declared.parts.Parts.{Parts}
use Rattle.board.specs.Moves.{MoveWord, IsMove}
use Rattle.board.specs.Attack.{piece_on}
use Rattle.board.specs.Cells.{is_of}
use Rattle.board.specs.Sets.{has, IsSetOf}
use Rattle.board.proofs.RangeTests.{any_same}
use Rattle.bitboards.specs.Squares.{squares_in}
use Rattle.bitboards.proofs.Strikers.{any_filtered, nothing_in}
use Rattle.board.specs.Reach.{reaches, cell_reaches}
use Rattle.move_rules.specs.Legal.{is_move, is_promotion, names_promo, leaves_king_safe, legal}
use Rattle.move_rules.specs.Lists.{move_of, moves_between, moves_from, all_moves, legal_moves, has_legal_move, squares}

-- where a piece goes, promotion and king decide
pub is_move_is : (m : MoveWord) → IsMove m → is_move m ≡ true
unfolding is_move
is_move_is m word = rw (lt-ltb m.from 64 word.from, lt-ltb m.to 64 word.to, word.promo) refl

pub legal_where_reached : (p : Parts) (m : MoveWord) → IsMove m → reaches p m.from m.to ≡ true → legal p m ≡ (names_promo p m && leaves_king_safe p m)
unfolding legal
legal_where_reached p m word h = rw (is_move_is m word, h) refl

-- one move, kept or dropped
pub keeps_legal : (p : Parts) (m : MoveWord) → legal p m ≡ true → filter (legal p) (m ∷ []) ≡ m ∷ []
keeps_legal p m h = rw h refl

pub drops_illegal : (p : Parts) (m : MoveWord) → legal p m ≡ false → filter (legal p) (m ∷ []) ≡ []
drops_illegal p m h = rw h refl

-- a list of five is filtered item by item
filter-five : (f : MoveWord → Bool) (a b c d e : MoveWord) → filter f (a ∷ b ∷ c ∷ d ∷ e ∷ []) ≡ filter f (a ∷ []) ++ filter f (b ∷ []) ++ filter f (c ∷ []) ++ filter f (d ∷ []) ++ filter f (e ∷ [])
filter-five f a b c d e =
    let more = λ (xs : List MoveWord) (y : MoveWord) (zs : List MoveWord) (h : filter f xs ≡ zs). filter-append f xs (y ∷ []) ∙ ap (λ ms. ms ++ filter f (y ∷ [])) h in
    more (a ∷ b ∷ c ∷ d ∷ []) e _ (more (a ∷ b ∷ c ∷ []) d _ (more (a ∷ b ∷ []) c _ (more (a ∷ []) b _ refl)))

-- the legal moves from a to b, promotion by promotion
pub between_parts : (p : Parts) (a b : ℕ) → filter (legal p) (moves_between a b) ≡ filter (legal p) (move_of a b None ∷ []) ++ filter (legal p) (move_of a b (Some Queen) ∷ []) ++ filter (legal p) (move_of a b (Some Rook) ∷ []) ++ filter (legal p) (move_of a b (Some Bishop) ∷ []) ++ filter (legal p) (move_of a b (Some Knight) ∷ [])
between_parts p a b = filter-five (legal p) (move_of a b None) (move_of a b (Some Queen)) (move_of a b (Some Rook)) (move_of a b (Some Bishop)) (move_of a b (Some Knight))

-- no move is legal where no piece goes
pub illegal_unless_reached : (p : Parts) (m : MoveWord) → reaches p m.from m.to ≡ false → legal p m ≡ false
unfolding legal
illegal_unless_reached p m h = and_left _ _ (and_left _ _ (and_right (is_move m) (reaches p m.from m.to) h))

pub none_between : (p : Parts) (a b : ℕ) → reaches p a b ≡ false → filter (legal p) (moves_between a b) ≡ []
none_between p a b h =
    let no = λ (k : Option Kind). illegal_unless_reached p (move_of a b k) h in
    rw (no _, no _, no _, no _, no _)

-- a square with no piece of the side to move is left by none
unreached : (p : Parts) (a b : ℕ) (cell : Option Piece) → is_of p.turn cell ≡ false → cell_reaches p a b cell ≡ false
unreached p a b None h = refl
unreached p a b (Some piece) h = rw h refl

pub unreached_from : (p : Parts) (a b : ℕ) → is_of p.turn (piece_on p.cells a) ≡ false → reaches p a b ≡ false
unfolding reaches
unreached_from p a b h = unreached p a b (piece_on p.cells a) h

filter-flat_map_none : {A : Type 0} (f : A → Bool) (g : ℕ → List A) → ((x : ℕ) → filter f (g x) ≡ []) → (xs : List ℕ) → filter f (flat_map g xs) ≡ []
filter-flat_map_none f g none [] = refl
filter-flat_map_none f g none (x ∷ xs) = rw (flat_map-cons, filter-append, none x) (filter-flat_map_none f g none xs)

-- so the moves from it add nothing
pub none_from : (p : Parts) (a : ℕ) → is_of p.turn (piece_on p.cells a) ≡ false → filter (legal p) (moves_from a) ≡ []
unfolding moves_from
none_from p a h = filter-flat_map_none (legal p) (moves_between a) (λ b. none_between p a b (unreached_from p a b h)) squares

filtered_first : {A : Type 0} (f : A → Bool) (g : ℕ → List A) (x : ℕ) (xs : List ℕ) → filter f (flat_map g (x ∷ xs)) ≡ filter f (g x) ++ filter f (flat_map g xs)
filtered_first f g x xs = rw flat_map-cons (filter-append f (g x) (flat_map g xs))

-- squares that add nothing may be left out
unlisted : {A : Type 0} (f : A → Bool) (g : ℕ → List A) (p : ℕ → Bool) (a n : ℕ) → ((x : ℕ) → a ≤ x → x < a + n → p x ≡ false → filter f (g x) ≡ []) → filter f (flat_map g (filter p (range_with_len a n))) ≡ filter f (flat_map g (range_with_len a n))
unlisted f g p a zero none = refl
unlisted f g p a (suc n) none =
    let xs = range_with_len (a + 1) n in
    let rest = unlisted f g p (a + 1) n (λ x low high. none x (omega arith) (omega arith)) in
    elim (cases_Bool (p a)) [
      | inl kept ↦ rw kept (filtered_first f g a (filter p xs) ∙ ap (λ zs. filter f (g a) ++ zs) rest ∙ sym (filtered_first f g a xs))
      | inr gone ↦ rw gone (rest ∙ sym (filtered_first f g a xs ∙ ap (λ zs. zs ++ filter f (flat_map g xs)) (none a (omega arith) (omega arith) gone)))
    ]

-- the legal moves among those from the squares of a set
unfoldable pub legal_among : Parts → (ℕ → List MoveWord) → List ℕ → List MoveWord
legal_among p f xs = filter (legal p) (flat_map f xs)

pub among_first : (p : Parts) (f : ℕ → List MoveWord) (x : ℕ) (xs ys : List ℕ) → ys ≡ x ∷ xs → legal_among p f ys ≡ filter (legal p) (f x) ++ legal_among p f xs
unfolding legal_among
among_first p f x xs ys e = ap (λ zs. filter (legal p) (flat_map f zs)) e ∙ rw flat_map-cons (filter-append (legal p) (f x) (flat_map f xs))

-- one square more is listed
pub listed_more : (p : Parts) (f : ℕ → List MoveWord) (x : ℕ) (xs ys : List ℕ) (before after whole : List MoveWord) → ys ≡ x ∷ xs → before ++ legal_among p f ys ≡ whole → after ≡ before ++ filter (legal p) (f x) → after ++ legal_among p f xs ≡ whole
listed_more p f x xs ys before after whole first so_far step =
    ap (λ ms. ms ++ legal_among p f xs) step
    ∙ append_assoc before (filter (legal p) (f x)) (legal_among p f xs)
    ∙ ap (λ ms. before ++ ms) (sym (among_first p f x xs ys first))
    ∙ so_far

-- none is left
pub listed_all : (p : Parts) (f : ℕ → List MoveWord) (set : ℕ) (ms whole : List MoveWord) → set ≡ 0 → ms ++ legal_among p f (squares_in set) ≡ whole → ms ≡ whole
unfolding legal_among
listed_all p f set ms whole none h =
    sym (append-nil ms) ∙ ap (λ xs. ms ++ filter (legal p) (flat_map f xs)) (sym (ap squares_in none ∙ nothing_in)) ∙ h

-- what is listed from the targets of a square is listed from all squares
pub targets_listed : (p : Parts) (a set : ℕ) → IsSetOf set (reaches p a) → legal_among p (moves_between a) (squares_in set) ≡ filter (legal p) (moves_from a)
unfolding legal_among moves_from squares_in
targets_listed p a set is = unlisted (legal p) (moves_between a) (has set) 0 64 (λ b low on gone. none_between p a b (sym (is b on) ∙ gone))

pub own_listed : (p : Parts) (set : ℕ) → IsSetOf set (λ s. is_of p.turn (piece_on p.cells s)) → legal_among p moves_from (squares_in set) ≡ legal_moves p
unfolding legal_among all_moves squares_in
own_listed p set is = unlisted (legal p) moves_from (has set) 0 64 (λ a low on gone. none_from p a (sym (is a on) ∙ gone))

-- where nothing is promoted, only the move that names nothing can be legal, and the king decides
pub legal_where_plain : (p : Parts) (m : MoveWord) → IsMove m → reaches p m.from m.to ≡ true → is_promotion p m ≡ false → m.promo ≡ None → legal p m ≡ leaves_king_safe p m
unfolding legal names_promo
legal_where_plain p m word h plain none = rw (is_move_is m word, h, plain, none) refl

named_illegal : (p : Parts) (a b : ℕ) (k : Kind) → is_promotion p (move_of a b None) ≡ false → legal p (move_of a b (Some k)) ≡ false
unfolding legal names_promo
named_illegal p a b k plain = rw plain (and_left _ _ (and_right (is_move (move_of a b (Some k)) && reaches p a b) false refl))

pub plain_between : (p : Parts) (a b : ℕ) → is_promotion p (move_of a b None) ≡ false → filter (legal p) (moves_between a b) ≡ filter (legal p) (move_of a b None ∷ [])
plain_between p a b plain =
    let no = λ (k : Kind). drops_illegal p (move_of a b (Some k)) (named_illegal p a b k plain) in
    between_parts p a b ∙ rw (no Queen, no Rook, no Bishop, no Knight) (append-nil _ ∙ append-nil _ ∙ append-nil _ ∙ append-nil _)

-- a test of the items of lists one after another
any_of_lists : {A : Type 0} (f : A → Bool) (g : ℕ → List A) (xs : List ℕ) → list_any f (flat_map g xs) ≡ list_any (λ x. list_any f (g x)) xs
any_of_lists f g [] = refl
any_of_lists f g (x ∷ xs) = rw (flat_map-cons, list_any-append, any_of_lists f g xs)

-- where no move is listed, none is legal
any_unless_listed : (f : MoveWord → Bool) (ms : List MoveWord) → filter f ms ≡ [] → list_any f ms ≡ false
any_unless_listed f [] h = refl
any_unless_listed f (m ∷ ms) h =
    let cons_case : f m ≡ true → ⊥ = λ e. let z = rw e at h in cc in
    let no : f m ≡ false = false_from_ne_true (f m) cons_case in
    rw no (any_unless_listed f ms (rw no at h))

pub any_between_none : (p : Parts) (a b : ℕ) → reaches p a b ≡ false → list_any (legal p) (moves_between a b) ≡ false
any_between_none p a b h = any_unless_listed (legal p) (moves_between a b) (none_between p a b h)

pub any_from_none : (p : Parts) (a : ℕ) → is_of p.turn (piece_on p.cells a) ≡ false → list_any (legal p) (moves_from a) ≡ false
any_from_none p a h = any_unless_listed (legal p) (moves_from a) (none_from p a h)

-- some move from the targets of a square, or from the squares of the own pieces
pub any_left_out : (g : ℕ → Bool) (p : ℕ → Bool) → ((x : ℕ) → x < 64 → p x ≡ false → g x ≡ false) → list_any g (filter p (range_with_len 0 64)) ≡ list_any g (range_with_len 0 64)
any_left_out g p none =
    any_filtered p g (range_with_len 0 64)
    ∙ any_same (λ s. p s && g s) g 0 64 (λ x low on. elim (cases_Bool (p x)) [
      | inl kept ↦ rw kept refl
      | inr gone ↦ rw gone (sym (none x on gone))
    ])

pub any_from : (p : Parts) (a set : ℕ) → IsSetOf set (reaches p a) → list_any (λ b. list_any (legal p) (moves_between a b)) (squares_in set) ≡ list_any (legal p) (moves_from a)
unfolding moves_from squares_in
any_from p a set is =
    any_left_out (λ b. list_any (legal p) (moves_between a b)) (has set) (λ b on gone. any_between_none p a b (sym (is b on) ∙ gone))
    ∙ sym (any_of_lists (legal p) (moves_between a) (range_with_len 0 64))

pub any_of_all : (p : Parts) (set : ℕ) → IsSetOf set (λ s. is_of p.turn (piece_on p.cells s)) → list_any (λ a. list_any (legal p) (moves_from a)) (squares_in set) ≡ has_legal_move p
unfolding has_legal_move all_moves squares_in
any_of_all p set is =
    any_left_out (λ a. list_any (legal p) (moves_from a)) (has set) (λ a on gone. any_from_none p a (sym (is a on) ∙ gone))
    ∙ sym (any_of_lists (legal p) moves_from (range_with_len 0 64))

-- one square that passes settles it, one that misses may go
pub any_first : (g : ℕ → Bool) (x : ℕ) (xs ys : List ℕ) → ys ≡ x ∷ xs → g x ≡ false → list_any g xs ≡ list_any g ys
any_first g x xs ys e missed = sym (ap (list_any g) e ∙ rw missed refl)

pub any_over : (g : ℕ → Bool) (set : ℕ) → set ≡ 0 → false ≡ list_any g (squares_in set)
any_over g set none = sym (ap (λ n. list_any g (squares_in n)) none ∙ ap (list_any g) nothing_in)
