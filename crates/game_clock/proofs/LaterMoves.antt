-- One move more: which moves are a side's from its second on, and how long they were thought over.
use Rattle.std.proofs.Common.{◌≡◌, ℕ, zero, suc, ◌+◌, ◌-◌, ◌<◌, ◌≤◌, List, [], ◌∷◌, ◌++◌, length, get_or, sum_by, cond, Bool, true, false, filter, refl, sym, ap, ◌∙◌, arith, length-append, zero-add}
use Rattle.std.specs.List.{range_with_len}
use Rattle.std.proofs.lemmas.List.{get_or_append_left, get_or_push}
use Rattle.std.proofs.lemmas.List.Elements.{filter-append}
use Rattle.std.proofs.lemmas.List.Sums.{sum_by-append}
use Rattle.board.specs.declared.piece.Colour.{Colour}
use Rattle.game_clock.specs.ClockEvents.{is_later_move, later_moves, thinking_time, turn_start}

range_with_len_more : (a n : ℕ) → range_with_len a (suc n) ≡ range_with_len a n ++ (a + n) ∷ []
range_with_len_more a zero = ap (λ k. k ∷ []) (omega arith)
range_with_len_more a (suc n) =
    let rest : range_with_len (a + 1) (suc n) ≡ range_with_len (a + 1) n ++ ((a + 1) + n) ∷ [] = range_with_len_more (a + 1) n in
    let place : (a + 1) + n ≡ a + suc n = omega arith in
    ap (λ r. a ∷ r) (rest ∙ ap (λ k. range_with_len (a + 1) n ++ k ∷ []) place)

-- the number of one move more, if it is a later one of the side's
abbrev pub more : Bool → ℕ → List ℕ
more is n = cond is (n ∷ []) []

filter_one : (p : ℕ → Bool) (n : ℕ) → filter p (n ∷ []) ≡ more (p n) n
filter_one p n = refl

pub later_moves_more : (side : Colour) (n : ℕ) → later_moves side (suc n) ≡ later_moves side n ++ more (is_later_move side n) n
unfolding later_moves
later_moves_more side n =
    ap (filter (is_later_move side)) (range_with_len_more 0 n)
    ∙ (filter-append (is_later_move side) (range_with_len 0 n) ((0 + n) ∷ []) ∙ ap (λ k. filter (is_later_move side) (range_with_len 0 n) ++ filter (is_later_move side) (k ∷ [])) (omega arith))

pub later_moves_none : (side : Colour) → later_moves side 0 ≡ []
unfolding later_moves
later_moves_none side = refl

sum_more : (f : ℕ → ℕ) (is : Bool) (n : ℕ) → sum_by f (more is n) ≡ cond is (f n) 0
sum_more f true n = zero-add (f n)
sum_more f false n = refl

-- a sum over later moves, with one move more
pub sum_later_more : (f : ℕ → ℕ) (side : Colour) (n : ℕ) → sum_by f (later_moves side (suc n)) ≡ sum_by f (later_moves side n) + cond (is_later_move side n) (f n) 0
sum_later_more f side n =
    ap (sum_by f) (later_moves_more side n)
    ∙ (sum_by-append f (later_moves side n) (more (is_later_move side n) n) ∙ ap (λ k. sum_by f (later_moves side n) + k) (sum_more f (is_later_move side n) n))

-- what is the same of each of the moves has the same sum over the later ones
pub sum_later_same : (f g : ℕ → ℕ) (side : Colour) (n : ℕ) → ((k : ℕ) → k < n → f k ≡ g k) → sum_by f (later_moves side n) ≡ sum_by g (later_moves side n)
sum_later_same f g side zero same = ap (sum_by f) (later_moves_none side) ∙ sym (ap (sum_by g) (later_moves_none side))
sum_later_same f g side (suc n) same =
    let before : sum_by f (later_moves side n) ≡ sum_by g (later_moves side n) = sum_later_same f g side n (λ k lt. same k (omega arith)) in
    let here : f n ≡ g n = same n (omega arith) in
    sum_later_more f side n ∙ ((λ i. before i + cond (is_later_move side n) (here i) 0) ∙ sym (sum_later_more g side n))

length_more : (is : Bool) (n : ℕ) → length (more is n) ≡ cond is 1 0
length_more true n = refl
length_more false n = refl

pub length-later_moves_more : (side : Colour) (n : ℕ) → length (later_moves side (suc n)) ≡ length (later_moves side n) + cond (is_later_move side n) 1 0
length-later_moves_more side n =
    ap length (later_moves_more side n)
    ∙ (length-append (later_moves side n) (more (is_later_move side n) n) ∙ ap (λ k. length (later_moves side n) + k) (length_more (is_later_move side n) n))

get_or-any_default : (xs : List ℕ) (i d e : ℕ) → i < length xs → get_or xs i d ≡ get_or xs i e
get_or-any_default [] i d e lt = absurd (omega arith)
get_or-any_default (x ∷ xs) zero d e lt = refl
get_or-any_default (x ∷ xs) (suc i) d e lt = get_or-any_default xs i d e (omega arith)

-- one move more leaves the thinking times of those before it
pub thinking_time-push : (stamps : List ℕ) (t k : ℕ) → k < length stamps → thinking_time (stamps ++ t ∷ []) k ≡ thinking_time stamps k
unfolding thinking_time
thinking_time-push stamps t k lt = λ i. get_or_append_left stamps (t ∷ []) 0 k lt i - get_or_append_left stamps (t ∷ []) 0 (k - 1) (omega arith) i

-- and is thought over from the beginning of its turn on
pub thinking_time_last : (stamps : List ℕ) (start t : ℕ) → 1 ≤ length stamps → thinking_time (stamps ++ t ∷ []) (length stamps) ≡ t - turn_start start stamps
unfolding thinking_time turn_start
thinking_time_last stamps start t some =
    let new : get_or (stamps ++ t ∷ []) (length stamps) 0 ≡ t = get_or_push stamps t 0 (length stamps) refl in
    let old : get_or (stamps ++ t ∷ []) (length stamps - 1) 0 ≡ get_or stamps (length stamps - 1) start = get_or_append_left stamps (t ∷ []) 0 (length stamps - 1) (omega arith) ∙ get_or-any_default stamps (length stamps - 1) 0 start (omega arith) in
    λ i. new i - old i

-- the next turn begins with the move
pub turn_start-push : (start : ℕ) (stamps : List ℕ) (t : ℕ) → turn_start start (stamps ++ t ∷ []) ≡ t
unfolding turn_start
turn_start-push start stamps t =
    let at : length (stamps ++ t ∷ []) - 1 ≡ length stamps = omega (arith, length-append stamps (t ∷ [])) in
    ap (λ k. get_or (stamps ++ t ∷ []) k start) at ∙ get_or_push stamps t start (length stamps) refl
