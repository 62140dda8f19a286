-- One game more: what the games before it are worth stays, and it is worth what looking back from it says.
use Rattle.std.proofs.Common.{◌≡◌, ℕ, zero, suc, ◌+◌, ◌<◌, List, [], ◌∷◌, ◌++◌, length, take, sum_by, refl, sym, ap, ◌∙◌, arith, Some, length-append}
use Rattle.std.specs.Prelude.{slice_get}
use Rattle.std.specs.List.{range_with_len}
use Rattle.std.proofs.lemmas.List.{take-append-le, reverse-append}
use Rattle.std.proofs.lemmas.List.Sums.{sum_by-cons}
use Rattle.sheet.specs.Worth.{Played, worth, worth_of, worth_after, looking_back, points}

slice_get-append_left : {X : Type 0} (xs ys : List X) (i : ℕ) → i < length xs → slice_get (xs ++ ys) i ≡ slice_get xs i
slice_get-append_left [] ys i lt = absurd (omega arith)
slice_get-append_left (x ∷ xs) ys zero lt = refl
slice_get-append_left (x ∷ xs) ys (suc i) lt = slice_get-append_left xs ys i (omega arith)

slice_get-append_seam : {X : Type 0} (xs : List X) (x : X) → slice_get (xs ++ x ∷ []) (length xs) ≡ Some x
slice_get-append_seam [] x = refl
slice_get-append_seam (y ∷ ys) x = slice_get-append_seam ys x

pub worth-append : (l : List Played) (g : Played) (i : ℕ) → i < length l → worth (l ++ g ∷ []) i ≡ worth l i
unfolding worth
worth-append l g i lt =
    let before : take i (l ++ g ∷ []) ≡ take i l = take-append-le i l (g ∷ []) (omega arith) in
    let game : slice_get (l ++ g ∷ []) i ≡ slice_get l i = slice_get-append_left l (g ∷ []) i lt in
    λ k. worth_of (looking_back (before k)) (game k)

take-all_before : (l : List Played) (g : Played) → take (length l) (l ++ g ∷ []) ≡ l
take-all_before [] g = refl
take-all_before (x ∷ xs) g = ap (λ t. x ∷ t) (take-all_before xs g)

pub worth_last : (l : List Played) (g : Played) → worth (l ++ g ∷ []) (length l) ≡ worth_after (looking_back l) g
unfolding worth
worth_last l g = λ k. worth_of (looking_back (take-all_before l g k)) (slice_get-append_seam l g k)

sum_same : (f h : ℕ → ℕ) (a n : ℕ) → ((i : ℕ) → i < a + n → f i ≡ h i) → sum_by f (range_with_len a n) ≡ sum_by h (range_with_len a n)
sum_same f h a zero same = refl
sum_same f h a (suc n) same =
    let here : f a ≡ h a = same a (omega arith) in
    let rest : sum_by f (range_with_len (a + 1) n) ≡ sum_by h (range_with_len (a + 1) n) = sum_same f h (a + 1) n (λ i lt. same i (omega arith)) in
    let both : f a + sum_by f (range_with_len (a + 1) n) ≡ h a + sum_by h (range_with_len (a + 1) n) = λ k. here k + rest k in
    sum_by-cons f a (range_with_len (a + 1) n) ∙ (both ∙ sym (sum_by-cons h a (range_with_len (a + 1) n)))

sum_more : (f : ℕ → ℕ) (a n : ℕ) → sum_by f (range_with_len a (suc n)) ≡ sum_by f (range_with_len a n) + f (a + n)
sum_more f a zero = let place : f (a + 0) ≡ f a = ap f (omega arith) in sum_by-cons f a [] ∙ omega arith
sum_more f a (suc n) =
    let rest : sum_by f (range_with_len (a + 1) (suc n)) ≡ sum_by f (range_with_len (a + 1) n) + f ((a + 1) + n) = sum_more f (a + 1) n in
    let place : f ((a + 1) + n) ≡ f (a + suc n) = ap f (omega arith) in
    let before : sum_by f (range_with_len a (suc n)) ≡ f a + sum_by f (range_with_len (a + 1) n) = sum_by-cons f a (range_with_len (a + 1) n) in
    sum_by-cons f a (range_with_len (a + 1) (suc n)) ∙ omega (arith, rest, place, before)

pub points-append : (l : List Played) (g : Played) → points (l ++ g ∷ []) ≡ points l + worth_after (looking_back l) g
unfolding points
points-append l g =
    let f : ℕ → ℕ = worth (l ++ g ∷ []) in
    let longer : length (l ++ g ∷ []) ≡ suc (length l) = length-append l (g ∷ []) ∙ omega arith in
    let same : sum_by f (range_with_len 0 (length l)) ≡ points l = sum_same f (worth l) 0 (length l) (λ i lt. worth-append l g i (omega arith)) in
    let last : f (0 + length l) ≡ worth_after (looking_back l) g = ap f (omega arith) ∙ worth_last l g in
    ap (λ n. sum_by f (range_with_len 0 n)) longer ∙ (sum_more f 0 (length l) ∙ (λ k. same k + last k))

pub looking_back-append : (l : List Played) (g : Played) → looking_back (l ++ g ∷ []) ≡ g ∷ looking_back l
looking_back-append l g = reverse-append l (g ∷ [])
