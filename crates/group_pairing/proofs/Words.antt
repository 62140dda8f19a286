-- The lists of a group are its partner lists, all of them.
use Rattle.std.proofs.Common.{◌≡◌, ℕ, zero, suc, ◌+◌, ◌<◌, ◌≤◌, ◌⊎◌, inl, inr, ⊎_elim, Bool, true, false, IsTrue, List, [], ◌∷◌, ◌++◌, length, slice_index, map, refl, sym, ◌∙◌, ap, subst, arith, zero-add}
use Rattle.std.specs.Prelude.{cond, filter}
use Rattle.std.specs.List.{range_with_len, flat_map}
use Rattle.std.proofs.lemmas.Bool.{cases_Bool}
use Rattle.pair_cost.specs.declared.candidate.Candidate.{Candidate}
use Rattle.pair_cost.specs.declared.candidate.Frame.{Frame}
use Rattle.group_pairing.specs.Lists.{words, lists, is_partner_list}
use Rattle.group_pairing.proofs.Places.{Met, paired_from}

-- x is one of the items
abbrev pub Among : {X : Type 0} → X → List X → Type 0
Among x [] = ⊥
Among {X} x (y ∷ ys) = (◌≡◌ {A = X} y x) ⊎ Among x ys

among_left : {X : Type 0} (x : X) (xs ys : List X) → Among x xs → Among x (xs ++ ys)
among_left x [] ys h = absurd h
among_left x (y ∷ xs) ys h = ⊎_elim (λ here. inl here) (λ later. inr (among_left x xs ys later)) h

among_right : {X : Type 0} (x : X) (xs ys : List X) → Among x ys → Among x (xs ++ ys)
among_right x [] ys h = h
among_right x (y ∷ xs) ys h = inr (among_right x xs ys h)

among_flat_map : {X Y : Type 0} (f : X → List Y) (xs : List X) (x : X) (y : Y) → Among x xs → Among y (f x) → Among y (flat_map f xs)
among_flat_map f [] x y h k = absurd h
among_flat_map {X} {Y} f (z ∷ xs) x y h k =
    ⊎_elim
    (λ (here : ◌≡◌ {A = X} z x). among_left y (f z) (flat_map f xs) (subst (λ (w : X). Among y (f w)) (sym here) k))
    (λ later. among_right y (f z) (flat_map f xs) (among_flat_map f xs x y later k))
    h

among_map : {X Y : Type 0} (f : X → Y) (xs : List X) (x : X) → Among x xs → Among (f x) (map f xs)
among_map f [] x h = absurd h
among_map f (y ∷ xs) x h = ⊎_elim (λ here. inl (ap f here)) (λ later. inr (among_map f xs x later)) h

among_range : (a n i : ℕ) → i < n → Among (a + i) (range_with_len a n)
among_range a zero i inside = absurd (omega arith)
among_range a (suc n) zero inside = inl (omega arith)
among_range a (suc n) (suc i) inside =
    let step : (a + 1) + i ≡ a + suc i = omega arith in
    inr (subst (λ j. Among j (range_with_len (a + 1) n)) step (among_range (a + 1) n i (omega arith)))

among_filter : {X : Type 0} (p : X → Bool) (xs : List X) (x : X) → Among x xs → p x ≡ true → Among x (filter p xs)
among_filter p [] x h passes = absurd h
among_filter {X} p (y ∷ xs) x h passes =
    ⊎_elim
    (λ (here : ◌≡◌ {A = X} y x).
    let yes : p y ≡ true = ap p here ∙ passes in
    subst (λ b. Among x (cond b (y ∷ filter p xs) (filter p xs))) (sym yes) (inl here))
    (λ later.
    let rest = among_filter p xs x later passes in
    elim (p y) as (λ b. Among x (cond b (y ∷ filter p xs) (filter p xs))) [ true ↦ inr rest | false ↦ rest ])
    h

pub passes_among : {X : Type 0} (p : X → Bool) (xs : List X) (x : X) → Among x (filter p xs) → p x ≡ true
passes_among p [] x h = absurd h
passes_among {X} p (y ∷ xs) x h =
    ⊎_elim
    (λ (yes : p y ≡ true).
    let split : Among x (y ∷ filter p xs) = subst (λ b. Among x (cond b (y ∷ filter p xs) (filter p xs))) yes h in
    ⊎_elim (λ (here : ◌≡◌ {A = X} y x). sym (ap p here) ∙ yes) (λ later. passes_among p xs x later) split)
    (λ (no_ : p y ≡ false).
    passes_among p xs x (subst (λ b. Among x (cond b (y ∷ filter p xs) (filter p xs))) no_ h))
    (cases_Bool (p y))

word_among : (n : ℕ) (xs : List ℕ) → length xs ≡ n → ((i : ℕ) → i < n → slice_index xs i < 15) → Among xs (words n)
unfolding words
word_among zero [] size low = inl refl
word_among zero (x ∷ xs) size low = absurd (omega arith)
word_among (suc n) [] size low = absurd (omega arith)
word_among (suc n) (x ∷ xs) size low =
    let rest : Among xs (words n) = word_among n xs (omega arith) (λ i inside. low (suc i) (omega arith)) in
    let head : x < 15 = low 0 (omega arith) in
    among_flat_map (λ j. map (λ word. j ∷ word) (words n)) (range_with_len 0 15) x (x ∷ xs)
    (subst (λ j. Among j (range_with_len 0 15)) (zero-add x) (among_range 0 15 x head))
    (among_map (λ word. x ∷ word) (words n) xs rest)

pub list_among : (rows : List Candidate) (frame : Frame) (to : List ℕ) → length rows ≤ 14 → IsTrue (is_partner_list rows frame to) → Among to (lists rows frame)
unfolding lists
list_among rows frame to few list =
    let places = paired_from rows frame to list in
    among_filter (is_partner_list rows frame) (words (length rows)) to
    (word_among (length rows) to places.size
    (λ i inside. ⊎_elim (λ (nobody : slice_index to i ≡ 14). omega (arith, nobody)) (λ (met : Met rows frame to i). omega (arith, met.inside, few)) (places.each i inside)))
    list

pub among_is_list : (rows : List Candidate) (frame : Frame) (to : List ℕ) → Among to (lists rows frame) → IsTrue (is_partner_list rows frame to)
unfolding lists
among_is_list rows frame to h = passes_among (is_partner_list rows frame) (words (length rows)) to h
