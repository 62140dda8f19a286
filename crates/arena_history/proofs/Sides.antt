-- How many sides of games a player has.
use Rattle.std.proofs.Common.{◌≡◌, ℕ, suc, ◌+◌, ◌<◌, ◌≤◌, ◌⊎◌, inl, inr, ⊎_elim, List, [], ◌∷◌, length, Some, None, Bool, true, false, ◌||◌, refl, sym, ap, ◌∙◌, arith, get_or}
use Rattle.std.specs.Prelude.{filter, cond, not, sum_by, ◌≢◌, ◌==◌}
use Rattle.std.specs.List.{list_any, find, AllByRecursion, AllPairs}
use Rattle.std.proofs.lemmas.Bool.{cases_Bool, or_cases, eqb-true, ne_eqb}
use Rattle.std.proofs.lemmas.List.Sums.{sum_by-cons}
use Rattle.pair_cost.specs.declared.candidate.Pair.{Pair}
use Rattle.wave.specs.Players.{IsApart}
use Rattle.arena_history.specs.Games.{Begun, has_player}

-- how many sides p has of a game between these two
abbrev pub sides : ℕ → ℕ → ℕ → ℕ
sides p white black = cond (white == p) 1 0 + cond (black == p) 1 0

-- how many sides p has of a game
abbrev pub game_sides : ℕ → Begun → ℕ
game_sides p g = sides p g.header.white g.header.black

-- how many sides p has of a pair
abbrev pub pair_sides : ℕ → Pair → ℕ
pair_sides p x = sides p x.white x.black

pub sum_filter_le : {X : Type 0} (f : X → ℕ) (q : X → Bool) (xs : List X) → sum_by f (filter q xs) ≤ sum_by f xs
sum_filter_le f q [] = omega arith
sum_filter_le f q (x ∷ xs) =
    let ih = sum_filter_le f q xs in
    ⊎_elim
    (λ (on : q x ≡ true). rw on (omega (arith, ih, sum_by-cons f x xs, sum_by-cons f x (filter q xs))))
    (λ (off : q x ≡ false). rw off (omega (arith, ih, sum_by-cons f x xs)))
    (cases_Bool (q x))

pub seen_sides : (p : ℕ) (g : Begun) → has_player p g ≡ true → 1 ≤ game_sides p g
seen_sides p g e = seen (g.header.white == p) (g.header.black == p) e
  where
    seen : (a b : Bool) → (a || b) ≡ true → 1 ≤ cond a 1 0 + cond b 1 0
    seen true true e = omega arith
    seen true false e = omega arith
    seen false true e = omega arith
    seen false false e = cc

pub away_sides : (p : ℕ) (g : Begun) → has_player p g ≡ false → game_sides p g ≡ 0
away_sides p g e = away (g.header.white == p) (g.header.black == p) e
  where
    away : (a b : Bool) → (a || b) ≡ false → cond a 1 0 + cond b 1 0 ≡ 0
    away true b e = cc
    away false true e = cc
    away false false e = refl

pub any_sides : (p : ℕ) (gs : List Begun) → list_any (has_player p) gs ≡ true → 1 ≤ sum_by (game_sides p) gs
any_sides p [] e = cc
any_sides p (g ∷ gs) e =
    ⊎_elim
    (λ (here : has_player p g ≡ true). omega (arith, sum_by-cons (game_sides p) g gs, seen_sides p g here))
    (λ (more : list_any (has_player p) gs ≡ true). omega (arith, sum_by-cons (game_sides p) g gs, any_sides p gs more))
    (or_cases (has_player p g) (list_any (has_player p) gs) e)

pub no_sides : (p : ℕ) (gs : List Begun) → sum_by (game_sides p) gs ≡ 0 → AllByRecursion (λ g. has_player p g ≡ false) gs
no_sides p [] e = tt
no_sides p (g ∷ gs) e =
    ⊎_elim
    (λ (here : has_player p g ≡ true). absurd (omega (arith, e, sum_by-cons (game_sides p) g gs, seen_sides p g here)))
    (λ (away : has_player p g ≡ false).
    let rest : sum_by (game_sides p) gs ≡ 0 = omega (arith, e, sum_by-cons (game_sides p) g gs) in
    (away, no_sides p gs rest))
    (cases_Bool (has_player p g))

-- somebody who is found in no game has no side of one
pub unseen : (p : ℕ) (gs : List Begun) → find (has_player p) gs ≡ None → sum_by (game_sides p) gs ≡ 0
unseen p [] e = refl
unseen p (g ∷ gs) e =
    ⊎_elim
    (λ (on : has_player p g ≡ true). let never : Some g ≡ None = ap (λ b. cond b (Some g) (find (has_player p) gs)) (sym on) ∙ e in cc)
    (λ (off : has_player p g ≡ false).
    let rest : find (has_player p) gs ≡ None = ap (λ b. cond b (Some g) (find (has_player p) gs)) (sym off) ∙ e in
    sum_by-cons (game_sides p) g gs ∙ (λ i. away_sides p g off i + unseen p gs rest i))
    (cases_Bool (has_player p g))

-- the two parts of a filter share the sides
pub sides_parts : (p : ℕ) (r : Begun → Bool) (gs : List Begun) → sum_by (game_sides p) (filter r gs) + sum_by (game_sides p) (filter (λ g. not (r g)) gs) ≡ sum_by (game_sides p) gs
sides_parts p r [] = refl
sides_parts p r (g ∷ gs) =
    let ih = sides_parts p r gs in
    ⊎_elim
    (λ (on : r g ≡ true). rw on (omega (arith, ih, sum_by-cons (game_sides p) g gs, sum_by-cons (game_sides p) g (filter r gs))))
    (λ (off : r g ≡ false). rw off (omega (arith, ih, sum_by-cons (game_sides p) g gs, sum_by-cons (game_sides p) g (filter (λ g. not (r g)) gs))))
    (cases_Bool (r g))

-- in pairs that are apart, each of two players, a player has one side at most

apart_rest : (x : Pair) (ps : List Pair) → AllPairs IsApart (x ∷ ps) → AllPairs IsApart ps
apart_rest x ps apart i j d lt within = apart (suc i) (suc j) d (omega arith) (omega arith)

side_of_two : (p : ℕ) (x : Pair) → x.white ≢ x.black → pair_sides p x ≤ 1
side_of_two p x two =
    ⊎_elim
    (λ (on : (x.white == p) ≡ true).
    let off : (x.black == p) ≡ false = ne_eqb x.black p (λ same. two (eqb-true x.white p on ∙ sym same)) in
    rw (on, off) (omega arith))
    (λ (off : (x.white == p) ≡ false).
    ⊎_elim (λ (on : (x.black == p) ≡ true). rw (off, on) (omega arith)) (λ (out : (x.black == p) ≡ false). rw (off, out) (omega arith)) (cases_Bool (x.black == p)))
    (cases_Bool (x.white == p))

-- p is of a pair
abbrev pair_has : ℕ → Pair → Bool
pair_has p x = (x.white == p) || (x.black == p)

pair_none : (p : ℕ) (x : Pair) → pair_has p x ≡ false → pair_sides p x ≡ 0
pair_none p x e = away (x.white == p) (x.black == p) e
  where
    away : (a b : Bool) → (a || b) ≡ false → cond a 1 0 + cond b 1 0 ≡ 0
    away true b e = cc
    away false true e = cc
    away false false e = refl

not_both : (p : ℕ) (x y : Pair) → IsApart x y → pair_has p x ≡ true → pair_has p y ≡ false
not_both p x y apart on =
    ⊎_elim
    (λ (off : pair_has p y ≡ false). off)
    (λ (also : pair_has p y ≡ true).
    ⊎_elim
    (λ (xw : (x.white == p) ≡ true). ⊎_elim (λ (yw : (y.white == p) ≡ true). absurd (apart.whites (eqb-true x.white p xw ∙ sym (eqb-true y.white p yw)))) (λ (yb : (y.black == p) ≡ true). absurd (apart.white_black (eqb-true x.white p xw ∙ sym (eqb-true y.black p yb)))) (or_cases (y.white == p) (y.black == p) also))
    (λ (xb : (x.black == p) ≡ true). ⊎_elim (λ (yw : (y.white == p) ≡ true). absurd (apart.black_white (eqb-true x.black p xb ∙ sym (eqb-true y.white p yw)))) (λ (yb : (y.black == p) ≡ true). absurd (apart.blacks (eqb-true x.black p xb ∙ sym (eqb-true y.black p yb)))) (or_cases (y.white == p) (y.black == p) also))
    (or_cases (x.white == p) (x.black == p) on))
    (swapped (cases_Bool (pair_has p y)))
  where
    swapped : {A B : Type 0} → A ⊎ B → B ⊎ A
    swapped (inl a) = inr a
    swapped (inr b) = inl b

pub pairs_once : (p : ℕ) (ps : List Pair) → AllByRecursion (λ (x : Pair). x.white ≢ x.black) ps → AllPairs IsApart ps → sum_by (pair_sides p) ps ≤ 1
pairs_once p [] two apart = omega arith
pairs_once p (x ∷ ps) two apart =
    let split = sum_by-cons (pair_sides p) x ps in
    ⊎_elim
    (λ (on : pair_has p x ≡ true).
    let rest : sum_by (pair_sides p) ps ≡ 0 = none ps (λ j d lt. apart 0 (suc j) d (omega arith) (omega arith)) on in
    omega (arith, split, rest, side_of_two p x two.0))
    (λ (off : pair_has p x ≡ false). omega (arith, split, pair_none p x off, pairs_once p ps two.1 (apart_rest x ps apart)))
    (cases_Bool (pair_has p x))
  where
    none : (ys : List Pair) → ((j : ℕ) (d : Pair) → j < length ys → IsApart x (get_or ys j d)) → pair_has p x ≡ true → sum_by (pair_sides p) ys ≡ 0
    none [] all on = refl
    none (y ∷ ys) all on =
        sum_by-cons (pair_sides p) y ys ∙ (λ i. pair_none p y (not_both p x y (all 0 y (omega arith)) on) i + none ys (λ j d lt. all (suc j) d (omega arith)) on i)
