-- The groups of a ranking.
use Rattle.std.specs.Prelude.{All, AllPairs}
use Rattle.std.proofs.Common.{◌≡◌, ℕ, ◌+◌, ◌-◌, ◌*◌, ◌<◌, ◌≤◌, inl, inr, List, [], ◌∷◌, length, get_or, take, drop, sym, ap, subst, subst₂, arith, get_or-drop, get_or-take, length-take, length-drop}
use Rattle.std.specs.Int.{div_ceil}
use Rattle.std.proofs.lemmas.Bool.{cases_eq}
use Rattle.std.proofs.lemmas.Option.{slice_get-get_or}
use Rattle.std.proofs.lemmas.List.Elements.{All-take, All-drop}
use Rattle.pair_cost.specs.declared.candidate.Candidate.{Candidate}
use Rattle.pair_cost.specs.declared.candidate.Frame.{Frame}
use Rattle.group_pairing.specs.Groups.{IsGroup}
use Rattle.wave.specs.Rankings.{IsRanking}
use Rattle.wave.specs.Plans.{rank_of, last_rank, group}

-- a relation that holds of all pairs of a list holds of those of its parts

AllPairs-drop : {X : Type 0} (R : X → X → Type 0) (n : ℕ) (xs : List X) → AllPairs R xs → AllPairs R (drop n xs)
AllPairs-drop {X} R n xs all i j d up inside =
    let later : n + j < length xs = omega (arith, inside, length-drop n xs) in
    subst₂ (λ (x y : X). R x y) (sym (get_or-drop n xs i d)) (sym (get_or-drop n xs j d)) (all (n + i) (n + j) d (omega arith) later)

AllPairs-take : {X : Type 0} (R : X → X → Type 0) (n : ℕ) (xs : List X) → AllPairs R xs → AllPairs R (take n xs)
AllPairs-take {X} R n xs all i j d up inside =
    let before : j < n = omega (arith, inside, length-take n xs) in
    let within : j < length xs = omega (arith, inside, length-take n xs) in
    let before_i : i < n = omega arith in
    subst₂ (λ (x y : X). R x y) (sym (get_or-take n xs i d before_i)) (sym (get_or-take n xs j d before)) (all i j d up within)

-- the last row has the greatest rank

last_is : (rows : List Candidate) (d : Candidate) → 0 < length rows → last_rank rows ≡ (get_or rows (length rows - 1) d).rank
last_is rows d some = ap rank_of (slice_get-get_or rows (length rows - 1) d (omega arith))

pub ranks_within : (rows : List Candidate) → AllPairs (λ (a b : Candidate). a.rank < b.rank) rows → All (λ (row : Candidate). row.rank ≤ last_rank rows) rows
ranks_within rows ranked k d inside =
    let last = last_is rows d (omega arith) in
    elim (cases_eq k (length rows - 1)) [
      | inl same ↦ subst (λ i. (get_or rows i d).rank ≤ last_rank rows) (sym same) (omega (arith, last))
      | inr differ ↦ let below = ranked k (length rows - 1) d (omega arith) (omega arith) in omega (arith, below, last)
    ]

pub last_below : (rows : List Candidate) (most : ℕ) → All (λ (row : Candidate). row.rank ≤ most) rows → last_rank rows ≤ most
last_below [] most all = omega arith
last_below (row ∷ rows) most all =
    let last = last_is (row ∷ rows) row (omega arith) in
    let here = all (length (row ∷ rows) - 1) row (omega arith) in
    omega (arith, last, here)

-- each group is one that a solver takes
pub group_is : (rows : List Candidate) (f : Frame) (k : ℕ) → IsRanking rows → f.max ≡ last_rank rows → IsGroup (group rows k) f
group_is rows f k r greatest =
    let places = last_below rows 999 r.places in
    record {
      few = omega (arith, length-take 14 (drop (14 * k) rows));
      ranked = AllPairs-take (λ (a b : Candidate). a.rank < b.rank) 14 (drop (14 * k) rows) (AllPairs-drop (λ (a b : Candidate). a.rank < b.rank) (14 * k) rows r.ranked);
      within = subst (λ n. All (λ (row : Candidate). row.rank ≤ n) (group rows k)) (sym greatest) (All-take (λ (row : Candidate). row.rank ≤ last_rank rows) 14 (drop (14 * k) rows) (All-drop (λ (row : Candidate). row.rank ≤ last_rank rows) (14 * k) rows (ranks_within rows r.ranked)));
      places = omega (arith, places, greatest);
      rated = All-take (λ (row : Candidate). row.rating ≤ 4000) 14 (drop (14 * k) rows) (All-drop (λ (row : Candidate). row.rating ≤ 4000) (14 * k) rows r.rated);
    }

-- each group begins within the rows
pub group_inside : (n k : ℕ) → k < div_ceil n 14 → 14 * k < n
group_inside n k h = omega arith
