-- Lists put in order by placing each element above the first that it outranks: they have the elements, are in order and keep
-- ties as they came, and no other list does.
use Rattle.std.proofs.Common.{◌≡◌, ℕ, suc, ◌<◌, ◌≤◌, ⊎_elim, List, [], ◌∷◌, ◌++◌, length, Bool, true, false, not, get_or, refl, sym, ap, ◌∙◌, subst, arith, append_assoc}
use Rattle.std.specs.Prelude.{cond, filter, fold}
use Rattle.std.specs.Cmp.{IsStrictWeakOrder}
use Rattle.std.specs.List.{AllByRecursion}
use Rattle.std.specs.List.Sorted.{IsPermutation, IsStableBy, ties}
use Rattle.std.proofs.lemmas.Bool.{cases_Bool, both_ways, not-true, and_parts}
use Rattle.std.proofs.lemmas.List.{append-nil}
use Rattle.std.proofs.lemmas.List.Elements.{filter-append}
use Rattle.std.proofs.lemmas.List.Sorted.{IsPermutation-refl, IsPermutation-to_front, IsPermutation-cons, IsPermutation-append_left, IsPermutation-trans}
use Rattle.ranking.specs.Order.{placed, in_order}

-- the elements, in another order

placed-permutation : {A : Type 0} (above : A → A → Bool) (table : List A) (p : A) → IsPermutation (table ++ p ∷ []) (placed above table p)
placed-permutation above [] p = IsPermutation-refl (p ∷ [])
placed-permutation above (q ∷ below) p =
    elim (above p q) as (λ b. IsPermutation ((q ∷ below) ++ p ∷ []) (cond b (p ∷ q ∷ below) (q ∷ placed above below p))) [
      | true ↦ IsPermutation-to_front (q ∷ below) p
      | false ↦ IsPermutation-cons q (below ++ p ∷ []) (placed above below p) (placed-permutation above below p)
    ]

pub fold_placed-permutation : {A : Type 0} (above : A → A → Bool) (table ps : List A) → IsPermutation (table ++ ps) (fold (placed above) table ps)
fold_placed-permutation above table [] = subst (λ l. IsPermutation l table) (sym (append-nil table)) (IsPermutation-refl table)
fold_placed-permutation above table (p ∷ ps) =
    IsPermutation-trans (table ++ p ∷ ps) (placed above table p ++ ps) (fold (placed above) (placed above table p) ps)
    (subst (λ l. IsPermutation l (placed above table p ++ ps)) (append_assoc table (p ∷ []) ps) (IsPermutation-append_left ps (table ++ p ∷ []) (placed above table p) (placed-permutation above table p)))
    (fold_placed-permutation above (placed above table p) ps)

-- what all of a table have, and p too, all have once p is placed
pub all_placed : {A : Type 0} (above : A → A → Bool) (P : A → Type 0) (table : List A) (p : A) → P p → AllByRecursion P table → AllByRecursion P (placed above table p)
all_placed above P [] p own all = (own, tt)
all_placed above P (q ∷ below) p own all =
    elim (above p q) as (λ b. AllByRecursion P (cond b (p ∷ q ∷ below) (q ∷ placed above below p))) [
      | true ↦ (own, all)
      | false ↦ (all.0, all_placed above P below p own all.1)
    ]

module _ {A : Type 0} (above : A → A → Bool) (o : IsStrictWeakOrder above) where
  -- none of these outranks x
  abbrev pub NoneAbove : A → List A → Type 0
  NoneAbove x ys = AllByRecursion (λ y. above y x ≡ false) ys

  -- no element outranks one before it
  abbrev pub IsInOrder : List A → Type 0
  IsInOrder [] = Unit {0}
  IsInOrder (x ∷ xs) = NoneAbove x xs × IsInOrder xs

  NoneAbove-le : (x y : A) (zs : List A) → above y x ≡ false → NoneAbove y zs → NoneAbove x zs
  NoneAbove-le x y [] le none = tt
  NoneAbove-le x y (z ∷ zs) le none = (o.chain z y x none.0 le, NoneAbove-le x y zs le none.1)

  pub IsInOrder-placed : (p : A) (table : List A) → IsInOrder table → IsInOrder (placed above table p)
  IsInOrder-placed p [] ordered = (tt, tt)
  IsInOrder-placed p (q ∷ below) ordered =
      ⊎_elim
      (λ (up : above p q ≡ true). rw up ((o.one_way p q up, NoneAbove-le p q below (o.one_way p q up) ordered.0), ordered))
      (λ (down : above p q ≡ false). rw down (all_placed above (λ y. above y q ≡ false) below p down ordered.0, IsInOrder-placed p below ordered.1))
      (cases_Bool (above p q))

  pub IsInOrder-fold : (table ps : List A) → IsInOrder table → IsInOrder (fold (placed above) table ps)
  IsInOrder-fold table [] ordered = ordered
  IsInOrder-fold table (p ∷ ps) ordered = IsInOrder-fold (placed above table p) ps (IsInOrder-placed p table ordered)

  -- ties

  itself : (x : A) → above x x ≡ false
  itself x = ⊎_elim (λ (up : above x x ≡ true). o.one_way x x up) (λ (down : above x x ≡ false). down) (cases_Bool (above x x))

  ties_itself : (x : A) → ties above x x ≡ true
  ties_itself x = rw (itself x) refl

  -- whom x outranks does not tie with x
  no_tie : (x y : A) → above x y ≡ true → ties above x y ≡ false
  no_tie x y up = rw up refl

  -- nobody ties with x whom p outranks, who ties with x
  no_ties : (x p : A) (ys : List A) → ties above x p ≡ true → NoneAbove p ys → AllByRecursion (λ y. above p y ≡ true) ys → filter (ties above x) ys ≡ []
  no_ties x p [] tie none up = refl
  no_ties x p (y ∷ ys) tie none up =
      let below : above x y ≡ true =
      ⊎_elim
      (λ (below : above x y ≡ true). below)
      (λ (not_above : above x y ≡ false). absurd (both_ways (above p y) (o.chain p x y (not-true (above p x) (and_parts (not (above x p)) (not (above p x)) tie).1) not_above) up.0))
      (cases_Bool (above x y)) in
      rw (no_tie x y below) (no_ties x p ys tie none.1 up.1)

  -- below the first that p outranks, it outranks all
  outranks_all : (p q : A) (below : List A) → above p q ≡ true → NoneAbove q below → AllByRecursion (λ y. above p y ≡ true) below
  outranks_all p q [] up none = tt
  outranks_all p q (y ∷ below) up none = (
    ⊎_elim
        (λ (under : above p y ≡ true). under)
        (λ (not_above : above p y ≡ false). absurd (both_ways (above p q) (o.chain p y q not_above none.0) up))
        (cases_Bool (above p y)),
    outranks_all p q below up none.1,
  )

  filter-placed : (x p : A) (table : List A) → IsInOrder table → filter (ties above x) (placed above table p) ≡ filter (ties above x) table ++ filter (ties above x) (p ∷ [])
  filter-placed x p [] ordered = refl
  filter-placed x p (q ∷ below) ordered =
      ⊎_elim
      (λ (up : above p q ≡ true).
      ⊎_elim
      (λ (tie : ties above x p ≡ true).
      let others : filter (ties above x) (q ∷ below) ≡ [] = no_ties x p (q ∷ below) tie (o.one_way p q up, NoneAbove-le p q below (o.one_way p q up) ordered.0) (up, outranks_all p q below up ordered.0) in
      rw up (ap (λ b. cond b (p ∷ filter (ties above x) (q ∷ below)) (filter (ties above x) (q ∷ below))) tie ∙ (ap (λ l. p ∷ l) others ∙ sym ((λ i. others i ++ cond (tie i) (p ∷ []) [])))))
      (λ (apart : ties above x p ≡ false). rw up (ap (λ b. cond b (p ∷ filter (ties above x) (q ∷ below)) (filter (ties above x) (q ∷ below))) apart ∙ sym (ap (λ b. filter (ties above x) (q ∷ below) ++ cond b (p ∷ []) []) apart ∙ append-nil (filter (ties above x) (q ∷ below)))))
      (cases_Bool (ties above x p)))
      (λ (down : above p q ≡ false). rw down (filter-behind x p q below (filter-placed x p below ordered.1)))
      (cases_Bool (above p q))
    where
      filter-behind : (x p q : A) (below : List A) → filter (ties above x) (placed above below p) ≡ filter (ties above x) below ++ filter (ties above x) (p ∷ []) → filter (ties above x) (q ∷ placed above below p) ≡ filter (ties above x) (q ∷ below) ++ filter (ties above x) (p ∷ [])
      filter-behind x p q below same =
          elim (ties above x q) as (λ b. cond b (q ∷ filter (ties above x) (placed above below p)) (filter (ties above x) (placed above below p)) ≡ cond b (q ∷ filter (ties above x) below) (filter (ties above x) below) ++ filter (ties above x) (p ∷ [])) [
            | true ↦ ap (λ l. q ∷ l) same
            | false ↦ same
          ]

  pub filter-fold : (x : A) (table ps : List A) → IsInOrder table → filter (ties above x) (fold (placed above) table ps) ≡ filter (ties above x) table ++ filter (ties above x) ps
  filter-fold x table [] ordered = sym (append-nil (filter (ties above x) table))
  filter-fold x table (p ∷ ps) ordered =
      filter-fold x (placed above table p) ps (IsInOrder-placed p table ordered) ∙ (
      ap (λ l. l ++ filter (ties above x) ps) (filter-placed x p table ordered) ∙ (
      append_assoc (filter (ties above x) table) (filter (ties above x) (p ∷ [])) (filter (ties above x) ps) ∙ ap (λ l. filter (ties above x) table ++ l) (sym (filter-append (ties above x) (p ∷ []) ps))
      )
      )

  -- two lists in order that keep the same ties in the same order are one

  none_tie_below : (x y : A) (zs : List A) → above x y ≡ true → NoneAbove y zs → filter (ties above x) (y ∷ zs) ≡ []
  none_tie_below x y zs up none = no_ties x x (y ∷ zs) (ties_itself x) (o.one_way x y up, NoneAbove-le x y zs (o.one_way x y up) none) (up, outranks_all x y zs up none)

  keeps_first : (x : A) (xs : List A) → filter (ties above x) (x ∷ xs) ≡ x ∷ filter (ties above x) xs
  keeps_first x xs = rw (ties_itself x) refl

  same_first : (y z : A) (ys zs : List A) → IsInOrder (y ∷ ys) → IsInOrder (z ∷ zs) → ((x : A) → filter (ties above x) (y ∷ ys) ≡ filter (ties above x) (z ∷ zs)) → y ≡ z
  same_first y z ys zs up up' same =
      ⊎_elim
      (λ (yz : above y z ≡ true). let none : y ∷ filter (ties above y) ys ≡ [] = sym (keeps_first y ys) ∙ (same y ∙ none_tie_below y z zs yz up'.0) in cc)
      (λ (not_above : above y z ≡ false).
      ⊎_elim
      (λ (zy : above z y ≡ true). let none : z ∷ filter (ties above z) zs ≡ [] = sym (keeps_first z zs) ∙ (sym (same z) ∙ none_tie_below z y ys zy up.0) in cc)
      (λ (not_below : above z y ≡ false).
      let tie : ties above y z ≡ true = rw (not_above, not_below) refl in
      let firsts : y ∷ filter (ties above y) ys ≡ z ∷ filter (ties above y) zs = sym (keeps_first y ys) ∙ (same y ∙ ap (λ b. cond b (z ∷ filter (ties above y) zs) (filter (ties above y) zs)) tie) in
      cc)
      (cases_Bool (above z y)))
      (cases_Bool (above y z))

  drop_first : (p : A → Bool) (y : A) (ys zs : List A) → filter p (y ∷ ys) ≡ filter p (y ∷ zs) → filter p ys ≡ filter p zs
  drop_first p y ys zs =
      elim (p y) as (λ b. cond b (y ∷ filter p ys) (filter p ys) ≡ cond b (y ∷ filter p zs) (filter p zs) → filter p ys ≡ filter p zs) [
        | true ↦ λ same. cc
        | false ↦ λ same. same
      ]

  pub same_lists_in_order : (ys zs : List A) → IsInOrder ys → IsInOrder zs → ((x : A) → filter (ties above x) ys ≡ filter (ties above x) zs) → ys ≡ zs
  same_lists_in_order [] [] up up' same = refl
  same_lists_in_order [] (z ∷ zs) up up' same = let none : [] ≡ z ∷ filter (ties above z) zs = same z ∙ keeps_first z zs in cc
  same_lists_in_order (y ∷ ys) [] up up' same = let none : y ∷ filter (ties above y) ys ≡ [] = sym (keeps_first y ys) ∙ same y in cc
  same_lists_in_order (y ∷ ys) (z ∷ zs) up up' same =
      let first : y ≡ z = same_first y z ys zs up up' same in
      let rest : ys ≡ zs = same_lists_in_order ys zs up.1 up'.1 (λ x. drop_first (ties above x) y ys zs (same x ∙ ap (λ w. filter (ties above x) (w ∷ zs)) (sym first))) in
      λ i. first i ∷ rest i

  -- a list that is sorted by the test is in order

  none_above_from : (x : A) (ys : List A) → ((k : ℕ) (d : A) → k < length ys → above (get_or ys k d) x ≡ false) → NoneAbove x ys
  none_above_from x [] each = tt
  none_above_from x (y ∷ ys) each = (each 0 x (omega arith), none_above_from x ys (λ k d lt. each (suc k) d (omega arith)))

  pub IsInOrder-from_sorted : (xs : List A) → ((i j : ℕ) (d : A) → i ≤ j → j < length xs → above (get_or xs j d) (get_or xs i d) ≡ false) → IsInOrder xs
  IsInOrder-from_sorted [] far = tt
  IsInOrder-from_sorted (x ∷ xs) far = (
    none_above_from x xs (λ k d lt. far 0 (suc k) d (omega arith) (omega arith)),
    IsInOrder-from_sorted xs (λ i j d le lt. far (suc i) (suc j) d (omega arith) (omega arith)),
  )

  -- a stable sort of a list is what putting its elements in order one after another gives
  pub stable_sort : (xs ys : List A) → ((i j : ℕ) (d : A) → i ≤ j → j < length ys → above (get_or ys j d) (get_or ys i d) ≡ false) → IsStableBy above xs ys → ys ≡ in_order above xs
  stable_sort xs ys far stable = same_lists_in_order ys (fold (placed above) [] xs) (IsInOrder-from_sorted ys far) (IsInOrder-fold [] xs tt) (λ x. stable x ∙ sym (filter-fold x [] xs tt))
