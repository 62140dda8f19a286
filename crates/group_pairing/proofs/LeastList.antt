-- The least list is one of the partner lists, none has a smaller key, and it is the only one of that kind.
use Rattle.std.proofs.Common.{◌≡◌, ℕ, ◌≤◌, inl, inr, ⊎_elim, true, false, IsTrue, IsFalse, List, [], ◌∷◌, length, replicate, refl, sym, subst}
use Rattle.std.specs.Prelude.{cond, fold}
use Rattle.std.proofs.lemmas.Bool.{cases_Bool, both_ways}
use Rattle.std.proofs.lemmas.List.{length-replicate, get_or-replicate}
use Rattle.pair_cost.specs.declared.candidate.Candidate.{Candidate}
use Rattle.pair_cost.specs.declared.candidate.Frame.{Frame}
use Rattle.group_pairing.specs.Lists.{lists, is_partner_list}
use Rattle.group_pairing.specs.Keys.{key, is_smaller}
use Rattle.group_pairing.specs.Least.{lesser, least}
use Rattle.group_pairing.proofs.Places.{paired_to}
use Rattle.group_pairing.proofs.Orders.{smaller-self, smaller-trans, same_from_neither_smaller}
use Rattle.group_pairing.proofs.Words.{Among, list_among, among_is_list}

-- the list in which nobody has a partner
pub nobody_is_list : (rows : List Candidate) (frame : Frame) → IsTrue (is_partner_list rows frame (replicate (length rows) 14))
nobody_is_list rows frame = paired_to rows frame (replicate (length rows) 14) (record {
  size = length-replicate (length rows) 14;
  each = λ i inside. inl (get_or-replicate (length rows) i 14 0 inside);
})

module _ (rows : List Candidate) (frame : Frame) where
  -- the first has no smaller key
  abbrev NotSmaller : List ℕ → List ℕ → Type 0
  NotSmaller x y = is_smaller (key rows frame x) (key rows frame y) ≡ false

  lesser_cases : (P : List ℕ → Type 0) (best y : List ℕ) → (is_smaller (key rows frame y) (key rows frame best) ≡ true → P y) → (is_smaller (key rows frame y) (key rows frame best) ≡ false → P best) → P (lesser rows frame best y)
  lesser_cases P best y new old =
      ⊎_elim
      (λ (less : is_smaller (key rows frame y) (key rows frame best) ≡ true). subst (λ b. P (cond b y best)) (sym less) (new less))
      (λ (not_less : is_smaller (key rows frame y) (key rows frame best) ≡ false). subst (λ b. P (cond b y best)) (sym not_less) (old not_less))
      (cases_Bool (is_smaller (key rows frame y) (key rows frame best)))

  lesser_keeps : (x best y : List ℕ) → NotSmaller x best → NotSmaller x (lesser rows frame best y)
  lesser_keeps x best y h =
      lesser_cases (NotSmaller x) best y
      (λ less.
      ⊎_elim
      (λ (smaller : is_smaller (key rows frame x) (key rows frame y) ≡ true). absurd (both_ways _ h (smaller-trans rows frame x y best smaller less)))
      (λ (fine : is_smaller (key rows frame x) (key rows frame y) ≡ false). fine)
      (cases_Bool (is_smaller (key rows frame x) (key rows frame y))))
      (λ _. h)

  lesser_new : (best y : List ℕ) → NotSmaller y (lesser rows frame best y)
  lesser_new best y = lesser_cases (NotSmaller y) best y (λ _. smaller-self rows frame y) (λ not_less. not_less)

  fold_keeps : (x best : List ℕ) (ls : List (List ℕ)) → NotSmaller x best → NotSmaller x (fold (lesser rows frame) best ls)
  fold_keeps x best [] h = h
  fold_keeps x best (y ∷ ls) h = fold_keeps x (lesser rows frame best y) ls (lesser_keeps x best y h)

  fold_least : (x best : List ℕ) (ls : List (List ℕ)) → Among x ls → NotSmaller x (fold (lesser rows frame) best ls)
  fold_least x best [] h = absurd h
  fold_least x best (y ∷ ls) h =
      ⊎_elim
      (λ (here : ◌≡◌ {A = List ℕ} y x). fold_keeps x (lesser rows frame best y) ls (subst (λ (z : List ℕ). NotSmaller z (lesser rows frame best y)) here (lesser_new best y)))
      (λ later. fold_least x (lesser rows frame best y) ls later)
      h

  fold_among : (P : List ℕ → Type 0) (best : List ℕ) (ls : List (List ℕ)) → P best → ((x : List ℕ) → Among x ls → P x) → P (fold (lesser rows frame) best ls)
  fold_among P best [] h each = h
  fold_among P best (y ∷ ls) h each =
      fold_among P (lesser rows frame best y) ls (lesser_cases P best y (λ _. each y (inl refl)) (λ _. h)) (λ x later. each x (inr later))

  pub least_is_list : IsTrue (is_partner_list rows frame (least rows frame))
  unfolding least
  least_is_list =
      fold_among (λ to. IsTrue (is_partner_list rows frame to)) (replicate (length rows) 14) (lists rows frame) (nobody_is_list rows frame) (among_is_list rows frame)

  pub least_is_least : length rows ≤ 14 → (other : List ℕ) → IsTrue (is_partner_list rows frame other) → IsFalse (is_smaller (key rows frame other) (key rows frame (least rows frame)))
  unfolding least
  least_is_least few other list = fold_least other (replicate (length rows) 14) (lists rows frame) (list_among rows frame other few list)

  pub only_least : length rows ≤ 14 → (to : List ℕ) → IsTrue (is_partner_list rows frame to) → ((other : List ℕ) → IsTrue (is_partner_list rows frame other) → IsFalse (is_smaller (key rows frame other) (key rows frame to))) → to ≡ least rows frame
  only_least few to list none = same_from_neither_smaller rows frame to (least rows frame) (least_is_least few to list) (none (least rows frame) least_is_list)
