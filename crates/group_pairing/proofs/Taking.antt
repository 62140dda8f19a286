-- A pair put into a list in which two places have nobody, and taken out again.
use Rattle.std.specs.Prelude.{Option, Some, None}
use Rattle.std.proofs.Common.{◌≡◌, ◌≢◌, ℕ, ◌<◌, ◌≤◌, inl, inr, Bool, true, false, not, ◌&&◌, ◌||◌, IsTrue, List, length, slice_get, set, slice_index, refl, sym, ◌∙◌, ap, ap₂, subst, arith, get_or-set_same, get_or-set_other, length-set, ext_get_or}
use Rattle.std.proofs.lemmas.Bool.{cases_eq}
use Rattle.std.proofs.lemmas.Bool.Decides.{nat_tests}
use Rattle.pair_cost.specs.declared.candidate.Candidate.{Candidate}
use Rattle.pair_cost.specs.declared.candidate.Frame.{Frame}
use Rattle.pair_cost.specs.Cost.{same_team, bars_rematch, met_last}
use Rattle.group_pairing.specs.Lists.{may_meet, may_pair, is_partner_list}
use Rattle.group_pairing.proofs.Places.{Met, Placed, paired_from, paired_to}

-- the list with other items at two places
abbrev pub both_set : List ℕ → ℕ → ℕ → ℕ → ℕ → List ℕ
both_set base p q x y = set (set base p x) q y

-- the list with one pair more
abbrev pub paired : List ℕ → ℕ → ℕ → List ℕ
paired base p q = both_set base p q q p

-- the list with nobody at the two places
abbrev pub unpaired : List ℕ → ℕ → ℕ → List ℕ
unpaired base p q = both_set base p q 14 14

-- two places of a group, the first before the second, in a list of its length
pub record Two (rows : List Candidate) (base : List ℕ) (p q : ℕ) : Type 0 where
  pub few : length rows ≤ 14
  pub size : length base ≡ length rows
  pub up : p < q
  pub inside : q < length rows

pub at_first : (rows : List Candidate) (base : List ℕ) (p q x y : ℕ) → Two rows base p q → slice_index (both_set base p q x y) p ≡ x
at_first rows base p q x y two =
    let ne : p ≢ q = λ e. omega (arith, two.up) in
    get_or-set_other (set base p x) q p y 0 ne ∙ get_or-set_same base p x 0 (omega (arith, two.up, two.inside, two.size))

pub at_second : (rows : List Candidate) (base : List ℕ) (p q x y : ℕ) → Two rows base p q → slice_index (both_set base p q x y) q ≡ y
at_second rows base p q x y two =
    get_or-set_same (set base p x) q y 0 (simp length-set (omega (arith, two.inside, two.size)))

pub at_other : (base : List ℕ) (p q x y i : ℕ) → i ≢ p → i ≢ q → slice_index (both_set base p q x y) i ≡ slice_index base i
at_other base p q x y i not_p not_q = get_or-set_other (set base p x) q i y 0 not_q ∙ get_or-set_other base p i x 0 not_p

-- two places that have nobody, the first before the second
pub record Free (rows : List Candidate) (base : List ℕ) (p q : ℕ) : Type 0 where
  pub two : Two rows base p q
  pub first : slice_index base p ≡ 14
  pub second : slice_index base q ≡ 14

-- it makes no difference which of two places is named first

same_team-comm : (a b : Option ℕ) → same_team a b ≡ same_team b a
same_team-comm None None = refl
same_team-comm None (Some y) = refl
same_team-comm (Some x) None = refl
same_team-comm (Some x) (Some y) = grind (arith, nat_tests)

and-comm : (a b : Bool) → (a && b) ≡ (b && a)
and-comm true true = refl
and-comm true false = refl
and-comm false true = refl
and-comm false false = refl

may_meet-comm : (frame : Frame) (a b : Option Candidate) → may_meet frame a b ≡ may_meet frame b a
may_meet-comm frame None None = refl
may_meet-comm frame None (Some b) = refl
may_meet-comm frame (Some a) None = refl
may_meet-comm frame (Some a) (Some b) =
    ap₂ (λ team again. not (team || (bars_rematch frame && again))) (same_team-comm a.team b.team) (and-comm (met_last a.last b.player) (met_last b.last a.player))

may_pair-comm : (rows : List Candidate) (frame : Frame) (i j : ℕ) → may_pair rows frame i j ≡ may_pair rows frame j i
unfolding may_pair
may_pair-comm rows frame i j = may_meet-comm frame (slice_get rows i) (slice_get rows j)

-- a place that is not one of the two keeps its partner where the partner is not one of them either
kept_met : (rows : List Candidate) (frame : Frame) (base : List ℕ) (p q x y i : ℕ) → i ≢ p → i ≢ q → Met rows frame base i → slice_index base i ≢ p → slice_index base i ≢ q → Met rows frame (both_set base p q x y) i
kept_met rows frame base p q x y i not_p not_q met j_not_p j_not_q =
    let same = at_other base p q x y i not_p not_q in
    record {
      inside = subst (λ k. k < length rows) (sym same) met.inside;
      other = λ e. met.other (sym same ∙ e);
      back = ap (λ k. slice_index (both_set base p q x y) k) same ∙ at_other base p q x y (slice_index base i) j_not_p j_not_q ∙ met.back;
      may = subst (λ k. may_pair rows frame i k ≡ true) (sym same) met.may;
    }

-- the list with one pair more is a partner list
pub paired_is_list : (rows : List Candidate) (frame : Frame) (base : List ℕ) (p q : ℕ) → Free rows base p q → may_pair rows frame p q ≡ true → IsTrue (is_partner_list rows frame base) → IsTrue (is_partner_list rows frame (paired base p q))
paired_is_list rows frame base p q free there list =
    let back = may_pair-comm rows frame q p ∙ there in
    let was = paired_from rows frame base list in
    let first = at_first rows base p q q p free.two in
    let second = at_second rows base p q q p free.two in
    paired_to rows frame (paired base p q) (record {
      size = simp length-set was.size;
      each = λ i inside. elim (cases_eq i p) [
        | inl is_p ↦ subst (λ k. Placed rows frame (paired base p q) k) (sym is_p) (inr (record {
          inside = subst (λ k. k < length rows) (sym first) free.two.inside;
          other = λ e. omega (arith, first, e, free.two.up);
          back = ap (λ k. slice_index (paired base p q) k) first ∙ second;
          may = subst (λ k. may_pair rows frame p k ≡ true) (sym first) there;
        }))
        | inr not_p ↦ elim (cases_eq i q) [
          | inl is_q ↦ subst (λ k. Placed rows frame (paired base p q) k) (sym is_q) (inr (record {
            inside = subst (λ k. k < length rows) (sym second) (omega (arith, free.two.up, free.two.inside));
            other = λ e. omega (arith, second, e, free.two.up);
            back = ap (λ k. slice_index (paired base p q) k) second ∙ first;
            may = subst (λ k. may_pair rows frame q k ≡ true) (sym second) back;
          }))
          | inr not_q ↦ elim (was.each i inside) [
            | inl nobody ↦ inl (at_other base p q q p i not_p not_q ∙ nobody)
            | inr met ↦ inr (kept_met rows frame base p q q p i not_p not_q met
                (λ e. let b = subst (λ k. slice_index base k ≡ i) e met.back in omega (arith, b, free.first, inside, free.two.few))
                (λ e. let b = subst (λ k. slice_index base k ≡ i) e met.back in omega (arith, b, free.second, inside, free.two.few)))
          ]
        ]
      ];
    })

-- of two places that name each other, the second names the first
pub named_back : (rows : List Candidate) (frame : Frame) (base : List ℕ) (p q : ℕ) → Two rows base p q → IsTrue (is_partner_list rows frame base) → slice_index base p ≡ q → Met rows frame base p
named_back rows frame base p q two list at =
    elim ((paired_from rows frame base list).each p (omega (arith, two.up, two.inside))) [
      | inl nobody ↦ absurd (omega (arith, nobody, at, two.inside, two.few))
      | inr met ↦ met
    ]

-- the list with one pair less is a partner list
pub unpaired_is_list : (rows : List Candidate) (frame : Frame) (base : List ℕ) (p q : ℕ) → Two rows base p q → IsTrue (is_partner_list rows frame base) → slice_index base p ≡ q → IsTrue (is_partner_list rows frame (unpaired base p q))
unpaired_is_list rows frame base p q two list at =
    let was = paired_from rows frame base list in
    let back : slice_index base q ≡ p = subst (λ k. slice_index base k ≡ p) at (named_back rows frame base p q two list at).back in
    paired_to rows frame (unpaired base p q) (record {
      size = simp length-set was.size;
      each = λ i inside. elim (cases_eq i p) [
        | inl is_p ↦ inl (ap (slice_index (unpaired base p q)) is_p ∙ at_first rows base p q 14 14 two)
        | inr not_p ↦ elim (cases_eq i q) [
          | inl is_q ↦ inl (ap (slice_index (unpaired base p q)) is_q ∙ at_second rows base p q 14 14 two)
          | inr not_q ↦ elim (was.each i inside) [
            | inl nobody ↦ inl (at_other base p q 14 14 i not_p not_q ∙ nobody)
            | inr met ↦ inr (kept_met rows frame base p q 14 14 i not_p not_q met
                (λ e. not_q (sym (subst (λ k. slice_index base k ≡ i) e met.back) ∙ at))
                (λ e. not_p (sym (subst (λ k. slice_index base k ≡ i) e met.back) ∙ back)))
          ]
        ]
      ];
    })

-- the pair put in again
pub paired_again : (rows : List Candidate) (base : List ℕ) (p q : ℕ) → Two rows base p q → slice_index base p ≡ q → slice_index base q ≡ p → paired (unpaired base p q) p q ≡ base
paired_again rows base p q two first second =
    let inner : Two rows (unpaired base p q) p q = record { few = two.few; size = simp length-set two.size; up = two.up; inside = two.inside } in
    ext_get_or 0 (paired (unpaired base p q) p q) base (simp length-set)
    (λ i inside. elim (cases_eq i p) [
      | inl is_p ↦ ap (slice_index (paired (unpaired base p q) p q)) is_p ∙ at_first rows (unpaired base p q) p q q p inner ∙ sym first ∙ ap (slice_index base) (sym is_p)
      | inr not_p ↦ elim (cases_eq i q) [
        | inl is_q ↦ ap (slice_index (paired (unpaired base p q) p q)) is_q ∙ at_second rows (unpaired base p q) p q q p inner ∙ sym second ∙ ap (slice_index base) (sym is_q)
        | inr not_q ↦ at_other (unpaired base p q) p q q p i not_p not_q ∙ at_other base p q 14 14 i not_p not_q
      ]
    ])
