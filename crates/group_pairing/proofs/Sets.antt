-- The lists within a set of places: with a pair of its places taken out, and with its first place left alone.
use Rattle.std.proofs.Common.{◌≡◌, ◌≢◌, ℕ, ◌+◌, ◌-◌, ◌^◌, ◌<◌, ◌≤◌, inl, inr, Bool, true, false, IsTrue, List, length, slice_index, replicate, sym, ◌∙◌, ap, subst, arith, pow_mono, ext_get_or, eqb-true, ◌==◌}
use Rattle.std.specs.Int.{bit_at}
use Rattle.std.proofs.lemmas.Bool.{cases_eq, cases_lt, eqb-false}
use Rattle.std.proofs.lemmas.Nat.Bits.{bit_at-zero, bit_at_ones, bit_at-lt, bit_at_above}
use Rattle.std.proofs.lemmas.List.{length-replicate, get_or-replicate}
use Rattle.pair_cost.specs.declared.candidate.Candidate.{Candidate}
use Rattle.pair_cost.specs.declared.candidate.Frame.{Frame}
use Rattle.group_pairing.specs.Lists.{may_pair, is_partner_list}
use Rattle.group_pairing.specs.Search.{IsFirst, IsWithin}
use Rattle.group_pairing.proofs.Places.{paired_from}
use Rattle.group_pairing.proofs.Taking.{Two, Free, paired, unpaired, at_first, at_second, at_other, paired_is_list, unpaired_is_list}

-- a set of places and its first one
pub record First (rows : List Candidate) (s p : ℕ) : Type 0 where
  pub few : length rows ≤ 14
  pub inside : p < length rows
  pub has : bit_at s p ≡ 1
  pub below : (i : ℕ) → i < p → bit_at s i ≡ 0

-- the set without its first place
pub record Rest (rows : List Candidate) (s p r : ℕ) : Type 0 where
  pub gone : bit_at r p ≡ 0
  pub others : (i : ℕ) → i < length rows → i ≢ p → bit_at r i ≡ bit_at s i

-- another place of the set, and the set without the two
pub record Cut (rows : List Candidate) (s p q r : ℕ) : Type 0 where
  pub up : p < q
  pub inside : q < length rows
  pub has : bit_at s q ≡ 1
  pub first_gone : bit_at r p ≡ 0
  pub second_gone : bit_at r q ≡ 0
  pub others : (i : ℕ) → i < length rows → i ≢ p → i ≢ q → bit_at r i ≡ bit_at s i

pub two_in : (rows : List Candidate) (frame : Frame) (s p q r : ℕ) (to : List ℕ) → First rows s p → Cut rows s p q r → IsTrue (is_partner_list rows frame to) → Two rows to p q
two_in rows frame s p q r to f c list = record { few = f.few; size = (paired_from rows frame to list).size; up = c.up; inside = c.inside }

pub free_in : (rows : List Candidate) (frame : Frame) (s p q r : ℕ) (to : List ℕ) → First rows s p → Cut rows s p q r → IsWithin rows frame r to → Free rows to p q
free_in rows frame s p q r to f c w = record {
  two = two_in rows frame s p q r to f c w.list;
  first = w.outside p f.inside c.first_gone;
  second = w.outside q c.inside c.second_gone;
}

-- the first place has nobody or a later one
pub first_partner : (rows : List Candidate) (frame : Frame) (s p : ℕ) (to : List ℕ) → First rows s p → IsWithin rows frame s to → p + 1 ≤ slice_index to p
first_partner rows frame s p to f w =
    elim ((paired_from rows frame to w.list).each p f.inside) [
      | inl nobody ↦ omega (arith, nobody, f.inside, f.few)
      | inr met ↦ elim (cases_lt p (slice_index to p)) [
        | inl up ↦ omega (arith, up)
        | inr down ↦
            let before : slice_index to p < p = let differ = met.other in omega (arith, down, differ) in
            let nobody = w.outside (slice_index to p) met.inside (f.below (slice_index to p) before) in
            absurd (omega (arith, nobody, met.back, f.inside, f.few))
      ]
    ]

-- the lists of a set agree before its first place
pub same_before : (rows : List Candidate) (frame : Frame) (s p : ℕ) (a b : List ℕ) → First rows s p → IsWithin rows frame s a → IsWithin rows frame s b → (j : ℕ) → j < p → slice_index a j ≡ slice_index b j
same_before rows frame s p a b f wa wb j below =
    wa.outside j (omega (arith, below, f.inside)) (f.below j below) ∙ sym (wb.outside j (omega (arith, below, f.inside)) (f.below j below))

-- a list of the smaller set, with the pair put in
pub within_paired : (rows : List Candidate) (frame : Frame) (s p q r : ℕ) (to : List ℕ) → First rows s p → Cut rows s p q r → may_pair rows frame p q ≡ true → IsWithin rows frame r to → IsWithin rows frame s (paired to p q)
within_paired rows frame s p q r to f c may w = record {
  list = paired_is_list rows frame to p q (free_in rows frame s p q r to f c w) may w.list;
  outside = λ i inside none.
      let not_p : i ≢ p = λ e. let one = subst (λ k. bit_at s k ≡ 1) (sym e) f.has in omega (arith, one, none) in
      let not_q : i ≢ q = λ e. let one = subst (λ k. bit_at s k ≡ 1) (sym e) c.has in omega (arith, one, none) in
      at_other to p q q p i not_p not_q ∙ w.outside i inside (c.others i inside not_p not_q ∙ none);
}

-- a list of the set, with the pair taken out
pub within_unpaired : (rows : List Candidate) (frame : Frame) (s p q r : ℕ) (to : List ℕ) → First rows s p → Cut rows s p q r → IsWithin rows frame s to → slice_index to p ≡ q → IsWithin rows frame r (unpaired to p q)
within_unpaired rows frame s p q r to f c w at =
    let two = two_in rows frame s p q r to f c w.list in
    record {
      list = unpaired_is_list rows frame to p q two w.list at;
      outside = λ i inside none. elim (cases_eq i p) [
        | inl is_p ↦ ap (slice_index (unpaired to p q)) is_p ∙ at_first rows to p q 14 14 two
        | inr not_p ↦ elim (cases_eq i q) [
          | inl is_q ↦ ap (slice_index (unpaired to p q)) is_q ∙ at_second rows to p q 14 14 two
          | inr not_q ↦ at_other to p q 14 14 i not_p not_q ∙ w.outside i inside (sym (c.others i inside not_p not_q) ∙ none)
        ]
      ];
    }

-- a list in which the first place has nobody is one of the set without it, and the other way round
pub within_rest : (rows : List Candidate) (frame : Frame) (s p r : ℕ) (to : List ℕ) → Rest rows s p r → IsWithin rows frame s to → slice_index to p ≡ 14 → IsWithin rows frame r to
within_rest rows frame s p r to c w at = record {
  list = w.list;
  outside = λ i inside none. elim (cases_eq i p) [
    | inl is_p ↦ ap (slice_index to) is_p ∙ at
    | inr not_p ↦ w.outside i inside (sym (c.others i inside not_p) ∙ none)
  ];
}

pub within_more : (rows : List Candidate) (frame : Frame) (s p r : ℕ) (to : List ℕ) → Rest rows s p r → IsWithin rows frame r to → IsWithin rows frame s to
within_more rows frame s p r to c w = record {
  list = w.list;
  outside = λ i inside none. elim (cases_eq i p) [
    | inl is_p ↦ w.outside i inside (ap (bit_at r) is_p ∙ c.gone)
    | inr not_p ↦ w.outside i inside (c.others i inside not_p ∙ none)
  ];
}

-- within the empty set nobody has a partner, and within the whole one each partner list lies

pub within_none : (rows : List Candidate) (frame : Frame) (to : List ℕ) → IsWithin rows frame 0 to → to ≡ replicate (length rows) 14
within_none rows frame to w =
    let size = (paired_from rows frame to w.list).size in
    ext_get_or 0 to (replicate (length rows) 14) (size ∙ sym (length-replicate (length rows) 14))
    (λ i inside.
    let within : i < length rows = omega (arith, inside, size) in
    w.outside i within (bit_at-zero i) ∙ sym (get_or-replicate (length rows) i 14 0 within))

pub within_all : (rows : List Candidate) (frame : Frame) (to : List ℕ) → IsTrue (is_partner_list rows frame to) → IsWithin rows frame (2 ^ length rows - 1) to
within_all rows frame to list = record {
  list = list;
  outside = λ i inside none. let one = bit_at_ones (length rows) i inside in absurd (omega (arith, one, none));
}

-- what a test of a place tells

pub off : (s i : ℕ) (t : Bool) → t ≡ (bit_at s i == 1) → t ≡ false → bit_at s i ≡ 0
off s i t is no_ =
    let few = bit_at-lt s i in
    let not_one = eqb-false (bit_at s i) 1 (sym is ∙ no_) in
    omega (arith, few, not_one)

pub on : (s i : ℕ) (t : Bool) → t ≡ (bit_at s i == 1) → t ≡ true → bit_at s i ≡ 1
on s i t is yes_ = eqb-true (bit_at s i) 1 (sym is ∙ yes_)

-- the first place of a set of places of the group is one of the group
pub first_inside : (rows : List Candidate) (s p : ℕ) → s < 2 ^ length rows → bit_at s p ≡ 1 → p < length rows
first_inside rows s p below has =
    elim (cases_lt p (length rows)) [
      | inl inside ↦ inside
      | inr past ↦ let none = bit_at_above s (length rows) p below past in absurd (omega (arith, none, has))
    ]

-- there are few sets
pub sets_few : (n s : ℕ) → n ≤ 14 → s < 2 ^ n → s < 16384
sets_few n s few fits = let most : 2 ^ n ≤ 2 ^ 14 = pow_mono few in omega (arith, most, fits)

-- the three from what the calls on sets say

pub first_of_set : (rows : List Candidate) (s p : ℕ) → length rows ≤ 14 → s < 2 ^ length rows → IsFirst s p → First rows s p
first_of_set rows s p few fits first = record { few = few; inside = first_inside rows s p fits first.has; has = first.has; below = first.below }

pub rest_of_set : (rows : List Candidate) (s p r : ℕ) → length rows ≤ 14 → bit_at r p ≡ 0 → ((i : ℕ) → i < 14 → i ≢ p → bit_at r i ≡ bit_at s i) → Rest rows s p r
rest_of_set rows s p r few gone others = record { gone = gone; others = λ i inside differ. others i (omega (arith, inside)) differ }

pub cut_of_set : (rows : List Candidate) (s p q r t : ℕ) → First rows s p → Rest rows s p r → p < q → q < length rows → bit_at s q ≡ 1 → bit_at t q ≡ 0 → ((i : ℕ) → i < 14 → i ≢ q → bit_at t i ≡ bit_at r i) → Cut rows s p q t
cut_of_set rows s p q r t f c up inside has gone others = record {
  up = up;
  inside = inside;
  has = has;
  first_gone = others p (omega (arith, f.inside, f.few)) (λ e. omega (arith, e, up)) ∙ c.gone;
  second_gone = gone;
  others = λ i within not_p not_q. others i (omega (arith, within, f.few)) not_q ∙ c.others i within not_p;
}
