-- The best choice for a set, from those for smaller sets, and the least list that it tells of.
use Rattle.std.proofs.Common.{◌≡◌, ◌≢◌, ℕ, ◌+◌, ◌<◌, ◌≤◌, ◌⊎◌, inl, inr, ⊎_elim, true, false, cond, ◌&&◌, ◌||◌, ◌==◌, nat_lt, nat_le, List, length, replicate, set, take, slice_index, sym, ◌∙◌, ap, subst, arith, zero-le}
use Rattle.std.proofs.Math.Seq.{take-set-lt}
use Rattle.std.specs.Int.{bit_at}
use Rattle.std.proofs.lemmas.Bool.{cases_eq, cases_lt, cases_Bool}
use Rattle.std.proofs.lemmas.Bool.Decides.{nat_tests}
use Rattle.std.proofs.lemmas.Nat.Bits.{bit_at-zero, bit_at-lt}
use Rattle.pair_cost.specs.declared.candidate.Candidate.{Candidate}
use Rattle.pair_cost.specs.declared.candidate.Frame.{Frame}
use Rattle.group_pairing.specs.declared.choice.Choice.{Choice}
use Rattle.group_pairing.specs.declared.offers.Offer.{Offer}
use Rattle.group_pairing.specs.Lists.{may_pair}
use Rattle.group_pairing.specs.Keys.{alone, price_at, charge_at, total_from, key, is_smaller}
use Rattle.group_pairing.specs.Search.{IsFirst, IsWithin, IsLeastIn, Tells, IsBest, leads, sum_outside}
use Rattle.group_pairing.proofs.Places.{Met, paired_from}
use Rattle.group_pairing.proofs.Orders.{same_from_neither_smaller}
use Rattle.group_pairing.proofs.Totals.{alone-pair, total-pair, alone-replicate, total-replicate, count_outside-none, sum_outside-less}
use Rattle.group_pairing.proofs.Taking.{paired, unpaired, at_first, paired_again}
use Rattle.group_pairing.proofs.Sets.{First, Rest, Cut, two_in, free_in, first_partner, within_paired, within_unpaired, within_rest, within_more}
use Rattle.group_pairing.proofs.Choices.{first_wins, later_wins, paired_kept, nobody_left, chosen, skipped_outside, skipped_forbidden, least_of_none}

-- what reading a table of choices past its end would give
abbrev pub blank : Choice
blank = record { total = 0; alone = 0; partner = 0 }

-- what reading a table of offers past its end would give
abbrev pub no_cell : Offer
no_cell = record { price = 0; may = false }

first_only : (s p q : ℕ) → IsFirst s p → IsFirst s q → p ≡ q
first_only s p q f g =
    elim (cases_eq p q) [
      | inl same ↦ same
      | inr differ ↦ elim (cases_lt p q) [
        | inl up ↦ let none = g.below p up in let one = f.has in absurd (omega (arith, none, one))
        | inr down ↦ let none = f.below q (omega (arith, down, differ)) in let one = g.has in absurd (omega (arith, none, one))
      ]
    ]

as_first : (rows : List Candidate) (s p : ℕ) → First rows s p → IsFirst s p
as_first rows s p f = record { has = f.has; below = f.below }

-- the item at the first place is what is told
first_told : (rows : List Candidate) (s p partner : ℕ) (to : List ℕ) → First rows s p → slice_index to p ≡ partner → (q : ℕ) → IsFirst s q → slice_index to q ≡ partner
first_told rows s p partner to f at q first = subst (λ k. slice_index to k ≡ partner) (first_only s p q (as_first rows s p f) first) at

-- the empty set
pub best_of_none : (rows : List Candidate) (frame : Frame) → IsBest rows frame 0 0 0 (record { total = 0; alone = 0; partner = 14 })
best_of_none rows frame = record {
  to = replicate (length rows) 14;
  least = least_of_none rows frame;
  told = record {
    partner = λ p first. let none = bit_at-zero p in let one = first.has in absurd (omega (arith, none, one));
    count = let all = alone-replicate (length rows) in let out = count_outside-none (length rows) in omega (arith, all, out);
    total = let all = total-replicate rows frame (length rows) in omega (arith, all);
    few = omega arith;
    cheap = omega arith;
  };
}

-- the first place left alone
pub best_left : (rows : List Candidate) (frame : Frame) (s p r charge : ℕ) (b new : Choice) → First rows s p → Rest rows s p r → r < s → charge_at rows frame p ≡ charge → charge ≤ 5000000000 → IsBest rows frame r 0 0 b → new.alone ≡ b.alone + 1 → new.total ≡ b.total + charge → new.partner ≡ 14 → IsBest rows frame s p (length rows) new
best_left rows frame s p r charge b new f c smaller charged small best count total partner =
    let ones = sum_outside-less (λ _. 1) (length rows) p r s f.inside c.gone f.has c.others in
    let charges = sum_outside-less (charge_at rows frame) (length rows) p r s f.inside c.gone f.has c.others in
    let counted = best.told.count in
    let totalled = best.told.total in
    let few = best.told.few in
    let cheap = best.told.cheap in
    record {
      to = best.to;
      least = nobody_left rows frame s p r best.to f c best.least;
      told = record {
        partner = first_told rows s p new.partner best.to f (best.least.within.outside p f.inside c.gone ∙ sym partner);
        count = omega (arith, ones, counted, count);
        total = omega (arith, charges, totalled, total, charged);
        few = omega (arith, few, count, smaller);
        cheap = omega (arith, cheap, total, small, smaller);
      };
    }

-- the first place and a partner
pub told_paired : (rows : List Candidate) (frame : Frame) (s p q r t price : ℕ) (to : List ℕ) (b new : Choice) → First rows s p → Rest rows s p r → Cut rows s p q t → t < s → price_at rows frame p q ≡ price → price ≤ 22002000 → IsWithin rows frame t to → Tells rows frame t b to → new.alone ≡ b.alone → new.total ≡ b.total + price → new.partner ≡ q → Tells rows frame s new (paired to p q)
told_paired rows frame s p q r t price to b new f c d smaller priced small w told count total partner =
    let free = free_in rows frame s p q t to f d w in
    let inside : q < length to = omega (arith, free.two.inside, free.two.size) in
    let low : q < 14 = omega (arith, free.two.inside, free.two.few) in
    let fewer = alone-pair to p q d.up inside low free.first free.second in
    let sum = total-pair rows frame to p q d.up inside low free.first free.second in
    let shared : bit_at r q ≡ 1 = c.others q d.inside (λ e. omega (arith, e, d.up)) ∙ d.has in
    let behind : (i : ℕ) → i < length rows → i ≢ q → bit_at t i ≡ bit_at r i =
    λ i within not_q. elim (cases_eq i p) [
      | inl is_p ↦ subst (λ k. bit_at t k ≡ bit_at r k) (sym is_p) (d.first_gone ∙ sym c.gone)
      | inr not_p ↦ d.others i within not_p not_q ∙ sym (c.others i within not_p)
    ] in
    let ones = sum_outside-less (λ _. 1) (length rows) p r s f.inside c.gone f.has c.others in
    let twos = sum_outside-less (λ _. 1) (length rows) q t r d.inside d.second_gone shared behind in
    let charges = sum_outside-less (charge_at rows frame) (length rows) p r s f.inside c.gone f.has c.others in
    let further = sum_outside-less (charge_at rows frame) (length rows) q t r d.inside d.second_gone shared behind in
    let counted = told.count in
    let totalled = told.total in
    let few = told.few in
    let cheap = told.cheap in
    record {
      partner = first_told rows s p new.partner (paired to p q) f (at_first rows to p q q p free.two ∙ sym partner);
      count = omega (arith, fewer, ones, twos, counted, count);
      total = omega (arith, sum, charges, further, totalled, total, priced);
      few = omega (arith, few, count, smaller);
      cheap = omega (arith, cheap, total, small, smaller);
    }

lead_cases : (a b x y : ℕ) → (nat_lt a b || (a == b && nat_le x y)) ≡ true → (a < b) ⊎ ((a ≡ b) × (x ≤ y))
lead_cases a b x y h = grind (arith, nat_tests)

follow_cases : (a b x y : ℕ) → (nat_lt a b || (a == b && nat_le x y)) ≡ false → (b < a) ⊎ ((b ≡ a) × (y < x))
follow_cases a b x y h = grind (arith, nat_tests)

no_dearer : (a b o x y u : ℕ) (k l m n : ℕ) → k ≡ a + o → l ≡ b + o → m ≡ x + u → n ≡ y + u → (a < b) ⊎ ((a ≡ b) × (x ≤ y)) → (k < l) ⊎ ((k ≡ l) × (m ≤ n))
no_dearer a b o x y u k l m n ek el em en (inl less) = inl (omega arith)
no_dearer a b o x y u k l m n ek el em en (inr same) = inr (let e = same.0 in omega (arith, e), let e = same.1 in omega (arith, e))

cheaper : (a b o x y u : ℕ) (k l m n : ℕ) → k ≡ a + o → l ≡ b + o → m ≡ x + u → n ≡ y + u → (b < a) ⊎ ((b ≡ a) × (y < x)) → (l < k) ⊎ ((l ≡ k) × (n < m))
cheaper a b o x y u k l m n ek el em en (inl less) = inl (omega arith)
cheaper a b o x y u k l m n ek el em en (inr same) = inr (let e = same.0 in omega (arith, e), let e = same.1 in omega (arith, e))

-- this partner's choice or that of the later ones, whichever leads
pub best_lesser : (rows : List Candidate) (frame : Frame) (s p q r t price : ℕ) (b new later led : Choice) → First rows s p → Rest rows s p r → Cut rows s p q t → t < s → may_pair rows frame p q ≡ true → price_at rows frame p q ≡ price → price ≤ 22002000 → IsBest rows frame t 0 0 b → IsBest rows frame s p (q + 1) later → new.alone ≡ b.alone → new.total ≡ b.total + price → new.partner ≡ q → led ≡ cond (leads new later) new later → IsBest rows frame s p q led
best_lesser rows frame s p q r t price b new later led f c d smaller may priced small best l count total partner is =
    let told = told_paired rows frame s p q r t price best.to b new f c d smaller priced small best.least.within best.told count total partner in
    subst (λ (n : Choice). IsBest rows frame s p q n) (sym is)
    (⊎_elim
    (λ (yes : leads new later ≡ true).
    subst (λ u. IsBest rows frame s p q (cond u new later)) (sym yes)
    (record {
      to = paired best.to p q;
      least = first_wins rows frame s p q t best.to l.to f d may best.least l.least
          (no_dearer new.alone later.alone (sum_outside (λ _. 1) s (length rows)) new.total later.total (sum_outside (charge_at rows frame) s (length rows)) (alone (paired best.to p q)) (alone l.to) (total_from rows frame 0 (paired best.to p q)) (total_from rows frame 0 l.to) told.count l.told.count told.total l.told.total
          (lead_cases new.alone later.alone new.total later.total yes));
      told = told;
    }))
    (λ (not_first : leads new later ≡ false).
    subst (λ u. IsBest rows frame s p q (cond u new later)) (sym not_first)
    (record {
      to = l.to;
      least = later_wins rows frame s p q t best.to l.to f d best.least l.least
          (cheaper new.alone later.alone (sum_outside (λ _. 1) s (length rows)) new.total later.total (sum_outside (charge_at rows frame) s (length rows)) (alone (paired best.to p q)) (alone l.to) (total_from rows frame 0 (paired best.to p q)) (total_from rows frame 0 l.to) told.count l.told.count told.total l.told.total
          (follow_cases new.alone later.alone new.total later.total not_first));
      told = l.told;
    }))
    (cases_Bool (leads new later)))

pub best_chosen : (rows : List Candidate) (frame : Frame) (s p low : ℕ) (b : Choice) → First rows s p → low ≤ p + 1 → IsBest rows frame s p low b → IsBest rows frame s 0 0 b
best_chosen rows frame s p low b f few best = record { to = best.to; least = chosen rows frame s p low best.to f few best.least; told = best.told }

pub best_outside : (rows : List Candidate) (frame : Frame) (s p q : ℕ) (b : Choice) → First rows s p → q < length rows → bit_at s q ≡ 0 → IsBest rows frame s p (q + 1) b → IsBest rows frame s p q b
best_outside rows frame s p q b f inside none best = record { to = best.to; least = skipped_outside rows frame s p q best.to f inside none best.least; told = best.told }

pub best_forbidden : (rows : List Candidate) (frame : Frame) (s p q : ℕ) (b : Choice) → First rows s p → q < length rows → may_pair rows frame p q ≡ false → IsBest rows frame s p (q + 1) b → IsBest rows frame s p q b
best_forbidden rows frame s p q b f inside never best = record { to = best.to; least = skipped_forbidden rows frame s p q best.to f inside never best.least; told = best.told }

-- the least list, read out of the table

-- a partner that is told is a later place of the set
pub record Partnered (rows : List Candidate) (s p q : ℕ) : Type 0 where
  pub up : p < q
  pub inside : q < length rows
  pub has : bit_at s q ≡ 1

met_at : (rows : List Candidate) (frame : Frame) (s p : ℕ) (b : Choice) → First rows s p → (best : IsBest rows frame s 0 0 b) → b.partner ≢ 14 → Met rows frame best.to p
met_at rows frame s p b f best some =
    elim ((paired_from rows frame best.to best.least.within.list).each p f.inside) [
      | inl nobody ↦ absurd (some (sym (best.told.partner p (as_first rows s p f)) ∙ nobody))
      | inr met ↦ met
    ]

pub partner_told : (rows : List Candidate) (frame : Frame) (s p : ℕ) (b : Choice) → First rows s p → IsBest rows frame s 0 0 b → b.partner ≢ 14 → Partnered rows s p b.partner
partner_told rows frame s p b f best some =
    let at = best.told.partner p (as_first rows s p f) in
    let met = met_at rows frame s p b f best some in
    let up = first_partner rows frame s p best.to f best.least.within in
    subst (λ q. Partnered rows s p q) at
    (record {
      up = omega (arith, up);
      inside = met.inside;
      has = let few = bit_at-lt s (slice_index best.to p) in elim (cases_eq (bit_at s (slice_index best.to p)) 0) [
        | inl none ↦ let nobody = best.least.within.outside (slice_index best.to p) met.inside none in let back = met.back in absurd (omega (arith, nobody, back, f.inside, f.few))
        | inr differ ↦ omega (arith, few, differ)
      ];
    })

-- with the first place left alone
pub drawn_left : (rows : List Candidate) (frame : Frame) (s p r : ℕ) (b : Choice) (to : List ℕ) → First rows s p → Rest rows s p r → IsBest rows frame s 0 0 b → b.partner ≡ 14 → IsLeastIn rows frame r 0 0 to → IsLeastIn rows frame s 0 0 to
drawn_left rows frame s p r b to f c best nobody t =
    let at : slice_index best.to p ≡ 14 = best.told.partner p (as_first rows s p f) ∙ nobody in
    let same = same_from_neither_smaller rows frame to best.to
    (best.least.least to (within_more rows frame s p r to c t.within) zero-le)
    (t.least best.to (within_rest rows frame s p r best.to c best.least.within at) zero-le) in
    subst (λ (l : List ℕ). IsLeastIn rows frame s 0 0 l) (sym same) best.least

-- with the first place and its partner
pub drawn_paired : (rows : List Candidate) (frame : Frame) (s p t : ℕ) (b : Choice) (to : List ℕ) → First rows s p → Cut rows s p b.partner t → IsBest rows frame s 0 0 b → b.partner ≢ 14 → IsLeastIn rows frame t 0 0 to → IsLeastIn rows frame s 0 0 (paired to p b.partner)
drawn_paired rows frame s p t b to f d best some l =
    let at : slice_index best.to p ≡ b.partner = best.told.partner p (as_first rows s p f) in
    let met = met_at rows frame s p b f best some in
    let may : may_pair rows frame p b.partner ≡ true = subst (λ k. may_pair rows frame p k ≡ true) at met.may in
    let back : slice_index best.to b.partner ≡ p = subst (λ k. slice_index best.to k ≡ p) at met.back in
    let two = two_in rows frame s p b.partner t best.to f d best.least.within.list in
    let out = within_unpaired rows frame s p b.partner t best.to f d best.least.within at in
    let kept = paired_kept rows frame (unpaired best.to p b.partner) to p b.partner (free_in rows frame s p b.partner t (unpaired best.to p b.partner) f d out) (free_in rows frame s p b.partner t to f d l.within) (l.least (unpaired best.to p b.partner) out zero-le) in
    let same = same_from_neither_smaller rows frame (paired to p b.partner) best.to
    (best.least.least (paired to p b.partner) (within_paired rows frame s p b.partner t to f d may l.within) zero-le)
    (subst (λ (x : List ℕ). is_smaller (key rows frame x) (key rows frame (paired to p b.partner)) ≡ false) (paired_again rows best.to p b.partner two at back) kept) in
    subst (λ (x : List ℕ). IsLeastIn rows frame s 0 0 x) (sym same) best.least

-- the items of a group with a pair written into them
pub items_paired : (n p q : ℕ) (to : List ℕ) → p < q → q < n → take n (set (set to p q) q p) ≡ paired (take n to) p q
items_paired n p q to up inside =
    take-set-lt n (set to p q) q p inside
    ∙ ap (λ l. set l q p) (take-set-lt n to p q (omega (arith, up, inside)))
