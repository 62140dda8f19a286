-- The least list within a set of places, from those within smaller sets.
use Rattle.std.proofs.Common.{◌≡◌, ◌≢◌, ℕ, zero, suc, ◌+◌, ◌<◌, ◌≤◌, ◌⊎◌, inl, inr, Bool, true, false, List, [], ◌∷◌, length, set, slice_index, replicate, sym, ◌∙◌, ap, subst, arith, zero-le, length-set, get_or-set_other}
use Rattle.std.specs.Int.{bit_at}
use Rattle.std.proofs.lemmas.Bool.{cases_eq}
use Rattle.std.proofs.lemmas.Bool.Decides.{nat_tests}
use Rattle.std.proofs.lemmas.List.{get_or-replicate}
use Rattle.pair_cost.specs.declared.candidate.Candidate.{Candidate}
use Rattle.pair_cost.specs.declared.candidate.Frame.{Frame}
use Rattle.group_pairing.specs.Lists.{may_pair}
use Rattle.group_pairing.specs.Keys.{alone, price_at, charge_at, total_from, comes_before, key, is_smaller}
use Rattle.group_pairing.specs.Search.{IsWithin, IsLeastIn}
use Rattle.group_pairing.proofs.Places.{Met, paired_from}
use Rattle.group_pairing.proofs.Orders.{first_or_then, later_from_first, smaller-self}
use Rattle.group_pairing.proofs.Totals.{alone-pair, total-pair}
use Rattle.group_pairing.proofs.LeastList.{nobody_is_list}
use Rattle.group_pairing.proofs.Taking.{Free, paired, unpaired, at_first, named_back, paired_again}
use Rattle.group_pairing.proofs.Sets.{First, Rest, Cut, two_in, free_in, first_partner, same_before, within_paired, within_unpaired, within_rest, within_more, within_none}

-- a pair put into two lists keeps their order

same_head : (x : ℕ) (b : Bool) → first_or_then x x b ≡ b
same_head x true = grind (arith, nat_tests)
same_head x false = grind (arith, nat_tests)

order_kept : (xs ys : List ℕ) (i x : ℕ) → length xs ≡ length ys → i < length xs → slice_index xs i ≡ slice_index ys i → comes_before (set xs i x) (set ys i x) ≡ comes_before xs ys
unfolding comes_before
order_kept [] ys i x size inside same = absurd (omega arith)
order_kept (a ∷ as_) [] i x size inside same = absurd (omega arith)
order_kept (a ∷ as_) (b ∷ bs) zero x size inside same =
    same_head x (comes_before as_ bs) ∙ sym (subst (λ k. first_or_then a k (comes_before as_ bs) ≡ comes_before as_ bs) same (same_head a (comes_before as_ bs)))
order_kept (a ∷ as_) (b ∷ bs) (suc i) x size inside same =
    ap (first_or_then a b) (order_kept as_ bs i x (omega arith) (omega arith) same)

shifted : (a a' b b' t t' u u' m k : ℕ) (c : Bool) → a' + 2 ≡ a → b' + 2 ≡ b → t' + m ≡ t + k → u' + m ≡ u + k → first_or_then a b (first_or_then t u c) ≡ false → first_or_then a' b' (first_or_then t' u' c) ≡ false
shifted a a' b b' t t' u u' m k c ea eb et eu h = grind (arith, nat_tests)

-- the second place has nobody also once the first has its partner
still : (rows : List Candidate) (a : List ℕ) (p q : ℕ) → Free rows a p q → slice_index (set a p q) q ≡ 14
still rows a p q f = let ne : q ≢ p = λ e. omega (arith, e, f.two.up) in get_or-set_other a p q q 0 ne ∙ f.second

pub paired_kept : (rows : List Candidate) (frame : Frame) (a b : List ℕ) (p q : ℕ) → Free rows a p q → Free rows b p q → is_smaller (key rows frame a) (key rows frame b) ≡ false → is_smaller (key rows frame (paired a p q)) (key rows frame (paired b p q)) ≡ false
paired_kept rows frame a b p q fa fb h =
    let low : q < 14 = omega (arith, fa.two.inside, fa.two.few) in
    let in_a : q < length a = omega (arith, fa.two.inside, fa.two.size) in
    let in_b : q < length b = omega (arith, fb.two.inside, fb.two.size) in
    let size : length a ≡ length b = fa.two.size ∙ sym fb.two.size in
    let outer = order_kept (set a p q) (set b p q) q p (simp length-set size) (simp length-set in_a) (still rows a p q fa ∙ sym (still rows b p q fb)) in
    let inner = order_kept a b p q size (omega (arith, in_a, fa.two.up)) (fa.first ∙ sym fb.first) in
    subst (λ c. first_or_then (alone (paired a p q)) (alone (paired b p q)) (first_or_then (total_from rows frame 0 (paired a p q)) (total_from rows frame 0 (paired b p q)) c) ≡ false) (sym (outer ∙ inner))
    (shifted (alone a) (alone (paired a p q)) (alone b) (alone (paired b p q)) (total_from rows frame 0 a) (total_from rows frame 0 (paired a p q)) (total_from rows frame 0 b) (total_from rows frame 0 (paired b p q)) (charge_at rows frame p + charge_at rows frame q) (price_at rows frame p q) (comes_before a b)
    (alone-pair a p q fa.two.up in_a low fa.first fa.second)
    (alone-pair b p q fb.two.up in_b low fb.first fb.second)
    (total-pair rows frame a p q fa.two.up in_a low fa.first fa.second)
    (total-pair rows frame b p q fb.two.up in_b low fb.first fb.second)
    h)

-- the choices at the first place of a set

-- fewer are left alone, or as many at no higher cost
abbrev pub NoDearer : List Candidate → Frame → List ℕ → List ℕ → Type 0
NoDearer rows frame a b = (alone a < alone b) ⊎ ((alone a ≡ alone b) × (total_from rows frame 0 a ≤ total_from rows frame 0 b))

-- fewer are left alone, or as many at a lower cost
abbrev pub Cheaper : List Candidate → Frame → List ℕ → List ℕ → Type 0
Cheaper rows frame a b = (alone a < alone b) ⊎ ((alone a ≡ alone b) × (total_from rows frame 0 a < total_from rows frame 0 b))

beaten_by_list : (ao to al tl at tt : ℕ) (b c : Bool) → first_or_then ao al (first_or_then to tl b) ≡ false → (at < al) ⊎ ((at ≡ al) × (tt ≤ tl)) → c ≡ false → first_or_then ao at (first_or_then to tt c) ≡ false
beaten_by_list ao to al tl at tt b c h lead last = grind (arith, nat_tests)

beaten_by_cost : (ao to at tt al tl : ℕ) (b c : Bool) → first_or_then ao at (first_or_then to tt b) ≡ false → (al < at) ⊎ ((al ≡ at) × (tl < tt)) → first_or_then ao al (first_or_then to tl c) ≡ false
beaten_by_cost ao to at tt al tl b c h lead = grind (arith, nat_tests)

-- no list with this partner at the first place has a smaller key than the least rest with the pair put in
pair_least : (rows : List Candidate) (frame : Frame) (s p q r : ℕ) (rest other : List ℕ) → First rows s p → Cut rows s p q r → IsLeastIn rows frame r 0 0 rest → IsWithin rows frame s other → slice_index other p ≡ q → is_smaller (key rows frame other) (key rows frame (paired rest p q)) ≡ false
pair_least rows frame s p q r rest other f c t w at =
    let two = two_in rows frame s p q r other f c w.list in
    let back : slice_index other q ≡ p = subst (λ k. slice_index other k ≡ p) at (named_back rows frame other p q two w.list at).back in
    let out = within_unpaired rows frame s p q r other f c w at in
    subst (λ (l : List ℕ). is_smaller (key rows frame l) (key rows frame (paired rest p q)) ≡ false) (paired_again rows other p q two at back)
    (paired_kept rows frame (unpaired other p q) rest p q (free_in rows frame s p q r (unpaired other p q) f c out) (free_in rows frame s p q r rest f c t.within) (t.least (unpaired other p q) out zero-le))

-- the first partner's least list is no dearer than that of the later partners
pub first_wins : (rows : List Candidate) (frame : Frame) (s p q r : ℕ) (rest later : List ℕ) → First rows s p → Cut rows s p q r → may_pair rows frame p q ≡ true → IsLeastIn rows frame r 0 0 rest → IsLeastIn rows frame s p (q + 1) later → NoDearer rows frame (paired rest p q) later → IsLeastIn rows frame s p q (paired rest p q)
first_wins rows frame s p q r rest later f c may t l lead =
    let within = within_paired rows frame s p q r rest f c may t.within in
    let at = at_first rows rest p q q p (two_in rows frame s p q r rest f c t.within.list) in
    record {
      within = within;
      above = omega (arith, at);
      least = λ other w above. elim (cases_eq (slice_index other p) q) [
        | inl same ↦ pair_least rows frame s p q r rest other f c t w same
        | inr differ ↦
            let small = l.least other w (omega (arith, above, differ)) in
            let size : p < length (paired rest p q) = omega (arith, (paired_from rows frame (paired rest p q) within.list).size, f.inside) in
            let before : comes_before other (paired rest p q) ≡ false = later_from_first (paired rest p q) other p size
            (same_before rows frame s p (paired rest p q) other f within w)
            (omega (arith, at, above, differ)) in
            beaten_by_list (alone other) (total_from rows frame 0 other) (alone later) (total_from rows frame 0 later) (alone (paired rest p q)) (total_from rows frame 0 (paired rest p q)) (comes_before other later) (comes_before other (paired rest p q)) small lead before
      ];
    }

-- the later partners' least list is cheaper
pub later_wins : (rows : List Candidate) (frame : Frame) (s p q r : ℕ) (rest later : List ℕ) → First rows s p → Cut rows s p q r → IsLeastIn rows frame r 0 0 rest → IsLeastIn rows frame s p (q + 1) later → Cheaper rows frame later (paired rest p q) → IsLeastIn rows frame s p q later
later_wins rows frame s p q r rest later f c t l lead = record {
  within = l.within;
  above = omega (arith, l.above);
  least = λ other w above. elim (cases_eq (slice_index other p) q) [
    | inl same ↦
        beaten_by_cost (alone other) (total_from rows frame 0 other) (alone (paired rest p q)) (total_from rows frame 0 (paired rest p q)) (alone later) (total_from rows frame 0 later) (comes_before other (paired rest p q)) (comes_before other later)
        (pair_least rows frame s p q r rest other f c t w same) lead
    | inr differ ↦ l.least other w (omega (arith, above, differ))
  ];
}

-- a partner that no list can have there
skipped : (rows : List Candidate) (frame : Frame) (s p q : ℕ) (later : List ℕ) → ((other : List ℕ) → IsWithin rows frame s other → slice_index other p ≢ q) → IsLeastIn rows frame s p (q + 1) later → IsLeastIn rows frame s p q later
skipped rows frame s p q later none l = record {
  within = l.within;
  above = omega (arith, l.above);
  least = λ other w above. let differ = none other w in l.least other w (omega (arith, above, differ));
}

-- the first place and the partner that it has there
partner_met : (rows : List Candidate) (frame : Frame) (s p q : ℕ) (other : List ℕ) → First rows s p → q < length rows → IsWithin rows frame s other → slice_index other p ≡ q → Met rows frame other p
partner_met rows frame s p q other f inside w at =
    elim ((paired_from rows frame other w.list).each p f.inside) [
      | inl nobody ↦ absurd (omega (arith, nobody, at, inside, f.few))
      | inr met ↦ met
    ]

pub skipped_outside : (rows : List Candidate) (frame : Frame) (s p q : ℕ) (later : List ℕ) → First rows s p → q < length rows → bit_at s q ≡ 0 → IsLeastIn rows frame s p (q + 1) later → IsLeastIn rows frame s p q later
skipped_outside rows frame s p q later f inside none l =
    skipped rows frame s p q later
    (λ other w same.
    let back : slice_index other q ≡ p = subst (λ k. slice_index other k ≡ p) same (partner_met rows frame s p q other f inside w same).back in
    let nobody = w.outside q inside none in
    omega (arith, back, nobody, f.inside, f.few))
    l

pub skipped_forbidden : (rows : List Candidate) (frame : Frame) (s p q : ℕ) (later : List ℕ) → First rows s p → q < length rows → may_pair rows frame p q ≡ false → IsLeastIn rows frame s p (q + 1) later → IsLeastIn rows frame s p q later
skipped_forbidden rows frame s p q later f inside never l =
    skipped rows frame s p q later
    (λ other w same. let may : may_pair rows frame p q ≡ true = subst (λ k. may_pair rows frame p k ≡ true) same (partner_met rows frame s p q other f inside w same).may in cc)
    l

-- behind the last partner there is nobody
pub nobody_left : (rows : List Candidate) (frame : Frame) (s p r : ℕ) (to : List ℕ) → First rows s p → Rest rows s p r → IsLeastIn rows frame r 0 0 to → IsLeastIn rows frame s p (length rows) to
nobody_left rows frame s p r to f c t = record {
  within = within_more rows frame s p r to c t.within;
  above = let at = t.within.outside p f.inside c.gone in omega (arith, at, f.few);
  least = λ other w above. t.least other
      (within_rest rows frame s p r other c w (elim ((paired_from rows frame other w.list).each p f.inside) [
        | inl nobody ↦ nobody
        | inr met ↦ absurd (omega (arith, met.inside, above))
      ]))
      zero-le;
}

-- the first place has a later partner or nobody
pub chosen : (rows : List Candidate) (frame : Frame) (s p low : ℕ) (to : List ℕ) → First rows s p → low ≤ p + 1 → IsLeastIn rows frame s p low to → IsLeastIn rows frame s 0 0 to
chosen rows frame s p low to f few t = record {
  within = t.within;
  above = zero-le;
  least = λ other w above. let later = first_partner rows frame s p other f w in t.least other w (omega (arith, later, few));
}

-- within the empty set the list of nobody paired is least
pub least_of_none : (rows : List Candidate) (frame : Frame) → IsLeastIn rows frame 0 0 0 (replicate (length rows) 14)
least_of_none rows frame = record {
  within = record { list = nobody_is_list rows frame; outside = λ i inside none. get_or-replicate (length rows) i 14 0 inside };
  above = zero-le;
  least = λ other w above. subst (λ (l : List ℕ). is_smaller (key rows frame l) (key rows frame (replicate (length rows) 14)) ≡ false) (sym (within_none rows frame other w)) (smaller-self rows frame (replicate (length rows) 14));
}
