-- What a partner list says place by place.
use Rattle.std.proofs.Common.{◌≡◌, ℕ, ◌<◌, ◌⊎◌, inl, inr, ⊎_elim, Bool, true, false, not, ◌&&◌, ◌||◌, ◌==◌, nat_lt, IsTrue, List, length, slice_index, refl, sym, ◌∙◌, subst, zero-add, eqb-true, eq-eqb, ne_eqb, ltb-true, lt-ltb}
use Rattle.std.specs.List.{range_with_len, list_all}
use Rattle.std.proofs.lemmas.Bool.{and_parts, and_from, eqb-false}
use Rattle.std.proofs.lemmas.List.FromFn.{length-range_with_len, get_or-range_with_len}
use Rattle.std.proofs.lemmas.List.Sums.{AllPass-from_list_all, list_all-from_AllPass}
use Rattle.pair_cost.specs.declared.candidate.Candidate.{Candidate}
use Rattle.pair_cost.specs.declared.candidate.Frame.{Frame}
use Rattle.group_pairing.specs.Lists.{may_pair, is_partner, is_partner_list}

-- place i has a partner: another place of the group, whose item is i, and the two may be paired
pub record Met (rows : List Candidate) (frame : Frame) (to : List ℕ) (i : ℕ) : Type 0 where
  pub inside : slice_index to i < length rows
  pub other : slice_index to i ≡ i → ⊥
  pub back : slice_index to (slice_index to i) ≡ i
  pub may : may_pair rows frame i (slice_index to i) ≡ true

-- place i has nobody or a partner
abbrev pub Placed : List Candidate → Frame → List ℕ → ℕ → Type 0
Placed rows frame to i = (slice_index to i ≡ 14) ⊎ Met rows frame to i

-- a partner list, by its places
pub record Paired (rows : List Candidate) (frame : Frame) (to : List ℕ) : Type 0 where
  pub size : length to ≡ length rows
  pub each : (i : ℕ) → i < length rows → Placed rows frame to i

-- the five tests of one place, taken apart
four_tests : (a b c d e : Bool) → (a || (b && not c && d && e)) ≡ true → (a ≡ true) ⊎ ((b ≡ true) × (c ≡ false) × (d ≡ true) × (e ≡ true))
four_tests true b c d e h = inl refl
four_tests false true false true true h = inr (refl, refl, refl, refl)
four_tests false true false true false h = cc
four_tests false true false false e h = cc
four_tests false true true d e h = cc
four_tests false false c d e h = cc

-- and put together
tests_of : (a b c d e : Bool) → b ≡ true → c ≡ false → d ≡ true → e ≡ true → (a || (b && not c && d && e)) ≡ true
tests_of true b c d e hb hc hd he = refl
tests_of false true false true true hb hc hd he = refl
tests_of false true false true false hb hc hd he = cc
tests_of false true false false e hb hc hd he = cc
tests_of false true true d e hb hc hd he = cc
tests_of false false c d e hb hc hd he = cc

or_left : (a b : Bool) → a ≡ true → (a || b) ≡ true
or_left true b h = refl
or_left false b h = cc

placed_from : (rows : List Candidate) (frame : Frame) (to : List ℕ) (i : ℕ) → is_partner rows frame to i ≡ true → Placed rows frame to i
unfolding is_partner
placed_from rows frame to i h =
    ⊎_elim
    (λ (nobody : (slice_index to i == 14) ≡ true). inl (eqb-true (slice_index to i) 14 nobody))
    (λ (some : (nat_lt (slice_index to i) (length rows) ≡ true) × ((slice_index to i == i) ≡ false) × ((slice_index to (slice_index to i) == i) ≡ true) × (may_pair rows frame i (slice_index to i) ≡ true)).
    inr (record {
      inside = ltb-true (slice_index to i) (length rows) some.0;
      other = eqb-false (slice_index to i) i some.1;
      back = eqb-true (slice_index to (slice_index to i)) i some.2;
      may = some.3;
    }))
    (four_tests (slice_index to i == 14) (nat_lt (slice_index to i) (length rows)) (slice_index to i == i) (slice_index to (slice_index to i) == i) (may_pair rows frame i (slice_index to i)) h)

placed_to : (rows : List Candidate) (frame : Frame) (to : List ℕ) (i : ℕ) → Placed rows frame to i → is_partner rows frame to i ≡ true
unfolding is_partner
placed_to rows frame to i placed =
    ⊎_elim
    (λ (nobody : slice_index to i ≡ 14). or_left (slice_index to i == 14) _ (eq-eqb (slice_index to i) 14 nobody))
    (λ (met : Met rows frame to i).
    tests_of (slice_index to i == 14) (nat_lt (slice_index to i) (length rows)) (slice_index to i == i) (slice_index to (slice_index to i) == i) (may_pair rows frame i (slice_index to i))
    (lt-ltb (slice_index to i) (length rows) met.inside)
    (ne_eqb (slice_index to i) i met.other)
    (eq-eqb (slice_index to (slice_index to i)) i met.back)
    met.may)
    placed

pub paired_from : (rows : List Candidate) (frame : Frame) (to : List ℕ) → IsTrue (is_partner_list rows frame to) → Paired rows frame to
unfolding is_partner_list
paired_from rows frame to h =
    let parts = and_parts (length to == length rows) (list_all (is_partner rows frame to) (range_with_len 0 (length rows))) h in
    let pass = AllPass-from_list_all (is_partner rows frame to) (range_with_len 0 (length rows)) parts.1 in
    record {
      size = eqb-true (length to) (length rows) parts.0;
      each = λ i inside. placed_from rows frame to i
          (subst (λ k. is_partner rows frame to k ≡ true) (get_or-range_with_len 0 (length rows) i 0 inside ∙ zero-add i)
          (pass i 0 (subst (λ n. i < n) (sym (length-range_with_len 0 (length rows))) inside)));
    }

pub paired_to : (rows : List Candidate) (frame : Frame) (to : List ℕ) → Paired rows frame to → IsTrue (is_partner_list rows frame to)
unfolding is_partner_list
paired_to rows frame to paired =
    and_from (length to == length rows) (list_all (is_partner rows frame to) (range_with_len 0 (length rows)))
    (eq-eqb (length to) (length rows) paired.size)
    (list_all-from_AllPass (is_partner rows frame to) (range_with_len 0 (length rows))
    (λ k d inside.
    let within : k < length rows = subst (λ n. k < n) (length-range_with_len 0 (length rows)) inside in
    subst (λ j. is_partner rows frame to j ≡ true) (sym (get_or-range_with_len 0 (length rows) k d within ∙ zero-add k))
    (placed_to rows frame to k (paired.each k within))))
