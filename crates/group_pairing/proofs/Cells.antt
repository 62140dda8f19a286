-- What the table of offers says of two places.
use Rattle.std.specs.Prelude.{Option, Some, None}
use Rattle.std.proofs.Common.{◌≡◌, ℕ, ◌+◌, ◌*◌, ◌/◌, ◌%◌, ◌<◌, ◌≤◌, ◌⊎◌, ⊎_elim, false, not, List, length, slice_get, slice_index_or, ◌∙◌, ap, ap₂, refl, subst₂, arith}
use Rattle.std.proofs.lemmas.Bool.Decides.{nat_tests}
use Rattle.std.proofs.lemmas.Nat.{div-mul-add}
use Rattle.std.proofs.lemmas.Option.{slice_get_past}
use Rattle.std.proofs.Math.Nat.{mod-eq-sub-div-mul}
use Rattle.pair_cost.specs.declared.candidate.Candidate.{Candidate}
use Rattle.pair_cost.specs.declared.candidate.Frame.{Frame}
use Rattle.pair_cost.specs.Cost.{cost, charge, is_forbidden}
use Rattle.group_pairing.specs.declared.offers.Offer.{Offer}
use Rattle.group_pairing.specs.Lists.{may_meet, may_pair}
use Rattle.group_pairing.specs.Keys.{price_of, price_at, charge_of, charge_at}
use Rattle.group_pairing.specs.Search.{IsOffer, HoldsOffers}

cell_row : (p q : ℕ) → q < 14 → (14 * p + q) / 14 ≡ p
cell_row p q low = ap (λ k. k / 14) (let e : 14 * p + q ≡ p * 14 + q = omega arith in e) ∙ div-mul-add p 14 q low

cell_column : (p q : ℕ) → q < 14 → (14 * p + q) % 14 ≡ q
cell_column p q low = let row = cell_row p q low in let left = mod-eq-sub-div-mul (14 * p + q) 14 in omega (arith, row, left)

pub read_offer : (rows : List Candidate) (frame : Frame) (table : List Offer) (p q : ℕ) (d : Offer) → HoldsOffers rows frame table 196 → p < 14 → q < 14 → IsOffer rows frame p q (slice_index_or table (14 * p + q) d)
read_offer rows frame table p q d holds p_low q_low =
    subst₂ (λ i j. IsOffer rows frame i j (slice_index_or table (14 * p + q) d)) (cell_row p q q_low) (cell_column p q q_low) (holds (14 * p + q) d (omega arith))

nobody_first : (frame : Frame) (b : Option Candidate) → may_meet frame None b ≡ false
nobody_first frame b = refl

nobody_second : (frame : Frame) (a : Option Candidate) → may_meet frame a None ≡ false
nobody_second frame None = refl
nobody_second frame (Some a) = refl

pub may_inside : (rows : List Candidate) (frame : Frame) (i j : ℕ) (a b : Candidate) → slice_get rows i ≡ Some a → slice_get rows j ≡ Some b → may_pair rows frame i j ≡ not (is_forbidden frame a b)
unfolding may_pair
may_inside rows frame i j a b first second = ap₂ (may_meet frame) first second

pub may_past : (rows : List Candidate) (frame : Frame) (i j : ℕ) → (length rows ≤ i) ⊎ (length rows ≤ j) → may_pair rows frame i j ≡ false
unfolding may_pair
may_past rows frame i j past =
    ⊎_elim
    (λ (out : length rows ≤ i). ap (λ x. may_meet frame x (slice_get rows j)) (slice_get_past rows i out) ∙ nobody_first frame (slice_get rows j))
    (λ (out : length rows ≤ j). ap (λ y. may_meet frame (slice_get rows i) y) (slice_get_past rows j out) ∙ nobody_second frame (slice_get rows i))
    past

pub price_inside : (rows : List Candidate) (frame : Frame) (i j : ℕ) (a b : Candidate) → slice_get rows i ≡ Some a → slice_get rows j ≡ Some b → price_at rows frame i j ≡ cost frame a b
unfolding price_at
price_inside rows frame i j a b first second = ap₂ (price_of frame) first second

pub charge_inside : (rows : List Candidate) (frame : Frame) (i : ℕ) (a : Candidate) → slice_get rows i ≡ Some a → charge_at rows frame i ≡ charge frame a
unfolding charge_at
charge_inside rows frame i a at = ap (charge_of frame) at

few_waves : (frame : Frame) (o : Option Candidate) → charge_of frame o ≤ 5000000000
few_waves frame None = omega arith
few_waves frame (Some a) = grind (arith, nat_tests)

pub charge_small : (rows : List Candidate) (frame : Frame) (i : ℕ) → charge_at rows frame i ≤ 5000000000
unfolding charge_at
charge_small rows frame i = few_waves frame (slice_get rows i)
