-- Where a piece comes along a line: up to the first square behind it that is occupied, and down to the last before it.
use Rattle.std.proofs.Common.{◌≡◌, ℕ, ◌<◌, ◌^◌, refl, arith, ap, sym, subst, ◌∙◌, Bool, true, false, ◌&&◌, ◌||◌, not, ◌==◌, inl, inr, w64, bit_and, nat_le, nat_lt, eq-eqb}
use Rattle.std.proofs.lemmas.Bool.{cases_lt, cases_order, and_parts, and_from, ltb-true, lt-leb, le-leb, lt-ltb, le-ltb, ne_eqb, both_ways}
use Rattle.std.specs.Int.{bit_not}
use Rattle.board.specs.Sets.{has, IsSetOf}
use Rattle.board.proofs.SetLaws.{has-and, has-not}
use Rattle.bitboards.specs.Lines.{open_between, reached_on}
use Rattle.bitboards.proofs.Masks.{has-nothing, not-le}
use Rattle.bitboards.proofs.Open.{between_turned, is_between, between_parts, closed, opened, where_true}

-- a part of a line on one side of a square
part_has : (line cut : ℕ) (f g : ℕ → Bool) → cut < 2 ^ 64 → IsSetOf cut f → ((t : ℕ) → not (f t) ≡ g t) → IsSetOf (bit_and line (bit_not w64 cut)) (λ t. has line t && g t)
part_has line cut f g fits is turn = λ t on.
    has-and line (bit_not w64 cut) t ∙ ap (λ b. has line t && b) (has-not cut t fits on ∙ ap not (is t on) ∙ turn t)

kept_where : (x z : Bool) → (x ≡ true → z ≡ true) → x ≡ (x && z)
kept_where true z h = sym (h refl)
kept_where false z h = refl

empty_has : (n t : ℕ) → n ≡ 0 → has n t ≡ true → ⊥
empty_has n t none h = both_ways _ (has-nothing t) (subst (λ (k : ℕ). has k t ≡ true) none h)

-- a blocker is a square of the part that is occupied
blocks : (line cut set t : ℕ) (f g : ℕ → Bool) → cut < 2 ^ 64 → IsSetOf cut f → ((t : ℕ) → not (f t) ≡ g t) → t < 64 → has line t ≡ true → g t ≡ true → has set t ≡ true → has (bit_and (bit_and line (bit_not w64 cut)) set) t ≡ true
blocks line cut set t f g fits is turn on in_line beside in_set =
    has-and (bit_and line (bit_not w64 cut)) set t ∙ and_from _ _ (part_has line cut f g fits is turn t on ∙ and_from _ _ in_line beside) in_set

blocker_parts : (line cut set t : ℕ) (f g : ℕ → Bool) → cut < 2 ^ 64 → IsSetOf cut f → ((t : ℕ) → not (f t) ≡ g t) → t < 64 → has (bit_and (bit_and line (bit_not w64 cut)) set) t ≡ true → (has line t ≡ true) × (g t ≡ true) × (has set t ≡ true)
blocker_parts line cut set t f g fits is turn on h =
    let both = and_parts _ _ (sym (has-and (bit_and line (bit_not w64 cut)) set t) ∙ h) in
    let pair = and_parts _ _ (sym (part_has line cut f g fits is turn t on) ∙ both.0) in
    (pair.0, pair.1, both.1)

pub up_free : (line set s cut : ℕ) → line < 2 ^ 64 → cut < 2 ^ 64 → IsSetOf cut (λ t. nat_le t s) → bit_and (bit_and line (bit_not w64 cut)) set ≡ 0 → IsSetOf (bit_and line (bit_not w64 cut)) (λ t. has line t && nat_lt s t && open_between line set s t)
up_free line set s cut line_fits fits is none = λ t on.
    part_has line cut (λ t. nat_le t s) (nat_lt s) fits is (λ t. not-le t s) t on
    ∙ kept_where (has line t && nat_lt s t) _ (λ h.
    let order : s < t = ltb-true s t (and_parts (has line t) (nat_lt s t) h).1 in
    opened line set s t line_fits (λ u u_on in_line in_set between.
    let place = between_parts s t u (omega arith) between in
    empty_has _ u none (blocks line cut set u (λ t. nat_le t s) (nat_lt s) fits is (λ t. not-le t s) u_on in_line (lt-ltb s u place.0) in_set)))

pub up_stopped : (line set s cut stop b : ℕ) → line < 2 ^ 64 → cut < 2 ^ 64 → IsSetOf cut (λ t. nat_le t s) → IsSetOf stop (λ t. nat_le t b) → b < 64 → has (bit_and (bit_and line (bit_not w64 cut)) set) b ≡ true → ((t : ℕ) → t < b → has (bit_and (bit_and line (bit_not w64 cut)) set) t ≡ false) → IsSetOf (bit_and (bit_and line (bit_not w64 cut)) stop) (λ t. has line t && nat_lt s t && open_between line set s t)
up_stopped line set s cut stop b line_fits fits is stop_is b_on blocked first = λ t on.
    has-and (bit_and line (bit_not w64 cut)) stop t
    ∙ rw (part_has line cut (λ t. nat_le t s) (nat_lt s) fits is (λ t. not-le t s) t on, stop_is t on)
    (where_true (has line t && nat_lt s t) (nat_le t b) (open_between line set s t) (λ h.
    let order : s < t = ltb-true s t (and_parts (has line t) (nat_lt s t) h).1 in
    let at = blocker_parts line cut set b (λ t. nat_le t s) (nat_lt s) fits is (λ t. not-le t s) b_on blocked in
    elim (cases_lt b t) [
      | inl before ↦ lt-leb t b before ∙ sym (closed line set s t b at.0 at.2 (is_between s t b (ltb-true s b at.1) before))
      | inr within ↦ le-leb t b within ∙ sym (opened line set s t line_fits (λ u u_on in_line in_set between.
          let place = between_parts s t u (omega arith) between in
          both_ways _ (first u (omega arith)) (blocks line cut set u (λ t. nat_le t s) (nat_lt s) fits is (λ t. not-le t s) u_on in_line (lt-ltb s u place.0) in_set)))
    ]))

-- the same downwards
open_turned : (line set a b : ℕ) → open_between line set a b ≡ open_between line set b a
open_turned line set a b = ap (λ n. bit_and (bit_and line n) set == 0) (between_turned a b)

pub down_free : (line set s cut : ℕ) → line < 2 ^ 64 → cut < 2 ^ 64 → IsSetOf cut (λ t. nat_le s t) → bit_and (bit_and line (bit_not w64 cut)) set ≡ 0 → IsSetOf (bit_and line (bit_not w64 cut)) (λ t. has line t && nat_lt t s && open_between line set s t)
down_free line set s cut line_fits fits is none = λ t on.
    part_has line cut (nat_le s) (λ t. nat_lt t s) fits is (λ t. not-le s t) t on
    ∙ kept_where (has line t && nat_lt t s) _ (λ h.
    let order : t < s = ltb-true t s (and_parts (has line t) (nat_lt t s) h).1 in
    open_turned line set s t ∙ opened line set t s line_fits (λ u u_on in_line in_set between.
    let place = between_parts t s u (omega arith) between in
    empty_has _ u none (blocks line cut set u (nat_le s) (λ t. nat_lt t s) fits is (λ t. not-le s t) u_on in_line (lt-ltb u s place.1) in_set)))

pub down_stopped : (line set s cut stop b : ℕ) → line < 2 ^ 64 → cut < 2 ^ 64 → IsSetOf cut (λ t. nat_le s t) → IsSetOf stop (λ t. nat_le b t) → b < 64 → has (bit_and (bit_and line (bit_not w64 cut)) set) b ≡ true → ((t : ℕ) → b < t → has (bit_and (bit_and line (bit_not w64 cut)) set) t ≡ false) → IsSetOf (bit_and (bit_and line (bit_not w64 cut)) stop) (λ t. has line t && nat_lt t s && open_between line set s t)
down_stopped line set s cut stop b line_fits fits is stop_is b_on blocked last = λ t on.
    has-and (bit_and line (bit_not w64 cut)) stop t
    ∙ rw (part_has line cut (nat_le s) (λ t. nat_lt t s) fits is (λ t. not-le s t) t on, stop_is t on)
    (where_true (has line t && nat_lt t s) (nat_le b t) (open_between line set s t) (λ h.
    let order : t < s = ltb-true t s (and_parts (has line t) (nat_lt t s) h).1 in
    let at = blocker_parts line cut set b (nat_le s) (λ t. nat_lt t s) fits is (λ t. not-le s t) b_on blocked in
    elim (cases_lt t b) [
      | inl before ↦ lt-leb b t before ∙ sym (open_turned line set s t ∙ closed line set t s b at.0 at.2 (is_between t s b before (ltb-true b s at.1)))
      | inr within ↦ le-leb b t within ∙ sym (open_turned line set s t ∙ opened line set t s line_fits (λ u u_on in_line in_set between.
          let place = between_parts t s u (omega arith) between in
          both_ways _ (last u (omega arith)) (blocks line cut set u (nat_le s) (λ t. nat_lt t s) fits is (λ t. not-le s t) u_on in_line (lt-ltb u s place.1) in_set)))
    ]))

-- both directions of a line
behind : (l o : Bool) → (((l && true) && o) || ((l && false) && o)) ≡ ((l && true) && o)
behind true true = refl
behind true false = refl
behind false o = refl

before : (l o : Bool) → (((l && false) && o) || ((l && true) && o)) ≡ ((l && true) && o)
before true o = refl
before false o = refl

here : (l o : Bool) → (((l && false) && o) || ((l && false) && o)) ≡ ((l && false) && o)
here true o = refl
here false o = refl

pub both_directions : (line set s t : ℕ) → ((has line t && nat_lt s t && open_between line set s t) || (has line t && nat_lt t s && open_between line set s t)) ≡ reached_on line set s t
both_directions line set s t =
    elim (cases_order s t) [
      | inl e ↦ rw (le-ltb s t (omega arith), le-ltb t s (omega arith), eq-eqb s t e) (here (has line t) (open_between line set s t))
      | inr (inl less) ↦ rw (lt-ltb s t less, le-ltb t s (omega arith), ne_eqb s t (λ e. omega arith)) (behind (has line t) (open_between line set s t))
      | inr (inr more) ↦ rw (le-ltb s t (omega arith), lt-ltb t s more, ne_eqb s t (λ e. omega arith)) (before (has line t) (open_between line set s t))
    ]

-- two lines through a square
or_itself : (c : Bool) → (c || c) ≡ c
or_itself true = refl
or_itself false = refl

or_nothing : (c : Bool) → (c || false) ≡ c
or_nothing true = refl
or_nothing false = refl

pub two_lines : (f r ne a b c : Bool) → (f ≡ true → a ≡ c) → (r ≡ true → b ≡ c) → (((f && ne) && a) || ((r && ne) && b)) ≡ ((ne && (f || r)) && c)
two_lines true true true a b c h k = rw (h refl, k refl) (or_itself c)
two_lines true false true a b c h k = rw (h refl) (or_nothing c)
two_lines false true true a b c h k = k refl
two_lines false false true a b c h k = refl
two_lines true true false a b c h k = refl
two_lines true false false a b c h k = refl
two_lines false true false a b c h k = refl
two_lines false false false a b c h k = refl
