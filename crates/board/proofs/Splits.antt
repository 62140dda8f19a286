-- The fields of a text, and what stands behind its spaces.
use Rattle.std.proofs.Common.{◌≡◌, ℕ, zero, suc, ◌+◌, ◌<◌, ◌≤◌, ◌==◌, List, [], ◌∷◌, length, get_or, nat_lt, arith, ap, sym, ◌∙◌, refl, ◌⊎◌, inl, inr}
use Rattle.std.specs.List.{position_or_len, before_first}
use Rattle.std.proofs.lemmas.Bool.{cases_Bool, ltb-true, ltb-false}
use Rattle.std.proofs.lemmas.List.Sums.{fails_before_first}
use Rattle.std.proofs.lemmas.List.Splits.{slice_split_first, slice_split_none, length-slice_split}
use Rattle.board.specs.FenFaults.{fields, behind}
use Rattle.board.proofs.Cuts.{before_none, after_none}

-- the first space of a text, or its length
abbrev pub space_in : List ℕ → ℕ
space_in text = position_or_len (λ b. b == 32) text

-- the field with this number, counted from 0
abbrev pub part : List ℕ → ℕ → List ℕ
part text n = before_first (λ b. b == 32) (behind n text)

-- a text with a space has a field and then those behind the space
fields-more : (text : List ℕ) → space_in text < length text → fields text ≡ part text 0 ∷ fields (behind 1 text)
fields-more text h = slice_split_first (λ b. b == 32) text 0 h

-- a text with no space is one field
fields-last : (text : List ℕ) → length text ≤ space_in text → fields text ≡ text ∷ []
fields-last text h =
    slice_split_none (λ b. b == 32) text
    (λ k d inside. fails_before_first (λ b. b == 32) text k d (omega arith))

behind-empty : (n : ℕ) → behind n [] ≡ []
behind-empty zero = refl
behind-empty (suc n) = behind-empty n

spaced : (text : List ℕ) → (space_in text < length text) ⊎ (length text ≤ space_in text)
spaced text =
    elim (cases_Bool (nat_lt (space_in text) (length text))) [ inl yes_here ↦ inl (ltb-true _ _ yes_here) | inr none_here ↦ inr (ltb-false _ _ none_here) ]

-- the field that stands at a place, which is empty where it is missing
pub get_or-fields : (n : ℕ) (text : List ℕ) → get_or (fields text) n [] ≡ part text n
get_or-fields zero text =
    elim (spaced text) [
      | inl more ↦ ap (λ fs. get_or fs 0 []) (fields-more text more)
      | inr last ↦ ap (λ fs. get_or fs 0 []) (fields-last text last) ∙ sym (before_none (λ b. b == 32) text last)
    ]
get_or-fields (suc n) text =
    elim (spaced text) [
      | inl more ↦ ap (λ fs. get_or fs (suc n) []) (fields-more text more) ∙ get_or-fields n (behind 1 text)
      | inr last ↦
          ap (λ fs. get_or fs (suc n) []) (fields-last text last)
          ∙ ap (before_first (λ b. b == 32)) (sym (behind-empty n) ∙ ap (behind n) (sym (after_none (λ b. b == 32) text last)))
    ]

pub fields_some : (text : List ℕ) → 0 < length (fields text)
fields_some text = omega (arith, length-slice_split (λ b. b == 32) text)

-- a space behind a field goes on to the next one
pub fields_go_on : (n : ℕ) (text : List ℕ) → n < length (fields text) → space_in (behind n text) < length (behind n text) → n + 1 < length (fields text)
fields_go_on zero text here h =
    let e = ap length (fields-more text h) in
    omega (arith, fields_some (behind 1 text))
fields_go_on (suc n) text here h =
    elim (spaced text) [
      | inl more ↦
          let e = ap length (fields-more text more) in
          let rest = fields_go_on n (behind 1 text) (omega arith) h in
          omega arith
      | inr last ↦ let e = ap length (fields-last text last) in absurd (omega arith)
    ]

-- where no space stands behind a field, it is the last one
pub fields_end : (n : ℕ) (text : List ℕ) → n < length (fields text) → length (behind n text) ≤ space_in (behind n text) → length (fields text) ≡ n + 1
fields_end zero text here h = ap length (fields-last text h)
fields_end (suc n) text here h =
    elim (spaced text) [
      | inl more ↦
          let e = ap length (fields-more text more) in
          let rest = fields_end n (behind 1 text) (omega arith) h in
          omega arith
      | inr last ↦ let e = ap length (fields-last text last) in absurd (omega arith)
    ]
