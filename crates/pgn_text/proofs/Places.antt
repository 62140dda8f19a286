-- Where a run of bytes ends.
use Rattle.std.proofs.Common.{◌≡◌, ℕ, suc, ◌+◌, ◌==◌, ◌≤◌, Bool, true, false, not, cond, ltb, List, [], ◌∷◌, Some, None, length, take, position, refl, sym, ap, ◌∙◌, arith, inl, inr}
use Rattle.std.specs.List.{position_or_len, prefix_len, list_all}
use Rattle.std.proofs.lemmas.Bool.{cases_Bool, cond-true, cond-false, ltb-false, not-false, and_from, not_from_false, ne_eqb}
use Rattle.std.proofs.lemmas.List.{length-take-le}
use Rattle.pgn_text.specs.declared.runs.Run.TheVariants.{Name, Value}
use Rattle.pgn_text.specs.Games.{is_name_byte, is_name, is_value_byte}
use Rattle.pgn_text.specs.Runs.{ends, run_len}

chose_some : (b : Bool) (n at : ℕ) → cond b (Some n) None ≡ Some at → n ≡ at
chose_some true n at e = cc
chose_some false n at e = absurd cc

chose_none : (b : Bool) (n : ℕ) → cond b (Some n) None ≡ None → b ≡ false
chose_none true n e = absurd cc
chose_none false n e = refl

-- where a byte ends the run, that is its length
pub found_place : (test : ℕ → Bool) (xs : List ℕ) (at : ℕ) → Some at ≡ position test xs → at ≡ position_or_len test xs
found_place test xs at e = sym (chose_some (ltb (position_or_len test xs) (length xs)) (position_or_len test xs) at (sym e))

within : (test : ℕ → Bool) (xs : List ℕ) → prefix_len test xs ≤ length xs
within test [] = omega arith
within test (x ∷ xs) = elim (cases_Bool (test x)) [
  | inl h ↦ let e = cond-true (test x) (1 + prefix_len test xs) 0 h in let rest = within test xs in omega arith
  | inr h ↦ let e = cond-false (test x) (1 + prefix_len test xs) 0 h in omega arith
]

-- where none does, it is all
pub no_place : (test : ℕ → Bool) (xs : List ℕ) → None ≡ position test xs → length xs ≡ position_or_len test xs
no_place test xs e =
    let past = ltb-false (position_or_len test xs) (length xs) (chose_none (ltb (position_or_len test xs) (length xs)) (position_or_len test xs) (sym e)) in
    let most = within (λ x. not (test x)) xs in
    omega arith

-- what stands before the end of a run goes on
all_before : (test keeps : ℕ → Bool) → ((b : ℕ) → test b ≡ not (keeps b)) → (xs : List ℕ) → list_all keeps (take (position_or_len test xs) xs) ≡ true
all_before test keeps same [] = refl
all_before test keeps same (x ∷ xs) = elim (cases_Bool (test x)) [
  | inl h ↦
      let none : position_or_len test (x ∷ xs) ≡ 0 = cond-false (not (test x)) (1 + position_or_len test xs) 0 (ap not h) in
      ap (λ (n : ℕ). list_all keeps (take n (x ∷ xs))) none
  | inr h ↦
      let more : position_or_len test (x ∷ xs) ≡ suc (position_or_len test xs) = cond-true (not (test x)) (1 + position_or_len test xs) 0 (ap not h) ∙ omega arith in
      let kept : keeps x ≡ true = not-false (keeps x) (sym (same x) ∙ h) in
      ap (λ (n : ℕ). list_all keeps (take n (x ∷ xs))) more ∙ and_from (keeps x) (list_all keeps (take (position_or_len test xs) xs)) kept (all_before test keeps same xs)
]

-- a run of bytes of a name that has one is a name
pub name_run : (text : List ℕ) → (run_len Name text ≡ 0 → ⊥) → is_name (take (run_len Name text) text) ≡ true
name_run text some =
    let long : length (take (run_len Name text) text) ≡ run_len Name text = length-take-le (run_len Name text) text (within (λ b. not (ends Name b)) text) in
    and_from (not (length (take (run_len Name text) text) == 0)) (list_all is_name_byte (take (run_len Name text) text))
    (not_from_false _ (ne_eqb _ 0 (λ e. some (sym long ∙ e))))
    (all_before (ends Name) is_name_byte (λ b. refl) text)

-- a run of bytes of a value is one
pub value_run : (text : List ℕ) → list_all is_value_byte (take (run_len Value text) text) ≡ true
value_run text = all_before (ends Value) is_value_byte (λ b. refl) text
