-- The answers of groups one after another, and how many groups go to some of the solvers.
use Rattle.std.proofs.Common.{◌≡◌, ℕ, ◌+◌, ◌-◌, ◌*◌, ◌/◌, ◌<◌, ◌≤◌, inl, inr, List, [], ◌∷◌, ◌++◌, get_or, sym, subst, subst₂, arith, length-append}
use Rattle.std.proofs.Math.Nat.{add-mul, mul-add, mul_comm, div-le_of_le-mul}
use Rattle.std.proofs.lemmas.Bool.{cases_lt}
use Rattle.std.proofs.lemmas.List.{get_or_append_left, get_or-append_right}
use Rattle.pair_cost.specs.declared.candidate.Candidate.{Candidate}
use Rattle.pair_cost.specs.declared.candidate.Frame.{Frame}
use Rattle.group_pairing.specs.declared.partners.Partners.{Partners}
use Rattle.wave.specs.Answers.{IsAnswer, HoldsAnswers}

pub answers_joined : (rows : List Candidate) (f : Frame) (first low high : ℕ) (front back : List Partners) → HoldsAnswers rows f first low front → HoldsAnswers rows f (first + low) high back → HoldsAnswers rows f first (low + high) (front ++ back)
answers_joined rows f first low high front back a b = record {
  many = let here = a.many in let there = b.many in simp length-append (omega (arith, here, there));
  each = λ i d inside. elim (cases_lt i low) [
    | inl before ↦
        let here = a.many in
        subst (λ (x : Partners). IsAnswer rows f (first + i) x) (sym (get_or_append_left front back d i (omega (arith, before, here)))) (a.each i d before)
    | inr behind ↦
        let place : (first + low) + (i - low) ≡ first + i = omega (arith, behind) in
        subst₂ (λ k (x : Partners). IsAnswer rows f k x) place (sym (get_or-append_right front back low i d a.many behind)) (b.each (i - low) d (omega (arith, behind, inside)))
  ];
}

pub answers_none : (rows : List Candidate) (f : Frame) (first : ℕ) → HoldsAnswers rows f first 0 []
answers_none rows f first = record { many = omega arith; each = λ i d inside. absurd (omega (arith, inside)) }

pub answers_more : (rows : List Candidate) (f : Frame) (first done : ℕ) (made : List Partners) (x : Partners) → HoldsAnswers rows f first done made → IsAnswer rows f (first + done) x → HoldsAnswers rows f first (done + 1) (made ++ x ∷ [])
answers_more rows f first done made x a here = answers_joined rows f first done 1 made (x ∷ []) a (record {
  many = omega arith;
  each = λ i d inside.
      let zero_ : i ≡ 0 = omega (arith, inside) in
      let place : (first + done) + 0 ≡ first + done = omega arith in
      subst (λ k. IsAnswer rows f ((first + done) + k) (get_or (x ∷ []) k d)) (sym zero_) (subst (λ k. IsAnswer rows f k x) (sym place) here);
})

products : (e h d : ℕ) → (e + (h + d)) * h ≤ (h + d) * (e + h)
products e h d =
    let left = add-mul e (h + d) h in
    let left' = add-mul h d h in
    let right = mul-add (h + d) e h in
    let right' = add-mul h d e in
    let right'' = add-mul h d h in
    let turned = mul_comm h e in
    omega (arith, left, left', right, right', right'', turned)

-- the others have a group each, where there are as many groups as solvers
pub rest_enough : (groups half solvers : ℕ) → half < solvers → solvers ≤ groups → solvers - half ≤ groups - groups * half / solvers
rest_enough groups half solvers some enough =
    let all : half + (solvers - half) ≡ solvers = omega (arith, some) in
    let whole : (groups - solvers) + solvers ≡ groups = omega (arith, enough) in
    let most : groups * half ≤ solvers * ((groups - solvers) + half) =
    subst₂ (λ s g. g * half ≤ s * ((groups - solvers) + half)) all (subst (λ s. (groups - solvers) + s ≡ groups) (sym all) whole) (products (groups - solvers) half (solvers - half)) in
    let few = div-le_of_le-mul solvers most in
    omega (arith, few, some, enough)
