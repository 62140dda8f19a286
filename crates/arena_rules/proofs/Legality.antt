-- Which lists are legal, entry by entry.
use Rattle.std.proofs.Common.{◌≡◌, ℕ, ◌<◌, ⊎_elim, List, [], ◌∷◌, ◌++◌, take, length, Some, sym, ap, ◌∙◌, subst, arith, append_assoc}
use Rattle.std.specs.Prelude.{slice_get}
use Rattle.std.proofs.lemmas.List.{take-append-le, take_all, take-take, append-nil}
use Rattle.entries.specs.declared.setup.Setup.{Setup}
use Rattle.entries.specs.declared.journal.Entry.{Entry}
use Rattle.arena_history.specs.Waves.{history}
use Rattle.arena_history.proofs.Lists.{slice_get-push, slice_get-push_cases, slice_get-take}
use Rattle.arena_rules.specs.Legal.{Allowed, IsLegal}

pub legal_nothing : (s : Setup) → IsLegal s []
legal_nothing s = record { each = λ n e at. cc }

-- a beginning of a legal list is legal
pub legal_take : (s : Setup) (es : List Entry) (n : ℕ) → IsLegal s es → IsLegal s (take n es)
legal_take s es n legal = record {
  each = λ k e at.
      let found = slice_get-take n es k e at in
      subst (λ l. Allowed s (history s l) e) (sym (take-take k n es (let lt : k < n = found.0 in omega arith))) (legal.each k e found.1);
}

take-push : (es : List Entry) (e : Entry) → take (length es) (es ++ e ∷ []) ≡ es
take-push es e = take-append-le (length es) es (e ∷ []) (omega arith) ∙ take_all (length es) es (omega arith)

-- an allowed entry keeps a list legal
pub legal_push : (s : Setup) (es : List Entry) (e : Entry) → IsLegal s es → Allowed s (history s es) e → IsLegal s (es ++ e ∷ [])
legal_push s es e legal allowed = record {
  each = λ n x at.
      ⊎_elim
      (λ (old : (n < length es) × (slice_get es n ≡ Some x)). subst (λ l. Allowed s (history s l) x) (sym (take-append-le n es (e ∷ []) (let lt : n < length es = old.0 in omega arith))) (legal.each n x old.1))
      (λ (new : (n ≡ length es) × (e ≡ x)).
      let before : take n (es ++ e ∷ []) ≡ es = ap (λ k. take k (es ++ e ∷ [])) new.0 ∙ take-push es e in
      subst (λ (p : List Entry × Entry). Allowed s (history s p.0) p.1) (λ i. (sym before i, new.1 i)) allowed)
      (slice_get-push_cases es e n x at);
}

-- the last entry of a legal list is allowed behind the others, which are legal
pub legal_from_push : (s : Setup) (es : List Entry) (e : Entry) → IsLegal s (es ++ e ∷ []) → IsLegal s es × Allowed s (history s es) e
legal_from_push s es e legal = (
  subst (IsLegal s) (take-push es e) (legal_take s (es ++ e ∷ []) (length es) legal),
  subst (λ l. Allowed s (history s l) e) (take-push es e) (legal.each (length es) e (slice_get-push es e)),
)

-- what the empty list has, and an allowed entry keeps, each legal list has

legal_from : (s : Setup) (P : List Entry → Type 0) → ((es : List Entry) (e : Entry) → IsLegal s es → Allowed s (history s es) e → P es → P (es ++ e ∷ [])) → (es more : List Entry) → IsLegal s (es ++ more) → P es → P (es ++ more)
legal_from s P step es [] legal now = subst P (sym (append-nil es)) now
legal_from s P step es (e ∷ more) legal now =
    let same : (es ++ e ∷ []) ++ more ≡ es ++ e ∷ more = append_assoc es (e ∷ []) more in
    let all : IsLegal s ((es ++ e ∷ []) ++ more) = subst (IsLegal s) (sym same) legal in
    let front : take (length (es ++ e ∷ [])) ((es ++ e ∷ []) ++ more) ≡ es ++ e ∷ [] = take-append-le (length (es ++ e ∷ [])) (es ++ e ∷ []) more (omega arith) ∙ take_all (length (es ++ e ∷ [])) (es ++ e ∷ []) (omega arith) in
    let last = legal_from_push s es e (subst (IsLegal s) front (legal_take s ((es ++ e ∷ []) ++ more) (length (es ++ e ∷ [])) all)) in
    subst P same (legal_from s P step (es ++ e ∷ []) more all (step es e last.0 last.1 now))

pub legal_induction : (s : Setup) (P : List Entry → Type 0) → P [] → ((es : List Entry) (e : Entry) → IsLegal s es → Allowed s (history s es) e → P es → P (es ++ e ∷ [])) → (es : List Entry) → IsLegal s es → P es
legal_induction s P start step es legal = legal_from s P step [] es legal start
