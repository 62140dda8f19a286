-- Field by field: what the first fields of a text settle, and why a text is refused.
use Rattle.std.proofs.Common.{◌≡◌, ℕ, zero, suc, ◌+◌, ◌<◌, List, [], ◌∷◌, ◌++◌, length, get_or, take, false, nat_lt, if◌then◌else◌, Option, None, Some, ◌↔◌, arith, ap, sym, ◌∙◌, refl, subst, inl, inr}
use Rattle.std.proofs.lemmas.List.{take_more, get_or-take, get_or_past}
use Rattle.std.proofs.lemmas.Bool.{cases_Bool, ltb-true, ltb-false}
use Rattle.board.specs.declared.piece.Colour.TheVariants.{White}
use Rattle.board.specs.declared.parts.Parts.{Parts}
use Rattle.board.specs.Fen.{fields_of}
use Rattle.board.specs.FenFaults.{fields, Meets, Begins, CanStand}
use Rattle.board.proofs.RankTexts.{some_one, none_some}
use Rattle.board.proofs.Splits.{part, get_or-fields}

-- the first n components, and nothing in place of the others
abbrev pub front : ℕ → Parts → Parts
front n p = record {
  cells = if nat_lt 0 n then p.cells else [];
  turn = if nat_lt 1 n then p.turn else White;
  rights = if nat_lt 2 n then p.rights else record { white_short = false; white_long = false; black_short = false; black_long = false };
  ep = if nat_lt 3 n then p.ep else None;
  half = if nat_lt 4 n then p.half else 0;
  number = if nat_lt 5 n then p.number else 0;
}

-- the first n fields are those of these parts, and of no others as far as they go
pub record Settles (text : List ℕ) (n : ℕ) (p : Parts) : Type 0 where
  pub begins : Begins text n p
  pub only : (q : Parts) → Begins text n q → front n q ≡ p

-- the field behind the first n: what it says, how it is written, and what is asked of it
pub record Stage (n : ℕ) (X : Type 0) : Type 1 where
  pub get : Parts → X
  pub put : X → Parts → Parts
  pub text_of : X → List ℕ
  pub Asked : Parts → Type 0
  pub its_field : (q : Parts) → get_or (fields_of q) n [] ≡ text_of (get q)
  pub within : (q : Parts) → n < length (fields_of q)
  pub some : (v : X) (p : Parts) → Asked (put v p) → 0 < length (text_of v)
  pub kept : (v : X) (p : Parts) → take n (fields_of (put v p)) ≡ take n (fields_of p)
  pub got : (v : X) (p : Parts) → get (put v p) ≡ v
  pub front_more : (q : Parts) → front (n + 1) q ≡ put (get q) (front n q)
  pub asked_front : (q : Parts) → Asked q → Asked (put (get q) (front n q))
  pub meets : (v : X) (p : Parts) → Meets n p → Asked (put v p) → Meets (n + 1) (put v p)
  pub met : (q : Parts) → Meets (n + 1) q → Meets n q × Asked q

-- what is asked of more fields is asked of fewer
pub meets_fewer : (n : ℕ) (p : Parts) → Meets (n + 1) p → Meets n p
meets_fewer n p m = record {
  board = λ h. m.board (omega arith);
  safe = λ h. m.safe (omega arith);
  rights = λ h. m.rights (omega arith);
  ep = λ h. m.ep (omega arith);
  half_most = λ h. m.half_most (omega arith);
  number_least = λ h. m.number_least (omega arith);
  number_most = λ h. m.number_most (omega arith);
}

take_fewer : {X : Type 0} (n : ℕ) (xs : List X) → take n (take (n + 1) xs) ≡ take n xs
take_fewer zero xs = refl
take_fewer (suc n) [] = let e : suc n + 1 ≡ suc (n + 1) = omega arith in ap (λ k. take (suc n) (take k [])) e
take_fewer (suc n) (x ∷ xs) =
    let e : suc n + 1 ≡ suc (n + 1) = omega arith in
    ap (λ k. take (suc n) (take k (x ∷ xs))) e ∙ ap (λ l. x ∷ l) (take_fewer n xs)

take_next : {X : Type 0} (n : ℕ) (xs ys : List X) (d : X) → take n xs ≡ take n ys → n < length xs → n < length ys → get_or xs n d ≡ get_or ys n d → take (n + 1) xs ≡ take (n + 1) ys
take_next n xs ys d front_same x_long y_long next =
    take_more xs n d x_long ∙ (λ i. front_same i ++ next i ∷ []) ∙ sym (take_more ys n d y_long)

there : (xs : List (List ℕ)) (n : ℕ) → 0 < length (get_or xs n []) → n < length xs
there xs n h =
    elim (cases_Bool (nat_lt n (length xs))) [
      | inl inside ↦ ltb-true _ _ inside
      | inr outside ↦ let e = ap length (get_or_past xs n [] (ltb-false _ _ outside)) in absurd (omega arith)
    ]

module _ {n : ℕ} {X : Type 0} (s : Stage n X) (text : List ℕ) where
  -- with one field more, a text begins with one field less
  begins_before : (q : Parts) → Begins text (n + 1) q → Begins text n q
  begins_before q b = record {
    spelled = sym (take_fewer n (fields text)) ∙ ap (take n) b.spelled ∙ take_fewer n (fields_of q);
    meets = (s.met q b.meets).0;
  }

  field_of : (q : Parts) → Begins text (n + 1) q → s.text_of (s.get q) ≡ part text n
  field_of q b =
      sym (s.its_field q)
      ∙ sym (get_or-take (n + 1) (fields_of q) n [] (omega arith))
      ∙ sym (ap (λ fs. get_or fs n []) b.spelled)
      ∙ get_or-take (n + 1) (fields text) n [] (omega arith)
      ∙ get_or-fields n text

  module _ (p : Parts) (t : Settles text n p) (field : List ℕ) (here : field ≡ part text n) (r : Option X) (clause : (v : X) → (r ≡ Some v) ↔ ((s.text_of v ≡ field) × s.Asked (s.put v p))) where
    -- whatever parts have one field more, the field says theirs
    said : (q : Parts) → Begins text (n + 1) q → r ≡ Some (s.get q)
    said q b =
        (clause (s.get q)).1 (
          field_of q b ∙ sym here,
          subst (λ (x : Parts). s.Asked (s.put (s.get q) x)) (t.only q (begins_before q b)) (s.asked_front q (s.met q b.meets).1),
        )

    spelled_next : (v : X) → s.text_of v ≡ field → s.Asked (s.put v p) → take (n + 1) (fields text) ≡ take (n + 1) (fields_of (s.put v p))
    spelled_next v e asked =
        let stands : get_or (fields text) n [] ≡ s.text_of v = get_or-fields n text ∙ sym here ∙ sym e in
        let some : 0 < length (get_or (fields text) n []) = subst (λ (l : List ℕ). 0 < length l) (sym stands) (s.some v p asked) in
        take_next n (fields text) (fields_of (s.put v p)) [] (t.begins.spelled ∙ sym (s.kept v p))
        (there (fields text) n some)
        (s.within (s.put v p))
        (stands ∙ sym (ap s.text_of (s.got v p)) ∙ sym (s.its_field (s.put v p)))

    -- where the field says something, it settles one component more
    pub advance : (v : X) → r ≡ Some v → Settles text (n + 1) (s.put v p)
    advance v h =
        let good = (clause v).0 h in
        record {
          begins = record { spelled = spelled_next v good.0 good.1; meets = s.meets v p t.begins.meets good.1 };
          only = λ q b.
              let value : s.get q ≡ v = some_one (sym (said q b) ∙ h) in
              let before : front n q ≡ p = t.only q (begins_before q b) in
              s.front_more q ∙ (λ i. s.put (value i) (before i));
        }

    -- where it says nothing that can stand, the text is refused here
    pub refuse : r ≡ None → ¬ (CanStand text (n + 1))
    refuse h = λ (q, b). absurd (none_some (sym h ∙ said q b))
