-- What a field's reader answers, in the words of writing.
use Rattle.std.proofs.Common.{◌≡◌, ℕ, ◌==◌, List, [], ◌∷◌, ◌++◌, length, Bool, true, false, Option, None, Some, ◌↔◌, if◌then◌else◌, arith, ap, sym, ◌∙◌, refl, subst, inl, inr, append_assoc, append-nil}
use Rattle.std.proofs.lemmas.Bool.{cases_Bool, eqb-true}
use Rattle.board.specs.declared.parts.Rights.{Rights}
use Rattle.board.specs.Fen.{castlings, or_dash, rights_text}
use Rattle.board.specs.Reading.{has_first, past_first, castlings_in, no_rights, rights_in}
use Rattle.board.proofs.RankTexts.{some_one, none_some}

-- a reader that gives back each value's text, and then a test
module _ {X : Type 0} (text_of : X → List ℕ) (Asked : X → Type 0) (field : List ℕ) (o : Option X) (spells : (v : X) → o ≡ Some v → text_of v ≡ field) (read : (v : X) → text_of v ≡ field → Asked v → o ≡ Some v) where
  -- what was read is what the field says
  pub says : (w : X) → o ≡ Some w → Asked w → (v : X) → (◌≡◌ {A = Option X} (Some w) (Some v)) ↔ ((text_of v ≡ field) × Asked v)
  says w h asked v = (
    λ e. let same : w ≡ v = some_one e in (ap text_of (sym same) ∙ spells w h, subst Asked same asked),
    λ t. sym h ∙ read v t.0 t.1,
  )

  -- where nothing was read the field says nothing
  pub says_nothing : o ≡ None → (v : X) → (◌≡◌ {A = Option X} None (Some v)) ↔ ((text_of v ≡ field) × Asked v)
  says_nothing h v = (λ e. absurd (none_some e), λ t. sym h ∙ read v t.0 t.1)

  -- nor where what was read cannot stand
  pub says_wrong : (w : X) → o ≡ Some w → ¬ (Asked w) → (v : X) → (◌≡◌ {A = Option X} None (Some v)) ↔ ((text_of v ≡ field) × Asked v)
  says_wrong w h wrong v = (
    λ e. absurd (none_some e),
    λ t. let same : w ≡ v = some_one (sym h ∙ read v t.0 t.1) in absurd (wrong (subst Asked (sym same) t.1)),
  )

rights_read : (a b c d : Bool) → (let r : Rights = record { white_short = a; white_long = b; black_short = c; black_long = d } in rights_in (rights_text r) ≡ Some r)
unfolding castlings_in
rights_read true true true true = refl
rights_read true true true false = refl
rights_read true true false true = refl
rights_read true true false false = refl
rights_read true false true true = refl
rights_read true false true false = refl
rights_read true false false true = refl
rights_read true false false false = refl
rights_read false true true true = refl
rights_read false true true false = refl
rights_read false true false true = refl
rights_read false true false false = refl
rights_read false false true true = refl
rights_read false false true false = refl
rights_read false false false true = refl
rights_read false false false false = refl

-- the castlings are read from their letters
pub rights_in-text : (r : Rights) → rights_in (rights_text r) ≡ Some r
rights_in-text r = rights_read r.white_short r.white_long r.black_short r.black_long

first-split : (c : ℕ) (text : List ℕ) → text ≡ (if has_first c text then c ∷ [] else []) ++ past_first c text
first-split c [] = refl
first-split c (b ∷ bs) =
    elim (cases_Bool (b == c)) [ inl same ↦ rw (same, eqb-true b c same) refl | inr other ↦ rw other refl ]

no_length : (xs : List ℕ) → (length xs == 0) ≡ true → xs ≡ []
no_length [] h = refl
no_length (x ∷ xs) h = let e = eqb-true _ _ h in absurd (omega arith)

four_parts : (a b c d : List ℕ) → a ++ (b ++ (c ++ (d ++ []))) ≡ a ++ b ++ c ++ d
four_parts a b c d = simp (append_assoc, append-nil)

castlings_in-spells : (text : List ℕ) (r : Rights) → castlings_in text ≡ Some r → castlings r ≡ text
unfolding castlings_in
castlings_in-spells text r h =
    let one = past_first 75 text in
    let two = past_first 81 one in
    let three = past_first 107 two in
    let four = past_first 113 three in
    elim (cases_Bool (length four == 0)) [
      | inl done ↦
          let mark : ℕ → List ℕ → List ℕ = λ c xs. if has_first c xs then c ∷ [] else [] in
          let apart : text ≡ mark 75 text ++ (mark 81 one ++ (mark 107 two ++ (mark 113 three ++ []))) =
          first-split 75 text
          ∙ ap (λ (l : List ℕ). mark 75 text ++ l) (first-split 81 one
          ∙ ap (λ (l : List ℕ). mark 81 one ++ l) (first-split 107 two
          ∙ ap (λ (l : List ℕ). mark 107 two ++ l) (first-split 113 three
          ∙ ap (λ (l : List ℕ). mark 113 three ++ l) (no_length four done)))) in
          subst (λ (x : Rights). castlings x ≡ text) (some_one (rw done at h))
          (sym (apart ∙ four_parts (mark 75 text) (mark 81 one) (mark 107 two) (mark 113 three)))
      | inr more ↦ absurd (none_some (rw more at h))
    ]

-- the castlings that were read are spelled by their letters
pub rights_in-spells : (text : List ℕ) (r : Rights) → rights_in text ≡ Some r → rights_text r ≡ text
rights_in-spells [] r h = absurd (none_some h)
rights_in-spells (b ∷ []) r h =
    elim (cases_Bool (b == 45)) [
      | inl dash ↦
          let none : no_rights ≡ r = some_one (rw dash at h) in
          ap rights_text (sym none) ∙ ap (λ (x : ℕ). x ∷ []) (sym (eqb-true b 45 dash))
      | inr letter ↦ ap or_dash (castlings_in-spells (b ∷ []) r (rw letter at h))
    ]
rights_in-spells (b ∷ c ∷ bs) r h = ap or_dash (castlings_in-spells (b ∷ c ∷ bs) r h)
