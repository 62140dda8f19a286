-- Texts in the order in which they came.
use Rattle.std.proofs.Common.{◌≡◌, ℕ, false, is_some, IfSome, IfNone, Contains, slice_get, get_or, List, [], ◌∷◌, ◌++◌, Option, Some, None, map, position, refl, sym, ap, ◌∙◌, if◌then◌else◌, nat_eq}
use Rattle.std.specs.List.{list_any}
use Rattle.std.specs.Cmp.Lexicographic.{pointwise, bytes_decides, nat_list_eq_equiv}
use Rattle.std.proofs.lemmas.Bool.{false≢true}
use Rattle.std.proofs.lemmas.List.Quantifiers.{position-Some}
use Rattle.std.proofs.lemmas.Map.Views.{list_any-from_Contains}
use Rattle.std.proofs.lemmas.Option.{slice_get-get_or}
use Rattle.setup_file.specs.Members.{is_taken, place_of}
use Rattle.setup_file.proofs.Lists.{any_map, position_map}

module _ {V : Type 0} (items : V → List ℕ) where
  -- a text among the vectors' items
  pub taken_items : (vs : List V) (text : List ℕ) → list_any (λ v. pointwise nat_eq text (items v)) vs ≡ is_taken (map items vs) text
  taken_items vs text = any_map items (pointwise nat_eq text) vs

  -- and its place
  pub place_items : (vs : List V) (text : List ℕ) → position (λ v. pointwise nat_eq text (items v)) vs ≡ place_of (map items vs) text
  place_items vs text = position_map items (pointwise nat_eq text) vs

  -- a vector behind the others
  pub items_more : (vs : List V) (v : V) → map items (vs ++ v ∷ []) ≡ map items vs ++ items v ∷ []
  items_more [] v = refl
  items_more (w ∷ vs) v = ap (λ (rest : List (List ℕ)). items w ∷ rest) (items_more vs v)

  -- a new vector goes behind the others
  pub items_added : (vs : List V) (v : V) → is_taken (map items vs) (items v) ≡ false
      → map items (if list_any (λ w. pointwise nat_eq (items v) (items w)) vs then vs else (vs ++ v ∷ [])) ≡ map items vs ++ items v ∷ []
  items_added vs v fresh = rw (taken_items vs (items v) ∙ fresh) (items_more vs v)

-- what is found at the place of a text is the text
pub text_at : (r : Option ℕ) (texts : List (List ℕ)) (text : List ℕ) → r ≡ place_of texts text → IfSome r (λ i. slice_get texts i ≡ Some text)
text_at None texts text e = tt
text_at (Some i) texts text e =
    let p = position-Some (λ t. pointwise nat_eq text t) texts i text (sym e) in
    slice_get-get_or texts i text p.0 ∙ ap Some (sym ((bytes_decides text (get_or texts i text)).0 p.1))

-- a text without a place is none of these
pub not_among : (r : Option ℕ) (texts : List (List ℕ)) (text : List ℕ) → is_some r ≡ is_taken texts text → IfNone r (¬ Contains texts text)
not_among None texts text e = λ among. false≢true (e ∙ list_any-from_Contains nat_list_eq_equiv text texts among)
not_among (Some i) texts text e = tt
