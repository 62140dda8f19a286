-- Lists of JSON values.
use Rattle.std.proofs.Common.{◌≡◌, ℕ, Bool, List, [], ◌∷◌, length, Some, option_map, map, position, refl, sym, ap, ◌∙◌, ◌<◌, ◌+◌, suc, get_or, drop, add-one}
use Rattle.std.proofs.Math.Seq.{drop-cons}
use Rattle.std.proofs.lemmas.List.{length-map}
use Rattle.std.specs.List.{list_any, position_or_len}
use Rattle.serde_json.specs.Data.{Data}
use Rattle.serde_json.specs.Find.{as_array}
use Rattle.serde_json.specs.View.{view, items_of, items_view}
use Rattle.serde_json.specs.declared.value.Value.{Value}
use Rattle.setup_file.specs.Members.{in_order, elements}

-- the elements of a list that was made of these are these
pub in_order_items : (ds : List Data) → in_order (items_of ds) ≡ ds
in_order_items [] = refl
in_order_items (d ∷ ds) = ap (λ (rest : List Data). d ∷ rest) (in_order_items ds)

-- the values of a list are its elements
pub list_elements : (vs : List Value) (d : Data) → Some (items_view vs) ≡ as_array d → Some (map view vs) ≡ elements d
list_elements vs d e = ap Some (sym (in_order_items (map view vs))) ∙ ap (option_map in_order) e

module _ {X Y : Type 0} (f : X → Y) (p : Y → Bool) where
  -- a test of some mapped value is the mapped test of some value
  pub any_map : (xs : List X) → list_any (λ x. p (f x)) xs ≡ list_any p (map f xs)
  any_map [] = refl
  any_map (x ∷ xs) = rw (any_map xs) refl

  -- the first mapped value that passes stands where the first value does whose map passes
  first_map : (xs : List X) → position_or_len (λ x. p (f x)) xs ≡ position_or_len p (map f xs)
  first_map [] = refl
  first_map (x ∷ xs) = rw (first_map xs) refl

  -- and is found there
  pub position_map : (xs : List X) → position (λ x. p (f x)) xs ≡ position p (map f xs)
  position_map xs = rw (first_map xs, length-map) refl

-- what is left of a list begins with the next of its items
pub next_item : {X : Type 0} (xs : List X) (i : ℕ) (x : X) → i < length xs → x ≡ get_or xs i x → drop i xs ≡ x ∷ drop (i + 1) xs
next_item xs i x low is = rw add-one (drop-cons xs i x low ∙ ap (λ y. y ∷ drop (suc i) xs) (sym is))
