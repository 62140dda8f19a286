-- How often the last one of a list stands in it.
use Rattle.std.proofs.Common.{◌≡◌, ℕ, ◌-◌, ◌<◌, List, [], ◌∷◌, length, get_or, refl, ap, sym, subst, ◌∙◌, Option, None, Some, arith}
use Rattle.std.specs.List.{last_or}
use Rattle.board.specs.declared.parts.Parts.{Parts}
use Rattle.board.specs.Same.{same}
use Rattle.draw_rules.specs.Appearance.{Appearance, appearance_of, same_appearance, times_in, times_in_if_some, occurrences}

last_is : {X : Type 0} (o : Option X) (x : X) (xs : List X) (d : X) → last_or o (x ∷ xs) ≡ Some (get_or (x ∷ xs) (length xs) d)
last_is o x [] d = refl
last_is o x (y ∷ ys) d = last_is (Some x) y ys d

-- the last one is the one at the end
pub occurrences_at : (list : List Appearance) (n : ℕ) (last : Appearance) → 0 < length list → n ≡ length list - 1 → last ≡ get_or list n last → occurrences list ≡ times_in list last
unfolding occurrences
occurrences_at [] n last some is at = absurd (omega arith)
occurrences_at (a ∷ list) n last some is at =
    let place : n ≡ length list = omega arith in
    let it : last ≡ get_or (a ∷ list) (length list) last = let P : ℕ → Type 0 = λ k. last ≡ get_or (a ∷ list) k last in subst P place at in
    ap (times_in_if_some (a ∷ list)) (last_is None a list last) ∙ ap (times_in (a ∷ list)) (sym it)

pub compared_as_same : (p q : Parts) → same_appearance (appearance_of p) (appearance_of q) ≡ same p q
unfolding same
compared_as_same p q = refl
