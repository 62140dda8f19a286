-- Two lists put together place by place, and taken apart again.
use Rattle.std.proofs.Common.{◌≡◌, List, [], ◌∷◌, length, refl, ap, ◌∙◌, arith, map}
use Rattle.std.specs.List.{zip}

module _ {P W S : Type 0} (made : P × W → S) where
  pub firsts : (first : S → P) → ((p : P) (w : W) → first (made (p, w)) ≡ p) → (ps : List P) (ws : List W) → length ps ≡ length ws
      → map first (map made (zip ps ws)) ≡ ps
  firsts first is [] ws same = refl
  firsts first is (p ∷ ps) [] same = absurd (omega (arith, same))
  firsts first is (p ∷ ps) (w ∷ ws) same =
      ap (λ x. x ∷ map first (map made (zip ps ws))) (is p w) ∙ ap (λ xs. p ∷ xs) (firsts first is ps ws (omega (arith, same)))

  pub seconds : (second : S → W) → ((p : P) (w : W) → second (made (p, w)) ≡ w) → (ps : List P) (ws : List W) → length ps ≡ length ws
      → map second (map made (zip ps ws)) ≡ ws
  seconds second is [] [] same = refl
  seconds second is [] (w ∷ ws) same = absurd (omega (arith, same))
  seconds second is (p ∷ ps) [] same = absurd (omega (arith, same))
  seconds second is (p ∷ ps) (w ∷ ws) same =
      ap (λ x. x ∷ map second (map made (zip ps ws))) (is p w) ∙ ap (λ xs. w ∷ xs) (seconds second is ps ws (omega (arith, same)))
