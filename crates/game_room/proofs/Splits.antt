-- Lists with one item more, and an item that stands in them.
use Rattle.std.proofs.Common.{◌≡◌, ◌<◌, List, [], ◌∷◌, ◌++◌, length, refl, sym, ap, ◌∙◌, append_assoc, length-append, arith}

-- an item that stands in a list with one more is the last, or stands in the list
pub data LastOrBefore {X : Type 0} (xs before after : List X) (y a : X) : Type 0 where
  Last : after ≡ [] → xs ≡ before → y ≡ a → LastOrBefore xs before after y a
  Before : (rest : List X) → after ≡ rest ++ y ∷ [] → xs ≡ before ++ a ∷ rest → LastOrBefore xs before after y a

one_more_step : {X : Type 0} (x : X) (xs before after : List X) (y a b : X) → x ≡ b → LastOrBefore xs before after y a → LastOrBefore (x ∷ xs) (b ∷ before) after y a
one_more_step x xs before after y a b e (Last none same last) = Last none (λ i. e i ∷ same i) last
one_more_step x xs before after y a b e (Before rest more same) = Before rest more (λ i. e i ∷ same i)

pub last_or_before : {X : Type 0} (xs before after : List X) (y a : X) → xs ++ y ∷ [] ≡ before ++ a ∷ after → LastOrBefore xs before after y a
last_or_before [] [] after y a h = Last (sym cc) refl cc
last_or_before (x ∷ xs) [] after y a h = let first : x ≡ a = cc in Before xs (sym cc) (ap (λ z. z ∷ xs) first)
last_or_before [] (b ∷ []) after y a h = cc
last_or_before [] (b ∷ c ∷ before) after y a h = cc
last_or_before (x ∷ xs) (b ∷ before) after y a h =
    let rest : xs ++ y ∷ [] ≡ before ++ a ∷ after = cc in
    let first : x ≡ b = cc in
    one_more_step x xs before after y a b first (last_or_before xs before after y a rest)

-- what stands in a list stands in one that goes on
pub place_more : {X : Type 0} (xs before after : List X) (y a : X) → xs ≡ before ++ a ∷ after → xs ++ y ∷ [] ≡ before ++ a ∷ (after ++ y ∷ [])
place_more xs before after y a h = ap (λ l. l ++ y ∷ []) h ∙ append_assoc before (a ∷ after) (y ∷ [])

-- it stands before the end
pub place_below : {X : Type 0} (xs before after : List X) (a : X) → xs ≡ before ++ a ∷ after → length before < length xs
place_below xs before after a h = omega (arith, ap length h, length-append before (a ∷ after))
