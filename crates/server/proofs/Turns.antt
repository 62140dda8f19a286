-- The turns of a worker in a row, each with a moment of its clock.
use Rattle.std.proofs.Common.{◌≡◌, ℕ, zero, suc, ◌+◌, List, [], ◌∷◌, ◌++◌, length, Option, Some, None, refl, sym, ap, ◌∙◌, subst, arith, zero-add, append_assoc, append-nil, length-append}
use mathlib.Core.List.{IsPrefix}
use Rattle.conn.specs.Moments.{first_moment, moments_after}
use Rattle.http_lines.specs.declared.request.RequestHead.{RequestHead}
use Rattle.director.specs.Gains.{Gave, Spent, moments_left}
use Rattle.director.specs.Steps.{State}
use Rattle.host.specs.Asked.{GaveOneATurn}
use Rattle.host.specs.Asked.{moments_left as moments_left_behind}
use Rattle.host.specs.Exchanges.{Deed, Exchange, in_error, accepted, refused, told, untold, starved, lengths}
use Rattle.server.specs.Works.{IsMomentAt}

-- so many moments, and then so many more
moments_more : (j k : ℕ) (ms : List ℕ) → moments_left (j + k) ms ≡ moments_left k (moments_left j ms)
moments_more zero k ms = ap (λ n. moments_left n ms) (zero-add k)
moments_more (suc j) k ms =
    let next : suc j + k ≡ suc (j + k) = omega arith in
    ap (λ n. moments_left n ms) next ∙ moments_more j k (moments_after ms)

gave_more : (m0 m1 m2 : Option (List ℕ)) (j k : ℕ) → Gave m0 m1 j → Gave m1 m2 k → Gave m0 m2 (j + k)
gave_more None m1 m2 j k p q = tt
gave_more (Some ms) m1 m2 j k p q =
    let then_left : m2 ≡ Some (moments_left k (moments_left j ms)) = subst (λ m. Gave m m2 k) p q in
    then_left ∙ ap (λ l. Some l) (sym (moments_more j k ms))

pub spent_more : (a b c : State) (l1 l2 : List ℕ) → Spent a b l1 → Spent b c l2 → Spent a c (l1 ++ l2)
spent_more a b c l1 l2 p q = record {
  turns = q.turns ∙ (ap (λ t. t ++ l2) p.turns ∙ append_assoc a.pass.turns l1 l2);
  moments = subst (λ n. Gave a.moments c.moments n) (sym (length-append l1 l2)) (gave_more a.moments b.moments c.moments (length l1) (length l2) p.moments q.moments);
}

gave_none : (m : Option (List ℕ)) → Gave m m 0
gave_none None = tt
gave_none (Some ms) = refl

pub spent_none : (a : State) → Spent a a []
spent_none a = record { turns = sym (append-nil a.pass.turns); moments = gave_none a.moments }

-- the moment at a place behind those that were given before
pub moment_more : (m0 m1 : Option (List ℕ)) (j place now : ℕ) → Gave m0 m1 j → IsMomentAt m1 place now → IsMomentAt m0 (j + place) now
moment_more None m1 j place now p q = tt
moment_more (Some ms) m1 j place now p q =
    let here : now ≡ first_moment (moments_left place (moments_left j ms)) = subst (λ m. IsMomentAt m place now) p q in
    here ∙ ap (λ l. first_moment l) (sym (moments_more j place ms))

pub prefix_trans : {A : Type 0} (xs ys zs : List A) → IsPrefix xs ys → IsPrefix ys zs → IsPrefix xs zs
prefix_trans xs ys zs p q = (p.0 ++ q.0, sym (append_assoc xs p.0 q.0) ∙ (ap (λ w. w ++ q.0) p.1 ∙ q.1))

-- a clock that gave a moment for each turn of some requests gave as many as the turns' lengths, with one request more in front
left_behind_one : (r : RequestHead) (d : Deed) (n : ℕ) (xs : List Exchange) (ms : List ℕ)
    → ((ms' : List ℕ) → moments_left_behind xs (Some ms') ≡ Some (moments_left (length (lengths xs)) ms'))
    → moments_left_behind (record { request = r; deed = d; seen = n } ∷ xs) (Some ms) ≡ Some (moments_left (length (lengths (record { request = r; deed = d; seen = n } ∷ xs))) ms)
left_behind_one r (in_error e) n xs ms rest = rest ms
left_behind_one r (accepted t c reply) n xs ms rest = rest (moments_after ms)
left_behind_one r (refused t c refusal) n xs ms rest = rest (moments_after ms)
left_behind_one r (told t q answer) n xs ms rest = rest (moments_after ms)
left_behind_one r (untold t q) n xs ms rest = rest (moments_after ms)
left_behind_one r (starved t) n xs ms rest = rest (moments_after ms)

left_behind : (xs : List Exchange) (ms : List ℕ) → moments_left_behind xs (Some ms) ≡ Some (moments_left (length (lengths xs)) ms)
left_behind [] ms = refl
left_behind (x ∷ xs) ms = left_behind_one x.request x.deed x.seen xs ms (left_behind xs)

pub gave_a_turn : (m m' : Option (List ℕ)) (xs : List Exchange) → GaveOneATurn m m' xs → Gave m m' (length (lengths xs))
gave_a_turn None m' xs p = tt
gave_a_turn (Some ms) m' xs p = p ∙ left_behind xs ms
