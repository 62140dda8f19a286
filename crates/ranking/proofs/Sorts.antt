-- What a stable sort gives: the elements put in order one after another.
use Rattle.std.proofs.Common.{◌≡◌, List, Bool, Ordering, sym, ap, ◌∙◌, subst}
use Rattle.std.specs.Cmp.{IsTotalOrder, IsStrictWeakOrder}
use Rattle.std.specs.Fn.{Called}
use Rattle.std.specs.Ordering.{is_lt}
use Rattle.std.specs.List.Sorted.{IsSortedByClosure, IsStableByClosure}
use Rattle.std.proofs.lemmas.Fn.{always_returns_same}
use Rattle.std.proofs.lemmas.List.Sorted.{ranks_by, sorted_far}
use Rattle.ranking.specs.Order.{in_order}
use Rattle.ranking.proofs.Orders.{stable_sort}
use denote.Param.Members.{Mut}
use denote.Ref.{Bor}

-- a test that says of a total order whether the first is less is an order
pub order_of : {X : Type 0} (above : X → X → Bool) (cmp : X → X → Ordering) → IsTotalOrder cmp → ((x y : X) → above x y ≡ is_lt (cmp x y)) → IsStrictWeakOrder above
order_of {X} above cmp total same = subst (λ (lt : X → X → Bool). IsStrictWeakOrder lt) (sym (λ i x y. same x y i)) (ranks_by total (λ (x : X). x))

-- a stable sort by a closure that compares by a total order
pub sorted_in_order : {X : Type 0} (above : X → X → Bool) (cmp : X → X → Ordering) → IsTotalOrder cmp → ((x y : X) → above x y ≡ is_lt (cmp x y)) → {F : Type 0} {g : Mut F (Bor X × (Bor X × Unit {0})) Ordering} {f : F} (xs ys : List X)
    → IsSortedByClosure g f ys
    → IsStableByClosure g f xs ys
    → ((a : Bor X × (Bor X × Unit {0})) (r : Ordering) (f' : F) → Called g f a r f' → (r ≡ cmp a.0.now a.1.0.now) × (f' ≡ f))
    → ys ≡ in_order above xs
sorted_in_order above cmp total same {g = g} {f = f} xs ys sorted stable compares =
    let order = order_of above cmp total same in
    let as_above = always_returns_same g (λ a r. is_lt r ≡ above a.0.now a.1.0.now) f (λ a r f' call. (ap is_lt (compares a r f' call).0 ∙ sym (same a.0.now a.1.0.now), (compares a r f' call).1)) in
    stable_sort above order xs ys (sorted_far above order ys (sorted above order as_above)) (stable above order as_above)
