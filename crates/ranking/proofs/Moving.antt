-- A number on its way to its place.
use Rattle.std.proofs.Common.{◌≡◌, ℕ, ◌+◌, ◌<◌, ◌≤◌, inl, inr, List, false, true, length, get_or, ap, ◌∙◌, arith}
use Rattle.std.specs.Prelude.{swap}
use Rattle.ranking.specs.Order.{Line, comes_before}
use Rattle.ranking.specs.Kept.{ArePlaced, AreInOrder, AreInOrderBut, FollowsAllBefore}
use Rattle.ranking.proofs.Places.{moved, others_swapped, follows_none, follows_all, follows_swapped, settled, settled_last}

-- the number stands at the place, and the others stand in order
pub record IsMoving (lines : List Line) (order places : List ℕ) (number place : ℕ) : Type 0 where
  pub here : get_or order place 0 ≡ number
  pub within : place < length lines
  pub at_places : ArePlaced (length lines) order places
  pub others : AreInOrderBut lines number order

-- and all before it come before it
pub record IsSinking (lines : List Line) (order places : List ℕ) (number place : ℕ) : Type 0 where
  pub moving : IsMoving lines order places number place
  pub above : FollowsAllBefore lines number order

module _ (lines : List Line) (order places : List ℕ) (number place : ℕ) where
  -- one place up
  pub moves_up : IsMoving lines order places number place → (new new_places : List ℕ) (m : ℕ) → m + 1 ≡ place → new ≡ swap order m (m + 1) → ArePlaced (length lines) new new_places → IsMoving lines new new_places number m
  moves_up is new new_places m next swapped are =
      let lt : m + 1 < length lines = let within : place < length lines = is.within in omega arith in
      let stood : get_or order (m + 1) 0 ≡ number = ap (λ k. get_or order k 0) next ∙ is.here in
      record {
        here = (moved (length lines) order places new m lt is.at_places swapped).0 ∙ stood;
        within = omega arith;
        at_places = are;
        others = others_swapped (length lines) order places new m lt is.at_places swapped lines number (inr stood) is.others;
      }

  -- not further up
  pub moved_up : IsMoving lines order places number place → (m : ℕ) → m + 1 ≡ place → comes_before lines number (get_or order m 0) ≡ false → FollowsAllBefore lines number order
  moved_up is m next down = follows_all lines (length lines) order places number place is.at_places is.here is.within is.others m next down

  pub at_top : IsMoving lines order places number place → place ≡ 0 → FollowsAllBefore lines number order
  at_top is top = follows_none lines (length lines) order places number place is.at_places is.here is.within is.others top

  -- one place down
  pub moves_down : IsSinking lines order places number place → (new new_places : List ℕ) → place + 1 < length lines → new ≡ swap order place (place + 1) → ArePlaced (length lines) new new_places → comes_before lines (get_or order (place + 1) 0) number ≡ true → IsSinking lines new new_places number (place + 1)
  moves_down is new new_places lt swapped are before = record {
    moving = record {
      here = (moved (length lines) order places new place lt is.moving.at_places swapped).1 ∙ is.moving.here;
      within = lt;
      at_places = are;
      others = others_swapped (length lines) order places new place lt is.moving.at_places swapped lines number (inl is.moving.here) is.moving.others;
    };
    above = follows_swapped lines (length lines) order places number place is.moving.at_places is.moving.here is.moving.within is.moving.others new lt swapped before is.above;
  }

  -- not further down
  pub moved_down : IsSinking lines order places number place → comes_before lines (get_or order (place + 1) 0) number ≡ false → AreInOrder lines order
  moved_down is down = settled lines (length lines) order places number place is.moving.at_places is.moving.here is.moving.within is.moving.others down is.above

  pub at_end : IsSinking lines order places number place → length order ≤ place + 1 → AreInOrder lines order
  at_end is last = settled_last lines (length lines) order places number place is.moving.at_places is.moving.here is.moving.within is.moving.others (omega (arith, is.moving.at_places.all_ordered)) is.above
