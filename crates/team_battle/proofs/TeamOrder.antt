-- The order of the teams is strict and total.
use Rattle.std.proofs.Common.{◌≡◌, ⊎_elim, inl, inr, true, false, refl, sym, ap, ◌∙◌, Ordering, arith, ◌<◌}
use Rattle.std.specs.Prelude.{◌≢◌, nat_lt}
use Rattle.std.specs.Cmp.{IsTotalOrder, IsStrictWeakOrder}
use Rattle.std.specs.declared.cmp.Ordering.TheVariants.{Less, Equal, Greater}
use Rattle.std.specs.Ordering.{nat_cmp, int_cmp, is_lt, ordering_then, ordering_reverse}
use Rattle.std.proofs.lemmas.Bool.{cases_Bool, cases_order, both_ways, lt-ltb, le-ltb, ne_eqb}
use Rattle.std.proofs.lemmas.Cmp.{nat_cmp_total, int_cmp_total, on_total, then_total, back_total}
use Rattle.ranking.proofs.Before.{is_lt-nat_cmp}
use Rattle.ranking.proofs.Sorts.{order_of}
use Rattle.team_battle.specs.declared.tally.Tally.{Tally}
use Rattle.team_battle.specs.Compare.{tally_cmp}
use Rattle.team_battle.specs.Laws.{NoneAboveItself, AboveIsTransitive, AboveIsTotal}
use Rattle.team_battle.specs.Teams.{above}

pub tally_cmp_total : IsTotalOrder tally_cmp
tally_cmp_total = then_total (back_total (on_total (λ (t : Tally). t.points) nat_cmp_total)) (then_total (back_total (on_total (λ (t : Tally). t.performance) int_cmp_total)) (on_total (λ (t : Tally). t.team) nat_cmp_total))

pub above-cmp : (x y : Tally) → above x y ≡ is_lt (tally_cmp x y)
above-cmp x y = refl

pub above_order : IsStrictWeakOrder above
above_order = order_of above tally_cmp tally_cmp_total above-cmp

pub none_above_itself : NoneAboveItself
none_above_itself x up = both_ways (above x x) (above_order.one_way x x up) up

is_less : (o : Ordering) → is_lt o ≡ true → o ≡ Less
is_less Less lt = refl
is_less Equal lt = cc
is_less Greater lt = cc

pub above_is_transitive : AboveIsTransitive
above_is_transitive x y z first second =
    above-cmp x z ∙ ap is_lt (tally_cmp_total.trans x y z (is_less (tally_cmp x y) (sym (above-cmp x y) ∙ first)) (is_less (tally_cmp y z) (sym (above-cmp y z) ∙ second)))

-- teams with different numbers never tie
pub total : (x y : Tally) → x.team ≢ y.team → above x y ≡ false → above y x ≡ true
total x y other down = above-cmp y x ∙ (ap is_lt (tally_cmp_total.antisymm y x) ∙ turned (nat_cmp y.points x.points) (int_cmp y.performance x.performance) (sym (above-cmp x y) ∙ down))
  where
    numbers : is_lt (nat_cmp x.team y.team) ≡ false → is_lt (ordering_reverse (nat_cmp x.team y.team)) ≡ true
    numbers less =
        ⊎_elim
        (λ (same : x.team ≡ y.team). absurd (other same))
        (λ apart.
        ⊎_elim
        (λ (lt : x.team < y.team). absurd (both_ways (nat_lt x.team y.team) (sym (is_lt-nat_cmp x.team y.team) ∙ less) (lt-ltb x.team y.team lt)))
        (λ (gt : y.team < x.team). rw (le-ltb x.team y.team (omega arith), ne_eqb x.team y.team other) refl)
        apart)
        (cases_order x.team y.team)

    turned : (o q : Ordering) → is_lt (ordering_then o (ordering_then q (nat_cmp x.team y.team))) ≡ false → is_lt (ordering_reverse (ordering_then o (ordering_then q (nat_cmp x.team y.team)))) ≡ true
    turned Less q less = cc
    turned Greater q less = refl
    turned Equal Less less = cc
    turned Equal Greater less = refl
    turned Equal Equal less = numbers less

pub above_is_total : AboveIsTotal
above_is_total x y other = ⊎_elim (λ (up : above x y ≡ true). inl up) (λ (down : above x y ≡ false). inr (total x y other down)) (cases_Bool (above x y))
