use Rattle.std.proofs.Common.{◌≡◌, ◌∙◌, inl, inr, List, sym, subst, arith, length, set, get_or, get_or-set_same, get_or-set_other, length-set}
use Rattle.std.proofs.lemmas.Bool.{cases_eq, both_ways}
use Rattle.group_pairing.specs.declared.choice.Choice.{Choice}
use Rattle.group_pairing.specs.Search.{IsBest, CanBeLeft}
use Rattle.group_pairing.proofs.Bests.{best_of_none}
use Rattle.group_pairing.proofs.search.fill_best.Goals as goal
use Rattle.group_pairing.proofs.search.fill_best.Goals.{then-can_be_left, else-can_be_left}

pub loop-set-init : goal.loop-set-init
loop-set-init c = λ m d below left.
    let none : m ≡ 0 = omega (arith, below) in
    subst (λ k. IsBest c.args.rows.now c.args.f.now k 0 0 (get_or (set c.args.best.now 0 c.nothing.result) k d)) (sym none)
    (subst (λ (b : Choice). IsBest c.args.rows.now c.args.f.now 0 0 0 b) (sym (get_or-set_same c.args.best.now 0 c.nothing.result d (omega (arith, c.requires.sets)) ∙ c.nothing.ensures))
    (best_of_none c.args.rows.now c.args.f.now))

pub loop-set-preserved : goal.loop-set-preserved
loop-set-preserved c = λ m d below left.
    elim c.if-can_be_left.branch [
      | then-can_be_left w ↦
          subst (λ (table : List Choice). IsBest c.args.rows.now c.args.f.now m 0 0 (get_or table m d)) (sym w.best-is)
          (elim (cases_eq m c.loop-set.set) [
            | inl here ↦
                subst (λ k. IsBest c.args.rows.now c.args.f.now k 0 0 (get_or (set c.loop-set.best c.loop-set.set w.best_within-found.result) k d)) (sym here)
                (subst (λ (b : Choice). IsBest c.args.rows.now c.args.f.now c.loop-set.set 0 0 b) (sym (get_or-set_same c.loop-set.best c.loop-set.set w.best_within-found.result d (omega (arith, c.loop-set-test.true, c.sets_of-set-end.ensures.most, c.requires.sets, c.loop-set.auto.best, length-set {A = Choice})))) w.best_within-found.ensures)
            | inr other ↦
                subst (λ (b : Choice). IsBest c.args.rows.now c.args.f.now m 0 0 b) (sym (get_or-set_other c.loop-set.best c.loop-set.set m w.best_within-found.result d other)) (c.loop-set.invariant m d (omega (arith, below, other)) left)
          ])
      | else-can_be_left w ↦
          subst (λ (table : List Choice). IsBest c.args.rows.now c.args.f.now m 0 0 (get_or table m d)) (sym w.best-is)
          (elim (cases_eq m c.loop-set.set) [
            | inl here ↦ absurd (both_ways _ w.if-can_be_left.false (c.can_be_left.ensures.1 (subst (λ k. CanBeLeft (length c.args.rows.now) k) here left)))
            | inr other ↦ c.loop-set.invariant m d (omega (arith, below, other)) left
          ])
    ]
