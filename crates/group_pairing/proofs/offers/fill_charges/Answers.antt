use Rattle.std.proofs.Common.{◌≡◌, ◌∙◌, inl, inr, sym, subst, arith, set, slice_index, get_or-set_same, get_or-set_other}
use Rattle.std.proofs.lemmas.Bool.{cases_eq}
use Rattle.std.proofs.lemmas.Option.{slice_get-get_or}
use Rattle.group_pairing.specs.Keys.{charge_at}
use Rattle.group_pairing.proofs.Cells.{charge_inside}
use Rattle.group_pairing.proofs.offers.fill_charges.Goals as goal

pub loop-place-preserved : goal.loop-place-preserved
loop-place-preserved c = λ i below. elim (cases_eq i c.loop-place.place) [
  | inl here ↦
      subst (λ k. slice_index (set c.loop-place.table c.loop-place.place c.charge-price.result) k ≡ charge_at c.args.rows.now c.args.f.now k) (sym here)
      (get_or-set_same c.loop-place.table c.loop-place.place c.charge-price.result 0 (omega arith)
      ∙ c.charge-price.ensures.charge
      ∙ sym (charge_inside c.args.rows.now c.args.f.now c.loop-place.place _ (slice_get-get_or c.args.rows.now c.loop-place.place _ (omega arith))))
  | inr other ↦ get_or-set_other c.loop-place.table c.loop-place.place i c.charge-price.result 0 other ∙ c.loop-place.invariant i (omega (arith, below, other))
]
