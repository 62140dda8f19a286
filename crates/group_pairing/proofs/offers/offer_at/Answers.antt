use Rattle.std.proofs.Common.{◌∙◌, inl, inr, sym, arith}
use Rattle.std.proofs.lemmas.Option.{slice_get-get_or}
use Rattle.group_pairing.proofs.Cells.{may_inside, may_past, price_inside}
use Rattle.group_pairing.proofs.offers.offer_at.Goals as goal
use Rattle.group_pairing.proofs.offers.offer_at.Goals.{else-place-rows-via-then-place-rows+else-partner-rows, else-place-rows-via-else-place-rows}

pub returns-then-partner-rows : goal.returns-then-partner-rows
returns-then-partner-rows c =
    let first = slice_get-get_or c.args.rows.now c.args.place _ c.if-place-rows.true in
    let second = slice_get-get_or c.args.rows.now c.args.partner _ c.if-partner-rows.true in
    record {
      may = c.offer_between.ensures.may ∙ sym (may_inside c.args.rows.now c.args.f.now c.args.place c.args.partner _ _ first second);
      price = λ may. c.offer_between.ensures.price may ∙ sym (price_inside c.args.rows.now c.args.f.now c.args.place c.args.partner _ _ first second);
      small = c.offer_between.ensures.small;
    }

pub returns-else-place-rows : goal.returns-else-place-rows
returns-else-place-rows c =
    let small = c.no_offer.ensures.price in
    elim c.else-place-rows.branch [
      | else-place-rows-via-then-place-rows+else-partner-rows w ↦ record {
        may = c.no_offer.ensures.may ∙ sym (may_past c.args.rows.now c.args.f.now c.args.place c.args.partner (inr w.if-partner-rows.false));
        price = λ may. let none = c.no_offer.ensures.may in cc;
        small = omega (arith, small);
      }
      | else-place-rows-via-else-place-rows w ↦ record {
        may = c.no_offer.ensures.may ∙ sym (may_past c.args.rows.now c.args.f.now c.args.place c.args.partner (inl w.if-place-rows.false));
        price = λ may. let none = c.no_offer.ensures.may in cc;
        small = omega (arith, small);
      }
    ]
