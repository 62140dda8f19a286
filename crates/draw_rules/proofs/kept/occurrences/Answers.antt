use Rattle.std.proofs.Common.{◌≡◌, ◌∙◌, ◌-◌, sym, length, get_or, arith}
use Rattle.draw_rules.specs.Packing.{with_pieces, in_step}
use Rattle.draw_rules.proofs.Counts.{occurrences_at}
use Rattle.draw_rules.proofs.Packing.{in_step-at, length_in_step, times_in-le}
use Rattle.draw_rules.proofs.kept.occurrences.Goals as goal

pub overflow_cast-result : goal.overflow_cast-result
overflow_cast-result c =
    let most = times_in-le (in_step c.args.boards.now c.args.rest.now) (with_pieces c.index-boards-last.result c.index-rest-last.result) in
    let long = length_in_step c.args.boards.now c.args.rest.now c.requires.in_step in
    let few = c.requires.few in
    let times = c.times_in.ensures in
    omega arith

pub returns : goal.returns
returns c =
    let list = in_step c.args.boards.now c.args.rest.now in
    let last = with_pieces c.index-boards-last.result c.index-rest-last.result in
    let long = length_in_step c.args.boards.now c.args.rest.now c.requires.in_step in
    let some = c.requires.some in
    let n = length c.args.boards.now - 1 in
    let here : get_or list n last ≡ last =
    in_step-at c.args.boards.now c.args.rest.now n last c.index-boards-last.result c.index-rest-last.result c.requires.in_step (omega arith)
    ∙ (λ i. with_pieces (sym c.index-boards-last.is i) (sym c.index-rest-last.is i)) in
    c.times_in.ensures ∙ sym (occurrences_at list n last (omega arith) (omega arith) (sym here))
