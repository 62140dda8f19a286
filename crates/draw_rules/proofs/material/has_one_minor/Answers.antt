use Rattle.std.proofs.Common.{◌≡◌, ◌∙◌, ◌&&◌, ◌==◌, ap, sym, arith, eq-eqb, bit_and, count_ones, w64}
use Rattle.std.proofs.lemmas.Bool.{ne_eqb}
use Rattle.std.specs.Int.{bit_not}
use Rattle.board.specs.Attack.{piece_on}
use Rattle.board.proofs.SetLaws.{and_of, not_of}
use Rattle.draw_rules.specs.Material.{kings_and_one_minor}
use Rattle.draw_rules.proofs.NoneElse.{and_small, one_minor, no_king_or_minor}
use Rattle.draw_rules.proofs.material.has_one_minor.Goals as goal
use Rattle.draw_rules.proofs.material.has_one_minor.Goals.{After-no_kings}

both : (c : After-no_kings) → ((bit_and c.no_kings.result (bit_not w64 c.minors-minors.result) == 0) && (count_ones c.minors-minors.result == 1)) ≡ kings_and_one_minor c.args.board.now
both c =
    one_minor c.args.board.now _ c.minors-minors.result c.keeps.ensures (and_small c.no_kings.result _ (omega arith)) (omega arith)
    (λ s on. and_of c.no_kings.result _ _ _ c.no_kings.ensures (not_of c.minors-minors.result _ (omega arith) c.minors-minors.ensures) s on ∙ no_king_or_minor (piece_on c.args.board.now s))
    c.minors-minors.ensures

pub returns-then-no_kings-minors-eq0 : goal.returns-then-no_kings-minors-eq0
returns-then-no_kings-minors-eq0 c = sym (ap (λ b. b && (count_ones c.minors-minors.result == 1)) (eq-eqb _ _ c.if-no_kings-minors-eq0.true)) ∙ both c.before

pub returns-else-no_kings-minors-eq0 : goal.returns-else-no_kings-minors-eq0
returns-else-no_kings-minors-eq0 c =
    let some = ne_eqb _ _ c.if-no_kings-minors-eq0.false in
    some ∙ sym (ap (λ b. b && (count_ones c.minors-minors.result == 1)) some) ∙ both c.before
