use Rattle.std.proofs.Common.{◌≡◌, ◌∙◌, ap, sym, arith, rules}
use Rattle.board.specs.Attack.{piece_on}
use Rattle.board.proofs.SetLaws.{and_of, not_of}
use Rattle.bitboards.proofs.Ahead.{reaches_by_sets}
use Rattle.bitboards.proofs.bits.Bits.targets.Goals as goal

own : (c : goal.After-of_colour) → c.in-Some.piece.colour ≡ c.args.self.now.turn
own c = search rules

pub returns-then-eq : goal.returns-then-eq
returns-then-eq c = λ t on.
    and_of c.kind_targets.result _ _ _ c.kind_targets.ensures (not_of c.of_colour.result _ (omega arith) c.of_colour.ensures) t on
    ∙ rw (c.turn-turn.ensures, c.placement-then-eq.ensures)
    (reaches_by_sets c.args.self.now c.args.from t c.in-Some.piece (ap (λ cells. piece_on cells c.args.from) (sym c.placement.ensures) ∙ sym c.at.ensures ∙ c.in-Some.is) (own c))
