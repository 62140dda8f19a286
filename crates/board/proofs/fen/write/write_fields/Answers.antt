use Rattle.std.proofs.Common.{append_assoc, subst, ◌∙◌}
use Rattle.board.specs.declared.parts.Parts.{Parts}
use Rattle.board.specs.Position.{IsPosition}
use Rattle.board.proofs.OneText.{one_text}
use Rattle.board.proofs.fen.write.write_fields.Goals as goal

pub returns-clause-is : goal.returns-clause-is
returns-clause-is c =
    rw (c.push_decimal-2.ensures.is, c.push_byte-5.ensures.is, c.push_decimal.ensures.is, c.push_byte-4.ensures.is, c.push_ep.ensures.is, c.push_byte-3.ensures.is, c.push_rights.ensures.is, c.push_byte-2.ensures.is, c.push_turn.ensures.is, c.push_byte.ensures.is, c.push_ranks.ensures.is, c.new-out.ensures, c.parts-parts.ensures.is, c.turn.ensures, c.rights.ensures, c.ep.ensures, c.half.ensures, c.number.ensures) (simp append_assoc)

pub returns-clause-only : goal.returns-clause-only
returns-clause-only c = λ q good e.
    let fine : IsPosition c.args.p.now = subst (λ (x : Parts). IsPosition x) c.parts-parts.ensures.is c.parts-parts.ensures.keeps in
    one_text q c.args.p.now good fine (e ∙ returns-clause-is c)
