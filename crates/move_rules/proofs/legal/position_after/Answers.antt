-- The parts after a legal move are those of a position.
use Rattle.std.proofs.Common.{◌≡◌, ◌∙◌, sym, subst, ap, List, Option}
use Rattle.board.specs.declared.parts.Parts.{Parts}
use Rattle.board.specs.declared.piece.Piece.{Piece}
use Rattle.board.specs.Position.{IsPosition, parts_of}
use Rattle.move_rules.specs.After.{after}
use Rattle.move_rules.proofs.PositionKept.{after_is_position}
use Rattle.move_rules.proofs.legal.position_after.Goals as goal

made : (c : goal.After-status_after) → parts_of c.cells_after-cells.result c.status_after.result ≡ after c.args.p.now c.args.m
made c = ap (λ (cells : List (Option Piece)). parts_of cells c.status_after.result) c.cells_after-cells.ensures ∙ c.status_after.ensures

pub of_placement-requires : goal.of_placement-requires
of_placement-requires c =
    subst (λ (q : Parts). IsPosition q) (sym (made c))
    (after_is_position c.args.p.now c.args.m c.requires.position c.keeps.ensures c.requires.legal)

pub returns-clause-is : goal.returns-clause-is
returns-clause-is c = c.of_placement.ensures ∙ ap (λ (cells : List (Option Piece)). parts_of cells c.status_after.result) c.cells_after-cells.ensures ∙ c.status_after.ensures

pub returns-clause-keeps : goal.returns-clause-keeps
returns-clause-keeps c =
    subst (λ (q : Parts). IsPosition q) (sym (c.of_placement.ensures ∙ ap (λ (cells : List (Option Piece)). parts_of cells c.status_after.result) c.cells_after-cells.ensures ∙ c.status_after.ensures))
    (after_is_position c.args.p.now c.args.m c.requires.position c.keeps.ensures c.requires.legal)
