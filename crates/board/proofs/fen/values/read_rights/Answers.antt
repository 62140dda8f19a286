use Rattle.std.proofs.Common.{◌≡◌, List, Option, Some, ℕ, sym, ◌∙◌, ap}
use Rattle.std.proofs.lemmas.Bool.{both_ways}
use Rattle.board.specs.declared.piece.Piece.{Piece}
use Rattle.board.specs.declared.parts.Rights.{Rights}
use Rattle.board.specs.Fen.{rights_text}
use Rattle.board.specs.Position.{HoldsRights}
use Rattle.board.specs.Reading.{rights_in}
use Rattle.board.proofs.FieldTexts.{says, says_nothing, says_wrong, rights_in-spells, rights_in-text}
use Rattle.board.proofs.fen.values.read_rights.Goals as goal

read : (field : List ℕ) (cells : List (Option Piece)) (r : Rights) → rights_text r ≡ field → HoldsRights cells r → rights_in field ≡ Some r
read field cells r e good = ap rights_in (sym e) ∙ rights_in-text r

pub returns-in-Some : goal.returns-in-Some
returns-in-Some c =
    let f = c.args.field.now in
    let cells = c.args.cells.now in
    says rights_text (HoldsRights cells) f (rights_in f) (rights_in-spells f) (read f cells) c.in-Some.rights (sym c.in-Some.ensures)
    (c.holds_rights.ensures.0 c.if-holds_rights.true)

pub returns-in_default : goal.returns-in_default
returns-in_default c =
    let f = c.args.field.now in
    let cells = c.args.cells.now in
    says_wrong rights_text (HoldsRights cells) f (rights_in f) (rights_in-spells f) (read f cells) c.in-Some.rights (sym c.in-Some.ensures)
    (λ good. both_ways c.holds_rights.result c.if-holds_rights.false (c.holds_rights.ensures.1 good))

pub returns-in_default-2 : goal.returns-in_default-2
returns-in_default-2 c =
    let f = c.args.field.now in
    let cells = c.args.cells.now in
    says_nothing rights_text (HoldsRights cells) f (rights_in f) (rights_in-spells f) (read f cells) (sym c.rights_of.ensures ∙ c.in_default.is)
