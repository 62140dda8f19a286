-- Each field that can stand settles one component more; the first that cannot is the fault.
use Rattle.std.proofs.Common.{◌≡◌, sym, subst}
use Rattle.board.specs.declared.parts.Parts.{Parts}
use Rattle.board.specs.Position.{IsPosition}
use Rattle.board.specs.Fen.{fen_of}
use Rattle.board.proofs.Stages.{advance, refuse}
use Rattle.board.proofs.Fields.{board_stage, turn_stage, rights_stage, ep_stage, half_stage, number_stage}
use Rattle.board.proofs.Ends.{settled, ends_early, ends_late, end_place, too_many, whole_text, position_of}
use Rattle.board.proofs.fen.read.parse.Goals as goal

pub returns-in_default : goal.returns-in_default
returns-in_default c =
    let text = c.args.bytes.now in
    let none = settled text in
    record {
      before = (_, none.begins);
      refused = refuse board_stage text _ none c.field_at-at.result.0.now c.field_at-at.ensures.field c.read_board.result c.read_board.ensures c.in_default.is;
      at = c.field_at-at.ensures.at;
    }

pub returns-in_default-read_turn : goal.returns-in_default-read_turn
returns-in_default-read_turn c =
    let text = c.args.bytes.now in
    let none = settled text in
    let one = advance board_stage text _ none c.field_at-at.result.0.now c.field_at-at.ensures.field c.read_board.result c.read_board.ensures c.in-Some.cells c.in-Some.is in
    record {
      before = (_, one.begins);
      refused = refuse turn_stage text _ one c.field_at-at-2.result.0.now c.field_at-at-2.ensures.field c.read_turn.result c.read_turn.ensures c.in_default-read_turn.is;
      at = c.field_at-at-2.ensures.at;
    }

pub returns-in_default-read_rights : goal.returns-in_default-read_rights
returns-in_default-read_rights c =
    let text = c.args.bytes.now in
    let none = settled text in
    let one = advance board_stage text _ none c.field_at-at.result.0.now c.field_at-at.ensures.field c.read_board.result c.read_board.ensures c.in-Some.cells c.in-Some.is in
    let two = advance turn_stage text _ one c.field_at-at-2.result.0.now c.field_at-at-2.ensures.field c.read_turn.result c.read_turn.ensures c.in-Some-read_turn.turn c.in-Some-read_turn.is in
    record {
      before = (_, two.begins);
      refused = refuse rights_stage text _ two c.field_at-at-3.result.0.now c.field_at-at-3.ensures.field c.read_rights.result c.read_rights.ensures c.in_default-read_rights.is;
      at = c.field_at-at-3.ensures.at;
    }

pub returns-in_default-read_ep : goal.returns-in_default-read_ep
returns-in_default-read_ep c =
    let text = c.args.bytes.now in
    let none = settled text in
    let one = advance board_stage text _ none c.field_at-at.result.0.now c.field_at-at.ensures.field c.read_board.result c.read_board.ensures c.in-Some.cells c.in-Some.is in
    let two = advance turn_stage text _ one c.field_at-at-2.result.0.now c.field_at-at-2.ensures.field c.read_turn.result c.read_turn.ensures c.in-Some-read_turn.turn c.in-Some-read_turn.is in
    let three = advance rights_stage text _ two c.field_at-at-3.result.0.now c.field_at-at-3.ensures.field c.read_rights.result c.read_rights.ensures c.in-Some-read_rights.rights c.in-Some-read_rights.is in
    record {
      before = (_, three.begins);
      refused = refuse ep_stage text _ three c.field_at-at-4.result.0.now c.field_at-at-4.ensures.field c.read_ep.result c.read_ep.ensures c.in_default-read_ep.is;
      at = c.field_at-at-4.ensures.at;
    }

pub returns-in_default-read_decimal : goal.returns-in_default-read_decimal
returns-in_default-read_decimal c =
    let text = c.args.bytes.now in
    let none = settled text in
    let one = advance board_stage text _ none c.field_at-at.result.0.now c.field_at-at.ensures.field c.read_board.result c.read_board.ensures c.in-Some.cells c.in-Some.is in
    let two = advance turn_stage text _ one c.field_at-at-2.result.0.now c.field_at-at-2.ensures.field c.read_turn.result c.read_turn.ensures c.in-Some-read_turn.turn c.in-Some-read_turn.is in
    let three = advance rights_stage text _ two c.field_at-at-3.result.0.now c.field_at-at-3.ensures.field c.read_rights.result c.read_rights.ensures c.in-Some-read_rights.rights c.in-Some-read_rights.is in
    let four = advance ep_stage text _ three c.field_at-at-4.result.0.now c.field_at-at-4.ensures.field c.read_ep.result c.read_ep.ensures c.in-Some-read_ep.ep c.in-Some-read_ep.is in
    record {
      before = (_, four.begins);
      refused = refuse half_stage text _ four c.field_at-at-5.result.0.now c.field_at-at-5.ensures.field c.read_decimal.result c.read_decimal.ensures c.in_default-read_decimal.is;
      at = c.field_at-at-5.ensures.at;
    }

pub returns-in_default-read_number : goal.returns-in_default-read_number
returns-in_default-read_number c =
    let text = c.args.bytes.now in
    let none = settled text in
    let one = advance board_stage text _ none c.field_at-at.result.0.now c.field_at-at.ensures.field c.read_board.result c.read_board.ensures c.in-Some.cells c.in-Some.is in
    let two = advance turn_stage text _ one c.field_at-at-2.result.0.now c.field_at-at-2.ensures.field c.read_turn.result c.read_turn.ensures c.in-Some-read_turn.turn c.in-Some-read_turn.is in
    let three = advance rights_stage text _ two c.field_at-at-3.result.0.now c.field_at-at-3.ensures.field c.read_rights.result c.read_rights.ensures c.in-Some-read_rights.rights c.in-Some-read_rights.is in
    let four = advance ep_stage text _ three c.field_at-at-4.result.0.now c.field_at-at-4.ensures.field c.read_ep.result c.read_ep.ensures c.in-Some-read_ep.ep c.in-Some-read_ep.is in
    let five = advance half_stage text _ four c.field_at-at-5.result.0.now c.field_at-at-5.ensures.field c.read_decimal.result c.read_decimal.ensures c.in-Some-read_decimal.half c.in-Some-read_decimal.is in
    record {
      before = (_, five.begins);
      refused = refuse number_stage text _ five c.field_at-at-6.result.0.now c.field_at-at-6.ensures.field c.read_number.result c.read_number.ensures c.in_default-read_number.is;
      at = c.field_at-at-6.ensures.at;
    }

pub returns-then-end-bytes : goal.returns-then-end-bytes
returns-then-end-bytes c =
    let text = c.args.bytes.now in
    let none = settled text in
    let one = advance board_stage text _ none c.field_at-at.result.0.now c.field_at-at.ensures.field c.read_board.result c.read_board.ensures c.in-Some.cells c.in-Some.is in
    let two = advance turn_stage text _ one c.field_at-at-2.result.0.now c.field_at-at-2.ensures.field c.read_turn.result c.read_turn.ensures c.in-Some-read_turn.turn c.in-Some-read_turn.is in
    let three = advance rights_stage text _ two c.field_at-at-3.result.0.now c.field_at-at-3.ensures.field c.read_rights.result c.read_rights.ensures c.in-Some-read_rights.rights c.in-Some-read_rights.is in
    let four = advance ep_stage text _ three c.field_at-at-4.result.0.now c.field_at-at-4.ensures.field c.read_ep.result c.read_ep.ensures c.in-Some-read_ep.ep c.in-Some-read_ep.is in
    let five = advance half_stage text _ four c.field_at-at-5.result.0.now c.field_at-at-5.ensures.field c.read_decimal.result c.read_decimal.ensures c.in-Some-read_decimal.half c.in-Some-read_decimal.is in
    let six = advance number_stage text _ five c.field_at-at-6.result.0.now c.field_at-at-6.ensures.field c.read_number.result c.read_number.ensures c.in-Some-read_number.number c.in-Some-read_number.is in
    let early = ends_early text c.field_at-at-6.result.1 c.field_at-at-6.result.0.now c.field_at-at-6.ensures.at c.field_at-at-6.ensures.field c.if-end-bytes.true in
    record {
      before = (_, six.begins);
      refused = too_many text _ six.begins early;
      at = end_place text c.field_at-at-6.result.1 c.field_at-at-6.result.0.now c.field_at-at-6.ensures.at c.field_at-at-6.ensures.field early;
    }

pub of-requires : goal.of-requires
of-requires c =
    let text = c.args.bytes.now in
    let none = settled text in
    let one = advance board_stage text _ none c.field_at-at.result.0.now c.field_at-at.ensures.field c.read_board.result c.read_board.ensures c.in-Some.cells c.in-Some.is in
    let two = advance turn_stage text _ one c.field_at-at-2.result.0.now c.field_at-at-2.ensures.field c.read_turn.result c.read_turn.ensures c.in-Some-read_turn.turn c.in-Some-read_turn.is in
    let three = advance rights_stage text _ two c.field_at-at-3.result.0.now c.field_at-at-3.ensures.field c.read_rights.result c.read_rights.ensures c.in-Some-read_rights.rights c.in-Some-read_rights.is in
    let four = advance ep_stage text _ three c.field_at-at-4.result.0.now c.field_at-at-4.ensures.field c.read_ep.result c.read_ep.ensures c.in-Some-read_ep.ep c.in-Some-read_ep.is in
    let five = advance half_stage text _ four c.field_at-at-5.result.0.now c.field_at-at-5.ensures.field c.read_decimal.result c.read_decimal.ensures c.in-Some-read_decimal.half c.in-Some-read_decimal.is in
    let six = advance number_stage text _ five c.field_at-at-6.result.0.now c.field_at-at-6.ensures.field c.read_number.result c.read_number.ensures c.in-Some-read_number.number c.in-Some-read_number.is in
    position_of _ six.begins.meets

pub returns : goal.returns
returns c =
    let text = c.args.bytes.now in
    let none = settled text in
    let one = advance board_stage text _ none c.field_at-at.result.0.now c.field_at-at.ensures.field c.read_board.result c.read_board.ensures c.in-Some.cells c.in-Some.is in
    let two = advance turn_stage text _ one c.field_at-at-2.result.0.now c.field_at-at-2.ensures.field c.read_turn.result c.read_turn.ensures c.in-Some-read_turn.turn c.in-Some-read_turn.is in
    let three = advance rights_stage text _ two c.field_at-at-3.result.0.now c.field_at-at-3.ensures.field c.read_rights.result c.read_rights.ensures c.in-Some-read_rights.rights c.in-Some-read_rights.is in
    let four = advance ep_stage text _ three c.field_at-at-4.result.0.now c.field_at-at-4.ensures.field c.read_ep.result c.read_ep.ensures c.in-Some-read_ep.ep c.in-Some-read_ep.is in
    let five = advance half_stage text _ four c.field_at-at-5.result.0.now c.field_at-at-5.ensures.field c.read_decimal.result c.read_decimal.ensures c.in-Some-read_decimal.half c.in-Some-read_decimal.is in
    let six = advance number_stage text _ five c.field_at-at-6.result.0.now c.field_at-at-6.ensures.field c.read_number.result c.read_number.ensures c.in-Some-read_number.number c.in-Some-read_number.is in
    let late = ends_late text c.field_at-at-6.result.1 c.field_at-at-6.result.0.now c.field_at-at-6.ensures.at c.field_at-at-6.ensures.field c.if-end-bytes.false in
    subst (λ (q : Parts). (fen_of q ≡ text) × IsPosition q) (sym c.of.ensures)
    (whole_text text _ six.begins late, position_of _ six.begins.meets)
