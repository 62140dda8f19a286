use Rattle.std.proofs.Common.{rules, ◌++◌, arith, ◌∙◌}
use Rattle.std.proofs.lemmas.List.{nil_from_length}
use Rattle.board.specs.Start.{start_parts}
use Rattle.pgn_text.specs.Pgn.{tokens_from, laid}
use Rattle.pgn_text.proofs.Laying.{next_laid, next_line, last_laid, front_item}
use Rattle.pgn_text.proofs.write_game.put_moves.Goals as goal

pub moves-preserved : goal.moves-preserved
moves-preserved c =
    let split = front_item c.moves.rest.now c.m-item.result c.in-len1-up.len_at_least (search rules) in
    record {
      put = next_laid c.moves.text.items c.put_move.new.text.items (c.args.text.now.items ++ laid 0 (tokens_from 1 start_parts c.args.moves.now c.args.ending)) c.moves.column c.in_ok-column.column c.moves.number c.next_number-number.result c.turn.result c.moves.position c.make-position.result c.m-item.result c.moves.rest.now _ c.args.ending split c.in_ok-column.ensures.put c.next_number-number.ensures c.turn.ensures c.make-position.ensures.is c.moves.invariant.put;
      line = next_line c.moves.position c.make-position.result c.m-item.result c.moves.rest.now _ split c.make-position.ensures.is c.moves.invariant.line;
      counted = search rules;
      column = c.in_ok-column.ensures.line;
    }

pub returns : goal.returns
returns c =
    last_laid c.moves.text.items c.put_token.new.text.items (c.args.text.now.items ++ laid 0 (tokens_from 1 start_parts c.args.moves.now c.args.ending)) c.moves.column c.in_ok-put_token.field-0 c.moves.number c.moves.position c.moves.rest.now c.as_bytes.result.now c.args.ending (nil_from_length c.moves.rest.now (omega arith)) (c.as_bytes.ensures.value ∙ c.result_text.ensures.is) c.in_ok-put_token.ensures.put c.moves.invariant.put
