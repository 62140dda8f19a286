use Rattle.std.proofs.Common.{rules, ◌∙◌}
use Rattle.pgn_text.proofs.Turns.{run_on_by, run_over_by, fault_turns}
use Rattle.pgn_text.proofs.read_game.turn.Goals as goal

pub returns-in-Err-clause-is : goal.returns-in-Err-clause-is
returns-in-Err-clause-is c k h = fault_turns c.args.total k c.args.game.now c.args.text.now c.in-Err.fault h c.requires.some c.in-Err.ensures.is

pub returns-in-Ok-None-default-clause-is : goal.returns-in-Ok-None-default-clause-is
returns-in-Ok-None-default-clause-is c k h =
    run_on_by c.args.total k c.args.game.now c.item.new.game c.args.text.now c.in-Ok-None-default.rest.now c.in-Ok-None-default.field-0-0 h c.requires.some (search rules) c.in-Ok-None-default.ensures.is

pub returns-in-Err-end-clause-is : goal.returns-in-Err-end-clause-is
returns-in-Err-end-clause-is c k h =
    run_over_by c.args.total k c.args.game.now c.item.new.game c.args.text.now c.in-Ok-Some-default.rest.now c.in-Ok-Some-default.field-0-0 c.in-Ok-Some-default.ending h c.requires.some (search rules) c.in-Ok-Some-default.ensures.is
    ∙ c.in-Err-end.ensures c.item.new.game c.in-Ok-Some-default.ending

pub returns-in-Ok-clause-is : goal.returns-in-Ok-clause-is
returns-in-Ok-clause-is c k h =
    run_over_by c.args.total k c.args.game.now c.item.new.game c.args.text.now c.in-Ok-Some-default.rest.now c.in-Ok-Some-default.field-0-0 c.in-Ok-Some-default.ending h c.requires.some (search rules) c.in-Ok-Some-default.ensures.is
    ∙ c.in-Ok.ensures c.item.new.game c.in-Ok-Some-default.ending
