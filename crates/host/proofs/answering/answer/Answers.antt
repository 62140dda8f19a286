use Rattle.std.proofs.Common.{Ok, sym, ap, ◌∙◌}
use Rattle.host.specs.Exchanges.{in_error}
use Rattle.host.proofs.Calling.{command_of_player, question_of_player}
use Rattle.host.proofs.Replying.{error_is_said}
use Rattle.host.proofs.Turning.{in_no_turn}
use Rattle.host.proofs.answering.answer.Goals as goal

pub obey-requires-clause-player : goal.obey-requires-clause-player
obey-requires-clause-player g c =
    command_of_player _ c.args.desk.now.keys.now c.args.head.now c.in-Ok-Command.command c.requires.players
    (sym c.route.ensures ∙ (c.in-Ok-Command.is ∙ ap Ok c.in-Ok-Command.field-0-is))

pub tell-requires-clause-player : goal.tell-requires-clause-player
tell-requires-clause-player g c =
    question_of_player _ c.args.desk.now.keys.now c.args.head.now c.in-Ok-Query.query c.requires.players
    (sym c.route.ensures ∙ (c.in-Ok-Query.is ∙ ap Ok c.in-Ok-Query.field-0-is))

pub returns-in-Ok-Command-clause-comes : goal.returns-in-Ok-Command-clause-comes
returns-in-Ok-Command-clause-comes g c =
    c.obey.ensures.comes c.args.desk.now.keys.now c.args.head.now (sym c.route.ensures ∙ (c.in-Ok-Command.is ∙ ap Ok c.in-Ok-Command.field-0-is))

pub returns-in-Ok-Query-clause-comes : goal.returns-in-Ok-Query-clause-comes
returns-in-Ok-Query-clause-comes g c =
    c.tell.ensures.comes c.args.desk.now.keys.now c.args.head.now (sym c.route.ensures ∙ (c.in-Ok-Query.is ∙ ap Ok c.in-Ok-Query.field-0-is))

pub returns-in-Err-clause-comes : goal.returns-in-Err-clause-comes
returns-in-Err-clause-comes g c = record {
  deed = in_error c.in-Err.error;
  asked = in_no_turn _ c.args.desk.now.keys.now _ c.args.pass.now c.args.head.now c.in-Err.error (sym c.route.ensures ∙ c.in-Err.is);
  says = error_is_said c.error_said.result c.in-Err.error c.error_said.ensures;
}
