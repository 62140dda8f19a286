use Rattle.std.proofs.Common.{sym, ◌∙◌}
use Rattle.arena_rules.specs.declared.command.Command.TheVariants.{Act}
use Rattle.arena_rules.specs.Commands.{entry_of}
use Rattle.workload.specs.Drafts.{behind, going, with_all}
use Rattle.workload.specs.Scripts.{act_of}
use Rattle.workload.proofs.Acted.{no_act, one_act}
use Rattle.workload.proofs.Drafted.{comes_same}
use Rattle.workload.proofs.rounds.act.Goals as goal

pub returns-in-Some-clause-comes : goal.returns-in-Some-clause-comes
returns-in-Some-clause-comes c =
    let was = c.args.arena.now in
    comes_same (with_all was.setup (going was.entries) (act_of c.args.t c.args.number c.args.game.now c.args.side c.args.word.now))
    (behind was.setup was.entries (entry_of c.args.t 0 (Act c.player_of.result c.args.number c.in-Some.action)))
    c.add_command.new.arena.entries c.add_command.result
    (one_act c.args.t c.args.number c.args.game.now c.args.side was.setup was.entries c.args.word.now c.in-Some.action c.player_of.result (sym c.action_of.ensures ∙ c.in-Some.is) c.player_of.ensures)
    c.add_command.ensures.comes

pub returns-in-None-clause-comes : goal.returns-in-None-clause-comes
returns-in-None-clause-comes c =
    let was = c.args.arena.now in
    no_act c.args.t c.args.number c.args.game.now c.args.side was.setup was.entries c.args.word.now (sym c.action_of.ensures ∙ c.in-None.is)
