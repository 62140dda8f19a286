use Rattle.std.proofs.Common.{◌∙◌, sym, ap}
use Rattle.arena_rules.specs.Verdicts.{command_refusal}
use Rattle.arena_core.specs.Written.{written_past}
use Rattle.arena_core.proofs.Heeded.{own_none}
use Rattle.arena_core.proofs.obeying.obey.Goals as goal

pub enter-requires-clause-granted : goal.enter-requires-clause-granted
enter-requires-clause-granted c =
    let b = c.args.book.now in
    ap (command_refusal b.setup (written_past b) c.args.t) (sym c.in-Enter.is) ∙ own_none b.setup (written_past b) c.args.t c.args.c.now c.requires.granted

pub pause-requires-clause-granted : goal.pause-requires-clause-granted
pause-requires-clause-granted c =
    let b = c.args.book.now in
    ap (command_refusal b.setup (written_past b) c.args.t) (sym c.in-Pause.is) ∙ own_none b.setup (written_past b) c.args.t c.args.c.now c.requires.granted

pub leave-requires-clause-granted : goal.leave-requires-clause-granted
leave-requires-clause-granted c =
    let b = c.args.book.now in
    ap (command_refusal b.setup (written_past b) c.args.t) (sym c.in-Leave.is) ∙ own_none b.setup (written_past b) c.args.t c.args.c.now c.requires.granted

pub act-requires-clause-granted : goal.act-requires-clause-granted
act-requires-clause-granted c =
    let b = c.args.book.now in
    ap (command_refusal b.setup (written_past b) c.args.t) (sym c.in-Act.is) ∙ own_none b.setup (written_past b) c.args.t c.args.c.now c.requires.granted
