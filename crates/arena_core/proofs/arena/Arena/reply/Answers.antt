use Rattle.std.proofs.Common.{◌∙◌, sym, ap}
use Rattle.std.specs.Option.{option_map}
use Rattle.arena_rules.specs.declared.query.Reply.TheVariants as reply
use Rattle.arena_core.proofs.Replied.{entered_reply, paused_reply, left_reply, acted_reply, looked_reply}
use Rattle.arena_core.proofs.arena.Arena.reply.Goals as goal

pub returns-in-Enter : goal.returns-in-Enter
returns-in-Enter c = λ es pass last ended. entered_reply c.laws_of_histories.ensures c.args.self.now.setup es c.args.self.now.entries c.args.t pass c.args.c.now c.in-Enter.p c.me.result last c.in-Enter.is c.me.ensures

pub returns-in-Pause : goal.returns-in-Pause
returns-in-Pause c = λ es pass last ended. paused_reply c.laws_of_histories.ensures c.args.self.now.setup es c.args.self.now.entries c.args.t pass c.args.c.now c.in-Pause.p c.me-in-Pause.result last c.in-Pause.is c.me-in-Pause.ensures

pub returns-in-Leave : goal.returns-in-Leave
returns-in-Leave c = λ es pass last ended. left_reply c.laws_of_histories.ensures c.args.self.now.setup es c.args.self.now.entries c.args.t pass c.args.c.now c.in-Leave.p c.me-in-Leave.result last c.in-Leave.is c.me-in-Leave.ensures

pub returns-in-Some : goal.returns-in-Some
returns-in-Some c =
    λ es pass last ended.
    ap (option_map reply.Game) (sym c.in-Some.is) ∙ acted_reply c.laws_of_histories.ensures c.args.self.now.setup es c.args.self.now.entries c.args.t pass c.args.c.now c.in-Act.field-0 c.in-Act.g c.in-Act.field-2 c.shown.result last c.in-Act.is c.shown.ensures

pub returns-in-None : goal.returns-in-None
returns-in-None c =
    λ es pass last ended.
    ap (option_map reply.Game) (sym c.in-None.is) ∙ acted_reply c.laws_of_histories.ensures c.args.self.now.setup es c.args.self.now.entries c.args.t pass c.args.c.now c.in-Act.field-0 c.in-Act.g c.in-Act.field-2 c.shown.result last c.in-Act.is c.shown.ensures

pub returns-in-Tick : goal.returns-in-Tick
returns-in-Tick c = λ es pass last ended. looked_reply c.laws_of_histories.ensures c.args.self.now.setup es c.args.self.now.entries c.args.t pass c.args.c.now c.args.ended c.in-Tick.is ended
