use Rattle.std.proofs.Common.{◌<◌, ◌∙◌, sym, ap, subst, length}
use Rattle.arena_rules.specs.Commands.{IsCommandOf}
use Rattle.arena_rules.specs.Verdicts.{closed_or, command_refusal, enter_refusal, pause_refusal, leave_refusal}
use Rattle.arena_core.specs.Written.{written_past}
use Rattle.arena_core.proofs.Placed.{wish_kept}
use Rattle.arena_core.proofs.asking.command_refusal.Goals as goal

pub returns-in-Enter : goal.returns-in-Enter
returns-in-Enter c =
    let b = c.args.book.now in
    let h = written_past b in
    let player : c.in-Enter.p < length b.setup.players = subst (IsCommandOf (length b.setup.players)) c.in-Enter.is c.requires.player in
    let wish = c.wish.ensures ∙ wish_kept c.laws_of_histories.ensures b.setup h c.args.people.now c.requires.kept.people c.in-Enter.p player in
    c.closed_or.ensures ∙ ((λ i. closed_or (c.setup-setup.ensures i) c.args.t ((c.enter_refusal.ensures ∙ ap enter_refusal wish) i)) ∙ ap (command_refusal b.setup h c.args.t) (sym c.in-Enter.is))

pub returns-in-Pause : goal.returns-in-Pause
returns-in-Pause c =
    let b = c.args.book.now in
    let h = written_past b in
    let player : c.in-Pause.p < length b.setup.players = subst (IsCommandOf (length b.setup.players)) c.in-Pause.is c.requires.player in
    let wish = c.wish-in-Pause.ensures ∙ wish_kept c.laws_of_histories.ensures b.setup h c.args.people.now c.requires.kept.people c.in-Pause.p player in
    c.closed_or-in-Pause.ensures ∙ ((λ i. closed_or (c.setup-setup.ensures i) c.args.t ((c.pause_refusal.ensures ∙ ap pause_refusal wish) i)) ∙ ap (command_refusal b.setup h c.args.t) (sym c.in-Pause.is))

pub returns-in-Leave : goal.returns-in-Leave
returns-in-Leave c =
    let b = c.args.book.now in
    let h = written_past b in
    let player : c.in-Leave.p < length b.setup.players = subst (IsCommandOf (length b.setup.players)) c.in-Leave.is c.requires.player in
    let wish = c.wish-in-Leave.ensures ∙ wish_kept c.laws_of_histories.ensures b.setup h c.args.people.now c.requires.kept.people c.in-Leave.p player in
    c.closed_or-in-Leave.ensures ∙ ((λ i. closed_or (c.setup-setup.ensures i) c.args.t ((c.leave_refusal.ensures ∙ ap leave_refusal wish) i)) ∙ ap (command_refusal b.setup h c.args.t) (sym c.in-Leave.is))
