use Rattle.std.proofs.Common.{ap, subst, ◌∙◌, length, map, take, drop, ◌-◌}
use Rattle.board.specs.Piece.{other}
use Rattle.workload.specs.Drafts.{going, with_all}
use Rattle.workload.specs.Scripts.{act_of, acts_from}
use Rattle.workload.specs.Steps.{ComesTo}
use Rattle.workload.proofs.Acted.{first_word, no_words}
use Rattle.workload.proofs.Drafted.{and_no_more, and_then, of_none}
use Rattle.workload.proofs.rounds.+act_in_turn.Goals as goal

pub returns-in_default-clause-comes : goal.returns-in_default-clause-comes
returns-in_default-clause-comes t c =
    let was = c.args.arena.now in
    ap (with_all was.setup (going was.entries)) (no_words c.args.t c.args.number c.args.game.now c.args.side c.args.words.now c.in_default.len_below) ∙ of_none was.setup (going was.entries)

pub returns-in_err-act-clause-comes : goal.returns-in_err-act-clause-comes
returns-in_err-act-clause-comes t c =
    let was = c.args.arena.now in
    let ws = c.args.words.now in
    let split = first_word c.args.t c.args.number c.args.game.now c.args.side ws _ c.as_bytes.result.now c.in-len1-up.len_at_least c.as_bytes.ensures.value in
    and_no_more was.setup was.entries (act_of c.args.t c.args.number c.args.game.now c.args.side c.as_bytes.result.now)
    (acts_from c.args.t c.args.number c.args.game.now (other c.args.side) (map (λ w. w.now) (take (length ws - 1) (drop 1 ws)))) _ split
    c.act.new.arena.entries c.from_residual.result c.in_err-act.field-0.0 c.from_residual.ensures.1 c.in_err-act.ensures.comes

pub returns-clause-comes : goal.returns-clause-comes
returns-clause-comes t c =
    let was = c.args.arena.now in
    let mid = c.act.new.arena in
    let ws = c.args.words.now in
    let new = c.act_in_turn.new.arena.entries in
    let r = c.act_in_turn.result in
    let split = first_word c.args.t c.args.number c.args.game.now c.args.side ws _ c.as_bytes.result.now c.in-len1-up.len_at_least c.as_bytes.ensures.value in
    let rest = subst (λ side. ComesTo (with_all mid.setup (going mid.entries) (acts_from c.args.t c.args.number c.args.game.now side (map (λ w. w.now) (take (length ws - 1) (drop 1 ws))))) new r) c.other.ensures c.act_in_turn.ensures.comes in
    and_then was.setup was.entries (act_of c.args.t c.args.number c.args.game.now c.args.side c.as_bytes.result.now)
    (acts_from c.args.t c.args.number c.args.game.now (other c.args.side) (map (λ w. w.now) (take (length ws - 1) (drop 1 ws)))) _ split
    new r mid.setup mid.entries c.act.ensures.setup c.in_ok-act.ensures.comes rest
