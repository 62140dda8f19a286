use Rattle.std.proofs.Common.{rules, length, sym, ap, ◌∙◌, Err}
use Rattle.pgn_text.proofs.Turns.{run_end, fault_goes}
use Rattle.pgn_text.proofs.read_game.read_all.Goals as goal

pub returns : goal.returns
returns c =
    fault_goes c.into.result c.fault_at.result _ c.into.ensures
    (sym c.items.invariant.goes_on.2 ∙ run_end (length c.args.bytes.now) c.items.invariant.goes_on.0 c.items.game c.items.rest.now (search rules) ∙ ap Err (sym c.fault_at.ensures))
