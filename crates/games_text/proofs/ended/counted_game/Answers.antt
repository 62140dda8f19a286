use Rattle.std.proofs.Common.{◌∙◌, sym}
use Rattle.arena_history.specs.Stamps.{stamp_of}
use Rattle.games_text.proofs.Counted.{told_as_counted}
use Rattle.games_text.proofs.ended.counted_game.Goals as goal

pub returns-in-Some : goal.returns-in-Some
returns-in-Some c =
    let a = c.args.a.now in
    c.ended_in.ensures
    ∙ told_as_counted c.games_count_once.ensures.ended a.setup a.entries c.args.i c.in-Some.number (stamp_of a.entries 0) c.query.result
    (sym c.counted.ensures ∙ c.in-Some.is) c.query.ensures.answer (c.query.ensures.memory tt)
