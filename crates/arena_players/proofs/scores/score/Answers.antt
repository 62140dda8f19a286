use Rattle.std.proofs.Common.{length, sym, ◌∙◌}
use Rattle.ranking.specs.Rows.{has}
use Rattle.arena_history.specs.Results.{points_of, performance_of, fire_of}
use Rattle.arena_players.proofs.TableLines.{has_by_rank, scored_absent}
use Rattle.arena_players.proofs.scores.score.Goals as goal

pub returns-else-is_some-clause-lines : goal.returns-else-is_some-clause-lines
returns-else-is_some-clause-lines c = λ rs _.
    let none = has_by_rank c.rank_of.result (has c.args.table.now.lines c.args.p) c.rank_of.ensures.entered ∙ (sym c.is_some.ensures ∙ c.if-is_some.false) in
    sym (scored_absent c.args.p (points_of rs) (performance_of rs) (length rs) (fire_of rs) c.args.table.now.lines none)
