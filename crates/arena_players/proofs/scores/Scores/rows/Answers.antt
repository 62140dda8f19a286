use Rattle.std.proofs.Common.{◌≡◌, ap, ◌∙◌}
use Rattle.std.proofs.lemmas.Result.{IfOk-weaker}
use Rattle.ranking.specs.Rows.{page, rows}
use Rattle.arena_players.specs.Accounts.{KeptScores}
use Rattle.arena_players.proofs.TableRows.{page_all}
use Rattle.arena_players.proofs.scores.Scores.rows.Goals as goal

pub returns : goal.returns
returns c =
    let lines = c.self.inside.table.lines in
    IfOk-weaker c.page.result (λ v. v.items ≡ page 0 c.len.result lines) (λ v. v.items ≡ rows c.args.self.now.lines)
    (λ v is. is ∙ (page_all c.rows_are_the_lines.ensures.players lines c.len.result c.len.ensures ∙ ap (λ (k : KeptScores). rows k.lines) c.self.view_is)) c.page.ensures
