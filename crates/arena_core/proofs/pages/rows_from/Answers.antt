use Rattle.std.proofs.Common.{◌≡◌, ◌*◌, ◌∙◌, min, length, arith}
use Rattle.std.proofs.lemmas.Result.{IfOk-weaker}
use Rattle.ranking.specs.Rows.{page}
use Rattle.arena_core.proofs.Cuts.{page_from_cut}
use Rattle.arena_core.proofs.pages.rows_from.Goals as goal

pub returns : goal.returns
returns c =
    let lines = c.args.people.now.scores.lines in
    let start : c.min-from.result ≡ min (length lines) (10 * c.args.k) = omega (arith, c.min-from.ensures, c.saturating_mul.ensures, c.entered.ensures, c.entered.type_inv) in
    IfOk-weaker c.page.result (λ v. v.items ≡ page c.min-from.result 10 lines) (λ v. v.items ≡ page (10 * c.args.k) 10 lines) (λ v is. is ∙ page_from_cut c.rows_are_the_lines.ensures.players lines (10 * c.args.k) c.min-from.result 10 start) c.page.ensures
