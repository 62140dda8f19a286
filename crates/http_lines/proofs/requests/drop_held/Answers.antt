use Rattle.std.proofs.Common.{arith, List, ℕ, length, drop, ap, ◌∙◌}
use Rattle.std.proofs.lemmas.List.{drop_all}
use Rattle.http_lines.proofs.Taking.{Skips-kept}
use Rattle.http_lines.proofs.requests.drop_held.Goals as goal

pub returns-in-Err-clause-all : goal.returns-in-Err-clause-all
returns-in-Err-clause-all g c =
    let ahead = c.args.ahead.now in
    let failed = c.in-Err.ensures.failed in
    let gone = c.let_go.ensures ∙ ap (λ (l : List ℕ). drop (length l) ahead) c.held-count.ensures.bytes in
    let same = failed.0 ∙ gone in (
      same ∙ drop_all (length ahead) ahead (omega arith),
      Skips-kept ahead c.read_more.new.self _ _ same failed.1,
    )
