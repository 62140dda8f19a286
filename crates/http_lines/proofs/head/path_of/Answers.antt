use Rattle.std.proofs.Common.{sym, ◌∙◌}
use Rattle.http_lines.proofs.Firsts.{first_at, before_none}
use Rattle.http_lines.proofs.head.path_of.Goals as goal

pub returns-in-Some : goal.returns-in-Some
returns-in-Some c = sym (first_at _ c.args.target.now c.in-Some.at (sym c.first_of.ensures.first ∙ c.in-Some.is)).before

pub returns-in-None : goal.returns-in-None
returns-in-None c = sym (before_none _ c.args.target.now (sym c.first_of.ensures.first ∙ c.in-None.is))
