use Rattle.std.proofs.Common.{sym, ◌∙◌}
use Rattle.api.proofs.Parts.{before-some, before-none}
use Rattle.api.proofs.calls.part.Goals as goal

pub returns-in-Some : goal.returns-in-Some
returns-in-Some c = sym (before-some _ c.args.path.now c.in-Some.at (sym c.first_slash.ensures.first ∙ c.in-Some.is))

pub returns-in-None : goal.returns-in-None
returns-in-None c = sym (before-none _ c.args.path.now (sym c.first_slash.ensures.first ∙ c.in-None.is))
