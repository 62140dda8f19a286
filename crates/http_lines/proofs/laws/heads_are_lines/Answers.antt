use Rattle.http_lines.proofs.Lines.{heads_are_lines, no_head_means, nothing_means}
use Rattle.http_lines.proofs.laws.heads_are_lines.Goals as goal

pub returns-clause-ends : goal.returns-clause-ends
returns-clause-ends c = heads_are_lines

pub returns-clause-none : goal.returns-clause-none
returns-clause-none c = no_head_means

pub returns-clause-nothing : goal.returns-clause-nothing
returns-clause-nothing c = nothing_means
