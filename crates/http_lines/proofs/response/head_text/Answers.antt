use Rattle.std.proofs.lemmas.Result.{IfOk-weaker}
use mathlib.Core.List.{append_assoc}
use Rattle.http_lines.proofs.response.head_text.Goals as goal

pub returns : goal.returns
returns c = IfOk-weaker c.format.result _ _ (λ s h. simp append_assoc h) c.format.ensures.ok
