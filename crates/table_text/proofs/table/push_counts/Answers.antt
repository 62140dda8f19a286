use Rattle.std.proofs.Common.{◌∙◌}
use Rattle.table_text.proofs.Lines.{pushed, count_line-pieces}
use Rattle.table_text.proofs.table.push_counts.Goals as goal

pub returns : goal.returns
returns c =
    pushed c.extend_from_slice.result _ _ _ _ c.extend_from_slice.ensures.items (c.as_bytes.ensures.value ∙ c.in_ok-line.ensures.ok ∙ count_line-pieces _ _)
