use Rattle.std.proofs.Common.{sym, subst, List, ℕ, ◌∙◌}
use Rattle.std.specs.Str.{IsUtf8}
use Rattle.api.proofs.Lines.{line_is_text}
use Rattle.api.proofs.values.entry_value.Goals as goal

pub unreachable-requires : goal.unreachable-requires
unreachable-requires c =
    c.in-Err.ensures.cases.0 (subst (λ (l : List ℕ). IsUtf8 l) (sym (c.bytes.ensures ∙ c.in_ok-line.ensures)) (line_is_text c.args.entry.now c.is_short.ensures))
