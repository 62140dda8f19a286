use Rattle.std.proofs.Common.{ℕ, List, ◌∷◌, sym, ◌∙◌, ap}
use Rattle.journal_text.specs.Lines.{one}
use Rattle.journal_text.proofs.LineLemmas.{parts_of-first}
use Rattle.journal_text.proofs.lines.one_part.Goals as goal

pub returns-in-Some : goal.returns-in-Some
returns-in-Some c =
    let rest = parts_of-first c.args.byte c.in-Some.field-0.1.now in
    sym (ap one (c.in-Some.ensures.parts ∙ ap (λ (parts : List (List ℕ)). c.in-Some.field-0.0.now ∷ parts) rest.2))
