use Rattle.std.proofs.Common.{◌+◌, ◌∷◌, ◌==◌, List, ℕ, take, sym, ap, ◌∙◌}
use Rattle.std.proofs.lemmas.List.{take_rest}
use Rattle.http_lines.specs.Fields.{parts_of}
use Rattle.http_lines.proofs.Firsts.{first_at, split_none}
use Rattle.http_lines.proofs.values.first_part.Goals as goal

pub returns-in-Some-clause-parts : goal.returns-in-Some-clause-parts
returns-in-Some-clause-parts c =
    let value = c.args.value.now in
    let at = c.in-Some.at in
    let found = first_at (λ b. b == 44) value at (sym c.first_of.ensures.first ∙ c.in-Some.is) in
    found.split ∙ ap (λ (rest : List ℕ). take at value ∷ parts_of rest) (sym (take_rest value (at + 1)))

pub returns-in-None-clause-parts : goal.returns-in-None-clause-parts
returns-in-None-clause-parts c = split_none (λ b. b == 44) c.args.value.now (sym c.first_of.ensures.first ∙ c.in-None.is)
