use Rattle.std.proofs.Common.{◌≡◌, [], ap, ◌∙◌}
use Rattle.entries.specs.declared.journal.Journal.{Journal}
use Rattle.workload.specs.Workloads.{journal_of}
use Rattle.workload.proofs.generating.generate.Goals as goal

pub returns-clause-journal : goal.returns-clause-journal
unfolding journal_of
returns-clause-journal g c =
    let setup = ap (λ (j : Journal). j.setup) c.into_journal-setup.ensures ∙ c.in_ok-arena.ensures.setup in
    let entries = ap (λ (j : Journal). j.entries) c.into_journal-setup.ensures ∙ c.in_ok-arena.ensures.entries in
    let none : c.of.result ≡ [] = c.of.ensures ∙ c.new.ensures.items in
    λ i. record { setup = setup i; version = 1; entries = entries i; starts = none i }
