use Rattle.std.proofs.Common.{List, ◌∙◌, ap}
use Rattle.pair_cost.specs.declared.candidate.Candidate.{Candidate}
use Rattle.pair_cost.specs.declared.candidate.Frame.{Frame}
use Rattle.wave.specs.Plans.{frame, group_count, first_pairs, first_alone, planned_pairs, planned_alone}
use Rattle.wave.proofs.planning.plan.Goals as goal

pub returns-clause-pairs : goal.returns-clause-pairs
unfolding planned_pairs
returns-clause-pairs g c =
    c.of.ensures
    ∙ c.in_ok-pairs.ensures.pairs
    ∙ ap (λ (f : Frame). first_pairs c.items-rows.result.now f (group_count c.items-rows.result.now)) c.frame-f.ensures
    ∙ ap (λ (rows : List Candidate). first_pairs rows (frame c.args.s.now.rule rows) (group_count rows)) c.items-rows.ensures

pub returns-clause-alone : goal.returns-clause-alone
unfolding planned_alone
returns-clause-alone g c =
    c.of-2.ensures
    ∙ c.in_ok-pairs.ensures.alone
    ∙ ap (λ (f : Frame). first_alone c.items-rows.result.now f (group_count c.items-rows.result.now)) c.frame-f.ensures
    ∙ ap (λ (rows : List Candidate). first_alone rows (frame c.args.s.now.rule rows) (group_count rows)) c.items-rows.ensures
