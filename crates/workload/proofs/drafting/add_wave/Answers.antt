use Rattle.std.proofs.Common.{◌≡◌, subst}
use Rattle.arena_rules.specs.Commits.{wave_entry}
use Rattle.workload.specs.Drafts.{behind, ended, going}
use Rattle.workload.proofs.Added.{no_room, nobody, too_early, too_late, waved}
use Rattle.workload.proofs.drafting.add_wave.Goals as goal

pub returns-in-Ok-eq0-clause-comes : goal.returns-in-Ok-eq0-clause-comes
returns-in-Ok-eq0-clause-comes g c =
    let was = c.args.arena.now in
    let new = c.commit.new.self.entries in
    subst (λ n. behind was.setup was.entries (wave_entry c.args.t 0 n) ≡ ended new) c.in_ok-plan.ensures.whole
    (nobody was.setup was.entries c.stamps_of_entries.ensures.stays c.args.t c.requires.last c.requires.most c.in_ok-plan.plan.n new c.in-Ok-eq0.field-0 c.in-Ok-eq0.field-0-test c.in-Ok-eq0.ensures.answer)

pub returns-in-Ok-clause-comes : goal.returns-in-Ok-clause-comes
returns-in-Ok-clause-comes g c =
    let was = c.args.arena.now in
    let new = c.commit.new.self.entries in
    subst (λ n. behind was.setup was.entries (wave_entry c.args.t 0 n) ≡ going new) c.in_ok-plan.ensures.whole
    (waved was.setup was.entries c.stamps_of_entries.ensures.stays c.args.t c.requires.last c.requires.most c.in_ok-plan.plan.n new c.in-Ok.field-0 c.in-Ok.field-0-test.1 c.in-Ok.ensures.answer)

pub returns-in-Err-Early-clause-comes : goal.returns-in-Err-Early-clause-comes
returns-in-Err-Early-clause-comes g c =
    let was = c.args.arena.now in
    let new = c.commit.new.self.entries in
    subst (λ n. behind was.setup was.entries (wave_entry c.args.t 0 n) ≡ ended new) c.in_ok-plan.ensures.whole
    (too_early was.setup was.entries c.stamps_of_entries.ensures.stays c.args.t c.requires.last c.requires.most c.in_ok-plan.plan.n new c.in-Err-Early.field-0 c.in-Err-Early.ensures.answer c.in-Err-Early.field-0-is)

pub returns-in-Err-Closed-clause-comes : goal.returns-in-Err-Closed-clause-comes
returns-in-Err-Closed-clause-comes g c =
    let was = c.args.arena.now in
    let new = c.commit.new.self.entries in
    subst (λ n. behind was.setup was.entries (wave_entry c.args.t 0 n) ≡ ended new) c.in_ok-plan.ensures.whole
    (too_late was.setup was.entries c.stamps_of_entries.ensures.stays c.args.t c.requires.last c.requires.most c.in_ok-plan.plan.n new c.in-Err-Closed.field-0 c.in-Err-Closed.ensures.answer c.in-Err-Closed.field-0-is)

pub returns-clause-comes : goal.returns-clause-comes
returns-clause-comes g c =
    let was = c.args.arena.now in
    let new = c.commit.new.self.entries in
    subst (λ n. behind was.setup was.entries (wave_entry c.args.t 0 n) ≡ ended new) c.in_ok-plan.ensures.whole
    (no_room was.setup was.entries c.stamps_of_entries.ensures.stays c.args.t c.requires.last c.requires.most c.in_ok-plan.plan.n new c.in-Err-Full.field-0 c.in-Err-Full.ensures.answer c.in-Err-Full.field-0-is)
