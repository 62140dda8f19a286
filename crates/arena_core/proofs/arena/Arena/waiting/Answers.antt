use Rattle.std.proofs.Common.{◌≡◌, ◌∙◌, sym, ap, subst, length, Some, None}
use Rattle.arena_core.specs.Held.{Held, past}
use Rattle.arena_history.specs.Waves.{history, started}
use Rattle.arena_rules.specs.Commits.{IsPlanOf, commit_refusal, wave_refusal}
use Rattle.arena_core.specs.Starting.{waiting}
use Rattle.arena_core.proofs.Starters.{waiting_is}
use Rattle.arena_core.proofs.arena.Arena.waiting.Goals as goal

pub returns-in-Some-clause-refused : goal.returns-in-Some-clause-refused
unfolding commit_refusal
returns-in-Some-clause-refused c =
    let a = c.self.inside in
    let b = a.book in
    let h = history b.setup b.entries in
    let p = c.args.plan.now in
    let planned : IsPlanOf b.setup b.entries p = subst (λ (x : Held). IsPlanOf x.setup x.entries p) (sym c.self.view_is) c.requires in
    let wait : waiting a.people.places p.n p.pairs ≡ started b.setup h p.n = waiting_is c.laws_of_histories.ensures c.tables_of_legal_lists.ensures.ranges c.legal_lists.ensures.beginnings c.each_player_once.ensures.paired b.setup b.entries c.keeps.ensures.good c.keeps.ensures.legal p planned a.people c.self.invariant.people (c.plans_of_entries.ensures.within b.setup b.entries p planned) in
    let count : c.count_waiting-count.result ≡ length (started b.setup h p.n) = c.count_waiting-count.ensures ∙ ap length wait in
    subst (λ (x : Held). commit_refusal x.setup (past x) c.args.t p.n ≡ Some c.in-Some.fault) c.self.view_is (ap (wave_refusal b.setup h c.args.t) (sym count) ∙ (sym c.wave_refusal.ensures ∙ c.in-Some.is))

pub returns-in-None-clause-count : goal.returns-in-None-clause-count
returns-in-None-clause-count c =
    let a = c.self.inside in
    let b = a.book in
    let h = history b.setup b.entries in
    let p = c.args.plan.now in
    let planned : IsPlanOf b.setup b.entries p = subst (λ (x : Held). IsPlanOf x.setup x.entries p) (sym c.self.view_is) c.requires in
    let wait : waiting a.people.places p.n p.pairs ≡ started b.setup h p.n = waiting_is c.laws_of_histories.ensures c.tables_of_legal_lists.ensures.ranges c.legal_lists.ensures.beginnings c.each_player_once.ensures.paired b.setup b.entries c.keeps.ensures.good c.keeps.ensures.legal p planned a.people c.self.invariant.people (c.plans_of_entries.ensures.within b.setup b.entries p planned) in
    let count : c.count_waiting-count.result ≡ length (started b.setup h p.n) = c.count_waiting-count.ensures ∙ ap length wait in
    subst (λ (x : Held). c.count_waiting-count.result ≡ length (started x.setup (past x) p.n)) c.self.view_is count

pub returns-in-None-clause-granted : goal.returns-in-None-clause-granted
unfolding commit_refusal
returns-in-None-clause-granted c =
    let a = c.self.inside in
    let b = a.book in
    let h = history b.setup b.entries in
    let p = c.args.plan.now in
    let planned : IsPlanOf b.setup b.entries p = subst (λ (x : Held). IsPlanOf x.setup x.entries p) (sym c.self.view_is) c.requires in
    let wait : waiting a.people.places p.n p.pairs ≡ started b.setup h p.n = waiting_is c.laws_of_histories.ensures c.tables_of_legal_lists.ensures.ranges c.legal_lists.ensures.beginnings c.each_player_once.ensures.paired b.setup b.entries c.keeps.ensures.good c.keeps.ensures.legal p planned a.people c.self.invariant.people (c.plans_of_entries.ensures.within b.setup b.entries p planned) in
    let count : c.count_waiting-count.result ≡ length (started b.setup h p.n) = c.count_waiting-count.ensures ∙ ap length wait in
    subst (λ (x : Held). commit_refusal x.setup (past x) c.args.t p.n ≡ None) c.self.view_is (ap (wave_refusal b.setup h c.args.t) (sym count) ∙ (sym c.wave_refusal.ensures ∙ c.in-None.is))
