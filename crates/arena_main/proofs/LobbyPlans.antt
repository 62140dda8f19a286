-- A plan is that of what its pass has seen, whatever the pass sees later.
use Rattle.std.proofs.Common.{◌≡◌, ℕ, List, Result, Ok, Err, IfOk, sym, ap, subst}
use Rattle.std.specs.declared.alloc.AllocError.{AllocError}
use Rattle.entries.specs.declared.journal.Entry.{Entry}
use Rattle.entries.specs.declared.setup.Setup.{Setup}
use Rattle.entries.specs.Ranges.{IsGood}
use Rattle.turnstile.specs.Histories.{OnlyAdded}
use Rattle.turnstile.specs.Passes.{Lock}
use Rattle.wave.specs.declared.snapshot.Plan.{Plan}
use Rattle.wave.specs.declared.snapshot.Snapshot.{Snapshot}
use Rattle.wave.specs.Plans.{planned_pairs, planned_alone}
use Rattle.wave.specs.Rankings.{IsRanking}
use Rattle.arena_history.specs.Stamps.{stamp_of}
use Rattle.arena_rules.specs.declared.commit_fault.CommitFault.{CommitFault}
use Rattle.arena_rules.specs.Commits.{IsPlanOf}
use Rattle.arena_rules.specs.Legal.{IsLegal}
use Rattle.arena_rules.specs.PlanLaws.{PlansAreOfTheirEntries, PlansStay}
use Rattle.arena_rules.specs.RankingLaws.{SnapshotsAreRankings}
use Rattle.arena_lock.specs.Turns.{Committed, IsReady, Pass, Snapped, Turned, pass_of}
use Rattle.arena_lock.proofs.Added.{by_commit}
use Rattle.arena_main.proofs.Plans.{is_plan_of, is_ranking as rows_are_ranking}

seen_is_left : (old new : Pass) (found left : List Entry) → Turned old new found left → new.seen ≡ left
seen_is_left old new found left turn = ap (λ (p : Pass). p.seen) turn.after

-- the rows of a snapshot are a ranking
pub is_ranking : SnapshotsAreRankings → (lobby : Lock Setup) (old new : Pass) (now : ℕ) (x : Snapshot) → IsGood lobby.fixed → IsReady lobby new → Snapped lobby.fixed old new now (Ok x) → IsRanking x.rows
is_ranking rankings lobby old new now x good ready snapped =
    let s = lobby.fixed in
    let legal : IsLegal s snapped.found = subst (IsLegal s) (seen_is_left old new snapped.found snapped.found snapped.turn) ready.2 in
    rows_are_ranking rankings s snapped.found (stamp_of snapped.found now) x good legal snapped.answer

-- the plan of a snapshot is the plan of its entries
pub answered_is_plan_of : PlansAreOfTheirEntries → (s : Setup) (old new : Pass) (now : ℕ) (x : Snapshot) (r : Result Plan AllocError) → Snapped s old new now (Ok x) → IfOk r (λ p. p.n ≡ x.n) → IfOk r (λ p. p.pairs ≡ planned_pairs x.rule x.rows) → IfOk r (λ p. p.alone ≡ planned_alone x.rule x.rows) → IfOk r (IsPlanOf s new.seen)
answered_is_plan_of own s old new now x (Ok p) snapped n pairs alone =
    subst (λ (es : List Entry). IsPlanOf s es p) (sym (seen_is_left old new snapped.found snapped.found snapped.turn)) (is_plan_of own s snapped.found (stamp_of snapped.found now) x p snapped.answer n pairs alone)
answered_is_plan_of own s old new now x (Err e) snapped n pairs alone = n

-- a plan stays one, whatever a commit is answered
pub stays_behind_commit : PlansStay → (s : Setup) (old new : Pass) (now n : ℕ) (r : Result ℕ CommitFault) (p : Plan) → Committed s old new now n r → IsPlanOf s old.seen p → IsPlanOf s new.seen p
stays_behind_commit stays s old new now n r p committed is =
    let found = committed.found in
    let left = committed.left in
    let others = committed.turn.goes_on in
    let mine = by_commit s found left old.number now n r committed.answer in
    let at_found : IsPlanOf s found p = subst (λ (es : List Entry). IsPlanOf s es p) (sym others.goes_on) (stays s old.seen others.rest p is) in
    let at_left : IsPlanOf s left p = subst (λ (es : List Entry). IsPlanOf s es p) (sym mine.goes_on) (stays s found mine.new p at_found) in
    subst (λ (es : List Entry). IsPlanOf s es p) (sym (seen_is_left old new found left committed.turn)) at_left
