-- The plan that is made of an arena's snapshot is that of its journal.
use Rattle.std.proofs.Common.{◌≡◌, ℕ, List, Result, Ok, Err, IfOk, length, ap, subst, sym, ◌∙◌}
use Rattle.std.specs.declared.alloc.AllocError.{AllocError}
use Rattle.wave.specs.declared.snapshot.Plan.{Plan}
use Rattle.wave.specs.declared.snapshot.Snapshot.{Snapshot}
use Rattle.wave.specs.Plans.{planned_alone, planned_pairs}
use Rattle.wave.specs.Rankings.{IsRanking}
use Rattle.entries.specs.declared.journal.Entry.{Entry}
use Rattle.entries.specs.declared.setup.Setup.{Setup}
use Rattle.arena_core.specs.Held.{Held, past}
use Rattle.arena_history.specs.HistoryLaws.{HasItsEntries}
use Rattle.arena_history.specs.Waves.{history}
use Rattle.arena_rules.specs.Commits.{IsPlanOf}
use Rattle.arena_rules.specs.PlanLaws.{PlansAreOfTheirEntries}
use Rattle.arena_history.specs.Snapshots.{candidates, plan, snapshot}

module _ (a : Held) (x : Snapshot) (t : ℕ) (taken : x ≡ snapshot a.setup (past a) t) where
  -- its rows are a ranking
  pub rows_are : IsRanking (candidates a.setup (past a)) → IsRanking x.rows
  unfolding snapshot
  rows_are ranking = subst (λ (y : Snapshot). IsRanking y.rows) (sym taken) ranking

  made_of : (made : Plan) → made.n ≡ x.n → made.pairs ≡ planned_pairs x.rule x.rows → made.alone ≡ planned_alone x.rule x.rows → made ≡ plan a.setup (past a)
  unfolding snapshot plan
  made_of made n pairs alone =
      let of_n = n ∙ ap (λ (y : Snapshot). y.n) taken in
      let of_pairs = pairs ∙ ap (λ (y : Snapshot). planned_pairs y.rule y.rows) taken in
      let of_alone = alone ∙ ap (λ (y : Snapshot). planned_alone y.rule y.rows) taken in
      λ i. record { n = of_n i; pairs = of_pairs i; alone = of_alone i }

  -- and what is planned of it is the plan
  pub plan_is : (result : Result Plan AllocError) → IfOk result (λ made. made.n ≡ x.n) → IfOk result (λ made. made.pairs ≡ planned_pairs x.rule x.rows) → IfOk result (λ made. made.alone ≡ planned_alone x.rule x.rows) → IfOk result (λ made. made ≡ plan a.setup (past a))
  plan_is (Ok made) n pairs alone = made_of made n pairs alone
  plan_is (Err e) n pairs alone = tt

-- the plan of a journal has its length, and is a plan of it
pub own_plan : HasItsEntries → PlansAreOfTheirEntries → (s : Setup) (es : List Entry) (p : Plan) → p ≡ plan s (history s es) → (p.n ≡ length es) × IsPlanOf s es p
unfolding plan
own_plan entries own s es p is = (
  ap (λ (x : Plan). x.n) is ∙ ap length (entries s es),
  subst (λ (x : Plan). IsPlanOf s es x) (sym is) (own s es),
)
