-- A plan stays that of its entries, whatever is asked.
use Rattle.std.proofs.Common.{◌≡◌, ℕ, List, [], ◌∷◌, ◌++◌, sym, ap, ◌∙◌, subst}
use Rattle.std.specs.Prelude.{Result, Ok, Err, IfOk}
use Rattle.std.specs.declared.alloc.AllocError.{AllocError}
use Rattle.entries.specs.declared.journal.Entry.{Entry}
use Rattle.entries.specs.declared.setup.Setup.{Setup}
use Rattle.entries.specs.Ranges.{IsGood}
use Rattle.pair_cost.specs.declared.candidate.Pair.{Pair}
use Rattle.wave.specs.declared.snapshot.Plan.{Plan}
use Rattle.wave.specs.declared.snapshot.Snapshot.{Snapshot}
use Rattle.wave.specs.Plans.{planned_pairs, planned_alone}
use Rattle.wave.specs.Rankings.{IsRanking}
use Rattle.arena_rules.specs.declared.command.Command.{Command}
use Rattle.arena_rules.specs.declared.commit_fault.CommitFault.{CommitFault}
use Rattle.arena_rules.specs.declared.commit_fault.CommitFault.TheVariants as commit_fault
use Rattle.arena_rules.specs.declared.query.Reply.{Reply}
use Rattle.arena_rules.specs.Commands.{entry_of}
use Rattle.arena_rules.specs.Commits.{Commits, IsPlanOf, wave_entry, with_wave}
use Rattle.arena_rules.specs.Legal.{IsLegal}
use Rattle.arena_rules.specs.PlanLaws.{PlansAreOfTheirEntries, PlansStay}
use Rattle.arena_rules.specs.RankingLaws.{SnapshotsAreRankings}
use Rattle.arena_history.specs.Snapshots.{plan, snapshot}
use Rattle.arena_history.specs.Stamps.{stamp_of}
use Rattle.arena_history.specs.Waves.{history, started}
use Rattle.arena_core.specs.Answers.{Answers}
use Rattle.arena_core.specs.declared.fault.ApplyFault.{ApplyFault}
use Rattle.arena_core.specs.declared.fault.ApplyFault.TheVariants as apply_fault

module _ (stays : PlansStay) (s : Setup) (p : Plan) where
  same_entries : (old new : List Entry) → new ≡ old → IsPlanOf s old p → IsPlanOf s new p
  same_entries old new same is = subst (λ es. IsPlanOf s es p) (sym same) is

  more_entries : (old new more : List Entry) → new ≡ old ++ more → IsPlanOf s old p → IsPlanOf s new p
  more_entries old new more same is = subst (λ es. IsPlanOf s es p) (sym same) (stays s old more p is)

  -- whatever a command is answered
  pub stays_behind_command : (old new : List Entry) (pass now : ℕ) (c : Command) (r : Result Reply ApplyFault) → Answers s old pass now c new r → IsPlanOf s old p → IsPlanOf s new p
  stays_behind_command old new pass now c (Ok r) a is = more_entries old new (entry_of (stamp_of old now) pass c ∷ []) a.entries is
  stays_behind_command old new pass now c (Err (apply_fault.Refused r)) a is = same_entries old new a.1 is
  stays_behind_command old new pass now c (Err apply_fault.OutOfMemory) a is = same_entries old new a.1 is

  stays_behind_wave : (old new : List Entry) (e : Entry) (pairs : List Pair) → new ≡ with_wave old e pairs → IsPlanOf s old p → IsPlanOf s new p
  stays_behind_wave old new e [] same is = same_entries old new same is
  stays_behind_wave old new e (pair ∷ pairs) same is = more_entries old new (e ∷ []) same is

  -- whatever a commit is answered
  pub stays_behind_commit : (old new : List Entry) (pass now n : ℕ) (r : Result ℕ CommitFault) → Commits s old pass now n new r → IsPlanOf s old p → IsPlanOf s new p
  stays_behind_commit old new pass now n (Ok count) a is = stays_behind_wave old new (wave_entry (stamp_of old now) pass n) (started s (history s old) n) a.entries is
  stays_behind_commit old new pass now n (Err commit_fault.Early) a is = same_entries old new a.1 is
  stays_behind_commit old new pass now n (Err commit_fault.Closed) a is = same_entries old new a.1 is
  stays_behind_commit old new pass now n (Err commit_fault.Full) a is = same_entries old new a.1 is
  stays_behind_commit old new pass now n (Err commit_fault.OutOfMemory) a is = same_entries old new a.2 is

-- the plan of a snapshot is the plan of its entries
pub is_plan_of : PlansAreOfTheirEntries → (s : Setup) (es : List Entry) (t : ℕ) (x : Snapshot) (p : Plan) → x ≡ snapshot s (history s es) t → p.n ≡ x.n → p.pairs ≡ planned_pairs x.rule x.rows → p.alone ≡ planned_alone x.rule x.rows → IsPlanOf s es p
unfolding snapshot plan
is_plan_of own s es t x p taken n pairs alone =
    let same : p ≡ plan s (history s es) = λ i. record {
      n = (n ∙ ap (λ (x : Snapshot). x.n) taken) i;
      pairs = (pairs ∙ ap (λ (x : Snapshot). planned_pairs x.rule x.rows) taken) i;
      alone = (alone ∙ ap (λ (x : Snapshot). planned_alone x.rule x.rows) taken) i;
    } in
    subst (IsPlanOf s es) (sym same) (own s es)

-- and so is what planning answers
pub answered_is_plan_of : PlansAreOfTheirEntries → (s : Setup) (es : List Entry) (t : ℕ) (x : Snapshot) (r : Result Plan AllocError) → x ≡ snapshot s (history s es) t → IfOk r (λ p. p.n ≡ x.n) → IfOk r (λ p. p.pairs ≡ planned_pairs x.rule x.rows) → IfOk r (λ p. p.alone ≡ planned_alone x.rule x.rows) → IfOk r (IsPlanOf s es)
answered_is_plan_of own s es t x (Ok p) taken n pairs alone = is_plan_of own s es t x p taken n pairs alone
answered_is_plan_of own s es t x (Err e) taken n pairs alone = n

-- the rows of a snapshot are a ranking
pub is_ranking : SnapshotsAreRankings → (s : Setup) (es : List Entry) (t : ℕ) (x : Snapshot) → IsGood s → IsLegal s es → x ≡ snapshot s (history s es) t → IsRanking x.rows
unfolding snapshot
is_ranking rankings s es t x good legal taken = subst (λ (y : Snapshot). IsRanking y.rows) (sym taken) (rankings s es good legal)
