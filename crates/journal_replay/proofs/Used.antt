-- What is kept of plans, as maps change.
use Rattle.std.proofs.Common.{◌≡◌, ℕ, ◌+◌, ◌<◌, ◌≤◌, ⊎_elim, List, [], ◌∷◌, ◌++◌, take, length, slice_get, get_or, Option, Some, None, true, false, refl, sym, ap, subst, ◌∙◌, arith}
use Rattle.std.specs.Prelude.{cond, count_by, is_some}
use Rattle.std.specs.BTreeMap.{BTreeMap, Updates, get, is_at}
use Rattle.std.specs.Option.{IsSome, unwrap_or}
use Rattle.std.specs.Ordering.{MatchOrdering, is_eq, nat_cmp}
use Rattle.std.specs.declared.cmp.Ordering.{Ordering}
use Rattle.std.specs.declared.cmp.Ordering.TheVariants.{Less, Equal, Greater}
use Rattle.std.proofs.lemmas.Bool.{cases_eq, cases_lt}
use Rattle.std.proofs.lemmas.Cmp.{ranked}
use Rattle.std.proofs.lemmas.List.{take_more}
use Rattle.std.proofs.lemmas.List.Sums.{sum_by-append}
use Rattle.std.proofs.lemmas.Option.{get_or_from_slice_get}
use Rattle.entries.specs.declared.journal.Entry.{Entry}
use Rattle.entries.specs.declared.journal.What.TheVariants as what
use Rattle.entries.specs.declared.setup.Setup.{Setup}
use Rattle.entries.specs.Limits.{max_games}
use Rattle.wave.specs.declared.snapshot.Plan.{Plan}
use Rattle.arena_rules.specs.Commits.{IsPlanOf}
use Rattle.arena_rules.specs.PlanLaws.{PlansStay}
use Rattle.journal_replay.specs.Plans.{AreMade, AreOwnPlans, HasLastUses, IsUsedUntil, Lasts, starts_wave, waves_among}

-- two numbers that differ are two keys
apart : (k q : ℕ) → (k ≡ q → ⊥) → is_at (nat_cmp k) q ≡ false
apart k q differ = by (nat_cmp k q) (ranked k q (nat_cmp k q) refl)
  where
    by : (r : Ordering) → MatchOrdering r (k < q) (k ≡ q) (q < k) → is_eq r ≡ false
    by Less is = refl
    by Equal is = absurd (differ is)
    by Greater is = refl

module _ {X : Type 0} (old new : BTreeMap ℕ X) (k : ℕ) (w : Option X) (updates : Updates nat_cmp old new k w) where
  -- what stands at the key, and what at every other
  pub here : (q : ℕ) → k ≡ q → get nat_cmp new q ≡ w
  here q same = ap (get nat_cmp new) (sym same) ∙ updates.1

  pub there : (q : ℕ) → (k ≡ q → ⊥) → get nat_cmp new q ≡ get nat_cmp old q
  there q differ = updates.2 q (apart k q differ)

-- ---- plans

module _ (s : Setup) (es : List Entry) where
  -- a plan more, of its own entries
  pub own_more : (old new : BTreeMap ℕ Plan) (k : ℕ) (p : Plan) → Updates nat_cmp old new k (Some p) → AreOwnPlans s es old → p.n ≡ k → IsPlanOf s es p → AreOwnPlans s es new
  own_more old new k p updates own n is q x found =
      ⊎_elim
      (λ (same : k ≡ q).
      let one : p ≡ x = ap (λ o. unwrap_or o p) (sym (here old new k (Some p) updates q same) ∙ found) in
      subst (λ (y : Plan). (y.n ≡ q) × IsPlanOf s es y) one (n ∙ same, is))
      (λ (differ : k ≡ q → ⊥). own q x (sym (there old new k (Some p) updates q differ) ∙ found))
      (cases_eq k q)

  -- the same plans behind one entry more
  pub own_push : PlansStay → (made : BTreeMap ℕ Plan) (e : Entry) → AreOwnPlans s es made → AreOwnPlans s (es ++ e ∷ []) made
  own_push stay made e own q x found = let old = own q x found in (old.0, stay s es (e ∷ []) x old.1)

  -- fewer plans
  pub own_less : (old new : BTreeMap ℕ Plan) → ((q : ℕ) (x : Plan) → get nat_cmp new q ≡ Some x → get nat_cmp old q ≡ Some x) → AreOwnPlans s es old → AreOwnPlans s es new
  own_less old new less own q x found = own q x (less q x found)

module _ (uses : BTreeMap ℕ ℕ) where
  -- the plan of one length more
  pub made_more : (old new : BTreeMap ℕ Plan) (k : ℕ) (p : Plan) → Updates nat_cmp old new k (Some p) → AreMade k k uses old → AreMade (k + 1) k uses new
  made_more old new k p updates made n l used lt le =
      ⊎_elim
      (λ (same : k ≡ n). subst IsSome (sym (here old new k (Some p) updates n same)) refl)
      (λ (differ : k ≡ n → ⊥). subst IsSome (sym (there old new k (Some p) updates n differ)) (made n l used (omega (arith, lt, differ)) le))
      (cases_eq k n)

  -- a length more that no wave names
  pub made_unnamed : (made : BTreeMap ℕ Plan) (k : ℕ) → is_some (get nat_cmp uses k) ≡ false → AreMade k k uses made → AreMade (k + 1) k uses made
  made_unnamed made k unused old n l used lt le =
      ⊎_elim
      (λ (same : k ≡ n). let never : true ≡ false = sym (ap is_some used) ∙ (ap (λ m. is_some (get nat_cmp uses m)) (sym same) ∙ unused) in cc)
      (λ (differ : k ≡ n → ⊥). old n l used (omega (arith, lt, differ)) le)
      (cases_eq k n)

  -- behind an entry, what later ones use
  pub made_later : (count entry : ℕ) (made : BTreeMap ℕ Plan) → AreMade count entry uses made → AreMade count (entry + 1) uses made
  made_later count entry made old n l used lt le = old n l used lt (omega (arith, le))

  -- behind the last use of a plan
  pub made_last : (count entry k : ℕ) (old new : BTreeMap ℕ Plan) → Updates nat_cmp old new k None → get nat_cmp uses k ≡ Some entry → AreMade count entry uses old → AreMade count (entry + 1) uses new
  made_last count entry k old new updates last made n l used lt le =
      ⊎_elim
      (λ (same : k ≡ n).
      let one : entry ≡ l = ap (λ o. unwrap_or o entry) (sym last ∙ (ap (get nat_cmp uses) same ∙ used)) in
      absurd (omega (arith, one, le)))
      (λ (differ : k ≡ n → ⊥). subst IsSome (sym (there old new k None updates n differ)) (made n l used lt (omega (arith, le))))
      (cases_eq k n)

-- what is left where a plan was let go was there before
pub less_by_one : (old new : BTreeMap ℕ Plan) (k : ℕ) → Updates nat_cmp old new k None → (q : ℕ) (x : Plan) → get nat_cmp new q ≡ Some x → get nat_cmp old q ≡ Some x
less_by_one old new k updates q x found =
    ⊎_elim
    (λ (same : k ≡ q). let never : None ≡ Some x = sym (here old new k None updates q same) ∙ found in cc)
    (λ (differ : k ≡ q → ⊥). sym (there old new k None updates q differ) ∙ found)
    (cases_eq k q)

-- ---- last uses

pub lasts_on : (old new : BTreeMap ℕ ℕ) (entry k : ℕ) → Updates nat_cmp old new k (Some entry) → Lasts old new entry
lasts_on old new entry k updates n i le used =
    ⊎_elim
    (λ (same : k ≡ n). subst (IsUsedUntil i) (sym (here old new k (Some entry) updates n same)) le)
    (λ (differ : k ≡ n → ⊥). subst (IsUsedUntil i) (sym (there old new k (Some entry) updates n differ)) used)
    (cases_eq k n)

pub used_here : (old new : BTreeMap ℕ ℕ) (entry k : ℕ) → Updates nat_cmp old new k (Some entry) → IsUsedUntil entry (get nat_cmp new k)
used_here old new entry k updates = subst (IsUsedUntil entry) (sym updates.1) (omega arith)

-- one entry more
pub uses_more : (es : List Entry) (k : ℕ) (d : Entry) (old new : BTreeMap ℕ ℕ) → k < length es → HasLastUses es k old → Lasts old new k
    → ((n : ℕ) → (get_or es k d).what ≡ what.Wave n → waves_among es k ≤ max_games → IsUsedUntil k (get nat_cmp new n))
    → HasLastUses es (k + 1) new
uses_more es k d old new within has lasts own i e n lt found is few =
    ⊎_elim
    (λ (before : i < k). lasts n i (omega (arith, before)) (has i e n before found is few))
    (λ (from : k ≤ i).
    let same : i ≡ k = omega (arith, from, lt) in
    let this : get_or es k d ≡ e = get_or_from_slice_get es k e d (subst (λ m. slice_get es m ≡ Some e) same found) in
    subst (λ m. IsUsedUntil m (get nat_cmp new n)) (sym same) (own n (ap (λ (x : Entry). x.what) this ∙ is) (subst (λ m. waves_among es m ≤ max_games) same few)))
    (cases_lt i k)

pub waves_more : (es : List Entry) (k : ℕ) (d : Entry) → k < length es → waves_among es (k + 1) ≡ waves_among es k + cond (starts_wave (get_or es k d).what) 1 0
waves_more es k d within =
    let one : ℕ = cond (starts_wave (get_or es k d).what) 1 0 in
    let step : waves_among es (k + 1) ≡ waves_among es k + (0 + one) = ap (count_by (λ (e : Entry). starts_wave e.what)) (take_more es k d within) ∙ sum_by-append (λ (x : Entry). cond (starts_wave x.what) 1 0) (take k es) (get_or es k d ∷ []) in
    omega (arith, step)
