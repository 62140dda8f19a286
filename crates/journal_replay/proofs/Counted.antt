-- A legal list has no more waves than games, since each wave begins one at least.
use Rattle.std.proofs.Common.{◌≡◌, ℕ, ◌+◌, ◌≤◌, List, [], ◌∷◌, ◌++◌, take, map, length, slice_get, Some, Bool, true, refl, sym, ap, ◌∙◌, arith}
use Rattle.std.specs.Prelude.{cond, count_by, nat_le}
use Rattle.std.proofs.lemmas.Bool.{le-leb, leb-true}
use Rattle.std.proofs.lemmas.List.{length-append, take_all, take_more}
use Rattle.std.proofs.lemmas.Option.{get_or_from_slice_get}
use Rattle.arena_history.specs.Stamps.{last_stamp}
use Rattle.std.proofs.lemmas.List.Sums.{fold_push, sum_by-append}
use Rattle.entries.specs.declared.journal.Entry.{Entry}
use Rattle.entries.specs.declared.journal.What.{What}
use Rattle.entries.specs.declared.journal.What.TheVariants as what
use Rattle.entries.specs.declared.setup.Setup.{Setup}
use Rattle.pair_cost.specs.declared.candidate.Pair.{Pair}
use Rattle.arena_history.specs.History.{History}
use Rattle.arena_history.specs.HistoryLaws.{HistoriesGrow}
use Rattle.arena_history.specs.Waves.{after, history, start_of, started, starts_by, starts_in}
use Rattle.arena_rules.specs.Legal.{Allowed, AllowsWhat, IsLegal}
use Rattle.arena_rules.specs.LegalLaws.{EachIsReached}
use Rattle.journal_replay.specs.Plans.{starts_wave}

abbrev wave : Entry → Bool
wave e = starts_wave e.what

count_push : (es : List Entry) (e : Entry) → count_by wave (es ++ e ∷ []) ≡ count_by wave es + count_by wave (e ∷ [])
count_push es e = sum_by-append (λ (x : Entry). cond (wave x) 1 0) es (e ∷ [])

-- an entry that is allowed begins a game if it is a wave
begins_one : (s : Setup) (h : History) (t : ℕ) (w : What) → AllowsWhat s h t w → cond (starts_wave w) 1 0 ≤ length (starts_in s h w)
begins_one s h t (what.Enter p) allowed = omega arith
begins_one s h t (what.Pause p) allowed = omega arith
begins_one s h t (what.Leave p) allowed = omega arith
begins_one s h t (what.Act p number a) allowed = omega arith
begins_one s h t what.Tick allowed = omega arith
begins_one s h t (what.Wave n) allowed = some (started s h n) allowed.begins
  where
    some : (pairs : List Pair) → (pairs ≡ [] → ⊥) → 1 ≤ length (map (start_of (length h.entries)) pairs)
    some [] none = absurd (none refl)
    some (x ∷ pairs) none = omega arith

module _ (s : Setup) (grow : HistoriesGrow) where
  abbrev no_more : List Entry → Bool
  no_more es = nat_le (count_by wave es) (length (history s es).starts)

  one_more : (es : List Entry) (e : Entry) → IsLegal s es → Allowed s (history s es) e → no_more es ≡ true → no_more (es ++ e ∷ []) ≡ true
  unfolding after starts_by
  one_more es e legal allowed before =
      let h = history s es in
      let now : count_by wave es ≤ length h.starts = leb-true (count_by wave es) (length h.starts) before in
      let one : cond (starts_wave e.what) 1 0 ≤ length (starts_in s h e.what) = begins_one s h e.stamp e.what allowed.granted in
      let grown : length (history s (es ++ e ∷ [])).starts ≡ length h.starts + length (starts_in s h e.what) = ap (λ (x : History). length x.starts) (grow s es e) ∙ length-append h.starts (starts_in s h e.what) in
      le-leb (count_by wave (es ++ e ∷ [])) (length (history s (es ++ e ∷ [])).starts) (omega (arith, now, one, grown, count_push es e))

  -- no more waves than games
  pub waves_are_few : (reached : EachIsReached) (es : List Entry) → IsLegal s es → count_by wave es ≤ length (history s es).starts
  unfolding history
  waves_are_few reached es legal = leb-true (count_by wave es) (length (history s es).starts) (reached s no_more refl one_more es legal)

-- the list with its last entry apart
split_last : (es : List Entry) (i : ℕ) (e : Entry) → length es ≡ i + 1 → slice_get es i ≡ Some e → es ≡ take i es ++ e ∷ []
split_last es i e long found =
    sym (take_all (i + 1) es (omega arith))
    ∙ take_more es i e (omega arith)
    ∙ ap (λ x. take i es ++ x ∷ []) (get_or_from_slice_get es i e e found)

-- the last stamp is that of the last entry
pub last_stamp-last : (es : List Entry) (i : ℕ) (e : Entry) → length es ≡ i + 1 → slice_get es i ≡ Some e → last_stamp es ≡ e.stamp
last_stamp-last es i e long found = ap last_stamp (split_last es i e long found) ∙ last_stamp-push (take i es) e
  where
    last_stamp-push : (es : List Entry) (e : Entry) → last_stamp (es ++ e ∷ []) ≡ e.stamp
    last_stamp-push es e = fold_push (λ t (x : Entry). x.stamp) 0 es e
