-- What a wave's commit leaves, for an entry that is tried.
use Rattle.std.proofs.Common.{◌≡◌, ◌≢◌, ℕ, ◌≤◌, ⊎_elim, List, [], ◌∷◌, ◌++◌, drop, length, Option, Some, None, Bool, true, false, refl, sym, ap, subst, ◌∙◌, arith}
use Rattle.std.specs.Prelude.{cond}
use Rattle.std.specs.List.{AllPairs}
use Rattle.entries.specs.declared.journal.Entry.{Entry}
use Rattle.entries.specs.declared.journal.Journal.{Journal}
use Rattle.entries.specs.declared.journal.Start.{Start}
use Rattle.entries.specs.declared.journal.What.TheVariants as what
use Rattle.entries.specs.declared.setup.Setup.{Setup}
use Rattle.entries.specs.Ranges.{IsWritable}
use Rattle.pair_cost.specs.declared.candidate.Pair.{Pair}
use Rattle.arena_core.specs.Held.{Held, past}
use Rattle.arena_history.specs.Games.{begun}
use Rattle.arena_history.specs.GameLaws.{GamesAreNumbered}
use Rattle.arena_history.specs.HistoryLaws.{HasItsEntries, HistoriesGrow}
use Rattle.arena_history.specs.Waves.{history, started}
use Rattle.arena_rules.specs.Commits.{IsCommitRefused, IsCommitted, commit_refusal, wave_entry, with_wave}
use Rattle.arena_rules.specs.declared.commit_fault.CommitFault.{CommitFault}
use Rattle.arena_rules.specs.declared.commit_fault.CommitFault.TheVariants as fault
use Rattle.journal_replay.specs.declared.illegal.IllegalCause.TheVariants.{WaveEmpty, Full, PairsDiffer}
use Rattle.journal_replay.specs.Causes.{games_cause, games_of_wave, lists_others, window_cause}
use Rattle.journal_replay.proofs.Committed.{begun_by, empty, full, further, not_closed, not_early}

-- the games of a journal that can be written stand in the order of their entries
pub in_order : (j : Journal) → IsWritable j → AllPairs (λ (a b : Start). a.entry ≤ b.entry) j.starts
in_order j writable = ⊎_elim
    (λ one. subst (λ (l : List Start). AllPairs (λ (a b : Start). a.entry ≤ b.entry) l) (sym one.starts) (λ i k d lt within. absurd (omega (arith, within))))
    (λ two. two.starts.in_order)
    writable.version

-- the entries with a wave that starts somebody
with_some : (es : List Entry) (e : Entry) (pairs : List Pair) → length pairs ≢ 0 → with_wave es e pairs ≡ es ++ e ∷ []
with_some es e [] some = absurd (some refl)
with_some es e (x ∷ pairs) some = refl

-- the refusal that a commit's fault names
module _ (cause : Option CommitFault) (pairs : List Pair) (old new : List Entry) (f : CommitFault) (refused : IsCommitRefused cause pairs old new f) where
  pub as_early : f ≡ fault.Early → cause ≡ Some fault.Early
  as_early is = (subst (λ g. IsCommitRefused cause pairs old new g) is refused).0

  pub as_closed : f ≡ fault.Closed → cause ≡ Some fault.Closed
  as_closed is = (subst (λ g. IsCommitRefused cause pairs old new g) is refused).0

  pub as_full : f ≡ fault.Full → cause ≡ Some fault.Full
  as_full is = (subst (λ g. IsCommitRefused cause pairs old new g) is refused).0

module _ (entries : HasItsEntries) (j : Journal) (a : Held) (same : a.setup ≡ j.setup) (t pass n : ℕ) (in_time : window_cause j.setup (length a.entries) t n ≡ None) where
  abbrev s : Setup
  s = a.setup

  place : length (past a).entries ≡ length a.entries
  place = ap length (entries s a.entries)

  within : window_cause j.setup (length (past a).entries) t n ≡ None
  within = ap (λ m. window_cause j.setup m t n) place ∙ in_time

  -- what is said at the arena's setup is said at the journal's
  started_is : started s (past a) n ≡ started j.setup (past a) n
  started_is = ap (λ (x : Setup). started x (past a) n) same

  refusal_is : commit_refusal j.setup (past a) t n ≡ commit_refusal s (past a) t n
  refusal_is = ap (λ (x : Setup). commit_refusal x (past a) t n) (sym same)

  -- a wave that started nobody
  pub tries_empty : (count : ℕ) (new : List Entry) (e : Entry) (number : ℕ) → IsCommitted s a.entries pass t n new count → count ≡ 0 → number ≡ length a.entries
      → (games_cause j (past a) (games_of_wave j (past a) n) ≡ Some WaveEmpty) × (number ≡ length a.entries)
  tries_empty count new e number done none is =
      (empty j (past a) n (ap length (sym started_is) ∙ (sym done.counted ∙ none)), is)

  -- a wave in its time is refused neither as too early nor as too late
  pub never_early : commit_refusal s (past a) t n ≡ Some fault.Early → ⊥
  never_early refused = not_early j (past a) n t within (refusal_is ∙ refused)

  pub never_closed : commit_refusal s (past a) t n ≡ Some fault.Closed → ⊥
  never_closed refused = not_closed j (past a) n t within (refusal_is ∙ refused)

  -- one for which there is no room
  pub tries_full : (number : ℕ) → commit_refusal s (past a) t n ≡ Some fault.Full → number ≡ length a.entries
      → (games_cause j (past a) (games_of_wave j (past a) n) ≡ Some Full) × (number ≡ length a.entries)
  tries_full number refused is = (full j (past a) n t within (refusal_is ∙ refused), is)

  module _ (grow : HistoriesGrow) (numbered : GamesAreNumbered) (b : Held) (count before number : ℕ) (kept : b.setup ≡ a.setup) (done : IsCommitted s a.entries pass t n b.entries count) (some : count ≢ 0) (began : before ≡ length (begun s (past a))) (counted : number ≡ length a.entries) where
    somebody : length (started s (past a) n) ≢ 0
    somebody none = some (done.counted ∙ none)

    pushed : b.entries ≡ a.entries ++ wave_entry t pass n ∷ []
    pushed = done.entries ∙ with_some a.entries (wave_entry t pass n) (started s (past a) n) somebody

    -- the games behind those before are the wave's
    games : drop before (past b).starts ≡ games_of_wave j (past a) n
    games =
        (λ i. drop ((began ∙ numbered.counted s (past a)) i) (history (kept i) (pushed i)).starts)
        ∙ subst (λ (x : Setup). drop (length (history x a.entries).starts) (history x (a.entries ++ wave_entry t pass n ∷ [])).starts ≡ games_of_wave j (history x a.entries) n) (sym same) (begun_by grow j a.entries t pass n)

    others_is : (differ : Bool) → differ ≡ lists_others j number (drop before (past b).starts) → lists_others j (length (past a).entries) (games_of_wave j (past a) n) ≡ differ
    others_is differ is = (λ i. lists_others j ((place ∙ sym counted) i) (sym games i)) ∙ sym is

    cause_is : (differ : Bool) → differ ≡ lists_others j number (drop before (past b).starts) → games_cause j (past a) (games_of_wave j (past a) n) ≡ cond differ (Some PairsDiffer) None
    cause_is differ is =
        further j (past a) n t within (λ none. somebody (ap length started_is ∙ none)) (refusal_is ∙ done.not_refused)
        ∙ ap (λ c. cond c (Some PairsDiffer) None) (others_is differ is)

    -- a journal that lists others
    pub tries_differ : (differ : Bool) → differ ≡ lists_others j number (drop before (past b).starts) → differ ≡ true → (games_cause j (past a) (games_of_wave j (past a) n) ≡ Some PairsDiffer) × (number ≡ length a.entries)
    tries_differ differ is so = (cause_is differ is ∙ ap (λ c. cond c (Some PairsDiffer) None) so, counted)

    -- and one that lists these
    pub tries_same : (differ : Bool) (e : Entry) → differ ≡ lists_others j number (drop before (past b).starts) → differ ≡ false → t ≡ e.stamp → pass ≡ e.pass → e.what ≡ what.Wave n → (games_cause j (past a) (games_of_wave j (past a) n) ≡ None) × (b.entries ≡ a.entries ++ e ∷ [])
    tries_same differ e is so at by did =
        (cause_is differ is ∙ ap (λ c. cond c (Some PairsDiffer) None) so, pushed ∙ (λ i. a.entries ++ (record { stamp = at i; pass = by i; what = sym did i }) ∷ []))
