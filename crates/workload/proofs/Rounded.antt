-- A round, from its wave on.
use Rattle.std.proofs.Common.{◌≡◌, ℕ, ◌+◌, ◌≤◌, List, [], ◌∷◌, ◌++◌, length, drop, Bool, true, false, Result, Err, refl, sym, ap, ◌∙◌, arith}
use Rattle.std.specs.Prelude.{cond, IsErrAnd}
use Rattle.std.proofs.lemmas.List.{length-append}
use Rattle.entries.specs.declared.journal.Entry.{Entry}
use Rattle.entries.specs.declared.setup.Setup.{Setup}
use Rattle.arena_history.specs.History.{History}
use Rattle.arena_history.specs.HistoryLaws.{HistoriesGrow}
use Rattle.arena_history.specs.Waves.{after, history, starts_by}
use Rattle.arena_rules.specs.Commits.{wave_entry}
use Rattle.workload.specs.Drafts.{Draft, behind, ended, going, is_granted, with_all}
use Rattle.workload.specs.Rounds.{plays, plays_from, round}
use Rattle.workload.specs.Steps.{ComesTo}
use Rattle.workload.specs.declared.drafting.Stop.{Stop}
use Rattle.workload.proofs.Drafted.{comes_same, no_further, still_ended}

module _ (s : Setup) (t : ℕ) (es : List Entry) where
  abbrev wave : Entry
  wave = wave_entry t 0 (length es)

  abbrev waved : Draft
  waved = behind s es wave

  module _ (seed : ℕ) (new : List Entry) (r : Result (Unit {0}) Stop) where
    abbrev games : List Entry → List Entry
    games mid = plays seed s t (length (history s es).starts) mid

    round_is : round seed s t (going es) ≡ with_all s waved (games waved.entries)
    unfolding round
    round_is = refl

    -- a round whose wave is not allowed
    pub round_stopped : (f : Stop) → IsErrAnd r (λ g. g ≡ f) → ComesTo waved new (Err f) → ComesTo (round seed s t (going es)) new r
    round_stopped f is comes = comes_same (round seed s t (going es)) (with_all s waved (games waved.entries)) new r round_is (no_further s waved (games waved.entries) new r f is comes)

    -- and one whose games are played
    pub round_played : (at : Setup) (mid : List Entry) (k : ℕ) → at ≡ s → waved ≡ going mid → k ≡ length (history s es).starts → ComesTo (with_all at (going mid) (plays_from seed (length s.players) t k (drop k (history at mid).starts))) new r → ComesTo (round seed s t (going es)) new r
    round_played at mid k same went count comes =
        comes_same (round seed s t (going es)) (with_all at (going mid) (plays_from seed (length s.players) t k (drop k (history at mid).starts))) new r
        (round_is ∙ ((λ i. with_all s (went i) (games (went i).entries)) ∙ (λ i. with_all (sym same i) (going mid) (plays_from seed (length s.players) t (sym count i) (drop (sym count i) (history (sym same i) mid).starts)))))
        comes

  gone : (b : Bool) (mid : List Entry) → cond b (going (es ++ wave ∷ [])) (ended es) ≡ going mid → es ++ wave ∷ [] ≡ mid
  gone true mid is = ap (λ (d : Draft). d.entries) is
  gone false mid is = let never : false ≡ true = ap (λ (d : Draft). d.goes_on) is in cc

  with_it : (mid : List Entry) → waved ≡ going mid → es ++ wave ∷ [] ≡ mid
  unfolding behind
  with_it mid went = gone (is_granted s (history s es) t wave.what) mid went

  -- a wave takes no game away
  pub no_fewer : HistoriesGrow → (at : Setup) (mid : List Entry) → at ≡ s → waved ≡ going mid → length (history s es).starts ≤ length (history at mid).starts
  unfolding after
  no_fewer grow at mid same went =
      let is : history at mid ≡ history s (es ++ wave ∷ []) = λ i. history (same i) (sym (with_it mid went) i) in
      let count : length (history at mid).starts ≡ length (history s es).starts + length (starts_by s (history s es) wave) = ap (λ (h : History). length h.starts) (is ∙ grow s es wave) ∙ length-append (history s es).starts (starts_by s (history s es) wave) in
      omega (arith, count)

-- behind a list that has ended there are no rounds
pub round_ended : (seed : ℕ) (s : Setup) (t : ℕ) (es : List Entry) → round seed s t (ended es) ≡ ended es
unfolding round
round_ended seed s t es = still_ended s es (plays seed s t (length (history s es).starts) es)
