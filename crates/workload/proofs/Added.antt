-- What a command or a wave that is tried leaves of the list of entries.
use Rattle.std.proofs.Common.{◌≡◌, ◌≢◌, ℕ, ◌≤◌, List, [], ◌∷◌, ◌++◌, length, true, false, Some, refl, sym, ap, subst, ◌∙◌}
use Rattle.std.specs.Prelude.{cond, is_none, ◌&&◌, Err}
use Rattle.std.proofs.lemmas.List.{append-nil}
use Rattle.entries.specs.Limits.{max_stamp}
use Rattle.entries.specs.declared.journal.Entry.{Entry}
use Rattle.entries.specs.declared.journal.Start.{Start}
use Rattle.entries.specs.declared.setup.Setup.{Setup}
use Rattle.pair_cost.specs.declared.candidate.Pair.{Pair}
use Rattle.arena_history.specs.History.{History}
use Rattle.arena_history.specs.HistoryLaws.{HistoriesGrow}
use Rattle.arena_history.specs.Stamps.{last_stamp, stamp_of}
use Rattle.arena_history.specs.Waves.{after, history, started, starts_by}
use Rattle.arena_rules.specs.LegalLaws.{StampsStay}
use Rattle.arena_rules.specs.declared.command.Command.{Command}
use Rattle.arena_rules.specs.declared.command.Command.TheVariants.{Enter, Pause, Leave, Act, Tick}
use Rattle.arena_rules.specs.declared.commit_fault.CommitFault.{CommitFault}
use Rattle.arena_rules.specs.declared.commit_fault.CommitFault.TheVariants as fault
use Rattle.arena_rules.specs.declared.query.Reply.{Reply}
use Rattle.arena_rules.specs.declared.refusal.Refusal.{Refusal}
use Rattle.arena_rules.specs.Commands.{entry_of, what_of}
use Rattle.arena_rules.specs.Commits.{IsCommitRefused, IsCommitted, commit_refusal, wave_entry, with_wave}
use Rattle.arena_rules.specs.Verdicts.{verdict}
use Rattle.arena_core.specs.Answers.{AnswersAt, IsObeyed}
use Rattle.arena_core.specs.declared.fault.ApplyFault.{ApplyFault}
use Rattle.arena_core.specs.declared.fault.ApplyFault.TheVariants.{Refused}
use Rattle.workload.specs.Drafts.{behind, ended, going, is_granted, some_pair}

-- a command's entry is granted where the command is not refused
granted_is : (s : Setup) (h : History) (t : ℕ) (c : Command) → is_granted s h t (what_of c) ≡ is_none (verdict s h t c)
granted_is s h t (Enter p) = refl
granted_is s h t (Pause p) = refl
granted_is s h t (Leave p) = refl
granted_is s h t (Act p number a) = refl
granted_is s h t Tick = refl

module _ (s : Setup) (es : List Entry) where
  goes_on : (e : Entry) → is_granted s (history s es) e.stamp e.what ≡ true → behind s es e ≡ going (es ++ e ∷ [])
  unfolding behind
  goes_on e is = ap (λ b. cond b (going (es ++ e ∷ [])) (ended es)) is

  stops : (e : Entry) → is_granted s (history s es) e.stamp e.what ≡ false → behind s es e ≡ ended es
  unfolding behind
  stops e is = ap (λ b. cond b (going (es ++ e ∷ [])) (ended es)) is

  module _ (stays : StampsStay) (t : ℕ) (last : last_stamp es ≤ t) (most : t ≤ max_stamp) where
    at : stamp_of es t ≡ t
    at = stays es t last most

    -- a command that is obeyed
    pub obeyed : (c : Command) (new : List Entry) (r : Reply) → IsObeyed s es 0 (stamp_of es t) c new r → behind s es (entry_of t 0 c) ≡ going new
    obeyed c new r is =
        let o : IsObeyed s es 0 t c new r = subst (λ u. IsObeyed s es 0 u c new r) at is in
        goes_on (entry_of t 0 c) (granted_is s (history s es) t c ∙ ap is_none o.not_refused) ∙ ap going (sym o.entries)

    refused_as : (c : Command) (new : List Entry) (r : Refusal) → verdict s (history s es) (stamp_of es t) c ≡ Some r → new ≡ es → behind s es (entry_of t 0 c) ≡ ended new
    refused_as c new r is same =
        let v : verdict s (history s es) t c ≡ Some r = subst (λ u. verdict s (history s es) u c ≡ Some r) at is in
        stops (entry_of t 0 c) (granted_is s (history s es) t c ∙ ap is_none v) ∙ ap ended (sym same)

    -- and one that is refused
    pub refused : (c : Command) (new : List Entry) (f : ApplyFault) (r : Refusal) → f ≡ Refused r → AnswersAt s es 0 (stamp_of es t) c new (Err f) → behind s es (entry_of t 0 c) ≡ ended new
    refused c new f r named answer =
        let both = subst (λ g. AnswersAt s es 0 (stamp_of es t) c new (Err g)) named answer in
        refused_as c new r both.0 both.1

    module _ (n : ℕ) (new : List Entry) where
      abbrev pairs : List Pair
      pairs = started s (history s es) n

      some_is : (ps : List Pair) → length ps ≢ 0 → (some_pair ps ≡ true) × (with_wave es (wave_entry t 0 n) ps ≡ es ++ wave_entry t 0 n ∷ [])
      some_is [] some = absurd (some refl)
      some_is (p ∷ ps) some = (refl, refl)

      none_is : (ps : List Pair) → length ps ≡ 0 → (some_pair ps ≡ false) × (with_wave es (wave_entry t 0 n) ps ≡ es)
      none_is [] none = (refl, refl)
      none_is (p ∷ ps) none = cc

      committed_at : (count : ℕ) → IsCommitted s es 0 (stamp_of es t) n new count → IsCommitted s es 0 t n new count
      committed_at count is = subst (λ u. IsCommitted s es 0 u n new count) at is

      -- a wave that starts somebody
      pub waved : (count : ℕ) → count ≢ 0 → IsCommitted s es 0 (stamp_of es t) n new count → behind s es (wave_entry t 0 n) ≡ going new
      waved count some is =
          let o = committed_at count is in
          let both = some_is pairs (λ none. some (o.counted ∙ none)) in
          goes_on (wave_entry t 0 n) (λ i. is_none (o.not_refused i) && both.0 i) ∙ ap going (sym (o.entries ∙ both.1))

      -- one that starts nobody
      pub nobody : (count : ℕ) → count ≡ 0 → IsCommitted s es 0 (stamp_of es t) n new count → behind s es (wave_entry t 0 n) ≡ ended new
      nobody count none is =
          let o = committed_at count is in
          let both = none_is pairs (sym o.counted ∙ none) in
          stops (wave_entry t 0 n) (λ i. is_none (o.not_refused i) && both.0 i) ∙ ap ended (sym (o.entries ∙ both.1))

      turned_down_as : (f : CommitFault) → commit_refusal s (history s es) (stamp_of es t) n ≡ Some f → new ≡ es → behind s es (wave_entry t 0 n) ≡ ended new
      turned_down_as f is same =
          let v : commit_refusal s (history s es) t n ≡ Some f = subst (λ u. commit_refusal s (history s es) u n ≡ Some f) at is in
          stops (wave_entry t 0 n) (ap (λ o. is_none o && some_pair pairs) v) ∙ ap ended (sym same)

      -- and one that is refused: it comes too early or too late, or there is no room for it
      module _ (f : CommitFault) (answer : IsCommitRefused (commit_refusal s (history s es) (stamp_of es t) n) pairs es new f) where
        abbrev refusal : CommitFault → Type 0
        refusal g = IsCommitRefused (commit_refusal s (history s es) (stamp_of es t) n) pairs es new g

        pub too_early : f ≡ fault.Early → behind s es (wave_entry t 0 n) ≡ ended new
        too_early named = let both = subst refusal named answer in turned_down_as fault.Early both.0 both.1

        pub too_late : f ≡ fault.Closed → behind s es (wave_entry t 0 n) ≡ ended new
        too_late named = let both = subst refusal named answer in turned_down_as fault.Closed both.0 both.1

        pub no_room : f ≡ fault.Full → behind s es (wave_entry t 0 n) ≡ ended new
        no_room named = let both = subst refusal named answer in turned_down_as fault.Full both.0 both.1

-- a command's entry begins no game
begins_none : (s : Setup) (h : History) (t : ℕ) (c : Command) → starts_by s h (entry_of t 0 c) ≡ []
unfolding starts_by
begins_none s h t (Enter p) = refl
begins_none s h t (Pause p) = refl
begins_none s h t (Leave p) = refl
begins_none s h t (Act p number a) = refl
begins_none s h t Tick = refl

pub same_games : HistoriesGrow → (s now : Setup) (es new : List Entry) (t : ℕ) (c : Command) → now ≡ s → new ≡ es ++ entry_of t 0 c ∷ [] → (history now new).starts ≡ (history s es).starts
unfolding after
same_games grow s now es new t c setup grown =
    let at : history now new ≡ history s (es ++ entry_of t 0 c ∷ []) = λ i. history (setup i) (grown i) in
    ap (λ (h : History). h.starts) (at ∙ grow s es (entry_of t 0 c)) ∙ (ap (λ (xs : List Start). (history s es).starts ++ xs) (begins_none s (history s es) t c) ∙ append-nil (history s es).starts)
