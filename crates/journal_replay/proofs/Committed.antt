-- What a commit's answer says of a wave's cause.
use Rattle.std.proofs.Common.{◌≡◌, ◌≢◌, ℕ, List, [], ◌∷◌, ◌++◌, drop, length, Some, None, Option, Bool, true, false, refl, sym, ap, ◌∙◌}
use Rattle.std.specs.Prelude.{cond, nat_le, nat_lt, ◌==◌}
use Rattle.std.proofs.lemmas.Bool.{ne_eqb}
use Rattle.std.proofs.lemmas.List.{length-map}
use Rattle.std.proofs.Math.Seq.{drop-append_seam}
use Rattle.entries.specs.declared.journal.Entry.{Entry}
use Rattle.entries.specs.declared.journal.Journal.{Journal}
use Rattle.entries.specs.declared.journal.Start.{Start}
use Rattle.entries.specs.declared.setup.Setup.{Setup}
use Rattle.arena_history.specs.History.{History}
use Rattle.arena_history.specs.HistoryLaws.{HistoriesGrow}
use Rattle.arena_history.specs.Waves.{after, history, start_of, started, starts_by}
use Rattle.arena_rules.specs.declared.commit_fault.CommitFault.{CommitFault}
use Rattle.arena_rules.specs.declared.commit_fault.CommitFault.TheVariants as fault
use Rattle.arena_rules.specs.Commits.{commit_refusal, lacks_room, wave_entry}
use Rattle.journal_replay.specs.declared.illegal.IllegalCause.{IllegalCause}
use Rattle.journal_replay.specs.declared.illegal.IllegalCause.TheVariants.{Early, Closed, WaveNumber, WaveEmpty, Full, PairsDiffer}
use Rattle.journal_replay.specs.Causes.{games_cause, games_of_wave, lists_others, window_cause}

-- what the tests of a wave's time and number have told
pub record InTime (s : Setup) (count t n : ℕ) : Type 0 where
  pub opened : nat_lt t s.starts ≡ false
  pub before_end : nat_le s.ends t ≡ false
  pub known : nat_lt count n ≡ false

all_false : (a b c : Bool) → cond a (Some Early) (cond b (Some Closed) (cond c (Some WaveNumber) None)) ≡ None → (a ≡ false) × (b ≡ false) × (c ≡ false)
all_false true b c is = cc
all_false false true c is = cc
all_false false false true is = cc
all_false false false false is = (refl, refl, refl)

pub in_time : (s : Setup) (count t n : ℕ) → window_cause s count t n ≡ None → InTime s count t n
in_time s count t n is =
    let all = all_false (nat_lt t s.starts) (nat_le s.ends t) (nat_lt count n) is in
    record { opened = all.0; before_end = all.1; known = all.2 }

module _ (j : Journal) (h : History) where
  -- the cause of a wave that begins these games, which are so many
  abbrev tested : List Start → ℕ → Option IllegalCause
  tested games count = cond (count == 0) (Some WaveEmpty) (cond (lacks_room h count) (Some Full) (cond (lists_others j (length h.entries) games) (Some PairsDiffer) None))

  module _ (n : ℕ) where
    -- a wave begins as many games as it starts pairs
    as_many : length (games_of_wave j h n) ≡ length (started j.setup h n)
    as_many = length-map (started j.setup h n) (start_of (length h.entries))

    cause_is : games_cause j h (games_of_wave j h n) ≡ tested (games_of_wave j h n) (length (started j.setup h n))
    cause_is = ap (tested (games_of_wave j h n)) as_many

    -- a wave that starts nobody is empty
    pub empty : length (started j.setup h n) ≡ 0 → games_cause j h (games_of_wave j h n) ≡ Some WaveEmpty
    empty none = cause_is ∙ ap (tested (games_of_wave j h n)) none

    module _ (t : ℕ) (within : window_cause j.setup (length h.entries) t n ≡ None) where
      abbrev room_refusal : ℕ → Option CommitFault
      room_refusal count = cond (count == 0) None (cond (lacks_room h count) (Some fault.Full) None)

      -- nothing but want of room refuses its commit
      refusal_is : commit_refusal j.setup h t n ≡ room_refusal (length (started j.setup h n))
      unfolding commit_refusal
      refusal_is =
          let its = in_time j.setup (length h.entries) t n within in
          rw (its.opened, its.before_end) refl

      full_of : (none lacks : Bool) (next : Option IllegalCause) → cond none None (cond lacks (Some fault.Full) None) ≡ Some fault.Full → cond none (Some WaveEmpty) (cond lacks (Some Full) next) ≡ Some Full
      full_of true lacks next is = cc
      full_of false true next is = refl
      full_of false false next is = cc

      -- a wave whose commit is refused for want of room is full
      pub full : commit_refusal j.setup h t n ≡ Some fault.Full → games_cause j h (games_of_wave j h n) ≡ Some Full
      full is =
          let count = length (started j.setup h n) in
          cause_is ∙ full_of (count == 0) (lacks_room h count) (cond (lists_others j (length h.entries) (games_of_wave j h n)) (Some PairsDiffer) None) (sym refusal_is ∙ is)

      further_of : (none lacks : Bool) (next : Option IllegalCause) → none ≡ false → cond none None (cond lacks (Some fault.Full) None) ≡ None → cond none (Some WaveEmpty) (cond lacks (Some Full) next) ≡ next
      further_of true lacks next some is = cc
      further_of false true next some is = cc
      further_of false false next some is = refl

      -- of a wave that starts somebody and is not refused nothing but the list of its games can be wrong
      pub further : length (started j.setup h n) ≢ 0 → commit_refusal j.setup h t n ≡ None → games_cause j h (games_of_wave j h n) ≡ cond (lists_others j (length h.entries) (games_of_wave j h n)) (Some PairsDiffer) None
      further some is =
          let count = length (started j.setup h n) in
          cause_is ∙ further_of (count == 0) (lacks_room h count) (cond (lists_others j (length h.entries) (games_of_wave j h n)) (Some PairsDiffer) None) (ne_eqb count 0 some) (sym refusal_is ∙ is)

      -- it is neither too early nor too late
      never_early : (none lacks : Bool) → cond none None (cond lacks (Some fault.Full) None) ≡ Some fault.Early → ⊥
      never_early true lacks is = cc
      never_early false true is = cc
      never_early false false is = cc

      pub not_early : commit_refusal j.setup h t n ≡ Some fault.Early → ⊥
      not_early is = never_early (length (started j.setup h n) == 0) (lacks_room h (length (started j.setup h n))) (sym refusal_is ∙ is)

      never_closed : (none lacks : Bool) → cond none None (cond lacks (Some fault.Full) None) ≡ Some fault.Closed → ⊥
      never_closed true lacks is = cc
      never_closed false true is = cc
      never_closed false false is = cc

      pub not_closed : commit_refusal j.setup h t n ≡ Some fault.Closed → ⊥
      not_closed is = never_closed (length (started j.setup h n) == 0) (lacks_room h (length (started j.setup h n))) (sym refusal_is ∙ is)

-- the games behind those before a wave are those that the wave begins
pub begun_by : (grow : HistoriesGrow) (j : Journal) (es : List Entry) (t pass n : ℕ) → drop (length (history j.setup es).starts) (history j.setup (es ++ wave_entry t pass n ∷ [])).starts ≡ games_of_wave j (history j.setup es) n
unfolding after starts_by
begun_by grow j es t pass n =
    let h = history j.setup es in
    ap (λ (x : History). drop (length h.starts) x.starts) (grow j.setup es (wave_entry t pass n)) ∙ drop-append_seam h.starts (games_of_wave j h n)
