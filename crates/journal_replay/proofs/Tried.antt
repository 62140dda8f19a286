-- Which cause there is against an entry, from what was tested of it.
use Rattle.std.proofs.Common.{◌≡◌, ℕ, ◌<◌, ◌≤◌, List, length, Option, Some, None, true, false, refl, sym, ap, subst, ◌∙◌}
use Rattle.std.specs.Prelude.{cond, nat_lt, Result, Err}
use Rattle.std.specs.Option.{option_map, option_or}
use Rattle.std.proofs.lemmas.Bool.{le-ltb, lt-ltb}
use Rattle.entries.specs.declared.journal.Entry.{Entry}
use Rattle.entries.specs.declared.journal.Journal.{Journal}
use Rattle.entries.specs.declared.journal.What.{What}
use Rattle.entries.specs.declared.journal.What.TheVariants as what
use Rattle.entries.specs.declared.setup.Setup.{Setup}
use Rattle.arena_core.specs.Held.{Held, past}
use Rattle.arena_history.specs.History.{History}
use Rattle.arena_history.specs.HistoryLaws.{HasItsEntries}
use Rattle.arena_history.specs.Stamps.{last_stamp}
use Rattle.arena_history.specs.Waves.{history}
use Rattle.arena_rules.specs.declared.command.Command.{Command}
use Rattle.arena_rules.specs.declared.command.Command.TheVariants.{Enter, Pause, Leave, Act, Tick}
use Rattle.arena_rules.specs.Commands.{what_of}
use Rattle.arena_rules.specs.Verdicts.{verdict}
use Rattle.journal_replay.specs.declared.illegal.IllegalCause.{IllegalCause}
use Rattle.journal_replay.specs.declared.illegal.IllegalCause.TheVariants.{StampFalls, Refused}
use Rattle.journal_replay.specs.declared.illegal.ReplayFault.{ReplayFault}
use Rattle.journal_replay.specs.declared.illegal.ReplayFault.TheVariants.{Illegal}
use Rattle.journal_replay.specs.Causes.{cause_of, games_cause, games_of_wave, wave_cause, what_cause, window_cause}
use Rattle.journal_replay.specs.Replays.{Tries}

module _ (entries : HasItsEntries) (j : Journal) (a : Held) (same : a.setup ≡ j.setup) where
  abbrev h : History
  h = history j.setup a.entries

  past_is : past a ≡ h
  past_is = ap (λ (s : Setup). history s a.entries) same

  -- a stamp that falls
  pub falls : (e : Entry) → e.stamp < last_stamp a.entries → cause_of j h e ≡ Some StampFalls
  unfolding cause_of
  falls e less =
      let below : nat_lt e.stamp (last_stamp h.entries) ≡ true = ap (λ (l : List Entry). nat_lt e.stamp (last_stamp l)) (entries j.setup a.entries) ∙ lt-ltb e.stamp (last_stamp a.entries) less in
      ap (λ b. cond b (Some StampFalls) (what_cause j h e.stamp e.what)) below

  -- one that stands
  stands : (e : Entry) → last_stamp a.entries ≤ e.stamp → cause_of j h e ≡ what_cause j h e.stamp e.what
  unfolding cause_of
  stands e le =
      let above : nat_lt e.stamp (last_stamp h.entries) ≡ false = ap (λ (l : List Entry). nat_lt e.stamp (last_stamp l)) (entries j.setup a.entries) ∙ le-ltb e.stamp (last_stamp a.entries) le in
      ap (λ b. cond b (Some StampFalls) (what_cause j h e.stamp e.what)) above

  command_of : (t : ℕ) (c : Command) → what_cause j h t (what_of c) ≡ option_map Refused (verdict j.setup h t c)
  command_of t (Enter p) = refl
  command_of t (Pause p) = refl
  command_of t (Leave p) = refl
  command_of t (Act p number x) = refl
  command_of t Tick = refl

  -- of a command's entry
  pub of_command : (e : Entry) (c : Command) → last_stamp a.entries ≤ e.stamp → e.what ≡ what_of c → cause_of j h e ≡ option_map Refused (verdict a.setup (past a) e.stamp c)
  of_command e c le is =
      stands e le ∙ (ap (λ (w : What). what_cause j h e.stamp w) is ∙ (command_of e.stamp c ∙ (λ i. option_map Refused (verdict (sym same i) (sym past_is i) e.stamp c))))

  -- of a wave
  pub of_wave : (e : Entry) (n : ℕ) → last_stamp a.entries ≤ e.stamp → e.what ≡ what.Wave n → cause_of j h e ≡ wave_cause j (past a) e.stamp n
  of_wave e n le is = stands e le ∙ (ap (λ (w : What). what_cause j h e.stamp w) is ∙ ap (λ (x : History). wave_cause j x e.stamp n) (sym past_is))

  place : length (past a).entries ≡ length a.entries
  place = ap length (entries a.setup a.entries)

  -- a wave that comes out of its time, or names more entries than there are
  pub out_of_time : (t n : ℕ) (cause : IllegalCause) → window_cause j.setup (length a.entries) t n ≡ Some cause → wave_cause j (past a) t n ≡ Some cause
  out_of_time t n cause is = ap (λ o. option_or o (games_cause j (past a) (games_of_wave j (past a) n))) (ap (λ m. window_cause j.setup m t n) place ∙ is)

  -- and one that does not
  pub in_its_time : (t n : ℕ) → window_cause j.setup (length a.entries) t n ≡ None → wave_cause j (past a) t n ≡ games_cause j (past a) (games_of_wave j (past a) n)
  in_its_time t n is = ap (λ o. option_or o (games_cause j (past a) (games_of_wave j (past a) n))) (ap (λ m. window_cause j.setup m t n) place ∙ is)

-- what is said of one cause is said of another that is the same
pub tries_at : (c d : Option IllegalCause) (old new : List Entry) (e : Entry) (result : Result (Unit {0}) ReplayFault) → c ≡ d → Tries d old e new result → Tries c old e new result
tries_at c d old new e result is tries = subst (λ o. Tries o old e new result) (sym is) tries

-- an entry that is refused
pub tries_illegal : (c : Option IllegalCause) (old new : List Entry) (e : Entry) (f : ReplayFault) (number : ℕ) (cause : IllegalCause) → f ≡ Illegal number cause → (c ≡ Some cause) × (number ≡ length old) → Tries c old e new (Err f)
tries_illegal c old new e f number cause is refused = subst (λ g. Tries c old e new (Err g)) (sym is) refused
