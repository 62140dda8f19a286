-- What a book keeps stays what its entries say, when it is new and when an entry comes more.
use Rattle.std.proofs.Common.{◌≡◌, ℕ, ◌≤◌, List, [], ◌∷◌, ◌++◌, length, map, Some, None, refl, sym, ap, ◌∙◌, subst}
use Rattle.std.specs.Prelude.{Option}
use Rattle.std.proofs.lemmas.List.{append-nil}
use Rattle.entries.specs.Limits.{max_stamp}
use Rattle.entries.specs.Ranges.{IsGood}
use Rattle.entries.specs.declared.journal.Entry.{Entry}
use Rattle.entries.specs.declared.journal.Start.{Start}
use Rattle.entries.specs.declared.setup.Setup.{Setup}
use Rattle.game_room.specs.declared.header.Header.{Header}
use Rattle.arena_history.specs.History.{History}
use Rattle.arena_history.specs.Snapshots.{last_wave, wave_or}
use Rattle.arena_history.specs.Stamps.{last_stamp}
use Rattle.arena_history.specs.Waves.{after, starts_by, history}
use Rattle.arena_rules.specs.declared.command.Command.{Command}
use Rattle.arena_rules.specs.declared.command.Command.TheVariants.{Enter, Pause, Leave, Act, Tick}
use Rattle.arena_rules.specs.Commands.{IsCommandOf, CanBeNamed, what_of, entry_of}
use Rattle.arena_rules.specs.Commits.{wave_entry}
use Rattle.arena_rules.specs.Legal.{AllowsWave, Allowed, IsLegal}
use Rattle.arena_rules.specs.LegalLaws.{NothingIsLegal, OneMoreIsLegal, AllowedIfNotRefused}
use Rattle.arena_rules.specs.Verdicts.{verdict}
use Rattle.arena_core.specs.Below.{LawsOfHistories}
use Rattle.arena_core.specs.Kept.{IsBook}
use Rattle.arena_core.specs.Starting.{start_at}

-- the book of a journal without entries
pub new_book : NothingIsLegal → (s : Setup) (es : List Entry) (begun : List Start) (wave : Option ℕ) → IsGood s → es ≡ [] → begun ≡ [] → wave ≡ None → IsBook s es begun wave
unfolding history last_wave
new_book law s es begun wave good empty none no_wave = record {
  good = good;
  legal = subst (IsLegal s) (sym empty) (law s);
  starts = none ∙ ap (λ l. (history s l).starts) (sym empty);
  last = no_wave ∙ ap (λ l. last_wave (history s l)) (sym empty);
}

-- a command begins no games, and is no wave
pub no_starts : (s : Setup) (h : History) (t pass : ℕ) (c : Command) → starts_by s h (entry_of t pass c) ≡ []
unfolding starts_by
no_starts s h t pass (Enter p) = refl
no_starts s h t pass (Pause p) = refl
no_starts s h t pass (Leave p) = refl
no_starts s h t pass (Act p g a) = refl
no_starts s h t pass Tick = refl

no_wave : (before : Option ℕ) (t : ℕ) (c : Command) → wave_or before t (what_of c) ≡ before
no_wave before t (Enter p) = refl
no_wave before t (Pause p) = refl
no_wave before t (Leave p) = refl
no_wave before t (Act p g a) = refl
no_wave before t Tick = refl

module _ (laws : LawsOfHistories) where
  -- with one entry more the games are those that were begun, and behind them those that it begins
  pub starts_more : (s : Setup) (es : List Entry) (e : Entry) → (history s (es ++ e ∷ [])).starts ≡ (history s es).starts ++ starts_by s (history s es) e
  unfolding after
  starts_more s es e = ap (λ (h : History). h.starts) (laws.grow s es e)

  pub command_starts : (s : Setup) (es : List Entry) (t pass : ℕ) (c : Command) → (history s (es ++ entry_of t pass c ∷ [])).starts ≡ (history s es).starts
  command_starts s es t pass c = starts_more s es (entry_of t pass c) ∙ (ap (λ l. (history s es).starts ++ l) (no_starts s (history s es) t pass c) ∙ append-nil _)

  -- the book once the entry of a command came
  pub command_book : OneMoreIsLegal → AllowedIfNotRefused → (s : Setup) (es : List Entry) (begun : List Start) (wave : Option ℕ) (t pass : ℕ) (c : Command) → IsBook s es begun wave → last_stamp es ≤ t → t ≤ max_stamp → IsCommandOf (length s.players) c → CanBeNamed c → verdict s (history s es) t c ≡ None → IsBook s (es ++ entry_of t pass c ∷ []) begun wave
  command_book one_more allowed s es begun wave t pass c book late most player named granted = record {
    good = book.good;
    legal = (one_more s es (entry_of t pass c)).1 (book.legal, (allowed s es t pass c late most player named).1 granted);
    starts = book.starts ∙ sym (command_starts s es t pass c);
    last = book.last ∙ sym (laws.wave s es (entry_of t pass c) ∙ no_wave (last_wave (history s es)) t c);
  }

  -- the book once the entry of a wave came
  pub wave_book : OneMoreIsLegal → (s : Setup) (es : List Entry) (begun : List Start) (wave : Option ℕ) (t pass n : ℕ) (headers : List Header) → IsBook s es begun wave → last_stamp es ≤ t → t ≤ max_stamp → AllowsWave s (history s es) t n → map (start_at (length es)) headers ≡ starts_by s (history s es) (wave_entry t pass n) → IsBook s (es ++ wave_entry t pass n ∷ []) (begun ++ map (start_at (length es)) headers) (Some t)
  wave_book one_more s es begun wave t pass n headers book late most may games =
      let e = wave_entry t pass n in
      let allowed : Allowed s (history s es) e = record {
        not_before = subst (λ l. last_stamp l ≤ t) (sym (laws.entries s es)) late;
        stamp_most = most;
        granted = may;
      } in
      record {
        good = book.good;
        legal = (one_more s es e).1 (book.legal, allowed);
        starts = (λ i. book.starts i ++ games i) ∙ sym (starts_more s es e);
        last = sym (laws.wave s es e);
      }
