-- How many entries and games a legal list has.
use Rattle.std.proofs.Common.{◌≡◌, ℕ, ◌+◌, ◌<◌, ◌≤◌, ⊎_elim, List, [], ◌∷◌, ◌++◌, length, Option, Some, None, true, refl, sym, ap, ◌∙◌, subst, arith, length-append}
use Rattle.std.specs.Prelude.{cond, filter, not}
use Rattle.std.proofs.lemmas.Bool.{cases_lt, le-leb}
use Rattle.std.proofs.lemmas.List.{length-map}
use Rattle.std.proofs.lemmas.List.Sums.{length-filter, count_by-le-length}
use Rattle.entries.specs.declared.setup.Setup.{Setup}
use Rattle.entries.specs.declared.journal.Entry.{Entry}
use Rattle.entries.specs.declared.journal.What.{What}
use Rattle.entries.specs.declared.journal.What.TheVariants as what
use Rattle.entries.specs.Limits.{max_entries, max_games}
use Rattle.arena_history.specs.Endings.{EndedGame, ended_by, finished}
use Rattle.arena_history.specs.Games.{Begun, goes_on, running}
use Rattle.arena_history.specs.History.{History}
use Rattle.arena_history.specs.Waves.{start_of, started, starts_in, starts_by, after, history}
use Rattle.arena_rules.specs.Below.{LawsOfHistories}
use Rattle.arena_rules.specs.declared.command.Command.{Command}
use Rattle.arena_rules.specs.declared.command.Command.TheVariants.{Enter, Pause, Leave, Act, Tick}
use Rattle.arena_rules.specs.declared.refusal.Refusal.{Refusal}
use Rattle.arena_rules.specs.declared.refusal.Refusal.TheVariants as refusal
use Rattle.arena_rules.specs.Legal.{AllowsWhat, Allowed, IsLegal}
use Rattle.arena_rules.specs.Verdicts.{command_refusal, or_full, verdict}
use Rattle.arena_rules.proofs.Legality.{legal_induction}

module _ (known : LawsOfHistories) where
  -- a command that is not refused finds room for its entry, and none of its own refusals holds

  or_full_none : (es : List Entry) (r : Option Refusal) → or_full es r ≡ None → (length es < max_entries) × (r ≡ None)
  or_full_none es (Some r) h = cc
  or_full_none es None h =
      ⊎_elim
      (λ (lt : length es < max_entries). (lt, refl))
      (λ (le : max_entries ≤ length es). let full : cond true (Some refusal.Full) None ≡ None = ap (λ b. cond b (Some refusal.Full) None) (sym (le-leb max_entries (length es) le)) ∙ h in cc)
      (cases_lt (length es) max_entries)

  pub room_from_verdict : (s : Setup) (h : History) (t : ℕ) (c : Command) → verdict s h t c ≡ None → length h.entries < max_entries
  unfolding verdict
  room_from_verdict s h t c may = (or_full_none h.entries (command_refusal s h t c) may).0

  pub not_refused_itself : (s : Setup) (h : History) (t : ℕ) (c : Command) → verdict s h t c ≡ None → command_refusal s h t c ≡ None
  unfolding verdict
  not_refused_itself s h t c may = (or_full_none h.entries (command_refusal s h t c) may).1

  room_in : (s : Setup) (h : History) (t : ℕ) (w : What) → AllowsWhat s h t w → length h.entries < max_entries
  room_in s h t (what.Enter p) granted = room_from_verdict s h t (Enter p) granted.not_refused
  room_in s h t (what.Pause p) granted = room_from_verdict s h t (Pause p) granted.not_refused
  room_in s h t (what.Leave p) granted = room_from_verdict s h t (Leave p) granted.not_refused
  room_in s h t (what.Act p number a) granted = room_from_verdict s h t (Act p number a) granted.not_refused
  room_in s h t what.Tick granted = room_from_verdict s h t Tick granted.not_refused
  room_in s h t (what.Wave n) allowed = allowed.entry_room

  -- an allowed entry finds room
  pub room_from_allowed : (s : Setup) (h : History) (e : Entry) → Allowed s h e → length h.entries < max_entries
  room_from_allowed s h e allowed = room_in s h e.stamp e.what allowed.granted

  -- a legal list has at most 8,000,000 entries
  pub length-legal : (s : Setup) (es : List Entry) → IsLegal s es → length es ≤ max_entries
  length-legal s es legal =
      legal_induction s (λ l. length l ≤ max_entries) (omega arith)
      (λ l e was allowed le. omega (arith, room_from_allowed s (history s l) e allowed, ap length (known.entries s l), length-append l (e ∷ [])))
      es legal

  -- and it begins at most 200,000 games

  games_in : (s : Setup) (h : History) (t : ℕ) (w : What) → AllowsWhat s h t w → length h.starts ≤ max_games → length h.starts + length (starts_in s h w) ≤ max_games
  games_in s h t (what.Enter p) granted le = omega arith
  games_in s h t (what.Pause p) granted le = omega arith
  games_in s h t (what.Leave p) granted le = omega arith
  games_in s h t (what.Act p number a) granted le = omega arith
  games_in s h t what.Tick granted le = omega arith
  games_in s h t (what.Wave n) allowed le = omega (arith, allowed.games_room, length-map (started s h n) (start_of (length h.entries)))

  starts-after : (s : Setup) (h : History) (e : Entry) → (after s h e).starts ≡ h.starts ++ starts_by s h e
  unfolding after
  starts-after s h e = refl

  -- the games of one entry more stand behind those that there were
  pub starts-push : (s : Setup) (es : List Entry) (e : Entry) → (history s (es ++ e ∷ [])).starts ≡ (history s es).starts ++ starts_by s (history s es) e
  starts-push s es e = ap (λ (h : History). h.starts) (known.grow s es e) ∙ starts-after s (history s es) e

  games_by : (s : Setup) (h : History) (e : Entry) → Allowed s h e → length h.starts ≤ max_games → length (after s h e).starts ≤ max_games
  unfolding starts_by
  games_by s h e allowed le =
      let long : length (after s h e).starts ≡ length h.starts + length (starts_in s h e.what) = ap length (starts-after s h e) ∙ length-append h.starts (starts_in s h e.what) in
      omega (arith, long, games_in s h e.stamp e.what allowed.granted le)

  none_begun : (s : Setup) → length (history s []).starts ≤ max_games
  unfolding history
  none_begun s = omega arith

  pub games-legal : (s : Setup) (es : List Entry) → IsLegal s es → length (history s es).starts ≤ max_games
  games-legal s es legal =
      legal_induction s (λ l. length (history s l).starts ≤ max_games) (none_begun s)
      (λ l e was allowed le. subst (λ (h : History). length h.starts ≤ max_games) (sym (known.grow s l e)) (games_by s (history s l) e allowed le))
      es legal

  -- the games that run, that count and that an entry ends
  pub few_games : (s : Setup) (es : List Entry) (e : Entry) → IsLegal s es → (length (running s (history s es)) + length (finished s (history s es)) ≤ max_games) × (length (ended_by s (history s es) e) ≤ length (running s (history s es)))
  few_games s es e legal =
      let h = history s es in
      let over = λ (g : Begun). not (goes_on (history s (es ++ e ∷ [])) g) in
      let same : length (ended_by s h e) ≡ length (filter over (running s h)) = sym (length-map (ended_by s h e) (λ (x : EndedGame). x.game)) ∙ ap length (known.no_longer s es e) in
      let fewer : length (filter over (running s h)) ≤ length (running s h) = rw length-filter (count_by-le-length over (running s h)) in
      (omega (arith, known.room s es, games-legal s es legal), omega (arith, same, fewer))
