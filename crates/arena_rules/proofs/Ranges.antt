-- The entries of a legal list are in range, and a command that is not refused has a reply.
use Rattle.std.proofs.Common.{◌≡◌, ℕ, ◌<◌, ◌≤◌, List, take, length, Option, Some, None, get_or, refl, sym, ap, ◌∙◌, subst, arith}
use Rattle.std.specs.Prelude.{slice_get}
use Rattle.std.specs.List.{All}
use Rattle.std.specs.Option.{option_map, IsSome}
use Rattle.std.proofs.lemmas.Option.{slice_get-get_or, slice_get_within}
use Rattle.entries.specs.declared.action.Action.{Action}
use Rattle.entries.specs.declared.setup.Setup.{Setup}
use Rattle.entries.specs.declared.journal.Entry.{Entry}
use Rattle.entries.specs.declared.journal.What.{What}
use Rattle.entries.specs.declared.journal.What.TheVariants as what
use Rattle.entries.specs.Limits.{max_entries, max_games}
use Rattle.entries.specs.Ranges.{IsWhatOf, IsEntryOf}
use Rattle.arena_history.specs.History.{History}
use Rattle.arena_history.specs.Games.{Begun, begun}
use Rattle.arena_history.specs.Waves.{after, history}
use Rattle.arena_history.specs.GameLaws.{games_begun_by}
use Rattle.arena_history.proofs.Lists.{slice_get-append_left}
use Rattle.arena_rules.specs.Below.{LawsOfHistories}
use Rattle.arena_rules.specs.declared.command.Command.{Command}
use Rattle.arena_rules.specs.declared.command.Command.TheVariants.{Enter, Pause, Leave, Act, Tick}
use Rattle.arena_rules.specs.declared.query.Reply.TheVariants as reply
use Rattle.arena_rules.specs.Answers.{reply_to}
use Rattle.arena_rules.specs.Commands.{entry_of}
use Rattle.arena_rules.specs.Legal.{AllowsWhat, IsLegal}
use Rattle.arena_rules.specs.Verdicts.{act_refusal, game_at, verdict}
use Rattle.arena_rules.specs.Views.{game_shown}
use Rattle.arena_rules.proofs.Bounds.{not_refused_itself, length-legal, games-legal}
use Rattle.arena_rules.proofs.Legality.{legal_take}
use Rattle.arena_rules.proofs.Stamps.{stamps_most-legal}

module _ (known : LawsOfHistories) where
  -- who acts in a game does so in one that was begun

  found_game : (h : History) (p : ℕ) (o : Option Begun) (a : Action) (t : ℕ) → act_refusal h p o a t ≡ None → (g : Begun) × (o ≡ Some g)
  found_game h p None a t none = cc
  found_game h p (Some g) a t none = (g, refl)

  pub acted_game : (s : Setup) (h : History) (t p number : ℕ) (a : Action) → verdict s h t (Act p number a) ≡ None → (g : Begun) × (game_at s h number ≡ Some g)
  acted_game s h t p number a may = found_game h p (game_at s h number) a t (not_refused_itself known s h t (Act p number a) may)

  pub acted_number : (s : Setup) (h : History) (t p number : ℕ) (a : Action) → verdict s h t (Act p number a) ≡ None → number < length h.starts
  unfolding game_at
  acted_number s h t p number a may =
      let found = acted_game s h t p number a may in
      omega (arith, slice_get_within (begun s h) number found.0 found.1, known.numbered.counted s h)

  what_in_range : (s : Setup) (h : History) (t : ℕ) (w : What) → length h.entries ≤ max_entries → length h.starts ≤ max_games → AllowsWhat s h t w → IsWhatOf (length s.players) w
  what_in_range s h t (what.Enter p) few begun granted = granted.in_range
  what_in_range s h t (what.Pause p) few begun granted = granted.in_range
  what_in_range s h t (what.Leave p) few begun granted = granted.in_range
  what_in_range s h t (what.Act p number a) few begun granted = (granted.in_range, omega (arith, acted_number s h t p number a granted.not_refused), granted.named)
  what_in_range s h t what.Tick few begun granted = tt
  what_in_range s h t (what.Wave n) few begun allowed = omega (arith, allowed.known)

  -- what each entry of a legal list did is in range
  pub whats-legal : (s : Setup) (es : List Entry) → IsLegal s es → All (λ (e : Entry). IsWhatOf (length s.players) e.what) es
  whats-legal s es legal k d lt =
      let e = get_or es k d in
      let allowed = legal.each k e (slice_get-get_or es k d lt) in
      let before = legal_take s es k legal in
      let few : length (history s (take k es)).entries ≤ max_entries = rw (known.entries s (take k es)) (length-legal known s (take k es) before) in
      what_in_range s (history s (take k es)) e.stamp e.what few (games-legal known s (take k es) before) allowed.granted

  -- so each entry is in range, if its pass is
  pub ranges-legal : (s : Setup) (es : List Entry) → IsLegal s es → All (λ (e : Entry). e.pass ≤ 255 → IsEntryOf (length s.players) e) es
  ranges-legal s es legal k d lt pass = record {
    stamp_most = stamps_most-legal known s es legal k d lt;
    pass_most = pass;
    what = whats-legal s es legal k d lt;
  }

  -- a game stays where it is
  pub game_at-after : (s : Setup) (es : List Entry) (e : Entry) (number : ℕ) (g : Begun) → game_at s (history s es) number ≡ Some g → game_at s (after s (history s es) e) number ≡ Some g
  unfolding game_at
  game_at-after s es e number g at =
      let h = history s es in
      ap (λ k. slice_get (begun s k) number) (sym (known.grow s es e)) ∙ (ap (λ l. slice_get l number) (known.begun s es e) ∙ (slice_get-append_left (begun s h) (games_begun_by s es e) number (slice_get_within (begun s h) number g at) ∙ at))

  -- a command that is not refused has a reply
  pub replied : (s : Setup) (es : List Entry) (t pass : ℕ) (c : Command) → verdict s (history s es) t c ≡ None → IsSome (reply_to s (history s es) t pass c)
  unfolding reply_to
  replied s es t pass (Enter p) may = refl
  replied s es t pass (Pause p) may = refl
  replied s es t pass (Leave p) may = refl
  replied s es t pass (Act p number a) may =
      let h = history s es in
      let e = entry_of t pass (Act p number a) in
      let found = acted_game s h t p number a may in
      subst (λ (o : Option Begun). IsSome (option_map reply.Game (option_map (λ (g : Begun). game_shown (after s h e) g t) o))) (sym (game_at-after s es e number found.0 found.1)) refl
  replied s es t pass Tick may = refl
