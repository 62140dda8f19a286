-- Which games a look ends: those that are due.
use Rattle.std.proofs.Common.{◌≡◌, ◌<◌, ℕ, ⊎_elim, List, [], ◌∷◌, ◌++◌, length, None, true, false, sym, ap, ◌∙◌}
use Rattle.std.specs.Prelude.{filter, not, map, is_none}
use Rattle.std.specs.List.{cons_option}
use Rattle.std.proofs.lemmas.Bool.{cases_Bool}
use Rattle.std.proofs.lemmas.List.{append-nil}
use Rattle.entries.specs.declared.setup.Setup.{Setup}
use Rattle.entries.specs.declared.journal.Entry.{Entry}
use Rattle.entries.specs.declared.journal.What.TheVariants as what
use Rattle.game_room.specs.declared.header.Header.{Header}
use Rattle.game_room.specs.Events.{Event, tick_at}
use Rattle.game_room.specs.Games.{Game, game, outcome, due}
use Rattle.game_room.specs.Laws.{LookChangesNothing, DueGamesEnd}
use Rattle.arena_history.specs.History.{History, with_entry}
use Rattle.arena_history.specs.Endings.{EndedGame, ended_by}
use Rattle.arena_history.specs.Games.{Begun, event_in, events, outcome_of, goes_on, begun, running}
use Rattle.arena_history.specs.Waves.{history}
use Rattle.arena_history.proofs.BegunGames.{begun_own, events-with}
use Rattle.arena_history.proofs.Ended.{runs_none, ended_games}
use Rattle.arena_history.proofs.Histories.{IsWhole-history}
use Rattle.arena_history.proofs.Lists.{all_passed, filter_same}

module _ (look : LookChangesNothing) (ends : DueGamesEnd) where
  -- a look ends a game that goes on exactly where it is due
  look_one : (g : Header) (happened : List Event) (t : ℕ) → outcome g happened ≡ None → not (is_none (outcome g (happened ++ tick_at t ∷ []))) ≡ due g happened t
  unfolding outcome
  look_one g happened t ran =
      ⊎_elim
      (λ (on : due g happened t ≡ true). ap (λ o. not (is_none o)) (ends.ends g happened (tick_at t) on) ∙ sym on)
      (λ (off : due g happened t ≡ false).
      ap (λ (k : Game). not (is_none k.outcome)) (look g happened [] t off ∙ ap (game g) (append-nil happened)) ∙ (ap (λ o. not (is_none o)) ran ∙ sym off))
      (cases_Bool (due g happened t))

  look_at : (h : History) (e : Entry) (g : Begun) → e.what ≡ what.Tick → goes_on h g ≡ true → g.entry < length h.entries → not (goes_on (with_entry h e) g) ≡ due g.header (events h g) e.stamp
  unfolding outcome_of
  look_at h e g is on lt =
      let happened : events (with_entry h e) g ≡ events h g ++ tick_at e.stamp ∷ [] = events-with h e g lt ∙ ap (λ w. events h g ++ cons_option (event_in g.header e.stamp w) []) is in
      ap (λ l. not (is_none (outcome g.header l))) happened ∙ look_one g.header (events h g) e.stamp (runs_none (outcome_of h g) on)

  -- the games that a look ends
  pub look_ends : (s : Setup) (es : List Entry) (e : Entry) → e.what ≡ what.Tick → map (λ (x : EndedGame). x.game) (ended_by s (history s es) e) ≡ filter (λ g. due g.header (events (history s es) g) e.stamp) (running s (history s es))
  unfolding running
  look_ends s es e is =
      let h = history s es in
      let over = λ (g : Begun). not (goes_on (with_entry h e) g) in
      let is_due = λ (g : Begun). due g.header (events h g) e.stamp in
      ended_games s h e ∙ filter_same over is_due (running s h) (all_passed (λ (g : Begun). g.entry < length h.entries) (λ (g : Begun). over g ≡ is_due g) (goes_on h) (begun s h) (λ g on lt. look_at h e g is on lt) (begun_own s h (IsWhole-history s es)))
