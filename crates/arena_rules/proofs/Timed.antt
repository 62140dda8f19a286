-- When the events of the games of a legal list happened, how many there are, and that rooms may be asked.
use Rattle.std.proofs.Common.{◌≡◌, ℕ, ◌-◌, ◌<◌, ◌≤◌, ⊎_elim, List, [], ◌∷◌, ◌++◌, length, Option, Some, None, Bool, true, false, refl, sym, ap, ◌∙◌, subst, arith}
use Rattle.std.specs.Prelude.{slice_get, cond, ◌==◌}
use Rattle.std.specs.List.{All, AllByRecursion, filter_map, cons_option}
use Rattle.std.specs.Option.{option_map}
use Rattle.std.proofs.lemmas.Bool.{cases_lt}
use Rattle.std.proofs.lemmas.List.Elements.{All-nil, All-append, All-from_recursion}
use Rattle.board.specs.declared.piece.Colour.{Colour}
use Rattle.entries.specs.declared.action.Action.{Action}
use Rattle.entries.specs.declared.setup.Setup.{Setup}
use Rattle.entries.specs.declared.journal.Entry.{Entry}
use Rattle.entries.specs.declared.journal.What.{What}
use Rattle.entries.specs.declared.journal.What.TheVariants as what
use Rattle.entries.specs.Limits.{max_entries}
use Rattle.game_room.specs.declared.header.Header.{Header}
use Rattle.game_room.specs.Events.{Event, act_of}
use Rattle.game_room.specs.Games.{standing}
use Rattle.arena_history.specs.GameLaws.{IsGameOf, games_begun_by}
use Rattle.arena_history.specs.Games.{Begun, begun, side_of, event_in, event_of, events}
use Rattle.arena_history.specs.Stamps.{last_stamp}
use Rattle.arena_history.specs.Waves.{history}
use Rattle.arena_history.proofs.Lists.{all_at, slice_get-append_left, slice_get-append_right, slice_get_within}
use Rattle.arena_rules.specs.Below.{LawsOfHistories, LawsOfGames}
use Rattle.arena_rules.specs.RoomLaws.{IsTimed}
use Rattle.arena_rules.specs.Legal.{IsLegal}
use Rattle.arena_rules.proofs.Bounds.{length-legal}
use Rattle.arena_rules.proofs.Legality.{legal_induction}
use Rattle.arena_rules.proofs.Stamps.{last_stamp-push}

-- an entry that is an event of a game is one with its own stamp

-- no event, or one at this stamp
abbrev MatchEvent : ℕ → Option Event → Type 0
MatchEvent t None = Unit {0}
MatchEvent t (Some x) = x.stamp ≡ t

acted_at : (b : Bool) (o : Option Colour) (a : Action) (t : ℕ) → MatchEvent t (cond b (option_map (λ side. act_of side a t) o) None)
acted_at true None a t = tt
acted_at true (Some side) a t = refl
acted_at false o a t = tt

event_at : (g : Header) (t : ℕ) (w : What) → MatchEvent t (event_in g t w)
event_at g t (what.Enter p) = tt
event_at g t (what.Pause p) = tt
event_at g t (what.Leave p) = tt
event_at g t (what.Act p number a) = acted_at (number == g.id) (side_of g p) a t
event_at g t what.Tick = refl
event_at g t (what.Wave n) = tt

events_from : (low t : ℕ) (o : Option Event) → low ≤ t → MatchEvent t o → AllByRecursion (λ (x : Event). low ≤ x.stamp) (cons_option o [])
events_from low t None le at = tt
events_from low t (Some x) le at = (omega arith, tt)

none_begun : (s : Setup) → begun s (history s []) ≡ []
unfolding begun history
none_begun s = refl

none_at : (g : Begun) (i : ℕ) → slice_get [] i ≡ Some g → ⊥
none_at g i at = cc

-- before the first entry there is no game
pub no_game : (s : Setup) (g : Begun) → IsGameOf s [] g → ⊥
no_game s g of = none_at g g.header.id (ap (λ l. slice_get l g.header.id) (sym (none_begun s)) ∙ of)

module _ (known : LawsOfHistories) where
  -- a game of a list with one entry more is one of the list's, or one that the entry begins
  pub older_or_new : (s : Setup) (es : List Entry) (e : Entry) (g : Begun) (P : Type 0) → IsGameOf s (es ++ e ∷ []) g → (IsGameOf s es g → P) → ((i : ℕ) → slice_get (games_begun_by s es e) i ≡ Some g → P) → P
  older_or_new s es e g P of older new =
      let old = begun s (history s es) in
      let at : slice_get (old ++ games_begun_by s es e) g.header.id ≡ Some g = ap (λ l. slice_get l g.header.id) (sym (known.begun s es e)) ∙ of in
      ⊎_elim
      (λ (lt : g.header.id < length old). older (sym (slice_get-append_left old (games_begun_by s es e) g.header.id lt) ∙ at))
      (λ (le : length old ≤ g.header.id). new (g.header.id - length old) (sym (slice_get-append_right old (games_begun_by s es e) g.header.id le) ∙ at))
      (cases_lt g.header.id (length old))

  -- no entry is later than the last one
  up_to_last : (s : Setup) (es : List Entry) → IsLegal s es → (n : ℕ) (e : Entry) → slice_get es n ≡ Some e → e.stamp ≤ last_stamp es
  up_to_last s es legal =
      legal_induction s (λ l. (n : ℕ) (e : Entry) → slice_get l n ≡ Some e → e.stamp ≤ last_stamp l) (λ n e at. cc)
      (λ l x was allowed before n e at.
      ⊎_elim
      (λ (old : (n < length l) × (slice_get l n ≡ Some e)).
      let not_before : last_stamp l ≤ x.stamp = subst (λ k. last_stamp k ≤ x.stamp) (known.entries s l) allowed.not_before in
      omega (arith, before n e old.1, not_before, last_stamp-push known l x))
      (λ (new : (n ≡ length l) × (x ≡ e)). let same : e.stamp ≡ x.stamp = ap (λ (y : Entry). y.stamp) (sym new.1) in omega (arith, same, last_stamp-push known l x))
      (Rattle.arena_history.proofs.Lists.slice_get-push_cases l x n e at))
      es legal

  -- a game began no later than the last entry, less has happened in it than entries came, and nothing later than the last of them
  pub timed : (s : Setup) (es : List Entry) (g : Begun) → IsLegal s es → IsGameOf s es g → (length (events (history s es) g) < length es) × (g.header.start ≤ last_stamp es) × All (λ (x : Event). x.stamp ≤ last_stamp es) (events (history s es) g)
  timed s es g legal of = known.timed s es g (last_stamp es) of (up_to_last s es legal)

  -- nothing happened in a game before it began
  pub events_after_start : (s : Setup) (es : List Entry) → IsLegal s es → (g : Begun) → IsGameOf s es g → All (λ (x : Event). g.header.start ≤ x.stamp) (events (history s es) g)
  events_after_start s es legal =
      legal_induction s (λ l. (g : Begun) → IsGameOf s l g → All (λ (x : Event). g.header.start ≤ x.stamp) (events (history s l) g)) (λ g of. absurd (no_game s g of))
      (λ l e was allowed before g of.
      let Later = λ (x : Event). g.header.start ≤ x.stamp in
      older_or_new s l e g (All Later (events (history s (l ++ e ∷ [])) g)) of
      (λ older.
      let not_before : last_stamp l ≤ e.stamp = subst (λ k. last_stamp k ≤ e.stamp) (known.entries s l) allowed.not_before in
      let began : g.header.start ≤ last_stamp l = (timed s l g was older).1 in
      subst (All Later) (sym (known.events s l e g older))
      (All-append Later (events (history s l) g) (filter_map (event_of g.header) (e ∷ [])) (before g older)
      (All-from_recursion Later (filter_map (event_of g.header) (e ∷ [])) (events_from g.header.start e.stamp (event_of g.header e) (omega arith) (event_at g.header e.stamp e.what)))))
      (λ i at. subst (All Later) (sym (all_at (λ (k : Begun). (events (history s (l ++ e ∷ [])) k ≡ []) × (k.header.start ≡ e.stamp)) (games_begun_by s l e) i g (known.new_games s l e) at).0) (All-nil Later)))
      es legal

  pub game_timed : (s : Setup) (es : List Entry) (g : Begun) → IsLegal s es → IsGameOf s es g → IsTimed s es g
  game_timed s es g legal of =
      let is = timed s es g legal of in
      record { began = is.1; from_start = events_after_start s es legal g of; to_last = is.2; fewer = is.0; few = omega (arith, is.0, length-legal known s es legal) }

  -- a room that stands for a game may be asked at the last stamp and later
  pub may_be_asked : LawsOfGames → (s : Setup) (es : List Entry) (g : Begun) (t : ℕ) → IsLegal s es → IsGameOf s es g → last_stamp es ≤ t → ((standing g.header (events (history s es) g)).clocks.since ≤ t) × ((standing g.header (events (history s es) g)).clocks.moves < max_entries)
  may_be_asked games s es g t legal of le =
      let is = timed s es g legal of in
      let xs = events (history s es) g in (
        games.began g.header xs t (omega (arith, is.1, le)) (λ k d lt. let at = is.2 k d lt in omega (arith, at, le)),
        omega (arith, games.plies.counted g.header xs, games.plies.few g.header xs, is.0, length-legal known s es legal),
      )
