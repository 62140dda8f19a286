-- What is shown of an arena, of a player and of a game, from what is kept.
use Rattle.std.proofs.Common.{◌≡◌, ℕ, suc, ◌<◌, List, [], ◌∷◌, Option, Some, None, Bool, true, false, length, refl, sym, ap, ◌∙◌}
use Rattle.std.specs.Prelude.{slice_get, option_and_then, map, filter, count_by, cond}
use Rattle.std.specs.Option.{option_map}
use Rattle.std.proofs.lemmas.List.Sums.{length-filter}
use Rattle.entries.specs.declared.setup.Setup.{Setup}
use Rattle.game_room.specs.Games as room
use Rattle.ranking.specs.Rows.{rows, rank_of}
use Rattle.seats.specs.Places.{place_at, seat_at}
use Rattle.arena_games.specs.Courses.{Course}
use Rattle.arena_games.specs.Courses as course
use Rattle.arena_history.specs.Games.{Begun, begun, events, outcome_of, running}
use Rattle.arena_history.specs.History.{History}
use Rattle.arena_history.specs.Results.{results}
use Rattle.arena_history.specs.Since.{place}
use Rattle.arena_history.specs.Stands.{seat}
use Rattle.arena_history.specs.Table.{line_among, line_of, lines, standings}
use Rattle.arena_history.specs.TableLaws.{RowsAreOfPlayers}
use Rattle.arena_rules.specs.Answers.{shown_at}
use Rattle.arena_rules.specs.Verdicts.{game_at}
use Rattle.arena_rules.specs.Views.{game_shown, me_at, me_view}
use Rattle.arena_core.specs.Below.{LawsOfHistories}
use Rattle.arena_core.specs.Courses.{course, courses}
use Rattle.arena_core.specs.People.{KeptPeople, StandsFor, standing}
use Rattle.arena_core.specs.Views.{me_by, row_of}
use Rattle.arena_core.proofs.Followed.{course_at}
use Rattle.arena_core.proofs.Placed.{place_kept}

passing_map : {X Y : Type 0} (p : Y → Bool) (f : X → Y) (xs : List X) → length (filter p (map f xs)) ≡ length (filter (λ x. p (f x)) xs)
passing_map p f [] = refl
passing_map p f (x ∷ xs) = by (p (f x)) (passing_map p f xs)
  where
    by : (b : Bool) → length (filter p (map f xs)) ≡ length (filter (λ y. p (f y)) xs) → length (cond b (f x ∷ filter p (map f xs)) (filter p (map f xs))) ≡ length (cond b (x ∷ filter (λ y. p (f y)) xs) (filter (λ y. p (f y)) xs))
    by true rest = ap suc rest
    by false rest = rest

-- how many courses go on
pub running_count : (s : Setup) (h : History) → count_by course.goes_on (courses s h) ≡ length (running s h)
unfolding courses running outcome_of
running_count s h = sym (length-filter course.goes_on (map (course h) (begun s h))) ∙ passing_map course.goes_on (course h) (begun s h)

-- what can be seen of a game by its course
pub game_seen : (s : Setup) (h : History) (t number : ℕ) → option_map (λ (c : Course). room.game_view c.header c.events t) (slice_get (courses s h) number) ≡ shown_at s h t number
unfolding game_at game_shown
game_seen s h t number = ap (option_map (λ (c : Course). room.game_view c.header c.events t)) (course_at s h number) ∙ by (slice_get (begun s h) number)
  where
    by : (o : Option Begun) → option_map (λ (c : Course). room.game_view c.header c.events t) (option_map (course h) o) ≡ option_map (λ (g : Begun). room.game_view g.header (events h g) t) o
    by None = refl
    by (Some g) = refl

me_ranked : RowsAreOfPlayers → (s : Setup) (h : History) (p : ℕ) (rank : Option ℕ) → rank_of (lines s h) p ≡ rank → me_by p (seat s h p) (option_and_then (slice_get (rows (lines s h))) rank) ≡ me_at s h p rank
unfolding standings line_of line_among results
me_ranked law s h p None at = refl
me_ranked law s h p (Some k) at = ap (me_by p (seat s h p)) (law s h p k at)

module _ (laws : LawsOfHistories) (s : Setup) (h : History) (k : KeptPeople) (kept : StandsFor k s (standing s h)) where
  -- the kept lines are those of the table
  pub lines_kept : k.scores.lines ≡ lines s h
  lines_kept = kept.scores.lines ∙ sym (laws.lines s h)

  seat_is : (p : ℕ) → seat_at (place s h p) ≡ seat s h p
  unfolding place seat
  seat_is p = refl

  -- a player by his kept place and his row of the kept table
  pub me_kept : RowsAreOfPlayers → (p : ℕ) → p < length s.players → me_by p (seat_at (place_at k.places p)) (row_of k.scores.lines p) ≡ me_view s h p
  unfolding me_view
  me_kept law p lt =
      let own : seat_at (place_at k.places p) ≡ seat s h p = ap seat_at (place_kept laws s h k kept p lt) ∙ seat_is p in
      (λ i. me_by p (own i) (row_of (lines_kept i) p)) ∙ me_ranked law s h p (rank_of (lines s h) p) refl
