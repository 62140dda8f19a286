-- A player's place with one entry more.
use Rattle.std.proofs.Common.{◌≡◌, ℕ, suc, ◌+◌, ◌<◌, ◌≤◌, ⊎_elim, List, [], ◌∷◌, ◌++◌, length, Option, Some, None, Bool, true, false, ◌||◌, refl, sym, ap, ◌∙◌, arith}
use Rattle.std.specs.Prelude.{cond, map, sum_by, ◌==◌, filter, is_none}
use Rattle.std.specs.List.{find, list_any, AllByRecursion, filter_map, cons_option}
use Rattle.std.specs.Option.{option_map}
use Rattle.std.proofs.lemmas.Bool.{cases_Bool}
use Rattle.std.proofs.lemmas.List.Sums.{sum_by-append}
use Rattle.entries.specs.declared.setup.Setup.{Setup}
use Rattle.entries.specs.declared.journal.Entry.{Entry}
use Rattle.entries.specs.declared.journal.Start.{Start}
use Rattle.entries.specs.declared.journal.What.{What}
use Rattle.entries.specs.declared.journal.What.TheVariants as what
use Rattle.game_room.specs.declared.outcome.Outcome.{Outcome}
use Rattle.game_room.specs.Games as room
use Rattle.seats.specs.declared.wish.Wish.{Wish}
use Rattle.seats.specs.declared.wish.Wish.TheVariants.{Absent, In, Paused, Left}
use Rattle.seats.specs.Places.{Place, unknown, wish_set, wish_freed, is_idle, since_set, entered, paused, gone, seated, freed}
use Rattle.arena_history.specs.History.{History, with_entry, along}
use Rattle.arena_history.specs.Games.{Begun, game_of, games_from, has_player, event_of, events, outcome_of, goes_on, begun, running, playing}
use Rattle.arena_history.specs.Endings.{EndedGame, ended, ended_by}
use Rattle.arena_history.specs.Wishes.{no_show, wish, wish_in}
use Rattle.arena_history.specs.Stands.{idle}
use Rattle.arena_history.specs.Waves.{starts_in, starts_by, after, history}
use Rattle.arena_history.specs.Since.{since, place}
use Rattle.arena_history.specs.Changes.{ends_game_of, game_among, begins_game_of, place_in, seated_if, place_after}
use Rattle.arena_history.proofs.Histories.{AllBelow, IsWhole-history, entries-history, history-push}
use Rattle.arena_history.proofs.BegunGames.{new_games, game_entry, begun_own, events-with}
use Rattle.arena_history.proofs.Idle.{since-push}
use Rattle.arena_history.proofs.Moves.{PlaysOnce, game_kept, game_freed, game_begun, wish-after, wish_kept}
use Rattle.arena_history.proofs.Seated.{PlansPairOnce, with_new_once, plays_once}
use Rattle.arena_history.proofs.Sides.{game_sides, seen_sides}

-- the number of the game that somebody sits down to

found_among : (s : Setup) (es : List Entry) (p number : ℕ) (xs : List Start) → option_map (λ (g : Begun). g.header.id) (find (has_player p) (games_from s es number xs)) ≡ game_among p number xs
found_among s es p number [] = refl
found_among s es p number (x ∷ xs) =
    by ((x.white == p) || (x.black == p)) (found_among s es p (suc number) xs)
  where
    by : (b : Bool) → option_map (λ (g : Begun). g.header.id) (find (has_player p) (games_from s es (suc number) xs)) ≡ game_among p (suc number) xs → option_map (λ (g : Begun). g.header.id) (cond b (Some (game_of s es number x)) (find (has_player p) (games_from s es (suc number) xs))) ≡ cond b (Some number) (game_among p (suc number) xs)
    by true rest = refl
    by false rest = rest

pub begins_is : (s : Setup) (h : History) (e : Entry) (p : ℕ) → option_map (λ (g : Begun). g.header.id) (find (has_player p) (new_games s h e)) ≡ begins_game_of s h e p
unfolding begins_game_of
begins_is s h e p = found_among s (h.entries ++ e ∷ []) p (length h.starts) (starts_by s h e)

found_some : (p : ℕ) (gs : List Begun) (g : Begun) → find (has_player p) gs ≡ Some g → 1 ≤ Rattle.std.specs.Prelude.sum_by (game_sides p) gs
found_some p [] g at = cc
found_some p (x ∷ gs) g at =
    ⊎_elim
    (λ (on : has_player p x ≡ true). omega (arith, Rattle.std.proofs.lemmas.List.Sums.sum_by-cons (game_sides p) x gs, seen_sides p x on))
    (λ (off : has_player p x ≡ false). let rest : find (has_player p) gs ≡ Some g = ap (λ b. cond b (Some x) (find (has_player p) gs)) (sym off) ∙ at in omega (arith, Rattle.std.proofs.lemmas.List.Sums.sum_by-cons (game_sides p) x gs, found_some p gs g rest))
    (cases_Bool (has_player p x))

-- places, where wish and game are known

-- a place whose wish and game become these, at the number n
abbrev moved : ℕ → Wish → Option ℕ → ℕ → Wish → Option ℕ → Place
moved n w game old new game' = record { wish = new; game = game'; since = since_set (is_idle w game) (is_idle new game') n old }

pub place-push : (s : Setup) (es : List Entry) (e : Entry) (p : ℕ) (new : Wish) (game : Option ℕ) → wish s (after s (history s es) e) p ≡ new → playing s (after s (history s es) e) p ≡ game → place s (history s (es ++ e ∷ [])) p ≡ moved (suc (length es)) (wish s (history s es) p) (playing s (history s es) p) (since s (history s es) p) new game
unfolding place idle
place-push s es e p new game wants plays =
    let h = history s es in
    let h' = history s (es ++ e ∷ []) in
    let w : wish s h' p ≡ new = ap (λ k. wish s k p) (history-push s es e) ∙ wants in
    let g : playing s h' p ≡ game = ap (λ k. playing s k p) (history-push s es e) ∙ plays in
    λ i. record { wish = w i; game = g i; since = (since-push s es e p ∙ (λ j. since_set (is_idle (wish s h p) (playing s h p)) (is_idle (w j) (g j)) (suc (length es)) (since s h p))) i }

-- before the first entry nothing is known of anybody
pub place-nothing : (s : Setup) (p : ℕ) → place s (history s []) p ≡ unknown
unfolding place wish playing running begun since history along
place-nothing s p = refl

since_same : (b : Bool) (n old : ℕ) → since_set b b n old ≡ old
since_same true n old = refl
since_same false n old = refl

since_not : (b : Bool) (n old : ℕ) → since_set b false n old ≡ old
since_not true n old = refl
since_not false n old = refl

paused_not_idle : (w : Wish) (game : Option ℕ) → is_idle (wish_set Paused w) game ≡ false
paused_not_idle w (Some g) = refl
paused_not_idle Absent None = refl
paused_not_idle In None = refl
paused_not_idle Paused None = refl
paused_not_idle Left None = refl

left_not_idle : (game : Option ℕ) → is_idle Left game ≡ false
left_not_idle (Some g) = refl
left_not_idle None = refl

left_set : (old : Wish) → wish_set Left old ≡ Left
left_set Absent = refl
left_set In = refl
left_set Paused = refl
left_set Left = refl

-- with the same game, an entry sets the place of him who asks
moved_in : (p n : ℕ) (x : What) (w : Wish) (game : Option ℕ) (old : ℕ) → moved n w game old (wish_in p x w) game ≡ place_in n p x (record { wish = w; game = game; since = old })
moved_in p n (what.Enter q) w game old =
    elim (q == p) as (λ b. moved n w game old (cond b (wish_set In w) w) game ≡ cond b (entered n (record { wish = w; game = game; since = old })) (record { wish = w; game = game; since = old })) [
      | true ↦ refl
      | false ↦ λ i. record { wish = w; game = game; since = since_same (is_idle w game) n old i }
    ]
moved_in p n (what.Pause q) w game old =
    elim (q == p) as (λ b. moved n w game old (cond b (wish_set Paused w) w) game ≡ cond b (paused (record { wish = w; game = game; since = old })) (record { wish = w; game = game; since = old })) [
      | true ↦ λ i. record { wish = wish_set Paused w; game = game; since = (ap (λ b. since_set (is_idle w game) b n old) (paused_not_idle w game) ∙ since_not (is_idle w game) n old) i }
      | false ↦ λ i. record { wish = w; game = game; since = since_same (is_idle w game) n old i }
    ]
moved_in p n (what.Leave q) w game old =
    elim (q == p) as (λ b. moved n w game old (cond b (wish_set Left w) w) game ≡ cond b (gone (record { wish = w; game = game; since = old })) (record { wish = w; game = game; since = old })) [
      | true ↦ λ i. record { wish = left_set w i; game = game; since = (ap (λ v. since_set (is_idle w game) (is_idle v game) n old) (left_set w) ∙ (ap (λ b. since_set (is_idle w game) b n old) (left_not_idle game) ∙ since_not (is_idle w game) n old)) i }
      | false ↦ λ i. record { wish = w; game = game; since = since_same (is_idle w game) n old i }
    ]
moved_in p n (what.Act q g a) w game old = λ i. record { wish = w; game = game; since = since_same (is_idle w game) n old i }
moved_in p n what.Tick w game old = λ i. record { wish = w; game = game; since = since_same (is_idle w game) n old i }
moved_in p n (what.Wave m) w game old = λ i. record { wish = w; game = game; since = since_same (is_idle w game) n old i }

-- what an entry may be that ends a game, or begins one

abbrev is_request : What → Bool
is_request (what.Enter p) = true
is_request (what.Pause p) = true
is_request (what.Leave p) = true
is_request (what.Act p g a) = false
is_request what.Tick = false
is_request (what.Wave n) = false

abbrev pub is_wave : What → Bool
is_wave (what.Enter p) = false
is_wave (what.Pause p) = false
is_wave (what.Leave p) = false
is_wave (what.Act p g a) = false
is_wave what.Tick = false
is_wave (what.Wave n) = true

pub no_event : (g : Begun) (t : ℕ) (w : What) → (is_request w || is_wave w) ≡ true → Rattle.arena_history.specs.Games.event_in g.header t w ≡ None
no_event g t (what.Enter p) on = refl
no_event g t (what.Pause p) on = refl
no_event g t (what.Leave p) on = refl
no_event g t (what.Act p n a) on = cc
no_event g t what.Tick on = cc
no_event g t (what.Wave n) on = refl

-- an entry that is no event of a game does not change how it stands
outcome_quiet : (h : History) (e : Entry) (g : Begun) → g.entry < length h.entries → event_of g.header e ≡ None → outcome_of (with_entry h e) g ≡ outcome_of h g
unfolding outcome_of
outcome_quiet h e g lt none =
    ap (room.outcome g.header) (events-with h e g lt ∙ (ap (λ o. events h g ++ cons_option o []) none ∙ Rattle.std.proofs.lemmas.List.append-nil (events h g)))

none_ended : (h : History) (e : Entry) → ((g : Begun) → event_of g.header e ≡ None) → (gs : List Begun) → AllBelow game_entry (length h.entries) gs → filter_map (ended (with_entry h e)) (filter (goes_on h) gs) ≡ []
none_ended h e quiet [] all = refl
none_ended h e quiet (g ∷ gs) all =
    let rest = none_ended h e quiet gs all.1 in
    ⊎_elim
    (λ (on : goes_on h g ≡ true).
    let runs : outcome_of (with_entry h e) g ≡ None = outcome_quiet h e g all.0 (quiet g) ∙ runs_none (outcome_of h g) on in
    rw on (ap (λ o. cons_option (option_map (λ o. record { game = g; outcome = o }) o) (filter_map (ended (with_entry h e)) (filter (goes_on h) gs))) runs ∙ rest))
    (λ (off : goes_on h g ≡ false). rw off rest)
    (cases_Bool (goes_on h g))
  where
    runs_none : (o : Option Outcome) → is_none o ≡ true → o ≡ None
    runs_none None on = refl
    runs_none (Some o) on = cc

-- an entry that is no event of any game ends none
pub ends_none : (s : Setup) (es : List Entry) (e : Entry) → ((g : Begun) → event_of g.header e ≡ None) → ended_by s (history s es) e ≡ []
unfolding ended_by running
ends_none s es e quiet = none_ended (history s es) e quiet (begun s (history s es)) (begun_own s (history s es) (IsWhole-history s es))

begins_in : (s : Setup) (h : History) (w : What) → is_wave w ≡ false → starts_in s h w ≡ []
begins_in s h (what.Enter p) off = refl
begins_in s h (what.Pause p) off = refl
begins_in s h (what.Leave p) off = refl
begins_in s h (what.Act p g a) off = refl
begins_in s h what.Tick off = refl
begins_in s h (what.Wave n) off = cc

-- only a wave begins games
pub begins_none : (s : Setup) (h : History) (e : Entry) → is_wave e.what ≡ false → starts_by s h e ≡ []
unfolding starts_by
begins_none s h e off = begins_in s h e.what off

wish_in_quiet : (p : ℕ) (w : What) (old : Wish) → is_request w ≡ false → wish_in p w old ≡ old
wish_in_quiet p (what.Enter q) old off = cc
wish_in_quiet p (what.Pause q) old off = cc
wish_in_quiet p (what.Leave q) old off = cc
wish_in_quiet p (what.Act q g a) old off = refl
wish_in_quiet p what.Tick old off = refl
wish_in_quiet p (what.Wave n) old off = refl

place_in_quiet : (n p : ℕ) (w : What) (old : Place) → is_request w ≡ false → place_in n p w old ≡ old
place_in_quiet n p (what.Enter q) old off = cc
place_in_quiet n p (what.Pause q) old off = cc
place_in_quiet n p (what.Leave q) old off = cc
place_in_quiet n p (what.Act q g a) old off = refl
place_in_quiet n p what.Tick old off = refl
place_in_quiet n p (what.Wave m) old off = refl

wave_no_request : (w : What) → is_wave w ≡ true → is_request w ≡ false
wave_no_request (what.Enter p) on = cc
wave_no_request (what.Pause p) on = cc
wave_no_request (what.Leave p) on = cc
wave_no_request (what.Act p g a) on = refl
wave_no_request what.Tick on = refl
wave_no_request (what.Wave n) on = refl

or_left : (a b : Bool) → a ≡ true → (a || b) ≡ true
or_left true b on = refl
or_left false b on = cc

or_right : (a b : Bool) → b ≡ true → (a || b) ≡ true
or_right true b on = refl
or_right false b on = on

module _ (known : PlansPairOnce) (s : Setup) (es : List Entry) (e : Entry) (p : ℕ) where
  abbrev old_history : History
  old_history = history s es

  once : PlaysOnce s (history s es) p
  once = plays_once known s es p

  now_once : sum_by (game_sides p) (running s (history s es)) + sum_by (game_sides p) (new_games s (history s es) e) ≤ 1
  now_once = with_new_once known s es e p once

  plays_from_game : (o : Option Begun) → find (has_player p) (running s (after s (history s es) e)) ≡ o → playing s (after s (history s es) e) p ≡ option_map (λ (g : Begun). g.header.id) o
  unfolding playing
  plays_from_game o is = ap (option_map (λ (g : Begun). g.header.id)) is

  -- an entry that ends a game is an act or a look
  ender : ends_game_of s (history s es) e p ≡ true → (is_request e.what || is_wave e.what) ≡ false
  unfolding ends_game_of
  ender ends =
      ⊎_elim
      (λ (on : (is_request e.what || is_wave e.what) ≡ true).
      let none : ended_by s (history s es) e ≡ [] = ends_none s es e (λ g. no_event g e.stamp e.what on) in
      let never : false ≡ true = sym (ap (λ (l : List EndedGame). list_any (λ (x : EndedGame). has_player p x.game) l) none) ∙ ends in
      cc)
      (λ (off : (is_request e.what || is_wave e.what) ≡ false). off)
      (cases_Bool (is_request e.what || is_wave e.what))

  or_parts : (a b : Bool) → (a || b) ≡ false → (a ≡ false) × (b ≡ false)
  or_parts true b off = cc
  or_parts false true off = cc
  or_parts false false off = (refl, refl)

  placed_freed : ends_game_of s (history s es) e p ≡ true → place s (history s (es ++ e ∷ [])) p ≡ freed (suc (length es)) (no_show s (history s es) e p) (place s (history s es) p)
  unfolding place
  placed_freed ends =
      let h = history s es in
      let kind = or_parts (is_request e.what) (is_wave e.what) (ender ends) in
      let none : starts_by s h e ≡ [] = begins_none s h e kind.1 in
      let new : find (has_player p) (new_games s h e) ≡ None = ap (λ (l : List Start). find (has_player p) (games_from s (h.entries ++ e ∷ []) (length h.starts) l)) none in
      let plays : playing s (after s h e) p ≡ None = plays_from_game None (game_freed s h e (IsWhole-history s es) p once ends ∙ new) in
      let wants : wish s (after s h e) p ≡ wish_freed (no_show s h e p) (wish s h p) = wish-after s h e p (IsWhole-history s es) ∙ ap (wish_freed (no_show s h e p)) (wish_in_quiet p e.what (wish s h p) kind.0) in
      place-push s es e p (wish_freed (no_show s h e p) (wish s h p)) None wants plays

  placed_kept : ends_game_of s (history s es) e p ≡ false → begins_game_of s (history s es) e p ≡ None → place s (history s (es ++ e ∷ [])) p ≡ place_in (suc (length es)) p e.what (place s (history s es) p)
  unfolding place playing
  placed_kept ends begins =
      let h = history s es in
      let new : find (has_player p) (new_games s h e) ≡ None = unmapped (find (has_player p) (new_games s h e)) (begins_is s h e p ∙ begins) in
      let plays : playing s (after s h e) p ≡ playing s h p = ap (option_map (λ (g : Begun). g.header.id)) (game_kept s h e (IsWhole-history s es) p ends new) in
      place-push s es e p (wish_in p e.what (wish s h p)) (playing s h p) (wish_kept s h e p (IsWhole-history s es) ends) plays ∙ moved_in p (suc (length es)) e.what (wish s h p) (playing s h p) (since s h p)
    where
      unmapped : (o : Option Begun) → option_map (λ (g : Begun). g.header.id) o ≡ None → o ≡ None
      unmapped None is = refl
      unmapped (Some g) is = cc

  beginner : (number : ℕ) → begins_game_of s (history s es) e p ≡ Some number → is_wave e.what ≡ true
  unfolding begins_game_of
  beginner number begins =
      ⊎_elim
      (λ (on : is_wave e.what ≡ true). on)
      (λ (off : is_wave e.what ≡ false). let never : None ≡ Some number = sym (ap (game_among p (length (history s es).starts)) (begins_none s (history s es) e off)) ∙ begins in cc)
      (cases_Bool (is_wave e.what))

  placed_seated : (number : ℕ) → ends_game_of s (history s es) e p ≡ false → begins_game_of s (history s es) e p ≡ Some number → place s (history s (es ++ e ∷ [])) p ≡ seated number (place_in (suc (length es)) p e.what (place s (history s es) p))
  unfolding place
  placed_seated number ends begins =
      let h = history s es in
      let quiet = wave_no_request e.what (beginner number begins) in
      let found = mapped (find (has_player p) (new_games s h e)) (begins_is s h e p ∙ begins) in
      let none : find (has_player p) (running s h) ≡ None = plays_none (find (has_player p) (running s h)) refl (found_some p (new_games s h e) found.0 found.1) in
      let plays : playing s (after s h e) p ≡ Some number = plays_from_game (Some found.0) (game_begun s h e (IsWhole-history s es) p none ∙ found.1) ∙ ap Some found.2 in
      let wants : wish s (after s h e) p ≡ wish s h p = wish_kept s h e p (IsWhole-history s es) ends ∙ wish_in_quiet p e.what (wish s h p) quiet in
      place-push s es e p (wish s h p) (Some number) wants plays ∙ ((λ i. record { wish = wish s h p; game = Some number; since = since_not (is_idle (wish s h p) (playing s h p)) (suc (length es)) (since s h p) i }) ∙ ap (seated number) (sym (place_in_quiet (suc (length es)) p e.what (place s h p) quiet)))
    where
      mapped : (o : Option Begun) → option_map (λ (g : Begun). g.header.id) o ≡ Some number → (g : Begun) × (o ≡ Some g) × (g.header.id ≡ number)
      mapped None is = cc
      mapped (Some g) is = (g, refl, (let same : g.header.id ≡ number = cc in same))

      plays_none : (o : Option Begun) → find (has_player p) (running s (history s es)) ≡ o → 1 ≤ sum_by (game_sides p) (new_games s (history s es) e) → find (has_player p) (running s (history s es)) ≡ None
      plays_none None is new = is
      plays_none (Some g) is new = absurd (omega (arith, now_once, new, found_some p (running s (history s es)) g is))

  -- a player's place with one entry more
  pub place_with_one_more : place s (history s (es ++ e ∷ [])) p ≡ place_after s (history s es) e p
  unfolding place_after
  place_with_one_more =
      let h = history s es in
      let long : length h.entries ≡ length es = ap length (entries-history s es) in
      ⊎_elim
      (λ (ends : ends_game_of s h e p ≡ true). rw (ends, long) (placed_freed ends))
      (λ (stays : ends_game_of s h e p ≡ false). rw (stays, long) (by (begins_game_of s h e p) refl stays))
      (cases_Bool (ends_game_of s h e p))
    where
      by : (o : Option ℕ) → begins_game_of s (history s es) e p ≡ o → ends_game_of s (history s es) e p ≡ false → place s (history s (es ++ e ∷ [])) p ≡ seated_if o (place_in (suc (length es)) p e.what (place s (history s es) p))
      by None is stays = placed_kept stays is
      by (Some number) is stays = placed_seated number stays is
