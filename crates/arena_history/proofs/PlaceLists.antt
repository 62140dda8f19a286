-- The places of all players with one entry more, as a body changes them that keeps them in a list.
use Rattle.std.proofs.Common.{◌≡◌, ℕ, zero, suc, ◌+◌, ◌<◌, ◌≤◌, ⊎_elim, List, [], ◌∷◌, ◌++◌, length, Some, None, Bool, true, false, ◌||◌, get_or, replicate, refl, sym, ap, ◌∙◌, arith, length-set, get_or-set_same, get_or-set_other}
use Rattle.std.specs.Prelude.{cond, map, sum_by, ◌==◌, ◌≢◌}
use Rattle.std.specs.List.{list_any}
use Rattle.std.proofs.lemmas.Bool.{cases_Bool, eqb-true, eq-eqb, ne_eqb}
use Rattle.std.proofs.lemmas.List.FromFn.{get_or-map-range_with_len, length-map-range_with_len}
use Rattle.std.proofs.lemmas.List.Sums.{sum_by-cons}
use Rattle.entries.specs.declared.setup.Setup.{Setup}
use Rattle.entries.specs.declared.journal.Entry.{Entry}
use Rattle.entries.specs.declared.journal.Start.{Start}
use Rattle.entries.specs.declared.journal.What.{What}
use Rattle.entries.specs.declared.journal.What.TheVariants as what
use Rattle.seats.specs.Places.{Place, unknown, place_at, with_place, entered, paused, gone, seated, freed}
use Rattle.arena_history.specs.History.{History}
use Rattle.arena_history.specs.Games.{Begun, is_either, has_player, event_in, event_of}
use Rattle.arena_history.specs.Endings.{EndedGame, ended_by}
use Rattle.arena_history.specs.Wishes.{did_not_appear, no_show}
use Rattle.arena_history.specs.Changes.{ends_game_of, game_among, begins_game_of, place_in, seated_if, place_after, both_freed, all_freed, both_seated, all_seated}
use Rattle.arena_history.specs.PlayerLaws.{EndsGames}
use Rattle.arena_history.specs.Since.{place, places}
use Rattle.arena_history.specs.Waves.{starts_in, starts_by, history}
use Rattle.arena_history.proofs.Histories.{entries-history}
use Rattle.arena_history.proofs.Moves.{appears_elsewhere}
use Rattle.arena_history.proofs.Numbered.{start_sides, among_none_left, seen, begins_once}
use Rattle.arena_history.proofs.Placed.{is_wave, ends_none, begins_none, place_with_one_more, place-nothing}
use Rattle.arena_history.proofs.Played.{two_players, ended_sides, missed_none}
use Rattle.arena_history.proofs.Seated.{PlansPairOnce}
use Rattle.arena_history.proofs.Sides.{game_sides, seen_sides, no_sides}

-- lists with the same elements are the same
list_ext : {X : Type 0} (d : X) (xs ys : List X) → length xs ≡ length ys → ((q : ℕ) → q < length xs → get_or xs q d ≡ get_or ys q d) → xs ≡ ys
list_ext d [] [] long same = refl
list_ext d [] (y ∷ ys) long same = absurd (omega (arith, long))
list_ext d (x ∷ xs) [] long same = absurd (omega (arith, long))
list_ext d (x ∷ xs) (y ∷ ys) long same = λ i. same 0 (omega arith) i ∷ list_ext d xs ys (omega (arith, long)) (λ q lt. same (suc q) (omega arith)) i

-- the place of q, once p's has changed
one_changed : (f : Place → Place) (p q : ℕ) (ps : List Place) → q < length ps → place_at (with_place p (f (place_at ps p)) ps) q ≡ cond (p == q) (f (place_at ps q)) (place_at ps q)
one_changed f p q ps lt =
    ⊎_elim
    (λ (here : (p == q) ≡ true).
    let same : p ≡ q = eqb-true p q here in
    rw here (ap (λ r. place_at (with_place r (f (place_at ps r)) ps) q) same ∙ get_or-set_same ps q (f (place_at ps q)) unknown lt))
    (λ (away : (p == q) ≡ false).
    rw away (get_or-set_other ps p q (f (place_at ps p)) unknown (λ same. let never : true ≡ false = sym (eq-eqb p q (sym same)) ∙ away in cc)))
    (cases_Bool (p == q))

-- the place of q, once those of two players have changed
two_changed : (f : ℕ → Place → Place) (a b q : ℕ) (ps : List Place) → a ≢ b → q < length ps → let one = with_place a (f a (place_at ps a)) ps in place_at (with_place b (f b (place_at one b)) one) q ≡ cond (is_either q a b) (f q (place_at ps q)) (place_at ps q)
two_changed f a b q ps two lt =
    let one = with_place a (f a (place_at ps a)) ps in
    let long : length one ≡ length ps = length-set ps a (f a (place_at ps a)) in
    one_changed (f b) b q one (omega (arith, long)) ∙ (
    ⊎_elim
    (λ (black : (b == q) ≡ true).
    let same : b ≡ q = eqb-true b q black in
    let white : (a == q) ≡ false = ne_eqb a q (λ is. two (is ∙ sym same)) in
    rw (black, white) ((λ i. f (same i) (one_changed (f a) a q ps lt i)) ∙ ap (λ c. f q (cond c (f a (place_at ps q)) (place_at ps q))) white))
    (λ (off : (b == q) ≡ false).
    rw off (one_changed (f a) a q ps lt ∙ own (a == q) refl))
    (cases_Bool (b == q))
    )
  where
    own : (c : Bool) → (a == q) ≡ c → cond c (f a (place_at ps q)) (place_at ps q) ≡ cond (c || false) (f q (place_at ps q)) (place_at ps q)
    own true is = ap (λ r. f r (place_at ps q)) (eqb-true a q is)
    own false is = refl

-- freed one game after another

length-both_freed : (n : ℕ) (x : EndedGame) (ps : List Place) → length (both_freed n x ps) ≡ length ps
length-both_freed n x ps =
    length-set (with_place x.game.header.white (freed n (did_not_appear x.game.header.white x) (place_at ps x.game.header.white)) ps) x.game.header.black _ ∙ length-set ps x.game.header.white _

pub length-all_freed : (n : ℕ) (xs : List EndedGame) (ps : List Place) → length (all_freed n xs ps) ≡ length ps
length-all_freed n [] ps = refl
length-all_freed n (x ∷ xs) ps = length-all_freed n xs (both_freed n x ps) ∙ length-both_freed n x ps

-- how many sides somebody has of ended games
abbrev ended_games_sides : ℕ → List EndedGame → ℕ
ended_games_sides p xs = sum_by (game_sides p) (map (λ (y : EndedGame). y.game) xs)

or-false : (b : Bool) → (b || false) ≡ b
or-false true = refl
or-false false = refl

away_all : (q : ℕ) (xs : List EndedGame) → ended_games_sides q xs ≡ 0 → list_any (λ (y : EndedGame). has_player q y.game) xs ≡ false
away_all q [] none = refl
away_all q (x ∷ xs) none =
    let all = no_sides q (x.game ∷ map (λ (z : EndedGame). z.game) xs) none in
    λ i. all.0 i || away_all q xs (omega (arith, none, sum_by-cons (game_sides q) x.game (map (λ (z : EndedGame). z.game) xs))) i

freed_at : (n q : ℕ) (xs : List EndedGame) (ps : List Place) → ((p : ℕ) → ended_games_sides p xs ≤ 1) → q < length ps → place_at (all_freed n xs ps) q ≡ cond (list_any (λ (y : EndedGame). has_player q y.game) xs) (freed n (list_any (did_not_appear q) xs) (place_at ps q)) (place_at ps q)
freed_at n q [] ps once lt = refl
freed_at n q (x ∷ xs) ps once lt =
    let two = two_players x.game (λ p. omega (arith, once p, sum_by-cons (game_sides p) x.game (map (λ (z : EndedGame). z.game) xs))) in
    let here = two_changed (λ p. freed n (did_not_appear p x)) x.game.header.white x.game.header.black q ps two lt in
    freed_at n q xs (both_freed n x ps) (λ p. omega (arith, once p, sum_by-cons (game_sides p) x.game (map (λ (z : EndedGame). z.game) xs))) (omega (arith, length-both_freed n x ps)) ∙ (
    ⊎_elim
    (λ (on : has_player q x.game ≡ true).
    let none : ended_games_sides q xs ≡ 0 = omega (arith, once q, sum_by-cons (game_sides q) x.game (map (λ (z : EndedGame). z.game) xs), seen_sides q x.game on) in
    ap (λ b. cond b (freed n (list_any (did_not_appear q) xs) (place_at (both_freed n x ps) q)) (place_at (both_freed n x ps) q)) (away_all q xs none) ∙ (
    here ∙ (ap (λ b. cond b (freed n (did_not_appear q x) (place_at ps q)) (place_at ps q)) on ∙ sym ((λ i. cond (on i || list_any (λ (y : EndedGame). has_player q y.game) xs) (freed n (did_not_appear q x || missed_none q xs none i) (place_at ps q)) (place_at ps q)) ∙ ap (λ b. freed n b (place_at ps q)) (or-false (did_not_appear q x))))
    ))
    (λ (off : has_player q x.game ≡ false).
    let same : place_at (both_freed n x ps) q ≡ place_at ps q = here ∙ ap (λ b. cond b (freed n (did_not_appear q x) (place_at ps q)) (place_at ps q)) off in
    (λ i. cond (list_any (λ (y : EndedGame). has_player q y.game) xs) (freed n (list_any (did_not_appear q) xs) (same i)) (same i)) ∙ sym (λ i. cond (off i || list_any (λ (y : EndedGame). has_player q y.game) xs) (freed n (appears_elsewhere q x off i || list_any (did_not_appear q) xs) (place_at ps q)) (place_at ps q)))
    (cases_Bool (has_player q x.game))
    )

-- seated one game after another

length-both_seated : (number : ℕ) (x : Start) (ps : List Place) → length (both_seated number x.white x.black ps) ≡ length ps
length-both_seated number x ps = length-set (with_place x.white (seated number (place_at ps x.white)) ps) x.black _ ∙ length-set ps x.white _

pub length-all_seated : (number : ℕ) (xs : List Start) (ps : List Place) → length (all_seated number xs ps) ≡ length ps
length-all_seated number [] ps = refl
length-all_seated number (x ∷ xs) ps = length-all_seated (suc number) xs (both_seated number x.white x.black ps) ∙ length-both_seated number x ps

two_starters : (x : Start) → ((p : ℕ) → start_sides p x ≤ 1) → x.white ≢ x.black
two_starters x once same =
    let w = x.white in
    let two : ◌≡◌ {A = ℕ} (start_sides w x) 2 = λ i. cond (eq-eqb w w refl i) 1 0 + cond (eq-eqb x.black w (sym same) i) 1 0 in
    absurd (omega (arith, once w, two))

seated_at_each : (q number : ℕ) (xs : List Start) (ps : List Place) → ((p : ℕ) → sum_by (start_sides p) xs ≤ 1) → q < length ps → place_at (all_seated number xs ps) q ≡ seated_if (game_among q number xs) (place_at ps q)
seated_at_each q number [] ps once lt = refl
seated_at_each q number (x ∷ xs) ps once lt =
    let two = two_starters x (λ p. omega (arith, once p, sum_by-cons (start_sides p) x xs)) in
    let here = two_changed (λ p. seated number) x.white x.black q ps two lt in
    seated_at_each q (suc number) xs (both_seated number x.white x.black ps) (λ p. omega (arith, once p, sum_by-cons (start_sides p) x xs)) (omega (arith, length-both_seated number x ps)) ∙ (
    ⊎_elim
    (λ (on : is_either q x.white x.black ≡ true).
    let none : game_among q (suc number) xs ≡ None = among_none_left q (suc number) xs (omega (arith, once q, sum_by-cons (start_sides q) x xs, seen q x on)) in
    (λ i. seated_if (none i) (here i)) ∙ ((λ i. cond (on i) (seated number (place_at ps q)) (place_at ps q)) ∙ sym (ap (λ b. seated_if (cond b (Some number) (game_among q (suc number) xs)) (place_at ps q)) on)))
    (λ (off : is_either q x.white x.black ≡ false).
    ap (seated_if (game_among q (suc number) xs)) (here ∙ ap (λ b. cond b (seated number (place_at ps q)) (place_at ps q)) off) ∙ sym (ap (λ b. seated_if (cond b (Some number) (game_among q (suc number) xs)) (place_at ps q)) off))
    (cases_Bool (is_either q x.white x.black))
    )

-- the places of a history

pub length-places : (s : Setup) (h : History) → length (places s h) ≡ length s.players
unfolding places
length-places s h = length-map-range_with_len (place s h) 0 (length s.players)

pub place_at-places : (s : Setup) (h : History) (p : ℕ) → p < length s.players → place_at (places s h) p ≡ place s h p
unfolding places
place_at-places s h p lt = get_or-map-range_with_len (place s h) 0 (length s.players) p p unknown lt (omega arith)

pub places-nothing : (s : Setup) → places s (history s []) ≡ replicate (length s.players) unknown
places-nothing s =
    list_ext unknown (places s (history s [])) (replicate (length s.players) unknown) (length-places s (history s []) ∙ sym (long (length s.players)))
    (λ q lt. place_at-places s (history s []) q (omega (arith, lt, length-places s (history s []))) ∙ (place-nothing s q ∙ sym (same q (length s.players) (omega (arith, lt, length-places s (history s []))))))
  where
    long : (n : ℕ) → length (replicate n unknown) ≡ n
    long zero = refl
    long (suc n) = ap suc (long n)

    same : (q n : ℕ) → q < n → get_or (replicate n unknown) q unknown ≡ unknown
    same q zero lt = absurd (omega arith)
    same zero (suc n) lt = refl
    same (suc q) (suc n) lt = same q n (omega arith)

module _ (known : PlansPairOnce) (s : Setup) (es : List Entry) (e : Entry) where
  abbrev old_places : List Place
  old_places = places s (history s es)

  -- places that agree with what each player's place becomes are those with one entry more
  places_from : (ps : List Place) → length ps ≡ length (places s (history s es)) → ((q : ℕ) → q < length s.players → place_at ps q ≡ place_after s (history s es) e q) → places s (history s (es ++ e ∷ [])) ≡ ps
  places_from ps long each =
      let new = history s (es ++ e ∷ []) in
      list_ext unknown (places s new) ps (length-places s new ∙ sym (long ∙ length-places s (history s es)))
      (λ q lt. let within : q < length s.players = omega (arith, lt, length-places s new) in place_at-places s new q within ∙ (place_with_one_more known s es e q ∙ sym (each q within)))

  long_entries : length (history s es).entries ≡ length es
  long_entries = ap length (entries-history s es)

  quiet_ends : (q : ℕ) → ((g : Begun) → event_of g.header e ≡ None) → ends_game_of s (history s es) e q ≡ false
  unfolding ends_game_of
  quiet_ends q quiet = ap (list_any (λ (x : EndedGame). has_player q x.game)) (ends_none s es e quiet)

  quiet_begins : (q : ℕ) → starts_by s (history s es) e ≡ [] → begins_game_of s (history s es) e q ≡ None
  unfolding begins_game_of
  quiet_begins q none = ap (game_among q (length (history s es).starts)) none

  -- his own enter, pause or leave changes the place of a player alone
  asked_places : (p : ℕ) (f : Place → Place) → ((g : Begun) → event_of g.header e ≡ None) → starts_by s (history s es) e ≡ [] → ((q : ℕ) (old : Place) → place_in (suc (length es)) q e.what old ≡ cond (p == q) (f old) old) → places s (history s (es ++ e ∷ [])) ≡ with_place p (f (place_at (places s (history s es)) p)) (places s (history s es))
  unfolding place_after
  asked_places p f quiet none own =
      let h = history s es in
      places_from (with_place p (f (place_at (places s h) p)) (places s h)) (length-set (places s h) p (f (place_at (places s h) p)))
      (λ q lt.
      one_changed f p q (places s h) (omega (arith, lt, length-places s h)) ∙ (
      ap (λ x. cond (p == q) (f x) x) (place_at-places s h q lt) ∙ (
      sym (own q (place s h q)) ∙ (ap (λ n. place_in (suc n) q e.what (place s h q)) (sym long_entries) ∙ sym (rw (quiet_ends q quiet, quiet_begins q none) refl))
      )
      ))

  -- an act or a look frees the players of the games that it ends, one game after another
  pub freed_places : EndsGames e.what → places s (history s (es ++ e ∷ [])) ≡ all_freed (suc (length es)) (ended_by s (history s es) e) (places s (history s es))
  unfolding place_after ends_game_of no_show
  freed_places kind =
      let h = history s es in
      let xs = ended_by s h e in
      places_from (all_freed (suc (length es)) xs (places s h)) (length-all_freed (suc (length es)) xs (places s h))
      (λ q lt.
      freed_at (suc (length es)) q xs (places s h) (λ p. ended_sides known s es e p) (omega (arith, lt, length-places s h)) ∙ (
      ap (λ x. cond (list_any (λ (y : EndedGame). has_player q y.game) xs) (freed (suc (length es)) (list_any (did_not_appear q) xs) x) x) (place_at-places s h q lt) ∙ (
      (λ i. cond (list_any (λ (y : EndedGame). has_player q y.game) xs) (freed (suc (sym long_entries i)) (list_any (did_not_appear q) xs) (place s h q)) (seated_if (sym (quiet_begins q (begins_none s h e (no_wave e.what kind))) i) (sym (no_request (suc (length h.entries)) q e.what (place s h q) kind) i)))
      )
      ))
    where
      no_wave : (w : What) → EndsGames w → is_wave w ≡ false
      no_wave (what.Act p g a) kind = refl
      no_wave what.Tick kind = refl
      no_wave (what.Enter p) kind = absurd kind
      no_wave (what.Pause p) kind = absurd kind
      no_wave (what.Leave p) kind = absurd kind
      no_wave (what.Wave n) kind = absurd kind

      no_request : (n q : ℕ) (w : What) (old : Place) → EndsGames w → place_in n q w old ≡ old
      no_request n q (what.Act p g a) old kind = refl
      no_request n q what.Tick old kind = refl
      no_request n q (what.Enter p) old kind = absurd kind
      no_request n q (what.Pause p) old kind = absurd kind
      no_request n q (what.Leave p) old kind = absurd kind
      no_request n q (what.Wave m) old kind = absurd kind

  -- a wave seats the players of the games that it begins, one game after another
  pub seated_places : (m : ℕ) → e.what ≡ what.Wave m → places s (history s (es ++ e ∷ [])) ≡ all_seated (length (history s es).starts) (starts_by s (history s es) e) (places s (history s es))
  unfolding place_after begins_game_of
  seated_places m is =
      let h = history s es in
      let xs = starts_by s h e in
      places_from (all_seated (length h.starts) xs (places s h)) (length-all_seated (length h.starts) xs (places s h))
      (λ q lt.
      seated_at_each q (length h.starts) xs (places s h) (λ p. begins_once known s es e p) (omega (arith, lt, length-places s h)) ∙ (
      ap (seated_if (game_among q (length h.starts) xs)) (place_at-places s h q lt ∙ sym (ap (λ w. place_in (suc (length h.entries)) q w (place s h q)) is)) ∙ sym (ap (λ b. cond b (freed (suc (length h.entries)) (no_show s h e q) (place s h q)) (seated_if (game_among q (length h.starts) xs) (place_in (suc (length h.entries)) q e.what (place s h q)))) (quiet_ends q (λ g. ap (event_in g.header e.stamp) is)))
      ))

  pub entered_places : (p : ℕ) → e.what ≡ what.Enter p → places s (history s (es ++ e ∷ [])) ≡ with_place p (entered (suc (length es)) (place_at (places s (history s es)) p)) (places s (history s es))
  unfolding starts_by
  entered_places p is = asked_places p (entered (suc (length es))) (λ g. ap (event_in g.header e.stamp) is) (ap (starts_in s (history s es)) is) (λ q old. ap (λ w. place_in (suc (length es)) q w old) is)

  pub paused_places : (p : ℕ) → e.what ≡ what.Pause p → places s (history s (es ++ e ∷ [])) ≡ with_place p (paused (place_at (places s (history s es)) p)) (places s (history s es))
  unfolding starts_by
  paused_places p is = asked_places p paused (λ g. ap (event_in g.header e.stamp) is) (ap (starts_in s (history s es)) is) (λ q old. ap (λ w. place_in (suc (length es)) q w old) is)

  pub left_places : (p : ℕ) → e.what ≡ what.Leave p → places s (history s (es ++ e ∷ [])) ≡ with_place p (gone (place_at (places s (history s es)) p)) (places s (history s es))
  unfolding starts_by
  left_places p is = asked_places p gone (λ g. ap (event_in g.header e.stamp) is) (ap (starts_in s (history s es)) is) (λ q old. ap (λ w. place_in (suc (length es)) q w old) is)
