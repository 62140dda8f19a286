-- The numbers of the running games, who plays which, and which game a wave begins for whom.
use Rattle.std.proofs.Common.{◌≡◌, ℕ, zero, suc, ◌+◌, ◌<◌, ◌≤◌, ⊎_elim, List, [], ◌∷◌, ◌++◌, length, Option, Some, None, Bool, true, false, ◌||◌, refl, sym, ap, ◌∙◌, subst, arith}
use Rattle.std.specs.Prelude.{cond, filter, slice_get, is_none, sum_by, ◌==◌}
use Rattle.std.specs.List.{AllByRecursion, AllPairs, find}
use Rattle.std.specs.Option.{option_map}
use Rattle.std.proofs.lemmas.Bool.{cases_Bool}
use Rattle.std.proofs.lemmas.List.Sums.{sum_by-cons}
use Rattle.entries.specs.declared.setup.Setup.{Setup}
use Rattle.entries.specs.declared.journal.Entry.{Entry}
use Rattle.entries.specs.declared.journal.Start.{Start}
use Rattle.game_room.specs.declared.outcome.Outcome.{Outcome}
use Rattle.arena_history.specs.History.{History}
use Rattle.arena_history.specs.Games.{Begun, is_either, has_player, game_of, games_from, outcome_of, goes_on, begun, running, playing}
use Rattle.arena_history.specs.Changes.{game_among, begins_game_of}
use Rattle.arena_history.specs.GameLaws.{IsRunningGame}
use Rattle.arena_history.specs.Waves.{starts_by, history}
use Rattle.arena_history.proofs.Counted.{begun_placed, numbers_above}
use Rattle.arena_history.proofs.Following.{Follows, pairs_follow, follows_filter}
use Rattle.arena_history.proofs.Lists.{all_weaker}
use Rattle.arena_history.proofs.Seated.{PlansPairOnce, with_new_once, plays_once}
use Rattle.arena_history.proofs.Sides.{sides, game_sides}

-- the games rise in number
games_rise : (s : Setup) (es : List Entry) (k : ℕ) (xs : List Start) → Follows (λ (a b : Begun). a.header.id < b.header.id) (games_from s es k xs)
games_rise s es k [] = tt
games_rise s es k (x ∷ xs) = (all_weaker (λ (g : Begun). suc k ≤ g.header.id) (λ (g : Begun). k < g.header.id) (games_from s es (suc k) xs) (λ g le. omega (arith, le)) (numbers_above s es (suc k) (suc k) xs (omega arith)), games_rise s es (suc k) xs)

pub running_rise : (s : Setup) (h : History) → AllPairs (λ (a b : Begun). a.header.id < b.header.id) (running s h)
unfolding running begun
running_rise s h =
    pairs_follow (λ (a b : Begun). a.header.id < b.header.id) (filter (goes_on h) (games_from s h.entries 0 h.starts)) (follows_filter (λ (a b : Begun). a.header.id < b.header.id) (goes_on h) (games_from s h.entries 0 h.starts) (games_rise s h.entries 0 h.starts))

runs_none : (o : Option Outcome) → is_none o ≡ true → o ≡ None
runs_none None on = refl
runs_none (Some o) on = cc

running_each : (s : Setup) (h : History) (gs : List Begun) → AllByRecursion (λ (g : Begun). slice_get (begun s h) g.header.id ≡ Some g) gs → AllByRecursion (IsRunningGame s h) (filter (goes_on h) gs)
running_each s h [] all = tt
running_each s h (g ∷ gs) all =
    let rest = running_each s h gs all.1 in
    ⊎_elim
    (λ (on : goes_on h g ≡ true). rw on (record { begun = all.0; goes_on = runs_none (outcome_of h g) on }, rest))
    (λ (off : goes_on h g ≡ false). rw off rest)
    (cases_Bool (goes_on h g))

-- a running game is one that was begun and that has not ended
pub running_are : (s : Setup) (h : History) → AllByRecursion (IsRunningGame s h) (running s h)
unfolding running
running_are s h = running_each s h (begun s h) (begun_placed s h)

-- the game that somebody plays

found_all : (P : Begun → Type 0) (q : Begun → Bool) (gs : List Begun) (g : Begun) → find q gs ≡ Some g → AllByRecursion P gs → P g × (q g ≡ true)
found_all P q [] g at all = cc
found_all P q (x ∷ gs) g at all =
    ⊎_elim
    (λ (on : q x ≡ true). let same : Some x ≡ Some g = ap (λ b. cond b (Some x) (find q gs)) (sym on) ∙ at in let is : x ≡ g = cc in (subst P is all.0, ap q (sym is) ∙ on))
    (λ (off : q x ≡ false). found_all P q gs g (ap (λ b. cond b (Some x) (find q gs)) (sym off) ∙ at) all.1)
    (cases_Bool (q x))

pub plays_running : (s : Setup) (h : History) (p number : ℕ) → playing s h p ≡ Some number → (g : Begun) × (g.header.id ≡ number) × IsRunningGame s h g × (has_player p g ≡ true)
unfolding playing
plays_running s h p number is = by (find (has_player p) (running s h)) refl is
  where
    by : (o : Option Begun) → find (has_player p) (running s h) ≡ o → option_map (λ (g : Begun). g.header.id) o ≡ Some number → (g : Begun) × (g.header.id ≡ number) × IsRunningGame s h g × (has_player p g ≡ true)
    by None at none = cc
    by (Some g) at some = let found = found_all (IsRunningGame s h) (has_player p) (running s h) g at (running_are s h) in let id : g.header.id ≡ number = cc in (g, id, found.0, found.1)

-- which game a wave begins for whom

abbrev pub start_sides : ℕ → Start → ℕ
start_sides p x = sides p x.white x.black

games_sides : (s : Setup) (es : List Entry) (p k : ℕ) (xs : List Start) → sum_by (game_sides p) (games_from s es k xs) ≡ sum_by (start_sides p) xs
games_sides s es p k [] = refl
games_sides s es p k (x ∷ xs) =
    sum_by-cons (game_sides p) (game_of s es k x) (games_from s es (suc k) xs) ∙ (ap (λ n. sides p x.white x.black + n) (games_sides s es p (suc k) xs) ∙ sym (sum_by-cons (start_sides p) x xs))

pub seen : (p : ℕ) (x : Start) → is_either p x.white x.black ≡ true → 1 ≤ start_sides p x
seen p x on = by (x.white == p) (x.black == p) on
  where
    by : (a b : Bool) → (a || b) ≡ true → 1 ≤ cond a 1 0 + cond b 1 0
    by true true on = omega arith
    by true false on = omega arith
    by false true on = omega arith
    by false false on = cc

seen_at : (p i : ℕ) (xs : List Start) (x : Start) → slice_get xs i ≡ Some x → is_either p x.white x.black ≡ true → 1 ≤ sum_by (start_sides p) xs
seen_at p i [] x at on = cc
seen_at p zero (y ∷ xs) x at on = let same : y ≡ x = cc in omega (arith, sum_by-cons (start_sides p) y xs, seen p y (ap (λ (z : Start). is_either p z.white z.black) same ∙ on))
seen_at p (suc i) (y ∷ xs) x at on = omega (arith, sum_by-cons (start_sides p) y xs, seen_at p i xs x at on)

among_at : (p k i : ℕ) (xs : List Start) (x : Start) → sum_by (start_sides p) xs ≤ 1 → slice_get xs i ≡ Some x → is_either p x.white x.black ≡ true → game_among p k xs ≡ Some (k + i)
among_at p k i [] x once at on = cc
among_at p k zero (y ∷ xs) x once at on =
    let same : y ≡ x = cc in
    let here : is_either p y.white y.black ≡ true = ap (λ (z : Start). is_either p z.white z.black) same ∙ on in
    rw here (ap Some (let n : k ≡ k + 0 = omega arith in n))
among_at p k (suc i) (y ∷ xs) x once at on =
    ⊎_elim
    (λ (here : is_either p y.white y.black ≡ true). absurd (omega (arith, once, sum_by-cons (start_sides p) y xs, seen p y here, seen_at p i xs x at on)))
    (λ (away : is_either p y.white y.black ≡ false). rw away (among_at p (suc k) i xs x (omega (arith, once, sum_by-cons (start_sides p) y xs)) at on ∙ ap Some (let n : suc k + i ≡ k + suc i = omega arith in n)))
    (cases_Bool (is_either p y.white y.black))

among_none : (p k : ℕ) (xs : List Start) → ((i : ℕ) (x : Start) → slice_get xs i ≡ Some x → is_either p x.white x.black ≡ false) → game_among p k xs ≡ None
among_none p k [] none = refl
among_none p k (y ∷ xs) none = rw (none 0 y refl) (among_none p (suc k) xs (λ i x at. none (suc i) x at))

-- a player has one side at most of the games that an entry begins
pub begins_once : (known : PlansPairOnce) (s : Setup) (es : List Entry) (e : Entry) (p : ℕ) → sum_by (start_sides p) (starts_by s (history s es) e) ≤ 1
begins_once known s es e p =
    let h = history s es in
    omega (arith, with_new_once known s es e p (plays_once known s es p), games_sides s (h.entries ++ e ∷ []) p (length h.starts) (starts_by s h e))

-- who has no side of games plays none of them
pub among_none_left : (p k : ℕ) (xs : List Start) → sum_by (start_sides p) xs ≡ 0 → game_among p k xs ≡ None
among_none_left p k [] none = refl
among_none_left p k (x ∷ xs) none =
    ⊎_elim
    (λ (on : is_either p x.white x.black ≡ true). absurd (omega (arith, none, sum_by-cons (start_sides p) x xs, seen p x on)))
    (λ (off : is_either p x.white x.black ≡ false). rw off (among_none_left p (suc k) xs (omega (arith, none, sum_by-cons (start_sides p) x xs))))
    (cases_Bool (is_either p x.white x.black))

pub begins_at : (known : PlansPairOnce) (s : Setup) (es : List Entry) (e : Entry) (p i : ℕ) (x : Start) → slice_get (starts_by s (history s es) e) i ≡ Some x → is_either p x.white x.black ≡ true → begins_game_of s (history s es) e p ≡ Some (length (history s es).starts + i)
unfolding begins_game_of
begins_at known s es e p i x at on =
    let h = history s es in
    among_at p (length h.starts) i (starts_by s h e) x (begins_once known s es e p) at on

pub begins_nothing : (s : Setup) (h : History) (e : Entry) (p : ℕ) → ((i : ℕ) (x : Start) → slice_get (starts_by s h e) i ≡ Some x → is_either p x.white x.black ≡ false) → begins_game_of s h e p ≡ None
unfolding begins_game_of
begins_nothing s h e p none = among_none p (length h.starts) (starts_by s h e) none
