-- Who plays the running games, and whose games an entry ends.
use Rattle.std.proofs.Common.{◌≡◌, ℕ, zero, suc, ◌+◌, ◌≤◌, ⊎_elim, List, [], ◌∷◌, Some, Bool, true, false, ◌||◌, refl, sym, ap, ◌∙◌, arith}
use Rattle.std.specs.Prelude.{cond, map, not, sum_by, slice_get, ◌==◌, ◌≢◌}
use Rattle.std.specs.List.{AllByRecursion, AllPairs, find, list_any}
use Rattle.std.specs.Option.{option_map}
use Rattle.std.proofs.lemmas.Bool.{cases_Bool, eq-eqb}
use Rattle.std.proofs.lemmas.List.Sums.{sum_by-cons}
use Rattle.entries.specs.declared.setup.Setup.{Setup}
use Rattle.entries.specs.declared.journal.Entry.{Entry}
use Rattle.seats.specs.declared.wish.PlayerSeat.TheVariants as seats
use Rattle.seats.specs.Places.{seat_of}
use Rattle.arena_history.specs.History.{History, with_entry}
use Rattle.arena_history.specs.Games.{Begun, has_player, goes_on, running, playing}
use Rattle.arena_history.specs.Endings.{EndedGame, ended_by}
use Rattle.arena_history.specs.Wishes.{did_not_appear, no_show, wish}
use Rattle.arena_history.specs.Stands.{seat}
use Rattle.arena_history.specs.PlayerLaws.{IsPlayed}
use Rattle.arena_history.specs.Waves.{history}
use Rattle.arena_history.proofs.Ended.{ended_games}
use Rattle.arena_history.proofs.Following.{Follows, pairs_follow}
use Rattle.arena_history.proofs.Lists.{all_weaker}
use Rattle.arena_history.proofs.Moves.{PlaysOnce, appears_elsewhere}
use Rattle.arena_history.proofs.Seated.{PlansPairOnce, plays_once}
use Rattle.arena_history.proofs.Sides.{sides, game_sides, seen_sides, no_sides, sum_filter_le}

-- a game at some place counts
at_sides : (p i : ℕ) (gs : List Begun) (g : Begun) → slice_get gs i ≡ Some g → has_player p g ≡ true → 1 ≤ sum_by (game_sides p) gs
at_sides p i [] g at on = cc
at_sides p zero (x ∷ gs) g at on = let same : x ≡ g = cc in omega (arith, sum_by-cons (game_sides p) x gs, seen_sides p x (ap (has_player p) same ∙ on))
at_sides p (suc i) (x ∷ gs) g at on = omega (arith, sum_by-cons (game_sides p) x gs, at_sides p i gs g at on)

one_place : (p i j : ℕ) (gs : List Begun) (g k : Begun) → sum_by (game_sides p) gs ≤ 1 → slice_get gs i ≡ Some g → slice_get gs j ≡ Some k → has_player p g ≡ true → has_player p k ≡ true → i ≡ j
one_place p i j [] g k once at at' on on' = cc
one_place p zero zero (x ∷ gs) g k once at at' on on' = refl
one_place p zero (suc j) (x ∷ gs) g k once at at' on on' =
    let same : x ≡ g = cc in
    absurd (omega (arith, once, sum_by-cons (game_sides p) x gs, seen_sides p x (ap (has_player p) same ∙ on), at_sides p j gs k at' on'))
one_place p (suc i) zero (x ∷ gs) g k once at at' on on' =
    let same : x ≡ k = cc in
    absurd (omega (arith, once, sum_by-cons (game_sides p) x gs, seen_sides p x (ap (has_player p) same ∙ on'), at_sides p i gs g at on))
one_place p (suc i) (suc j) (x ∷ gs) g k once at at' on on' = ap suc (one_place p i j gs g k (omega (arith, once, sum_by-cons (game_sides p) x gs)) at at' on on')

-- who sits where

find_own : (p : ℕ) (gs : List Begun) → sum_by (game_sides p) gs ≤ 1 → AllByRecursion (λ g. has_player p g ≡ true → find (has_player p) gs ≡ Some g) gs
find_own p [] once = tt
find_own p (x ∷ gs) once =
    let split = sum_by-cons (game_sides p) x gs in
    ⊎_elim
    (λ (here : has_player p x ≡ true).
    let none : sum_by (game_sides p) gs ≡ 0 = omega (arith, once, split, seen_sides p x here) in
    ((λ on. ap (λ b. cond b (Some x) (find (has_player p) gs)) here), all_weaker (λ g. has_player p g ≡ false) (λ g. has_player p g ≡ true → cond (has_player p x) (Some x) (find (has_player p) gs) ≡ Some g) gs (λ g away on. let never : true ≡ false = sym on ∙ away in cc) (no_sides p gs none)))
    (λ (away : has_player p x ≡ false).
    let rest : sum_by (game_sides p) gs ≤ 1 = omega (arith, once, split) in
    ((λ on. let never : true ≡ false = sym on ∙ away in cc), all_weaker (λ g. has_player p g ≡ true → find (has_player p) gs ≡ Some g) (λ g. has_player p g ≡ true → cond (has_player p x) (Some x) (find (has_player p) gs) ≡ Some g) gs (λ g is on. ap (λ b. cond b (Some x) (find (has_player p) gs)) away ∙ is on) (find_own p gs rest)))
    (cases_Bool (has_player p x))

or-true : (b : Bool) → (b || true) ≡ true
or-true true = refl
or-true false = refl

seat_playing : (s : Setup) (h : History) (p : ℕ) (g : Begun) → find (has_player p) (running s h) ≡ Some g → seat s h p ≡ seats.Playing g.header.id
unfolding seat playing
seat_playing s h p g at = ap (λ o. seat_of (wish s h p) (option_map (λ (x : Begun). x.header.id) o)) at

pub two_players : (g : Begun) → ((p : ℕ) → game_sides p g ≤ 1) → g.header.white ≢ g.header.black
two_players g once same =
    let w = g.header.white in
    let two : ◌≡◌ {A = ℕ} (sides w w g.header.black) 2 = λ i. cond (eq-eqb w w refl i) 1 0 + cond (eq-eqb g.header.black w (sym same) i) 1 0 in
    absurd (omega (arith, once w, two))

played_each : (s : Setup) (h : History) (gs xs : List Begun) → ((p : ℕ) → sum_by (game_sides p) xs ≤ 1) → ((p : ℕ) → AllByRecursion (λ g. has_player p g ≡ true → find (has_player p) gs ≡ Some g) xs) → gs ≡ running s h → AllByRecursion (IsPlayed s h) xs
played_each s h gs [] once own is = tt
played_each s h gs (x ∷ xs) once own is = (
  record {
    two = two_players x (λ p. omega (arith, once p, sum_by-cons (game_sides p) x xs));
    white = seat_playing s h x.header.white x (ap (find (has_player x.header.white)) (sym is) ∙ (own x.header.white).0 (ap (λ b. b || (x.header.black == x.header.white)) (eq-eqb x.header.white x.header.white refl)));
    black = seat_playing s h x.header.black x (ap (find (has_player x.header.black)) (sym is) ∙ (own x.header.black).0 (ap (λ b. (x.header.white == x.header.black) || b) (eq-eqb x.header.black x.header.black refl) ∙ or-true (x.header.white == x.header.black)));
  },
  played_each s h gs xs (λ p. omega (arith, once p, sum_by-cons (game_sides p) x xs)) (λ p. (own p).1) is,
)

module _ (known : PlansPairOnce) (s : Setup) (es : List Entry) where
  once : (p : ℕ) → PlaysOnce s (history s es) p
  once p = plays_once known s es p

  -- a player is in at most one running game
  pub at_most_one : (i j p : ℕ) (g k : Begun) → slice_get (running s (history s es)) i ≡ Some g → slice_get (running s (history s es)) j ≡ Some k → has_player p g ≡ true → has_player p k ≡ true → i ≡ j
  at_most_one i j p g k at at' on on' = one_place p i j (running s (history s es)) g k (once p) at at' on on'

  -- both players of a running game sit in it
  pub all_played : AllByRecursion (IsPlayed s (history s es)) (running s (history s es))
  all_played = played_each s (history s es) (running s (history s es)) (running s (history s es)) once (λ p. find_own p (running s (history s es)) (once p)) refl

  -- no two of the games that an entry ends have a player in common

  pub ended_sides : (e : Entry) (p : ℕ) → sum_by (game_sides p) (map (λ (x : EndedGame). x.game) (ended_by s (history s es) e)) ≤ 1
  ended_sides e p =
      omega (arith, once p, ap (sum_by (game_sides p)) (ended_games s (history s es) e), sum_filter_le (game_sides p) (λ g. not (goes_on (with_entry (history s es) e) g)) (running s (history s es)))

-- two ended games have no player in common
abbrev pub AreOfOthers : EndedGame → EndedGame → Type 0
AreOfOthers x y = (p : ℕ) → has_player p x.game ≡ true → has_player p y.game ≡ false

others_each : (x : EndedGame) (xs : List EndedGame) → ((p : ℕ) → has_player p x.game ≡ true → sum_by (game_sides p) (map (λ (y : EndedGame). y.game) xs) ≡ 0) → AllByRecursion (AreOfOthers x) xs
others_each x [] none = tt
others_each x (y ∷ xs) none = (
  (λ p on. (no_sides p (y.game ∷ map (λ (z : EndedGame). z.game) xs) (none p on)).0),
  others_each x xs (λ p on. omega (arith, none p on, sum_by-cons (game_sides p) y.game (map (λ (z : EndedGame). z.game) xs))),
)

follow_others : (xs : List EndedGame) → ((p : ℕ) → sum_by (game_sides p) (map (λ (y : EndedGame). y.game) xs) ≤ 1) → Follows AreOfOthers xs
follow_others [] once = tt
follow_others (x ∷ xs) once = (
  others_each x xs (λ p on. omega (arith, once p, sum_by-cons (game_sides p) x.game (map (λ (z : EndedGame). z.game) xs), seen_sides p x.game on)),
  follow_others xs (λ p. omega (arith, once p, sum_by-cons (game_sides p) x.game (map (λ (z : EndedGame). z.game) xs))),
)

pub ended_apart : (known : PlansPairOnce) (s : Setup) (es : List Entry) (e : Entry) → AllPairs AreOfOthers (ended_by s (history s es) e)
ended_apart known s es e = pairs_follow AreOfOthers (ended_by s (history s es) e) (follow_others (ended_by s (history s es) e) (ended_sides known s es e))

-- whether somebody did not appear is told by his game alone

pub missed_none : (p : ℕ) (xs : List EndedGame) → sum_by (game_sides p) (map (λ (y : EndedGame). y.game) xs) ≡ 0 → list_any (did_not_appear p) xs ≡ false
missed_none p [] none = refl
missed_none p (x ∷ xs) none =
    let all = no_sides p (x.game ∷ map (λ (z : EndedGame). z.game) xs) none in
    λ i. appears_elsewhere p x all.0 i || missed_none p xs (omega (arith, none, sum_by-cons (game_sides p) x.game (map (λ (z : EndedGame). z.game) xs))) i

missed_one : (p i : ℕ) (xs : List EndedGame) (x : EndedGame) → sum_by (game_sides p) (map (λ (y : EndedGame). y.game) xs) ≤ 1 → slice_get xs i ≡ Some x → has_player p x.game ≡ true → list_any (did_not_appear p) xs ≡ did_not_appear p x
missed_one p i [] x once at on = cc
missed_one p zero (y ∷ xs) x once at on =
    let same : y ≡ x = cc in
    let rest : sum_by (game_sides p) (map (λ (z : EndedGame). z.game) xs) ≡ 0 = omega (arith, once, sum_by-cons (game_sides p) y.game (map (λ (z : EndedGame). z.game) xs), seen_sides p y.game (ap (λ (z : EndedGame). has_player p z.game) same ∙ on)) in
    ap (λ b. did_not_appear p y || b) (missed_none p xs rest) ∙ (or-false (did_not_appear p y) ∙ ap (did_not_appear p) same)
  where
    or-false : (b : Bool) → (b || false) ≡ b
    or-false true = refl
    or-false false = refl
missed_one p (suc i) (y ∷ xs) x once at on =
    let later : 1 ≤ sum_by (game_sides p) (map (λ (z : EndedGame). z.game) xs) = found i xs at in
    let away : has_player p y.game ≡ false =
    ⊎_elim (λ (here : has_player p y.game ≡ true). absurd (omega (arith, once, later, sum_by-cons (game_sides p) y.game (map (λ (z : EndedGame). z.game) xs), seen_sides p y.game here))) (λ (off : has_player p y.game ≡ false). off) (cases_Bool (has_player p y.game)) in
    ap (λ b. b || list_any (did_not_appear p) xs) (appears_elsewhere p y away) ∙ missed_one p i xs x (omega (arith, once, sum_by-cons (game_sides p) y.game (map (λ (z : EndedGame). z.game) xs))) at on
  where
    found : (j : ℕ) (zs : List EndedGame) → slice_get zs j ≡ Some x → 1 ≤ sum_by (game_sides p) (map (λ (z : EndedGame). z.game) zs)
    found j [] at = cc
    found zero (z ∷ zs) at = let same : z ≡ x = cc in omega (arith, sum_by-cons (game_sides p) z.game (map (λ (y : EndedGame). y.game) zs), seen_sides p z.game (ap (λ (y : EndedGame). has_player p y.game) same ∙ on))
    found (suc j) (z ∷ zs) at = omega (arith, sum_by-cons (game_sides p) z.game (map (λ (y : EndedGame). y.game) zs), found j zs at)

pub no_show_of_game : (known : PlansPairOnce) (s : Setup) (es : List Entry) (e : Entry) (p i : ℕ) (x : EndedGame) → slice_get (ended_by s (history s es) e) i ≡ Some x → has_player p x.game ≡ true → no_show s (history s es) e p ≡ did_not_appear p x
unfolding no_show
no_show_of_game known s es e p i x at on = missed_one p i (ended_by s (history s es) e) x (ended_sides known s es e p) at on
