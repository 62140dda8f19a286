-- Which games an entry ends, as games that run on no longer, and the counted games with one entry more.
use Rattle.std.proofs.Common.{◌≡◌, ◌<◌, ⊎_elim, List, [], ◌∷◌, ◌++◌, length, Option, Some, None, Bool, true, false, ◌||◌, refl, ap}
use Rattle.std.specs.Prelude.{filter, cond, not, map, is_none}
use Rattle.std.specs.List.{filter_map, list_any, AllByRecursion, cons_option}
use Rattle.std.specs.Option.{option_map}
use Rattle.std.proofs.lemmas.Bool.{cases_Bool}
use Rattle.entries.specs.declared.setup.Setup.{Setup}
use Rattle.entries.specs.declared.journal.Entry.{Entry}
use Rattle.game_room.specs.declared.outcome.Outcome.{Outcome}
use Rattle.arena_history.specs.History.{History, with_entry}
use Rattle.arena_history.specs.Games.{Begun, outcome_of, goes_on, running, begun}
use Rattle.arena_history.specs.Endings.{EndedGame, ended, ended_by, counted_by, finished_step, finished}
use Rattle.arena_history.specs.Waves.{after}
use Rattle.arena_history.proofs.Histories.{AllBelow, IsWhole}
use Rattle.arena_history.proofs.Walks.{along-after}
use Rattle.arena_history.proofs.BegunGames.{game_entry, begun_own}
use Rattle.arena_history.proofs.Lists.{all_filter}

ended_one : (g : Begun) (o : Option Outcome) (gs : List EndedGame) (rest : List Begun) → map (λ (x : EndedGame). x.game) gs ≡ rest → map (λ (x : EndedGame). x.game) (cons_option (option_map (λ o. record { game = g; outcome = o }) o) gs) ≡ cond (not (is_none o)) (g ∷ rest) rest
ended_one g None gs rest same = same
ended_one g (Some o) gs rest same = ap (λ l. g ∷ l) same

ended_games_of : (k : History) (gs : List Begun) → map (λ (x : EndedGame). x.game) (filter_map (ended k) gs) ≡ filter (λ g. not (goes_on k g)) gs
ended_games_of k [] = refl
ended_games_of k (g ∷ gs) = ended_one g (outcome_of k g) (filter_map (ended k) gs) (filter (λ g. not (goes_on k g)) gs) (ended_games_of k gs)

-- the games that an entry ends are those running ones that do not run on
pub ended_games : (s : Setup) (h : History) (e : Entry) → map (λ (x : EndedGame). x.game) (ended_by s h e) ≡ filter (λ g. not (goes_on (with_entry h e) g)) (running s h)
unfolding ended_by
ended_games s h e = ended_games_of (with_entry h e) (running s h)

pub any-map : {X Y : Type 0} (f : X → Y) (p : Y → Bool) (xs : List X) → list_any (λ x. p (f x)) xs ≡ list_any p (map f xs)
any-map f p [] = refl
any-map f p (x ∷ xs) = ap (λ b. p (f x) || b) (any-map f p xs)

-- each game runs before the entry, was begun by an entry of the history, and ended with it as its outcome says
pub record EndedNow (h : History) (e : Entry) (x : EndedGame) : Type 0 where
  pub begun : x.game.entry < length h.entries
  pub ran : outcome_of h x.game ≡ None
  pub over : outcome_of (with_entry h e) x.game ≡ Some x.outcome

pub runs_none : (o : Option Outcome) → is_none o ≡ true → o ≡ None
runs_none None on = refl
runs_none (Some o) on = cc

ended_each : (h : History) (e : Entry) (gs : List Begun) → AllBelow game_entry (length h.entries) gs → AllByRecursion (EndedNow h e) (filter_map (ended (with_entry h e)) (filter (goes_on h) gs))
ended_each h e [] all = tt
ended_each h e (g ∷ gs) all =
    let rest = ended_each h e gs all.1 in
    ⊎_elim
    (λ (on : goes_on h g ≡ true). rw on (by (outcome_of (with_entry h e) g) refl (runs_none (outcome_of h g) on) rest))
    (λ (off : goes_on h g ≡ false). rw off rest)
    (cases_Bool (goes_on h g))
  where
    by : (o : Option Outcome) → outcome_of (with_entry h e) g ≡ o → outcome_of h g ≡ None → AllByRecursion (EndedNow h e) (filter_map (ended (with_entry h e)) (filter (goes_on h) gs)) → AllByRecursion (EndedNow h e) (cons_option (option_map (λ o. record { game = g; outcome = o }) o) (filter_map (ended (with_entry h e)) (filter (goes_on h) gs)))
    by None is ran rest = rest
    by (Some o) is ran rest = (record { begun = all.0; ran = ran; over = is }, rest)

pub ended_now : (s : Setup) (h : History) (e : Entry) → IsWhole h → AllByRecursion (EndedNow h e) (ended_by s h e)
unfolding ended_by running
ended_now s h e whole = ended_each h e (begun s h) (begun_own s h whole)

all_ended : (P : Begun → Type 0) (k : History) (gs : List Begun) → AllByRecursion P gs → AllByRecursion (λ (x : EndedGame). P x.game) (filter_map (ended k) gs)
all_ended P k [] all = tt
all_ended P k (g ∷ gs) all = by (outcome_of k g) (all_ended P k gs all.1)
  where
    by : (o : Option Outcome) → AllByRecursion (λ (x : EndedGame). P x.game) (filter_map (ended k) gs) → AllByRecursion (λ (x : EndedGame). P x.game) (cons_option (option_map (λ o. record { game = g; outcome = o }) o) (filter_map (ended k) gs))
    by None rest = rest
    by (Some o) rest = (all.0, rest)

-- what holds of every game that was begun holds of those that an entry ends
pub ended_from_begun : (P : Begun → Type 0) (s : Setup) (h : History) (e : Entry) → AllByRecursion P (begun s h) → AllByRecursion (λ (x : EndedGame). P x.game) (ended_by s h e)
unfolding ended_by running
ended_from_begun P s h e all = all_ended P (with_entry h e) (filter (goes_on h) (begun s h)) (all_filter P (goes_on h) (begun s h) all)

-- the counted games with one entry more
pub finished-after : (s : Setup) (h : History) (e : Entry) → IsWhole h → finished s (after s h e) ≡ finished s h ++ counted_by s h e
unfolding finished
finished-after s h e whole = along-after (finished_step s) s h e [] whole
