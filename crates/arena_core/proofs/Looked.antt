-- Which games a look ends, one after another, and what is kept after it.
use Rattle.std.proofs.Common.{◌≡◌, ℕ, zero, suc, ◌+◌, ◌<◌, ◌≤◌, List, [], ◌∷◌, ◌++◌, take, drop, length, Some, None, Bool, true, false, refl, sym, ap, ◌∙◌, subst, arith}
use Rattle.std.specs.Prelude.{Option, cond, map, filter, nat_lt, slice_get}
use Rattle.std.specs.List.{filter_map, cons_option}
use Rattle.std.specs.Option.{option_map}
use Rattle.std.proofs.lemmas.List.{take_all, length-drop}
use Rattle.std.proofs.lemmas.List.Sums.{fold-append}
use Rattle.entries.specs.declared.journal.Entry.{Entry}
use Rattle.entries.specs.declared.setup.Setup.{Setup}
use Rattle.game_room.specs.declared.header.Header.{Header}
use Rattle.game_room.specs.declared.outcome.Outcome.{Outcome}
use Rattle.game_room.specs.Events.{tick_at}
use Rattle.game_room.specs.Games as room
use Rattle.arena_games.specs.declared.ended.GameEnd.{GameEnd}
use Rattle.arena_games.specs.Answers.{end_before, ends_from}
use Rattle.arena_games.specs.Courses.{Course, looked, looked_below}
use Rattle.arena_games.specs.Keeps.{KeptFor}
use Rattle.arena_games.specs.KeptGames as games
use Rattle.arena_games.specs.Laws.{LooksEnd}
use Rattle.arena_history.specs.Endings.{EndedGame, ended_by}
use Rattle.arena_history.specs.GameLaws.{over_after}
use Rattle.arena_history.specs.Games.{Begun, begun, events, outcome_of, goes_on, running}
use Rattle.arena_history.specs.History.{History}
use Rattle.arena_history.specs.Waves.{history}
use Rattle.arena_rules.specs.declared.command.Command.TheVariants.{Tick}
use Rattle.arena_rules.specs.Commands.{entry_of}
use Rattle.arena_core.specs.Below.{LawsOfHistories}
use Rattle.arena_core.specs.Courses.{course, courses}
use Rattle.arena_core.specs.Kept.{AreKept}
use Rattle.arena_core.specs.People.{KeptPeople, Standing, StandsFor, standing, with_end, with_ends}
use Rattle.arena_core.proofs.Asked.{header_at, length_kept}
use Rattle.arena_core.proofs.Books.{command_starts}
use Rattle.arena_core.proofs.Followed.{length-courses, courses_looked}
use Rattle.arena_core.proofs.Heeded.{none_begun}
use Rattle.arena_core.proofs.Maps.{take_to, drop_at}
use Rattle.arena_core.proofs.Steps.{standing_looked}

-- the game of these that ended so
abbrev pub ended_at : List Begun → GameEnd → Option EndedGame
ended_at games end = option_map (λ g. record { game = g; outcome = end.outcome }) (slice_get games end.game)

-- the games that a look at t ends, by number
abbrev pub look_ends : Setup → History → ℕ → List EndedGame
look_ends s h t = filter_map (ended_at (begun s h)) (ends_from 0 t (courses s h))

-- one game more of those that are looked at
one_more : (all : List Begun) (over : Begun → Option EndedGame) (g : Begun) (tail : List Begun) (n : ℕ) (ends : List GameEnd) (b : Bool) (o : Option Outcome) (end : Option Outcome) → end ≡ cond b o None → over g ≡ option_map (λ x. record { game = g; outcome = x }) o → slice_get all n ≡ Some g → filter_map over tail ≡ filter_map (ended_at all) ends → filter_map over (cond b (g ∷ tail) tail) ≡ filter_map (ended_at all) (end_before n end ends)
one_more all over g tail n ends false o end is outcome at rest = rest ∙ ap (λ e. filter_map (ended_at all) (end_before n e ends)) (sym is)
one_more all over g tail n ends true None end is outcome at rest = (λ i. cons_option (outcome i) (rest i)) ∙ ap (λ e. filter_map (ended_at all) (end_before n e ends)) (sym is)
one_more all over g tail n ends true (Some x) end is outcome at rest =
    (λ i. cons_option (outcome i) (rest i)) ∙ ((λ i. cons_option (option_map (λ y. record { game = y; outcome = x }) (sym at i)) (filter_map (ended_at all) ends)) ∙ ap (λ e. filter_map (ended_at all) (end_before n e ends)) (sym is))

module _ (look : LooksEnd) (h : History) (t : ℕ) where
  ends_by : (g : Begun) → room.ticked g.header (events h g) t ≡ cond (goes_on h g) (room.outcome g.header (events h g ++ tick_at t ∷ [])) None
  unfolding outcome_of
  ends_by g = look t (course h g)

  ends_are : (all gs : List Begun) (n : ℕ) → ((i : ℕ) (g : Begun) → slice_get gs i ≡ Some g → slice_get all (n + i) ≡ Some g) → filter_map (λ g. over_after g (events h g ++ tick_at t ∷ [])) (filter (goes_on h) gs) ≡ filter_map (ended_at all) (ends_from n t (map (course h) gs))
  ends_are all [] n each = refl
  ends_are all (g ∷ gs) n each =
      one_more all (λ x. over_after x (events h x ++ tick_at t ∷ [])) g (filter (goes_on h) gs) n (ends_from (suc n) t (map (course h) gs)) (goes_on h g) (room.outcome g.header (events h g ++ tick_at t ∷ [])) (room.ticked g.header (events h g) t) (ends_by g) refl
      (subst (λ k. slice_get all k ≡ Some g) (let same : n + 0 ≡ n = omega arith in same) (each 0 g refl))
      (ends_are all gs (suc n) (λ i x at. subst (λ k. slice_get all k ≡ Some x) (let same : n + suc i ≡ suc n + i = omega arith in same) (each (suc i) x at)))

-- the games that a look ends are these
pub looked_ends : LawsOfHistories → LooksEnd → (s : Setup) (es : List Entry) (t pass : ℕ) → ended_by s (history s es) (entry_of t pass Tick) ≡ look_ends s (history s es) t
unfolding running courses
looked_ends laws look s es t pass =
    laws.by_events s es (entry_of t pass Tick) ∙ ends_are look (history s es) t (begun s (history s es)) (begun s (history s es)) 0 (λ i g at. subst (λ k. slice_get (begun s (history s es)) k ≡ Some g) (let same : i ≡ 0 + i = omega arith in same) at)

-- the header of a game stays as it is when it is looked at
pub headers_below : (n t : ℕ) (cs : List Course) (i : ℕ) → option_map (λ (c : Course). c.header) (slice_get (looked_below n t cs) i) ≡ option_map (λ (c : Course). c.header) (slice_get cs i)
headers_below zero t cs i = refl
headers_below (suc n) t [] i = refl
headers_below (suc n) t (c ∷ cs) zero = refl
headers_below (suc n) t (c ∷ cs) (suc i) = headers_below n t cs i

pub length-below : (n t : ℕ) (cs : List Course) → length (looked_below n t cs) ≡ length cs
length-below zero t cs = refl
length-below (suc n) t [] = refl
length-below (suc n) t (c ∷ cs) = ap suc (length-below n t cs)

-- the item at a place within a list
item_at : {X : Type 0} (xs : List X) (i : ℕ) → i < length xs → (x : X) × (slice_get xs i ≡ Some x)
item_at [] i lt = absurd (omega arith)
item_at (x ∷ xs) zero lt = (x, refl)
item_at (x ∷ xs) (suc i) lt = item_at xs i (omega arith)

-- how many games are kept while they are looked at
pub length_looked : (s : Setup) (h : History) (from t : ℕ) (k : games.KeptGames) → games.StandsFor k (looked_below from t (courses s h)) → length k.games ≡ length (begun s h)
length_looked s h from t k stands = length_kept KeptFor k.games (looked_below from t (courses s h)) stands ∙ (length-below from t (courses s h) ∙ length-courses s h)

-- a game that is kept was begun
pub game_there : (s : Setup) (h : History) (from t number : ℕ) (k : games.KeptGames) → games.StandsFor k (looked_below from t (courses s h)) → number < length k.games → (g : Begun) × (slice_get (begun s h) number ≡ Some g)
game_there s h from t number k stands lt = item_at (begun s h) number (omega (arith, lt, length_looked s h from t k stands))

-- and its header is found
pub header_there : (s : Setup) (h : History) (n t number : ℕ) (g : Begun) (found : Option Header) → slice_get (begun s h) number ≡ Some g → found ≡ option_map (λ (c : Course). c.header) (slice_get (looked_below n t (courses s h)) number) → found ≡ Some g.header
header_there s h n t number g found at is = is ∙ (headers_below n t (courses s h) number ∙ (header_at s h number ∙ ap (option_map (λ (x : Begun). x.header)) at))

-- the next game that a look ends, and those behind it
pub record IsNext (xs : List EndedGame) (count : ℕ) (g : Begun) (end : GameEnd) (rest : List EndedGame) : Type 0 where
  pub game : EndedGame
  pub of : game.game ≡ g
  pub so : game.outcome ≡ end.outcome
  pub at : slice_get xs count ≡ Some game
  pub left : rest ≡ drop (suc count) xs
  pub done : take (suc count) xs ≡ take count xs ++ game ∷ []

pub next_end : (all : List Begun) (xs : List EndedGame) (count : ℕ) (g : Begun) (end : GameEnd) (ends rest : List GameEnd) → filter_map (ended_at all) ends ≡ drop count xs → ends ≡ end ∷ rest → slice_get all end.game ≡ Some g → IsNext xs count g end (filter_map (ended_at all) rest)
next_end all xs count g end ends rest left is at =
    let x : EndedGame = record { game = g; outcome = end.outcome } in
    let next : drop count xs ≡ x ∷ filter_map (ended_at all) rest = sym left ∙ (ap (filter_map (ended_at all)) is ∙ ap (λ o. cons_option (option_map (λ y. record { game = y; outcome = end.outcome }) o) (filter_map (ended_at all) rest)) at) in
    let parts = drop_at xs count x (filter_map (ended_at all) rest) next in
    record { game = x; of = refl; so = refl; at = parts.0; left = sym parts.1; done = take_to xs count x parts.0 }

-- one game more has ended
pub ends_more : (n : ℕ) (counts : Bool) (xs : List EndedGame) (count : ℕ) (g : EndedGame) (x : Standing) → take (suc count) xs ≡ take count xs ++ g ∷ [] → with_ends n counts (take (suc count) xs) x ≡ with_end n counts (with_ends n counts (take count xs) x) g
ends_more n counts xs count g x done = ap (λ l. with_ends n counts l x) done ∙ fold-append (with_end n counts) x (take count xs) (g ∷ [])

-- no game is left
pub none_left : (all : List Begun) (xs : List EndedGame) (count : ℕ) (ends : List GameEnd) → filter_map (ended_at all) ends ≡ drop count xs → ends ≡ [] → count ≤ length xs → (take count xs ≡ xs) × (count ≡ length xs)
none_left all xs count ends left none le =
    let nothing : length (drop count xs) ≡ 0 = ap length (sym left ∙ ap (filter_map (ended_at all)) none) in
    let most : length xs ≤ count = omega (arith, nothing, length-drop count xs) in
    (take_all count xs most, (let same : count ≡ length xs = omega arith in same))

-- what is kept once the look came
pub kept_looked : LawsOfHistories → LooksEnd → (s : Setup) (es : List Entry) (t pass : ℕ) (k : KeptPeople) (g : games.KeptGames) (new : KeptPeople) → length (history s es).starts ≤ k.room → games.StandsFor g (map (looked t) (courses s (history s es))) → StandsFor new s (with_ends (suc (length es)) (nat_lt t s.ends) (look_ends s (history s es) t) (standing s (history s es))) → new.room ≡ k.room → AreKept s (es ++ entry_of t pass Tick ∷ []) g new
kept_looked laws look s es t pass k g new enough stands people room = record {
  games = subst (games.StandsFor g) (sym (courses_looked laws s es t pass (none_begun s es t pass Tick))) stands;
  people = subst (StandsFor new s) (sym (standing_looked laws s es t pass (look_ends s (history s es) t) (looked_ends laws look s es t pass))) people;
  room = omega (arith, enough, room, ap length (command_starts laws s es t pass Tick));
}
