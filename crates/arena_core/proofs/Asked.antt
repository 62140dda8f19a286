-- What is refused, from what is kept of the games.
use Rattle.std.proofs.Common.{◌≡◌, ℕ, ◌<◌, ◌≤◌, List, [], ◌∷◌, length, Some, None, Bool, true, false, refl, sym, ap, ◌∙◌, subst, arith}
use Rattle.std.specs.Prelude.{Option, slice_get, slice_index_or, map, ◌&&◌, ◌||◌, Result}
use Rattle.std.specs.List.{All, AllZip, list_any}
use Rattle.std.specs.Option.{option_map}
use Rattle.std.proofs.lemmas.Map.Views.{any-filter_same}
use Rattle.std.proofs.lemmas.Option.{slice_get-get_or}
use Rattle.board.specs.declared.piece.Colour.{Colour}
use Rattle.entries.specs.declared.action.Action.{Action}
use Rattle.entries.specs.declared.journal.Entry.{Entry}
use Rattle.entries.specs.declared.setup.Setup.{Setup}
use Rattle.game_room.specs.declared.header.Header.{Header}
use Rattle.game_room.specs.declared.refusal.ActRefusal.{ActRefusal}
use Rattle.game_room.specs.Games as room
use Rattle.game_room.specs.Games.{due, standing, standing_of, outcome}
use Rattle.arena_games.specs.Courses.{Course, IsPast, IsShort, is_due}
use Rattle.arena_games.specs.KeptGames.{KeptGames, StandsFor, IsTimely, MayGoOn}
use Rattle.arena_history.specs.GameLaws.{IsGameOf}
use Rattle.arena_history.specs.Games.{Begun, begun, side_of, events, outcome_of, goes_on, running}
use Rattle.arena_history.specs.History.{History}
use Rattle.arena_history.specs.Stamps.{last_stamp}
use Rattle.arena_history.specs.Waves.{history}
use Rattle.arena_rules.specs.declared.refusal.Refusal.TheVariants as refusal
use Rattle.arena_rules.specs.Legal.{IsLegal}
use Rattle.arena_rules.specs.RoomLaws.{GamesAreTimed}
use Rattle.arena_rules.specs.Verdicts.{act_refusal, game_at, game_due, some_due}
use Rattle.arena_core.specs.Below.{LawsOfHistories}
use Rattle.arena_core.specs.Courses.{course, courses}
use Rattle.arena_core.proofs.Followed.{course_at, numbered}

-- what holds of each item by its place holds of all
all_from : {X : Type 0} (P : X → Type 0) (xs : List X) → ((i : ℕ) (x : X) → slice_get xs i ≡ Some x → P x) → All P xs
all_from P xs each k d lt = each k (slice_index_or xs k d) (slice_get-get_or xs k d lt)

-- a found header is that of a game
pub header_found : (o : Option Begun) (header : Header) → option_map (λ (g : Begun). g.header) o ≡ Some header → (g : Begun) × (o ≡ Some g) × (g.header ≡ header)
header_found None header is = cc
header_found (Some g) header is = (g, refl, (let same : g.header ≡ header = cc in same))

pub header_missing : (o : Option Begun) → option_map (λ (g : Begun). g.header) o ≡ None → o ≡ None
header_missing None is = refl
header_missing (Some g) is = cc

-- the kept games have as many items as courses
pub length_kept : {A B : Type 0} (R : A → B → Type 0) (xs : List A) (ys : List B) → AllZip R xs ys → length xs ≡ length ys
length_kept R [] [] all = refl
length_kept R [] (y ∷ ys) all = absurd all
length_kept R (x ∷ xs) [] all = absurd all
length_kept R (x ∷ xs) (y ∷ ys) all = ap Rattle.std.proofs.Common.suc (length_kept R xs ys all.1)

-- a game that is due goes on
due_goes_on : (h : History) (t : ℕ) (g : Begun) → game_due h t g ≡ true → goes_on h g ≡ true
unfolding due standing standing_of outcome outcome_of
due_goes_on h t g is = and_left _ _ is
  where
    and_left : (a b : Bool) → (a && b) ≡ true → a ≡ true
    and_left true b is = refl
    and_left false b is = cc

-- a test of the items that a function makes
any_map : {X Y : Type 0} (p : Y → Bool) (f : X → Y) (xs : List X) → list_any p (map f xs) ≡ list_any (λ x. p (f x)) xs
any_map p f [] = refl
any_map p f (x ∷ xs) = ap (λ b. p (f x) || b) (any_map p f xs)

-- some course is due exactly where a running game is
pub due_read : (s : Setup) (h : History) (t : ℕ) → list_any (is_due t) (courses s h) ≡ some_due s h t
unfolding courses some_due running
due_read s h t = any_map (is_due t) (course h) (begun s h) ∙ sym (any-filter_same (game_due h t) (goes_on h) true (due_goes_on h t) (begun s h))

-- the header of a game by its number
pub header_at : (s : Setup) (h : History) (number : ℕ) → option_map (λ (c : Course). c.header) (slice_get (courses s h) number) ≡ option_map (λ (g : Begun). g.header) (slice_get (begun s h) number)
header_at s h number = ap (option_map (λ (c : Course). c.header)) (course_at s h number) ∙ by (slice_get (begun s h) number)
  where
    by : (o : Option Begun) → option_map (λ (c : Course). c.header) (option_map (course h) o) ≡ option_map (λ (g : Begun). g.header) o
    by None = refl
    by (Some g) = refl

-- nobody acts in a game that was not begun
pub no_game : (s : Setup) (h : History) (p number t : ℕ) (a : Action) → slice_get (begun s h) number ≡ None → Some refusal.NoGame ≡ act_refusal h p (game_at s h number) a t
unfolding game_at
no_game s h p number t a is = sym (ap (λ o. act_refusal h p o a t) is)

-- nor somebody who does not play it
pub not_his : (s : Setup) (h : History) (p number t : ℕ) (a : Action) (g : Begun) → slice_get (begun s h) number ≡ Some g → side_of g.header p ≡ None → Some refusal.NotYours ≡ act_refusal h p (game_at s h number) a t
unfolding game_at
not_his s h p number t a g at none = sym (ap (λ o. act_refusal h p o a t) at ∙ ap (λ o. Rattle.arena_rules.specs.Verdicts.side_refusal h g o a t) none)

-- the others are refused as the game refuses them
pub as_the_game : (s : Setup) (h : History) (p number t : ℕ) (a : Action) (g : Begun) (side : Colour) (r : Result (Unit {0}) ActRefusal) → slice_get (begun s h) number ≡ Some g → side_of g.header p ≡ Some side → room.allowed g.header (events h g) side a t ≡ r → act_refusal h p (game_at s h number) a t ≡ Rattle.arena_rules.specs.Verdicts.refused_by r
unfolding game_at
as_the_game s h p number t a g side r at plays is = ap (λ o. act_refusal h p o a t) at ∙ (ap (λ o. Rattle.arena_rules.specs.Verdicts.side_refusal h g o a t) plays ∙ ap Rattle.arena_rules.specs.Verdicts.refused_by is)

module _ (laws : LawsOfHistories) (timed : GamesAreTimed) (s : Setup) (es : List Entry) (legal : IsLegal s es) where
  by_game : (P : Course → Type 0) → ((g : Begun) → IsGameOf s es g → P (course (history s es) g)) → All P (courses s (history s es))
  by_game P each = all_from P (courses s (history s es)) (λ i c at. found i (slice_get (begun s (history s es)) i) c refl (sym (course_at s (history s es) i) ∙ at))
    where
      found : (i : ℕ) (o : Option Begun) (c : Course) → slice_get (begun s (history s es)) i ≡ o → option_map (course (history s es)) o ≡ Some c → P c
      found i None c at is = cc
      found i (Some g) c at is = subst P (let same : course (history s es) g ≡ c = cc in same) (each g (numbered laws s es i g at))

  -- nothing in a game is later than a stamp that may stand behind the entries
  pub games_past : (t : ℕ) → last_stamp es ≤ t → All (IsPast t) (courses s (history s es))
  games_past t late = by_game (IsPast t) (λ g at. let is = timed s es g legal at in record {
    begun = (let began : g.header.start ≤ last_stamp es = is.began in omega arith);
    events = λ k d lt. (let event = is.to_last k d lt in omega arith);
  })

  games_short : All IsShort (courses s (history s es))
  games_short = by_game IsShort (λ g at. (timed s es g legal at).few)

  -- so the kept games may be asked and acted in then
  pub games_timely : (k : KeptGames) (t : ℕ) → StandsFor k (courses s (history s es)) → last_stamp es ≤ t → IsTimely k t
  games_timely k t stands late = record { games = courses s (history s es); stands = stands; past = games_past t late }

  pub games_go_on : (k : KeptGames) (t : ℕ) → StandsFor k (courses s (history s es)) → last_stamp es ≤ t → MayGoOn k t
  games_go_on k t stands late = record { games = courses s (history s es); stands = stands; past = games_past t late; short = games_short }
