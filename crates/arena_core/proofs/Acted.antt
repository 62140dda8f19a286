-- An act that is not refused: the game and the side that it is made in, which game it ends, and what is kept after it.
use Rattle.std.proofs.Common.{◌≡◌, ℕ, suc, ◌<◌, ◌≤◌, List, [], ◌∷◌, ◌++◌, length, Some, None, true, refl, sym, ap, ◌∙◌, subst, arith}
use Rattle.std.specs.Prelude.{Option, cond, nat_lt, is_none, slice_get, slice_set, Result, Ok, Err}
use Rattle.std.specs.List.{cons_option}
use Rattle.std.specs.Option.{option_map, option_to_list}
use Rattle.std.proofs.lemmas.Option.{slice_get_within}
use Rattle.board.specs.declared.piece.Colour.{Colour}
use Rattle.entries.specs.declared.action.Action.{Action}
use Rattle.entries.specs.declared.journal.Entry.{Entry}
use Rattle.entries.specs.declared.setup.Setup.{Setup}
use Rattle.game_room.specs.declared.header.Header.{Header}
use Rattle.game_room.specs.declared.outcome.Outcome.{Outcome}
use Rattle.game_room.specs.declared.refusal.ActRefusal.{ActRefusal}
use Rattle.game_room.specs.Events.{act_of}
use Rattle.game_room.specs.Games as room
use Rattle.arena_games.specs.Answers.{act_answer, unless_refused}
use Rattle.arena_games.specs.Courses.{with_event}
use Rattle.arena_games.specs.Courses as course
use Rattle.arena_games.specs.Keeps.{KeptFor}
use Rattle.arena_games.specs.KeptGames as games
use Rattle.arena_games.specs.Laws.{ActsGoOn}
use Rattle.arena_history.specs.Endings.{EndedGame, ended_by}
use Rattle.arena_history.specs.GameLaws.{over_after}
use Rattle.arena_history.specs.Games.{Begun, begun, side_of, events, outcome_of, goes_on}
use Rattle.arena_history.specs.History.{History}
use Rattle.arena_history.specs.Waves.{history}
use Rattle.arena_rules.specs.declared.command.Command.TheVariants.{Act}
use Rattle.arena_rules.specs.Commands.{entry_of}
use Rattle.arena_rules.specs.Verdicts.{act_refusal, refused_by, side_refusal, game_at}
use Rattle.arena_core.specs.Below.{LawsOfHistories}
use Rattle.arena_core.specs.Courses.{course, courses}
use Rattle.arena_core.specs.Kept.{AreKept}
use Rattle.arena_core.specs.People.{KeptPeople, StandsFor, standing, with_ends}
use Rattle.arena_core.proofs.Asked.{header_at, length_kept}
use Rattle.arena_core.proofs.Books.{command_starts}
use Rattle.arena_core.proofs.Followed.{course_at, length-courses, own_act, numbered, courses_acted}
use Rattle.arena_core.proofs.Heeded.{none_begun}
use Rattle.arena_core.proofs.Steps.{standing_acted}

-- the game that an act is made in, the side that makes it, and that the game allows it
pub record IsAllowed (s : Setup) (h : History) (t p number : ℕ) (a : Action) : Type 0 where
  pub game : Begun
  pub side : Colour
  pub at : slice_get (begun s h) number ≡ Some game
  pub plays : side_of game.header p ≡ Some side
  pub allowed : room.allowed game.header (events h game) side a t ≡ Ok tt

module _ (s : Setup) (h : History) (t p number : ℕ) (a : Action) where
  by_answer : (g : Begun) (side : Colour) (r : Result (Unit {0}) ActRefusal) → slice_get (begun s h) number ≡ Some g → side_of g.header p ≡ Some side → room.allowed g.header (events h g) side a t ≡ r → refused_by r ≡ None → IsAllowed s h t p number a
  by_answer g side (Ok x) at plays is none = record { game = g; side = side; at = at; plays = plays; allowed = is }
  by_answer g side (Err r) at plays is none = cc

  by_side : (g : Begun) (o : Option Colour) → slice_get (begun s h) number ≡ Some g → side_of g.header p ≡ o → side_refusal h g o a t ≡ None → IsAllowed s h t p number a
  by_side g None at is none = cc
  by_side g (Some side) at is none = by_answer g side (room.allowed g.header (events h g) side a t) at is refl none

  by_game : (o : Option Begun) → slice_get (begun s h) number ≡ o → act_refusal h p o a t ≡ None → IsAllowed s h t p number a
  by_game None is none = cc
  by_game (Some g) is none = by_side g (side_of g.header p) is refl none

  -- an act that is not refused is allowed by its game
  pub allowed_act : act_refusal h p (game_at s h number) a t ≡ None → IsAllowed s h t p number a
  unfolding game_at
  allowed_act none = by_game (slice_get (begun s h) number) refl none

module _ (laws : LawsOfHistories) (go_on : ActsGoOn) (s : Setup) (es : List Entry) (t p number : ℕ) (a : Action) (w : IsAllowed s (history s es) t p number a) where
  still_on : goes_on (history s es) w.game ≡ true
  unfolding outcome_of
  still_on = ap (λ (o : Option Outcome). is_none o) (go_on (course (history s es) w.game) w.side a t w.allowed)

  -- the games that the act ends: its own, if it is over with the act
  pub acted_ends : (pass : ℕ) → ended_by s (history s es) (entry_of t pass (Act p number a)) ≡ option_to_list (option_map (λ o. record { game = w.game; outcome = o }) (course.outcome_of (with_event (act_of w.side a t) (course (history s es) w.game))))
  acted_ends pass =
      let h = history s es in
      let e = entry_of t pass (Act p number a) in
      let g = w.game in
      let id : number ≡ g.header.id = sym (laws.numbered.numbered s h number g w.at) in
      let happened : events (history s (es ++ e ∷ [])) g ≡ events h g ++ act_of w.side a t ∷ [] =
      laws.events s es e g (numbered laws s es number g w.at) ∙ ap (λ l. events h g ++ l) (own_act g.header t p number a w.side (Rattle.std.specs.Prelude.nat_eq number g.header.id) refl id w.plays) in
      laws.by_act.named s es e p number a g refl w.at ∙ (λ i. option_to_list (cond (still_on i) (over_after g (happened i)) None))

  -- what is kept once the act came that ends these games
  pub kept_acted : (pass : ℕ) (k : KeptPeople) (gs : List EndedGame) (g : games.KeptGames) (new : KeptPeople) → length (history s es).starts ≤ k.room → ended_by s (history s es) (entry_of t pass (Act p number a)) ≡ gs → games.StandsFor g (slice_set (courses s (history s es)) number (with_event (act_of w.side a t) (course (history s es) w.game))) → StandsFor new s (with_ends (suc (length es)) (nat_lt t s.ends) gs (standing s (history s es))) → new.room ≡ k.room → AreKept s (es ++ entry_of t pass (Act p number a) ∷ []) g new
  kept_acted pass k gs g new enough ended stands people room = record {
    games = subst (games.StandsFor g) (sym (courses_acted laws s es t pass p number a w.game w.side (none_begun s es t pass (Act p number a)) w.at w.plays)) stands;
    people = subst (StandsFor new s) (sym (standing_acted laws s es t pass p number a gs ended)) people;
    room = omega (arith, enough, room, ap length (command_starts laws s es t pass (Act p number a)));
  }

-- the header that is found of the game, and the side that plays it
pub header_of_game : (s : Setup) (h : History) (t p number : ℕ) (a : Action) (w : IsAllowed s h t p number a) (found : Option Header) → found ≡ option_map (λ (c : course.Course). c.header) (slice_get (courses s h) number) → found ≡ Some w.game.header
header_of_game s h t p number a w found is = is ∙ (header_at s h number ∙ ap (option_map (λ (g : Begun). g.header)) w.at)

pub course_of_game : (s : Setup) (h : History) (t p number : ℕ) (a : Action) (w : IsAllowed s h t p number a) → slice_get (courses s h) number ≡ Some (course h w.game)
course_of_game s h t p number a w = course_at s h number ∙ ap (option_map (course h)) w.at

-- so the kept game is there
pub act_within : (s : Setup) (h : History) (t p number : ℕ) (a : Action) (w : IsAllowed s h t p number a) (k : games.KeptGames) → games.StandsFor k (courses s h) → number < length k.games
act_within s h t p number a w k stands =
    let within : number < length (begun s h) = slice_get_within (begun s h) number w.game w.at in
    omega (arith, within, length-courses s h, length_kept KeptFor k.games (courses s h) stands)

-- the header, the side and the answer that the calls give are those of the act's game
pub record IsAnswered (s : Setup) (h : History) (t p number : ℕ) (a : Action) (w : IsAllowed s h t p number a) (header : Header) (side : Colour) (r : Result (Option Outcome) ActRefusal) : Type 0 where
  pub header_is : header ≡ w.game.header
  pub side_is : side ≡ w.side
  pub answer : r ≡ Ok (course.outcome_of (with_event (act_of w.side a t) (course h w.game)))

pub act_answered : (s : Setup) (h : History) (t p number : ℕ) (a : Action) (w : IsAllowed s h t p number a) (header : Header) (side : Colour) (found : Option Header) (plays : Option Colour) (r : Result (Option Outcome) ActRefusal) → found ≡ option_map (λ (c : course.Course). c.header) (slice_get (courses s h) number) → found ≡ Some header → plays ≡ side_of header p → plays ≡ Some side → ((c : course.Course) → slice_get (courses s h) number ≡ Some c → r ≡ act_answer c side a t) → IsAnswered s h t p number a w header side r
act_answered s h t p number a w header side found plays r is here his there answer =
    let game : found ≡ Some w.game.header = header_of_game s h t p number a w found is in
    let same : header ≡ w.game.header = cc in
    let own : side_of header p ≡ Some w.side = ap (λ x. side_of x p) same ∙ w.plays in
    let mine : side ≡ w.side = cc in
    record {
      header_is = same;
      side_is = mine;
      answer = answer (course h w.game) (course_of_game s h t p number a w) ∙ (ap (λ x. act_answer (course h w.game) x a t) mine ∙ ap (λ x. unless_refused x (course.outcome_of (with_event (act_of w.side a t) (course h w.game)))) w.allowed);
    }
