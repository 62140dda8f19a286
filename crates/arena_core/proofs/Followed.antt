-- The courses of the games of a history with one entry more.
use Rattle.std.proofs.Common.{◌≡◌, ◌≢◌, ℕ, List, [], ◌∷◌, ◌++◌, length, Some, None, Bool, true, false, refl, sym, ap, ◌∙◌}
use Rattle.std.specs.Prelude.{Option, slice_get, slice_set, map, cond, ◌==◌}
use Rattle.std.specs.List.{AllByRecursion, cons_option}
use Rattle.std.specs.Option.{option_map}
use Rattle.std.proofs.lemmas.List.{append-nil, map-append, length-map}
use Rattle.std.proofs.lemmas.Bool.{eqb-true, eqb-false}
use Rattle.std.proofs.lemmas.Option.{slice_get-map}
use Rattle.board.specs.declared.piece.Colour.{Colour}
use Rattle.entries.specs.declared.action.Action.{Action}
use Rattle.entries.specs.declared.journal.Entry.{Entry}
use Rattle.entries.specs.declared.setup.Setup.{Setup}
use Rattle.game_room.specs.declared.header.Header.{Header}
use Rattle.game_room.specs.Events.{act_of}
use Rattle.arena_games.specs.Courses.{Course, with_event, looked}
use Rattle.arena_games.specs.Courses as course
use Rattle.arena_history.specs.GameLaws.{IsGameOf, games_begun_by}
use Rattle.arena_history.specs.Games.{Begun, begun, side_of, act_in, event_of, events}
use Rattle.arena_history.specs.History.{History}
use Rattle.arena_history.specs.Waves.{history}
use Rattle.arena_rules.specs.declared.command.Command.TheVariants.{Act, Tick}
use Rattle.arena_rules.specs.Commands.{entry_of}
use Rattle.arena_core.specs.Below.{LawsOfHistories}
use Rattle.arena_core.specs.Courses.{course, courses, with_entry}
use Rattle.arena_core.proofs.Maps.{map_agree, map_same, map_at}

-- the course of a game by its number, if so many were begun
pub course_at : (s : Setup) (h : History) (number : ℕ) → slice_get (courses s h) number ≡ option_map (course h) (slice_get (begun s h) number)
unfolding courses
course_at s h number = slice_get-map (course h) (begun s h) number

pub length-courses : (s : Setup) (h : History) → length (courses s h) ≡ length (begun s h)
unfolding courses
length-courses s h = length-map (begun s h) (course h)

-- new games, of which nothing has happened
new_courses : (h : History) (t : ℕ) (gs : List Begun) → AllByRecursion (λ (g : Begun). (events h g ≡ []) × (g.header.start ≡ t)) gs → map (course h) gs ≡ map (λ (g : Begun). course.begun g.header) gs
new_courses h t [] all = refl
new_courses h t (g ∷ gs) all = λ i. record { header = g.header; events = all.0.0 i } ∷ new_courses h t gs all.1 i

-- an act in another game is none of this one's events
other_act : (g : Header) (t p number : ℕ) (a : Action) (b : Bool) → (number == g.id) ≡ b → number ≢ g.id → cons_option (act_in g t p number a) [] ≡ []
other_act g t p number a true is other = absurd (other (eqb-true number g.id is))
other_act g t p number a false is other = ap (λ c. cons_option (cond c (option_map (λ side. act_of side a t) (side_of g p)) None) []) is

-- an act in this game is an event of it
pub own_act : (g : Header) (t p number : ℕ) (a : Action) (side : Colour) (b : Bool) → (number == g.id) ≡ b → number ≡ g.id → side_of g p ≡ Some side → cons_option (act_in g t p number a) [] ≡ act_of side a t ∷ []
own_act g t p number a side true is same plays = (λ i. cons_option (cond (is i) (option_map (λ x. act_of x a t) (plays i)) None) [])
own_act g t p number a side false is same plays = absurd (eqb-false number g.id is same)

module _ (laws : LawsOfHistories) (s : Setup) (es : List Entry) where
  -- a game is found by its number
  pub numbered : (i : ℕ) (g : Begun) → slice_get (begun s (history s es)) i ≡ Some g → IsGameOf s es g
  numbered i g at = ap (slice_get (begun s (history s es))) (laws.numbered.numbered s (history s es) i g at) ∙ at

  -- with one entry more each course has what the entry is to its game behind it, and the new games follow
  pub courses_more : (e : Entry) → courses s (history s (es ++ e ∷ [])) ≡ map (with_entry e) (courses s (history s es)) ++ map (λ (g : Begun). course.begun g.header) (games_begun_by s es e)
  unfolding courses
  courses_more e =
      let next = history s (es ++ e ∷ []) in
      let old : map (course next) (begun s (history s es)) ≡ map (with_entry e) (map (course (history s es)) (begun s (history s es))) =
      map_agree (course next) (with_entry e) (course (history s es)) (begun s (history s es)) (λ i g at. λ k. record { header = g.header; events = laws.events s es e g (numbered i g at) k }) in
      ap (map (course next)) (laws.begun s es e) ∙ (map-append (course next) (begun s (history s es)) (games_begun_by s es e) ∙ (λ i. old i ++ new_courses next e.stamp (games_begun_by s es e) (laws.new_games s es e) i))

  -- an entry that is no event of any game leaves the courses as they are
  pub courses_quiet : (e : Entry) → ((g : Header) → event_of g e ≡ None) → games_begun_by s es e ≡ [] → courses s (history s (es ++ e ∷ [])) ≡ courses s (history s es)
  courses_quiet e quiet none =
      let same : (c : Course) → with_entry e c ≡ c = λ c. λ i. record { header = c.header; events = (ap (λ o. c.events ++ cons_option o []) (quiet c.header) ∙ append-nil c.events) i } in
      courses_more e ∙ ((λ i. map_same (with_entry e) (courses s (history s es)) same i ++ map (λ (g : Begun). course.begun g.header) (none i)) ∙ append-nil _)

  -- a look is put behind the events of every game
  pub courses_looked : (t pass : ℕ) → games_begun_by s es (entry_of t pass Tick) ≡ [] → courses s (history s (es ++ entry_of t pass Tick ∷ [])) ≡ map (looked t) (courses s (history s es))
  courses_looked t pass none = courses_more (entry_of t pass Tick) ∙ (ap (λ l. map (looked t) (courses s (history s es)) ++ map (λ (g : Begun). course.begun g.header) l) none ∙ append-nil _)

  -- an act is put behind the events of its game, and no others
  pub courses_acted : (t pass p number : ℕ) (a : Action) (g : Begun) (side : Colour) → games_begun_by s es (entry_of t pass (Act p number a)) ≡ [] → slice_get (begun s (history s es)) number ≡ Some g → side_of g.header p ≡ Some side → courses s (history s (es ++ entry_of t pass (Act p number a) ∷ [])) ≡ slice_set (courses s (history s es)) number (with_event (act_of side a t) (course (history s es) g))
  courses_acted t pass p number a g side none at plays =
      let h = history s es in
      let e = entry_of t pass (Act p number a) in
      let there : slice_get (courses s h) number ≡ Some (course h g) = course_at s h number ∙ ap (option_map (course h)) at in
      let id : number ≡ g.header.id = sym (laws.numbered.numbered s h number g at) in
      let own : with_entry e (course h g) ≡ with_event (act_of side a t) (course h g) = λ i. record { header = g.header; events = events h g ++ own_act g.header t p number a side (number == g.header.id) refl id plays i } in
      let others : (i : ℕ) (c : Course) → slice_get (courses s h) i ≡ Some c → i ≢ number → with_entry e c ≡ c = λ i c here other. kept_course e c (other_act c.header t p number a (number == c.header.id) refl (λ same. other (course_number i c here ∙ sym same))) in
      courses_more e ∙ ((λ i. map_at (with_entry e) (courses s h) number (course h g) (with_event (act_of side a t) (course h g)) there own others i ++ map (λ (x : Begun). course.begun x.header) (none i)) ∙ append-nil _)
    where
      kept_course : (e : Entry) (c : Course) → cons_option (event_of c.header e) [] ≡ [] → with_entry e c ≡ c
      kept_course e c is = λ i. record { header = c.header; events = (ap (λ l. c.events ++ l) is ∙ append-nil c.events) i }

      course_number : (i : ℕ) (c : Course) → slice_get (courses s (history s es)) i ≡ Some c → i ≡ c.header.id
      course_number i c here = numbered_course i (slice_get (begun s (history s es)) i) c refl (sym (course_at s (history s es) i) ∙ here)
        where
          numbered_course : (i : ℕ) (o : Option Begun) (c : Course) → slice_get (begun s (history s es)) i ≡ o → option_map (course (history s es)) o ≡ Some c → i ≡ c.header.id
          numbered_course i None c at is = cc
          numbered_course i (Some x) c at is = sym (laws.numbered.numbered s (history s es) i x at) ∙ ap (λ (y : Course). y.header.id) (let same : course (history s es) x ≡ c = cc in same)
