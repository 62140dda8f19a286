-- What is asked of a counted game.
use Rattle.std.proofs.Common.{◌≡◌, ℕ, suc, ◌<◌, ◌≤◌, ◌+◌, List, [], ◌∷◌, ◌++◌, Option, None, Some, Result, Ok, Err, length, take, get_or, refl, sym, ap, subst, ◌∙◌, arith, IsTrue}
use Rattle.std.specs.Prelude.{slice_get}
use Rattle.std.specs.List.{flat_map}
use Rattle.std.specs.Option.{option_map, option_map_or}
use Rattle.std.proofs.lemmas.List.{append-nil, take_all}
use Rattle.std.proofs.lemmas.Grind.{flat_map-append}
use Rattle.board.specs.Moves.{MoveWord}
use Rattle.board.specs.Start.{start_parts}
use Rattle.entries.specs.declared.setup.Setup.{Setup}
use Rattle.entries.specs.declared.journal.Entry.{Entry}
use Rattle.entries.specs.Limits.{max_games}
use Rattle.entries.specs.Ranges.{IsGood}
use Rattle.game_room.specs.declared.outcome.Outcome.{Outcome}
use Rattle.game_room.specs.Games.{moves, game_view, view_of, standing, standing_of, outcome}
use Rattle.arena_history.specs.History.{History}
use Rattle.arena_history.specs.Counting.{IsCounted}
use Rattle.arena_history.specs.Endings.{EndedGame, finished}
use Rattle.arena_history.specs.GameLaws.{CountedEnded}
use Rattle.arena_history.specs.Games.{Begun, begun, events, outcome_of}
use Rattle.arena_history.specs.Waves.{history}
use Rattle.arena_history.proofs.Lists.{all_at, slice_get_within, slice_get-get, take-suc_at}
use Rattle.arena_rules.specs.Legal.{IsLegal}
use Rattle.arena_rules.specs.declared.query.Answer.{Answer}
use Rattle.arena_rules.specs.declared.query.Answer.TheVariants as answers
use Rattle.arena_rules.specs.declared.query.Query.TheVariants as query
use Rattle.arena_rules.specs.Answers.{answer_to}
use Rattle.arena_rules.specs.Verdicts.{game_at}
use Rattle.arena_rules.specs.Views.{game_shown}
use Rattle.arena_core.specs.Answers.{TellsAt}
use Rattle.arena_core.specs.declared.fault.QueryFault.{QueryFault}
use Rattle.arena_core.specs.declared.fault.QueryFault.TheVariants as faults
use Rattle.arena_rules.specs.RoomLaws.{HeadersAreInRange}
use Rattle.pgn_text.specs.Games.{is_line}
use Rattle.pgn_text.specs.Pgn.{pgn_of}
use Rattle.games_text.specs.declared.ended.Ended.{Ended}
use Rattle.games_text.specs.GameTexts.{told, ended_in, game_with, game_of, text_of_game}
use Rattle.games_text.specs.Sent.{AreSent, MovesWereSent, MovesAreALine}

-- the counted game of which this is told
record IsToldOf (o : Option EndedGame) (x : Ended) : Type 0 where
  pub game : EndedGame
  pub is : o ≡ Some game
  pub told : x ≡ told game

told_of : (o : Option EndedGame) (x : Ended) → option_map told o ≡ Some x → IsToldOf o x
told_of None x is = cc
told_of (Some y) x is = record { game = y; is = refl; told = cc }

-- its numbers are in range, and its moves are the first ones of its line
pub record IsReady (s : Setup) (es : List Entry) (lines : List (List MoveWord)) (i : ℕ) (x : Ended) : Type 0 where
  pub place : x.id < length lines
  pub number : x.id < max_games
  pub white : x.white < length s.players
  pub black : x.black < length s.players
  pub line : IsTrue (is_line start_parts (take x.outcome.plies (get_or lines x.id [])))
  pub game : EndedGame
  pub counted : slice_get (finished s (history s es)) i ≡ Some game
  pub same : game_with s.players x (take x.outcome.plies (get_or lines x.id [])) ≡ game_of s (history s es) game

-- the answer to the question about a counted game
shown_of : (s : Setup) (h : History) (t : ℕ) (y : EndedGame) (a : Answer) → IsCounted s h y → answer_to s h t (query.Game y.game.header.id) ≡ Some a → ended_in (Ok a) ≡ Some (told y)
unfolding game_at game_shown game_view view_of standing standing_of outcome outcome_of
shown_of s h t y a is answered =
    let g = y.game in
    let view : Some (answers.Game (game_shown h g t)) ≡ Some a = sym (ap (λ o. option_map answers.Game (option_map (λ (k : Begun). game_shown h k t) o)) is.begun) ∙ answered in
    let same : answers.Game (game_shown h g t) ≡ a = cc in
    ap (λ (x : Answer). ended_in (Ok x)) (sym same) ∙ ap (option_map (λ (o : Outcome). record { id = g.header.id; white = g.header.white; black = g.header.black; outcome = o })) is.ended

shown_in : (s : Setup) (h : History) (t : ℕ) (y : EndedGame) (r : Result Answer QueryFault) → IsCounted s h y → TellsAt s h t (query.Game y.game.header.id) r → (r ≡ Err faults.OutOfMemory → ⊥) → ended_in r ≡ Some (told y)
unfolding game_at
shown_in s h t y (Ok a) is tells never = shown_of s h t y a is tells
shown_in s h t y (Err faults.NoGame) is tells never =
    let none : Some (answers.Game (game_shown h y.game t)) ≡ None = sym (ap (λ o. option_map answers.Game (option_map (λ (k : Begun). game_shown h k t) o)) is.begun) ∙ tells in
    cc
shown_in s h t y (Err faults.OutOfMemory) is tells never = absurd (never refl)

-- the counted game with this number
record IsNumberOf (o : Option EndedGame) (n : ℕ) : Type 0 where
  pub game : EndedGame
  pub is : o ≡ Some game
  pub number : n ≡ game.game.header.id

number_of : (o : Option EndedGame) (n : ℕ) → option_map (λ (x : EndedGame). x.game.header.id) o ≡ Some n → IsNumberOf o n
number_of None n is = cc
number_of (Some y) n is = record { game = y; is = refl; number = cc }

-- what is told of counted game number i, whose number is n
pub told_as_counted : CountedEnded → (s : Setup) (es : List Entry) (i n t : ℕ) (r : Result Answer QueryFault) → option_map (λ (x : EndedGame). x.game.header.id) (slice_get (finished s (history s es)) i) ≡ Some n
    → TellsAt s (history s es) t (query.Game n) r → (r ≡ Err faults.OutOfMemory → ⊥) → ended_in r ≡ option_map told (slice_get (finished s (history s es)) i)
told_as_counted ended s es i n t r is tells never =
    let h = history s es in
    let of = number_of (slice_get (finished s h) i) n is in
    shown_in s h t of.game r (all_at (IsCounted s h) (finished s h) i of.game (ended s es) of.is) (subst (λ k. TellsAt s h t (query.Game k) r) of.number tells) never
    ∙ sym (ap (option_map told) of.is)

module _ (ended : CountedEnded) (headers : HeadersAreInRange) (were_sent : MovesWereSent) (a_line : MovesAreALine) where
  ready_game : (s : Setup) (es : List Entry) (lines : List (List MoveWord)) (i : ℕ) (y : EndedGame) → IsGood s → IsLegal s es → AreSent (length (begun s (history s es))) es lines
      → slice_get (finished s (history s es)) i ≡ Some y → IsReady s es lines i (told y)
  unfolding game_of
  ready_game s es lines i y good legal are at =
      let is : IsCounted s (history s es) y = all_at (IsCounted s (history s es)) (finished s (history s es)) i y (ended s es) at in
      let range = headers s es y.game good legal is.begun in
      let below : y.game.header.id < length (begun s (history s es)) = slice_get_within (begun s (history s es)) y.game.header.id y.game is.begun in
      let ms = moves y.game.header (events (history s es) y.game) in
      let same : ms ≡ take y.outcome.plies (get_or lines y.game.header.id []) = were_sent s es y.game y.outcome legal is.begun is.ended ∙ ap (take y.outcome.plies) (sym (are.each y.game.header.id below)) in
      record {
        place = subst (λ n. y.game.header.id < n) (sym are.counted) below;
        number = range.number;
        white = range.white;
        black = range.black;
        line = subst (λ (l : List MoveWord). IsTrue (is_line start_parts l)) same (a_line y.game.header (events (history s es) y.game));
        game = y;
        counted = at;
        same = ap (game_with s.players (told y)) (sym same);
      }

  pub ready : (s : Setup) (es : List Entry) (lines : List (List MoveWord)) (i : ℕ) (x : Ended) → IsGood s → IsLegal s es → AreSent (length (begun s (history s es))) es lines
      → option_map told (slice_get (finished s (history s es)) i) ≡ Some x → IsReady s es lines i x
  ready s es lines i x good legal are is =
      let of = told_of (slice_get (finished s (history s es)) i) x is in
      subst (IsReady s es lines i) (sym of.told) (ready_game s es lines i of.game good legal are of.is)

-- ---- the texts

-- the text of game number i, where there is one
pub text_at : (s : Setup) (es : List Entry) (lines : List (List MoveWord)) (i : ℕ) (x : Ended) → IsReady s es lines i x → (line : List MoveWord) → line ≡ get_or lines x.id []
    → pgn_of (game_with s.players x (take x.outcome.plies line)) ≡ option_map_or (text_of_game s (history s es)) (slice_get (finished s (history s es)) i) []
text_at s es lines i x is line same =
    ap (λ l. pgn_of (game_with s.players x (take x.outcome.plies l))) same
    ∙ (ap pgn_of is.same ∙ sym (ap (λ o. option_map_or (text_of_game s (history s es)) o []) is.counted))

none_told : (o : Option EndedGame) → option_map told o ≡ None → o ≡ None
none_told None is = refl
none_told (Some y) is = cc

pub no_text : (f : EndedGame → List ℕ) (o : Option EndedGame) (text : List ℕ) → option_map told o ≡ None → text ≡ text ++ option_map_or f o []
no_text f o text is = sym (append-nil text) ∙ ap (λ k. text ++ option_map_or f k []) (sym (none_told o is))

-- the texts of the first games with one more
pub texts_more : (f : EndedGame → List ℕ) (games : List EndedGame) (i : ℕ) (old new : List ℕ) → i < length games → old ≡ flat_map f (take i games) → new ≡ old ++ option_map_or f (slice_get games i) [] → new ≡ flat_map f (take (i + 1) games)
texts_more f games i old new lt was put =
    let y = slice_get-get games i lt in
    let next : i + 1 ≡ suc i = omega arith in
    put ∙ ((λ k. was k ++ option_map_or f (y.1 k) []) ∙ sym (ap (flat_map f) (ap (λ n. take n games) next ∙ take-suc_at games i y.0 y.1) ∙ (flat_map-append f (take i games) (y.0 ∷ []) ∙ ap (λ l. flat_map f (take i games) ++ l) (append-nil (f y.0)))))

pub texts_all : (f : EndedGame → List ℕ) (games : List EndedGame) (i : ℕ) → length games ≤ i → flat_map f (take i games) ≡ flat_map f games
texts_all f games i le = ap (flat_map f) (take_all i games le)
