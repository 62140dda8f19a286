-- The players and teams that replies and answers show are those of the setup.
use Rattle.std.proofs.Common.{◌≡◌, ℕ, ◌+◌, ◌*◌, ◌<◌, List, [], ◌∷◌, ◌++◌, length, map, take, drop, get_or, Option, Some, None, refl, sym, ap, ◌∙◌, subst, arith}
use Rattle.std.specs.Prelude.{All, slice_get, Result, Ok, Err, IfOk}
use Rattle.std.specs.List.{range_with_len}
use Rattle.std.specs.List.Sorted.{IsPermutation}
use Rattle.std.specs.Option.{option_map}
use Rattle.std.proofs.lemmas.List.{get_or-map, length-map}
use Rattle.std.proofs.lemmas.List.Elements.{All-take, All-drop, All-weaker}
use Rattle.std.proofs.lemmas.List.FromFn.{get_or-range_with_len, length-range_with_len}
use Rattle.std.proofs.lemmas.List.Sorted.{All-permutation}
use Rattle.entries.specs.declared.action.Action.{Action}
use Rattle.entries.specs.declared.journal.Entry.{Entry}
use Rattle.entries.specs.declared.setup.Setup.{Setup}
use Rattle.entries.specs.Ranges.{IsGood}
use Rattle.game_room.specs.declared.view.GameView.{GameView}
use Rattle.game_room.specs.Games as room
use Rattle.ranking.specs.declared.row.Row.{Row}
use Rattle.ranking.specs.Rows.{page, rank_of, rows}
use Rattle.team_battle.specs.declared.team_row.TeamRow.{TeamRow}
use Rattle.team_battle.specs.Laws.{EachTeamOnce}
use Rattle.team_battle.specs.Teams.{IsRowOf}
use Rattle.team_battle.specs.Teams as battle
use Rattle.arena_history.specs.GameLaws.{GamesAreNumbered, IsGameOf}
use Rattle.arena_history.specs.Games.{Begun, begun}
use Rattle.arena_history.specs.History.{History}
use Rattle.arena_history.specs.HistoryLaws.{HistoriesGrow}
use Rattle.arena_history.specs.Stamps.{stamp_of}
use Rattle.arena_history.specs.Table.{lines, standings, team_standings}
use Rattle.arena_history.specs.Waves.{after, history}
use Rattle.arena_rules.specs.declared.command.Command.{Command}
use Rattle.arena_rules.specs.declared.command.Command.TheVariants.{Enter, Pause, Leave, Act, Tick}
use Rattle.arena_rules.specs.declared.query.Answer.{Answer}
use Rattle.arena_rules.specs.declared.query.Answer.TheVariants as answers
use Rattle.arena_rules.specs.declared.query.Query.{Query}
use Rattle.arena_rules.specs.declared.query.Query.TheVariants as query
use Rattle.arena_rules.specs.declared.query.Reply.{Reply}
use Rattle.arena_rules.specs.declared.query.Reply.TheVariants as reply
use Rattle.arena_rules.specs.Answers.{answer_to, reply_to, shown_at}
use Rattle.arena_rules.specs.Commands.{entry_of}
use Rattle.arena_rules.specs.Legal.{IsLegal}
use Rattle.arena_rules.specs.Queries.{IsQueryOf}
use Rattle.arena_rules.specs.RankingLaws.{TablesAreInRange}
use Rattle.arena_rules.specs.RoomLaws.{HeadersAreInRange}
use Rattle.arena_rules.specs.Verdicts.{game_at}
use Rattle.arena_rules.specs.Views.{game_shown, me_at, me_view}
use Rattle.arena_core.specs.declared.fault.ApplyFault.{ApplyFault}
use Rattle.arena_core.specs.declared.fault.QueryFault.{QueryFault}
use Rattle.arena_core.specs.Answers.{AnswersAt, TellsAt}
use Rattle.api.specs.Bodies.{IsShownAnswer, IsShownReply}
use Rattle.arena_lock.specs.Turns.{Commanded, Pass}
use Rattle.arena_lock.specs.Turns as lock
use Rattle.host.specs.Steps.{IsPlayers, LawsOfShown}

abbrev value_or : {A : Type 0} → A → Option A → A
value_or d (Some x) = x
value_or d None = d

out_of : {A : Type 0} (x y : A) → ◌≡◌ {A = Option A} (Some x) (Some y) → x ≡ y
out_of x y is = ap (value_or x) is

me_at_player : (s : Setup) (h : History) (p : ℕ) (rank : Option ℕ) → (me_at s h p rank).player ≡ p
me_at_player s h p None = refl
me_at_player s h p (Some k) = refl

me_player : (s : Setup) (h : History) (p : ℕ) → (me_view s h p).player ≡ p
unfolding me_view
me_player s h p = me_at_player s h p (rank_of (lines s h) p)

shown_white : (h : History) (g : Begun) (t : ℕ) → (game_shown h g t).white ≡ g.header.white
unfolding game_shown room.game_view room.view_of
shown_white h g t = refl

shown_black : (h : History) (g : Begun) (t : ℕ) → (game_shown h g t).black ≡ g.header.black
unfolding game_shown room.game_view room.view_of
shown_black h g t = refl

-- a reply or an answer about a player shows him alone
shown_me_reply : (s : Setup) (h : History) (p : ℕ) (r : Reply) → p < length s.players → Some (reply.Me (me_view s h p)) ≡ Some r → IsShownReply s r
shown_me_reply s h p r lt is =
    subst (IsShownReply s) (out_of _ _ is) (subst (λ k. k < length s.players) (sym (me_player s h p)) lt)

module _ (laws : LawsOfShown) (s : Setup) (good : IsGood s) where
  -- the game that is shown at a number is one of the list's, so two players of the setup play it
  shown_game : (es : List Entry) (t number : ℕ) (found : Option Begun) (v : GameView) → IsLegal s es → slice_get (begun s (history s es)) number ≡ found
      → option_map (λ (g : Begun). game_shown (history s es) g t) found ≡ Some v → (v.white < length s.players) × (v.black < length s.players)
  shown_game es t number None v legal at is = absurd (cc)
  shown_game es t number (Some g) v legal at is =
      let id : g.header.id ≡ number = laws.numbered.numbered s (history s es) number g at in
      let of : IsGameOf s es g = subst (λ k. slice_get (begun s (history s es)) k ≡ Some g) (sym id) at in
      let header = laws.headers s es g good legal of in
      let view : game_shown (history s es) g t ≡ v = out_of _ _ is in (
        subst (λ k. k < length s.players) (sym (shown_white (history s es) g t) ∙ ap (λ (x : GameView). x.white) view) header.white,
        subst (λ k. k < length s.players) (sym (shown_black (history s es) g t) ∙ ap (λ (x : GameView). x.black) view) header.black,
      )

  shown_at_number : (es : List Entry) (t number : ℕ) (v : GameView) → IsLegal s es → shown_at s (history s es) t number ≡ Some v
      → (v.white < length s.players) × (v.black < length s.players)
  unfolding game_at
  shown_at_number es t number v legal is = shown_game es t number (slice_get (begun s (history s es)) number) v legal refl is

  game_replied : (es : List Entry) (t number : ℕ) (shown : Option GameView) (r : Reply) → IsLegal s es → shown_at s (history s es) t number ≡ shown
      → option_map reply.Game shown ≡ Some r → IsShownReply s r
  game_replied es t number None r legal at is = absurd (cc)
  game_replied es t number (Some v) r legal at is = subst (IsShownReply s) (out_of _ _ is) (shown_at_number es t number v legal at)

  game_answered : (es : List Entry) (t number : ℕ) (shown : Option GameView) (a : Answer) → IsLegal s es → shown_at s (history s es) t number ≡ shown
      → option_map answers.Game shown ≡ Some a → IsShownAnswer s a
  game_answered es t number None a legal at is = absurd (cc)
  game_answered es t number (Some v) a legal at is = subst (IsShownAnswer s) (out_of _ _ is) (shown_at_number es t number v legal at)

  -- what a player's command is answered
  pub shown_reply : (found left : List Entry) (i t : ℕ) (c : Command) (r : Reply) → IsPlayers (length s.players) c → IsLegal s left
      → left ≡ found ++ entry_of t i c ∷ [] → reply_to s (history s found) t i c ≡ Some r → IsShownReply s r
  unfolding reply_to
  shown_reply found left i t (Enter p) r player legal grown is = shown_me_reply s _ p r player is
  shown_reply found left i t (Pause p) r player legal grown is = shown_me_reply s _ p r player is
  shown_reply found left i t (Leave p) r player legal grown is = shown_me_reply s _ p r player is
  shown_reply found left i t (Act p number a) r player legal grown is =
      let same : after s (history s found) (entry_of t i (Act p number a)) ≡ history s left = sym (ap (history s) grown ∙ laws.grow s found _) in
      game_replied left t number (shown_at s (history s left) t number) r legal refl
      (subst (λ h. option_map reply.Game (shown_at s h t number) ≡ Some r) same is)
  shown_reply found left i t Tick r player legal grown is = absurd player

  -- the rows of a page, and those of the teams
  shown_rows : (es : List Entry) (k : ℕ) → IsLegal s es → All (λ (row : Row). row.player < length s.players) (page (10 * k) 10 (lines s (history s es)))
  unfolding standings
  shown_rows es k legal =
      let all = All-weaker (IsRowOf (length s.players)) (λ (row : Row). row.player < length s.players) (λ row is. is.player) (rows (lines s (history s es))) (laws.rows s es good legal) in
      All-take (λ (row : Row). row.player < length s.players) 10 (drop (10 * k) (rows (lines s (history s es)))) (All-drop (λ (row : Row). row.player < length s.players) (10 * k) (rows (lines s (history s es))) all)

  all_unmap : (n : ℕ) (xs : List TeamRow) → All (λ (t : ℕ). t < n) (map (λ (row : TeamRow). row.team) xs) → All (λ (row : TeamRow). row.team < n) xs
  all_unmap n xs all k d lt =
      let long = length-map xs (λ (row : TeamRow). row.team) in
      subst (λ t. t < n) (get_or-map (λ (row : TeamRow). row.team) xs k d d.team lt) (all k d.team (omega arith))

  all_numbers : (n : ℕ) → All (λ (t : ℕ). t < n) (range_with_len 0 n)
  all_numbers n k d lt =
      let long = length-range_with_len 0 n in
      let within : k < n = omega arith in
      subst (λ t. t < n) (sym (get_or-range_with_len 0 n k d within)) (omega arith)

  shown_teams : (h : History) → All (λ (row : TeamRow). row.team < length s.teams) (team_standings s h)
  unfolding team_standings
  shown_teams h =
      all_unmap (length s.teams) (battle.teams s (standings s h))
      (All-permutation (λ t. t < length s.teams) (range_with_len 0 (length s.teams)) (map (λ (row : TeamRow). row.team) (battle.teams s (standings s h))) (laws.teams s (standings s h)) (all_numbers (length s.teams)))

  -- what a question is answered
  pub shown_answer : (es : List Entry) (t : ℕ) (q : Query) (a : Answer) → IsQueryOf (length s.players) q → IsLegal s es
      → answer_to s (history s es) t q ≡ Some a → IsShownAnswer s a
  shown_answer es t query.Arena a player legal is = subst (IsShownAnswer s) (out_of _ _ is) tt
  shown_answer es t (query.Standing k) a player legal is = subst (IsShownAnswer s) (out_of _ _ is) (shown_rows es k legal)
  shown_answer es t query.Teams a player legal is = subst (IsShownAnswer s) (out_of _ _ is) (shown_teams (history s es))
  shown_answer es t (query.Me p) a player legal is =
      subst (IsShownAnswer s) (out_of _ _ is) (subst (λ k. k < length s.players) (sym (me_player s (history s es) p)) player)
  shown_answer es t (query.Game number) a player legal is = game_answered es t number (shown_at s (history s es) t number) a legal refl is
  shown_answer es t (query.Journal k) a player legal is = subst (IsShownAnswer s) (out_of _ _ is) tt

  -- so it is after a call of the lobby
  replied_if_ok : (found left : List Entry) (i t : ℕ) (c : Command) (result : Result Reply ApplyFault) → IsPlayers (length s.players) c → IsLegal s left
      → AnswersAt s found i t c left result → IfOk result (IsShownReply s)
  replied_if_ok found left i t c (Ok r) player legal answer = shown_reply found left i t c r player legal answer.entries answer.reply
  replied_if_ok found left i t c (Err e) player legal answer = tt

  answered_if_ok : (es : List Entry) (t : ℕ) (q : Query) (result : Result Answer QueryFault) → IsQueryOf (length s.players) q → IsLegal s es
      → TellsAt s (history s es) t q result → IfOk result (IsShownAnswer s)
  answered_if_ok es t q (Ok a) player legal tells = shown_answer es t q a player legal tells
  answered_if_ok es t q (Err e) player legal tells = tt

  pub shown_by_command : (old new : Pass) (now : ℕ) (c : Command) (result : Result Reply ApplyFault) → IsPlayers (length s.players) c → IsLegal s new.seen
      → Commanded s old new now c result → IfOk result (IsShownReply s)
  shown_by_command old new now c result player legal p =
      replied_if_ok p.found p.left old.number (stamp_of p.found now) c result player (subst (IsLegal s) (ap (λ (z : Pass). z.seen) p.turn.after) legal) p.answer

  pub shown_by_question : (old new : Pass) (now : ℕ) (q : Query) (result : Result Answer QueryFault) → IsQueryOf (length s.players) q → IsLegal s new.seen
      → lock.Asked s old new now q result → IfOk result (IsShownAnswer s)
  shown_by_question old new now q result player legal p =
      answered_if_ok p.found (stamp_of p.found now) q result player (subst (IsLegal s) (ap (λ (z : Pass). z.seen) p.turn.after) legal) p.answer
