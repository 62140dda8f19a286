-- In a legal list exactly those players entered who have asked for something, and the players of every game have.
use Rattle.std.proofs.Common.{◌≡◌, ℕ, suc, ◌≤◌, ⊎_elim, List, [], ◌∷◌, ◌++◌, length, Option, Some, None, Bool, true, false, ◌||◌, refl, sym, ap, ◌∙◌, subst, arith}
use Rattle.std.specs.Prelude.{cond, nat_le, map, filter, ◌==◌, ◌≢◌, ◌↔◌, IsTrue}
use Rattle.std.specs.List.{list_any, AllByRecursion}
use Rattle.std.specs.Option.{option_map_or}
use Rattle.std.proofs.lemmas.Bool.{cases_Bool, eqb-true, and_parts, or_cases, or_left, or_right}
use Rattle.std.proofs.lemmas.List.{take_all}
use Rattle.std.proofs.lemmas.List.Folds.{list_any-append}
use Rattle.board.specs.declared.piece.Colour.{Colour}
use Rattle.board.specs.declared.piece.Colour.TheVariants.{White, Black}
use Rattle.board.specs.Piece.{other}
use Rattle.entries.specs.declared.setup.Setup.{Setup}
use Rattle.entries.specs.declared.journal.Entry.{Entry}
use Rattle.entries.specs.declared.journal.Start.{Start}
use Rattle.entries.specs.declared.journal.What.{What}
use Rattle.entries.specs.declared.journal.What.TheVariants as what
use Rattle.pair_cost.specs.declared.candidate.Pair.{Pair}
use Rattle.seats.specs.declared.wish.Wish.{Wish}
use Rattle.seats.specs.declared.wish.Wish.TheVariants.{Absent, In, Paused, Left}
use Rattle.seats.specs.Places.{wish_set, wish_freed, is_idle}
use Rattle.arena_history.specs.Endings.{EndedGame, ended_by}
use Rattle.arena_history.specs.GameLaws.{IsEndedBy}
use Rattle.arena_history.specs.Games.{Begun, games_from, begun, playing, player_on}
use Rattle.arena_history.specs.History.{History}
use Rattle.arena_history.specs.Stands.{idle}
use Rattle.arena_history.specs.Waves.{still, both_still, plan_at, start_of, started, starts_in, starts_by, history}
use Rattle.arena_history.specs.Wishes.{did_not_appear, no_show, wish_in, wish, is_no_show, has_lost, is_enter_of, has_entered}
use Rattle.arena_history.proofs.Lists.{all_append, all_weaker, all_at}
use Rattle.arena_rules.specs.declared.command.Command.TheVariants.{Pause, Leave}
use Rattle.arena_rules.specs.declared.refusal.Refusal.TheVariants as refusal
use Rattle.arena_rules.specs.Below.{LawsOfHistories}
use Rattle.arena_rules.specs.Legal.{AllowsWhat, Allowed, IsLegal}
use Rattle.arena_rules.specs.Verdicts.{or_full, pause_refusal, leave_refusal, verdict}
use Rattle.arena_rules.proofs.Bounds.{starts-push}
use Rattle.arena_rules.proofs.Legality.{legal_induction}
use Rattle.arena_rules.proofs.Leaves.{wish-nothing}

-- he has asked for something
abbrev pub has_asked : Wish → Bool
has_asked Absent = false
has_asked In = true
has_asked Paused = true
has_asked Left = true

asked_set : (w old : Wish) → has_asked w ≡ true → has_asked (wish_set w old) ≡ true
asked_set w Absent asked = asked
asked_set w In asked = asked
asked_set w Paused asked = asked
asked_set w Left asked = refl

asked_freed : (b : Bool) (old : Wish) → has_asked old ≡ true → has_asked (wish_freed b old) ≡ true
asked_freed true old asked = asked_set Paused old refl
asked_freed false old asked = asked

own_asked : (own : Bool) (w old : Wish) → has_asked w ≡ true → has_asked old ≡ true → has_asked (cond own (wish_set w old) old) ≡ true
own_asked true w old new asked = asked_set w old new
own_asked false w old new asked = asked

-- who has asked stays so
asked_stays : (b : Bool) (p : ℕ) (w : What) (old : Wish) → has_asked old ≡ true → has_asked (wish_freed b (wish_in p w old)) ≡ true
asked_stays b p (what.Enter q) old asked = asked_freed b _ (own_asked (q == p) In old refl asked)
asked_stays b p (what.Pause q) old asked = asked_freed b _ (own_asked (q == p) Paused old refl asked)
asked_stays b p (what.Leave q) old asked = asked_freed b _ (own_asked (q == p) Left old refl asked)
asked_stays b p (what.Act q number a) old asked = asked_freed b old asked
asked_stays b p what.Tick old asked = asked_freed b old asked
asked_stays b p (what.Wave n) old asked = asked_freed b old asked

pub idle_asked : (s : Setup) (h : History) (p : ℕ) → idle s h p ≡ true → has_asked (wish s h p) ≡ true
unfolding idle
idle_asked s h p on = by (wish s h p) (playing s h p) on
  where
    by : (w : Wish) (o : Option ℕ) → is_idle w o ≡ true → has_asked w ≡ true
    by w (Some g) on = cc
    by Absent None on = cc
    by In None on = refl
    by Paused None on = cc
    by Left None on = cc

-- the players of the games that an entry begins are idle before it

passed : {X : Type 0} (Q : X → Type 0) (p : X → Bool) (xs : List X) → ((x : X) → p x ≡ true → Q x) → AllByRecursion Q (filter p xs)
passed Q p [] each = tt
passed Q p (x ∷ xs) each =
    ⊎_elim
    (λ (on : p x ≡ true). rw on (each x on, passed Q p xs each))
    (λ (off : p x ≡ false). rw off (passed Q p xs each))
    (cases_Bool (p x))

-- both players of a start, of a pair and of a game
abbrev pub OfStart : (ℕ → Type 0) → Start → Type 0
OfStart P x = P x.white × P x.black

abbrev pub OfPair : (ℕ → Type 0) → Pair → Type 0
OfPair P x = P x.white × P x.black

abbrev pub OfGame : (ℕ → Type 0) → Begun → Type 0
OfGame P g = P g.header.white × P g.header.black

of_pairs : (P : ℕ → Type 0) (n : ℕ) (pairs : List Pair) → AllByRecursion (OfPair P) pairs → AllByRecursion (OfStart P) (map (start_of n) pairs)
of_pairs P n [] all = tt
of_pairs P n (x ∷ pairs) all = (all.0, of_pairs P n pairs all.1)

pub of_starts : (P : ℕ → Type 0) (s : Setup) (es : List Entry) (k : ℕ) (xs : List Start) → AllByRecursion (OfStart P) xs → AllByRecursion (OfGame P) (games_from s es k xs)
of_starts P s es k [] all = tt
of_starts P s es k (x ∷ xs) all = (all.0, of_starts P s es (suc k) xs all.1)

or-no : (b : Bool) → (b || false) ≡ b
or-no true = refl
or-no false = refl

module _ (known : LawsOfHistories) where
  -- who is still idle is idle
  still_idle : (s : Setup) (es : List Entry) (n p : ℕ) → n ≤ length es → still s (history s es) n p ≡ true → idle s (history s es) p ≡ true
  still_idle s es n p few on = ap (λ l. idle s (history s l) p) (sym (take_all (length es) es (omega arith))) ∙ (known.still s es n p).0 on (length es) few (omega arith)

  pub started_idle : (s : Setup) (es : List Entry) (n : ℕ) → n ≤ length es → AllByRecursion (OfPair (λ p. idle s (history s es) p ≡ true)) (started s (history s es) n)
  unfolding started
  started_idle s es n few =
      let h = history s es in
      passed (OfPair (λ p. idle s h p ≡ true)) (both_still s h n) (plan_at s h n).pairs (
      λ x on.
      let both = and_parts (still s h n x.white) (still s h n x.black) on in
      (still_idle s es n x.white few both.0, still_idle s es n x.black few both.1)
      )

  pub starts_idle : (s : Setup) (es : List Entry) (e : Entry) → Allowed s (history s es) e → AllByRecursion (OfStart (λ p. idle s (history s es) p ≡ true)) (starts_by s (history s es) e)
  unfolding starts_by
  starts_idle s es e allowed = by e.what allowed.granted
    where
      by : (w : What) → AllowsWhat s (history s es) e.stamp w → AllByRecursion (OfStart (λ p. idle s (history s es) p ≡ true)) (starts_in s (history s es) w)
      by (what.Enter p) may = tt
      by (what.Pause p) may = tt
      by (what.Leave p) may = tt
      by (what.Act p number a) may = tt
      by what.Tick may = tt
      by (what.Wave n) may = of_pairs (λ p. idle s (history s es) p ≡ true) (length (history s es).entries) (started s (history s es) n) (started_idle s es n (rw (← known.entries s es) may.known))

  -- what each player who is idle comes to have with the entry that begins a game for him, and keeps with every entry more, the
  -- players of all games have
  module _ (s : Setup) (P : List Entry → ℕ → Type 0) (keeps : (es : List Entry) (e : Entry) (p : ℕ) → IsLegal s es → Allowed s (history s es) e → P es p → P (es ++ e ∷ []) p) (comes : (es : List Entry) (e : Entry) (p : ℕ) → IsLegal s es → Allowed s (history s es) e → idle s (history s es) p ≡ true → P (es ++ e ∷ []) p) where
    none_begun : AllByRecursion (OfStart (P [])) (history s []).starts
    unfolding history
    none_begun = tt

    pub players_of_starts : (es : List Entry) → IsLegal s es → AllByRecursion (OfStart (P es)) (history s es).starts
    players_of_starts es legal =
        legal_induction s (λ l. AllByRecursion (OfStart (P l)) (history s l).starts) none_begun
        (λ l e was allowed all.
        subst (AllByRecursion (OfStart (P (l ++ e ∷ [])))) (sym (starts-push known s l e))
        (all_append (OfStart (P (l ++ e ∷ []))) (history s l).starts (starts_by s (history s l) e)
        (all_weaker (OfStart (P l)) (OfStart (P (l ++ e ∷ []))) (history s l).starts (λ x both. (keeps l e x.white was allowed both.0, keeps l e x.black was allowed both.1)) all)
        (all_weaker (OfStart (λ p. idle s (history s l) p ≡ true)) (OfStart (P (l ++ e ∷ []))) (starts_by s (history s l) e) (λ x both. (comes l e x.white was allowed both.0, comes l e x.black was allowed both.1)) (starts_idle s l e allowed))))
        es legal

    pub players_of_games : (es : List Entry) → IsLegal s es → AllByRecursion (OfGame (P es)) (begun s (history s es))
    unfolding begun
    players_of_games es legal = of_starts (P es) s (history s es).entries 0 (history s es).starts (players_of_starts es legal)

  -- the players of games have asked for something

  asked_step : (s : Setup) (es : List Entry) (e : Entry) (p : ℕ) → has_asked (wish s (history s es) p) ≡ true → has_asked (wish s (history s (es ++ e ∷ [])) p) ≡ true
  asked_step s es e p asked = rw (known.wish s es e p) (asked_stays (no_show s (history s es) e p) p e.what (wish s (history s es) p) asked)

  pub players_asked : (s : Setup) (es : List Entry) → IsLegal s es → AllByRecursion (OfGame (λ p. has_asked (wish s (history s es) p) ≡ true)) (begun s (history s es))
  players_asked s =
      players_of_games s (λ l p. has_asked (wish s (history s l) p) ≡ true) (λ l e p was allowed asked. asked_step s l e p asked) (λ l e p was allowed on. asked_step s l e p (idle_asked s (history s l) p on))

  -- and so has who did not appear for one

  lost_by : (P : ℕ → Type 0) (p : ℕ) (x : EndedGame) → OfGame P x.game → did_not_appear p x ≡ true → P p
  lost_by P p x both missed = by x.outcome.winner (and_parts (is_no_show x.outcome.cause) (has_lost p x) missed).1
    where
      by : (o : Option Colour) → option_map_or (λ (winner : Colour). player_on (other winner) x.game.header == p) o false ≡ true → P p
      by None lost = cc
      by (Some White) lost = subst P (eqb-true x.game.header.black p lost) both.1
      by (Some Black) lost = subst P (eqb-true x.game.header.white p lost) both.0

  any_of : (P : ℕ → Type 0) (p : ℕ) (xs : List EndedGame) → AllByRecursion (λ (x : EndedGame). OfGame P x.game) xs → list_any (did_not_appear p) xs ≡ true → P p
  any_of P p [] all missed = cc
  any_of P p (x ∷ xs) all missed =
      ⊎_elim
      (λ (here : did_not_appear p x ≡ true). lost_by P p x all.0 here)
      (λ (later : list_any (did_not_appear p) xs ≡ true). any_of P p xs all.1 later)
      (or_cases (did_not_appear p x) (list_any (did_not_appear p) xs) missed)

  pub ended_players : (s : Setup) (es : List Entry) (e : Entry) (P : ℕ → Type 0) → AllByRecursion (OfGame P) (begun s (history s es)) → AllByRecursion (λ (x : EndedGame). OfGame P x.game) (ended_by s (history s es) e)
  ended_players s es e P all =
      all_weaker (IsEndedBy s es e) (λ (x : EndedGame). OfGame P x.game) (ended_by s (history s es) e) (λ x now. all_at (OfGame P) (begun s (history s es)) x.game.header.id x.game all now.game) (known.ended s es e)

  absent_asked : (s : Setup) (es : List Entry) (e : Entry) (p : ℕ) → IsLegal s es → no_show s (history s es) e p ≡ true → has_asked (wish s (history s es) p) ≡ true
  unfolding no_show
  absent_asked s es e p legal missed =
      any_of (λ q. has_asked (wish s (history s es) q) ≡ true) p (ended_by s (history s es) e) (ended_players s es e (λ q. has_asked (wish s (history s es) q) ≡ true) (players_asked s es legal)) missed

  -- exactly those entered who have asked for something

  asked_from_leave : (es : List Entry) (closed : Bool) (w : Wish) → or_full es (cond closed (Some refusal.Closed) (leave_refusal w)) ≡ None → has_asked w ≡ true
  asked_from_leave es true w may = cc
  asked_from_leave es false Absent may = cc
  asked_from_leave es false In may = refl
  asked_from_leave es false Paused may = refl
  asked_from_leave es false Left may = refl

  asked_before_leave : (s : Setup) (h : History) (t p : ℕ) → verdict s h t (Leave p) ≡ None → has_asked (wish s h p) ≡ true
  unfolding verdict
  asked_before_leave s h t p may = asked_from_leave h.entries (nat_le s.ends t) (wish s h p) may

  asked_from_pause : (es : List Entry) (closed : Bool) (w : Wish) → or_full es (cond closed (Some refusal.Closed) (pause_refusal w)) ≡ None → has_asked w ≡ true
  asked_from_pause es true w may = cc
  asked_from_pause es false Absent may = cc
  asked_from_pause es false In may = refl
  asked_from_pause es false Paused may = refl
  asked_from_pause es false Left may = refl

  asked_before_pause : (s : Setup) (h : History) (t p : ℕ) → verdict s h t (Pause p) ≡ None → has_asked (wish s h p) ≡ true
  unfolding verdict
  asked_before_pause s h t p may = asked_from_pause h.entries (nat_le s.ends t) (wish s h p) may

  freed_same : (b : Bool) (old : Wish) → (b ≡ true → has_asked old ≡ true) → has_asked (wish_freed b old) ≡ has_asked old
  freed_same true old asked = asked_set Paused old refl ∙ sym (asked refl)
  freed_same false old asked = refl

  -- an entry asks in somebody's name who has asked before, or it is his enter
  own_again : (s : Setup) (h : History) (p q : ℕ) (new : Wish) → has_asked new ≡ true → has_asked (wish s h q) ≡ true → has_asked (cond (q == p) (wish_set new (wish s h p)) (wish s h p)) ≡ has_asked (wish s h p)
  own_again s h p q new is asked =
      ⊎_elim
      (λ (own : (q == p) ≡ true).
      let asked_p : has_asked (wish s h p) ≡ true = ap (λ n. has_asked (wish s h n)) (sym (eqb-true q p own)) ∙ asked in
      rw own (asked_set new (wish s h p) is ∙ sym asked_p))
      (λ (away : (q == p) ≡ false). rw away refl)
      (cases_Bool (q == p))

  asked_in : (s : Setup) (h : History) (t p : ℕ) (w : What) → AllowsWhat s h t w → has_asked (wish_in p w (wish s h p)) ≡ (has_asked (wish s h p) || is_enter_of p w)
  asked_in s h t p (what.Enter q) may =
      ⊎_elim
      (λ (own : (q == p) ≡ true). rw own (asked_set In (wish s h p) refl ∙ sym (or_right (has_asked (wish s h p)) true refl)))
      (λ (away : (q == p) ≡ false). rw away (sym (or-no (has_asked (wish s h p)))))
      (cases_Bool (q == p))
  asked_in s h t p (what.Pause q) may = own_again s h p q Paused refl (asked_before_pause s h t q may.not_refused) ∙ sym (or-no (has_asked (wish s h p)))
  asked_in s h t p (what.Leave q) may = own_again s h p q Left refl (asked_before_leave s h t q may.not_refused) ∙ sym (or-no (has_asked (wish s h p)))
  asked_in s h t p (what.Act q number a) may = sym (or-no (has_asked (wish s h p)))
  asked_in s h t p what.Tick may = sym (or-no (has_asked (wish s h p)))
  asked_in s h t p (what.Wave n) may = sym (or-no (has_asked (wish s h p)))

  -- a list of entries has an enter of p
  abbrev enters : ℕ → List Entry → Bool
  enters p es = list_any (λ (e : Entry). is_enter_of p e.what) es

  enters-push : (p : ℕ) (es : List Entry) (e : Entry) → enters p (es ++ e ∷ []) ≡ (enters p es || is_enter_of p e.what)
  enters-push p es e = list_any-append (λ (x : Entry). is_enter_of p x.what) es (e ∷ []) ∙ ap (λ b. enters p es || b) (or-no (is_enter_of p e.what))

  asked_push : (s : Setup) (es : List Entry) (e : Entry) (p : ℕ) → IsLegal s es → Allowed s (history s es) e → enters p es ≡ has_asked (wish s (history s es) p) → enters p (es ++ e ∷ []) ≡ has_asked (wish s (history s (es ++ e ∷ [])) p)
  asked_push s es e p legal allowed same =
      let h = history s es in
      let old = wish s h p in
      let by_entry = asked_in s h e.stamp p e.what allowed.granted in
      let freed : has_asked (wish_freed (no_show s h e p) (wish_in p e.what old)) ≡ has_asked (wish_in p e.what old) =
      freed_same (no_show s h e p) (wish_in p e.what old) (λ missed. by_entry ∙ or_left (has_asked old) (is_enter_of p e.what) (absent_asked s es e p legal missed)) in
      enters-push p es e ∙ (ap (λ b. b || is_enter_of p e.what) same ∙ (sym by_entry ∙ (sym freed ∙ ap has_asked (sym (known.wish s es e p)))))

  pub asked_entered : (s : Setup) (es : List Entry) (p : ℕ) → IsLegal s es → has_entered (history s es) p ≡ has_asked (wish s (history s es) p)
  asked_entered s es p legal =
      ap (enters p) (known.entries s es) ∙ legal_induction s (λ l. enters p l ≡ has_asked (wish s (history s l) p)) (sym (ap has_asked (wish-nothing known s p))) (λ l e was allowed same. asked_push s l e p was allowed same) es legal

  asked_wish : (w : Wish) → IsTrue (has_asked w) ↔ (w ≢ Absent)
  asked_wish Absent = (λ on. cc, λ off. absurd (off refl))
  asked_wish In = (λ on. λ never. cc, λ off. refl)
  asked_wish Paused = (λ on. λ never. cc, λ off. refl)
  asked_wish Left = (λ on. λ never. cc, λ off. refl)

  pub entered_have_asked : (s : Setup) (es : List Entry) (p : ℕ) → IsLegal s es → IsTrue (has_entered (history s es) p) ↔ (wish s (history s es) p ≢ Absent)
  entered_have_asked s es p legal = rw (asked_entered s es p legal) (asked_wish (wish s (history s es) p))
