-- Each game that ended before the arena's end counts once, and no other game does.
use Rattle.std.proofs.Common.{◌≡◌, ℕ, zero, suc, ◌+◌, ◌-◌, ◌<◌, ◌≤◌, ⊎_elim, List, [], ◌∷◌, ◌++◌, length, Option, Some, None, Bool, true, false, ◌&&◌, refl, sym, ap, ◌∙◌, subst, arith, append_assoc}
use Rattle.std.specs.Prelude.{filter, cond, not, map, nat_lt, is_none, sum_by, count_by, slice_get, ◌==◌, ◌≢◌}
use Rattle.std.specs.List.{AllByRecursion}
use Rattle.std.proofs.lemmas.Bool.{cases_Bool, cases_lt, eq-eqb, ne_eqb, ltb-true}
use Rattle.std.proofs.lemmas.List.{append-nil}
use Rattle.std.proofs.lemmas.List.Sums.{sum_by-cons, sum_by-append}
use Rattle.entries.specs.declared.setup.Setup.{Setup}
use Rattle.entries.specs.declared.journal.Entry.{Entry}
use Rattle.entries.specs.declared.journal.Start.{Start}
use Rattle.game_room.specs.declared.outcome.Outcome.{Outcome}
use Rattle.arena_history.specs.History.{History, with_entry, along}
use Rattle.arena_history.specs.Games.{Begun, game_of, games_from, begun, outcome_of, goes_on, running}
use Rattle.arena_history.specs.Endings.{EndedGame, ended_by, counted_by, finished}
use Rattle.arena_history.specs.Waves.{after, history}
use Rattle.arena_history.specs.Counting.{ends_in_time, IsCounted}
use Rattle.arena_history.proofs.Histories.{IsWhole-history, history-push}
use Rattle.arena_history.proofs.BegunGames.{new_games, begun-after, begun_own, new_games_from, outcome-after, outcome_new, outcome_stays}
use Rattle.arena_history.proofs.Ended.{EndedNow, ended_games, ended_now, ended_from_begun, finished-after}
use Rattle.arena_history.proofs.EndingStamps.{ended_stamp}
use Rattle.arena_history.proofs.Lists.{all_append, all_weaker, all_filter, all_at, slice_get-append_left, slice_get-append_right, slice_get_within, snoc_induction}

-- a game has number i
abbrev hit : ℕ → Begun → ℕ
hit i g = cond (g.header.id == i) 1 0

hits_none : (i : ℕ) (gs : List Begun) → AllByRecursion (λ g. g.header.id ≢ i) gs → sum_by (hit i) gs ≡ 0
hits_none i [] all = refl
hits_none i (g ∷ gs) all = sum_by-cons (hit i) g gs ∙ (λ j. cond (ne_eqb g.header.id i all.0 j) 1 0 + hits_none i gs all.1 j)

pub numbers_above : (s : Setup) (es : List Entry) (a b : ℕ) (xs : List Start) → a ≤ b → AllByRecursion (λ g. a ≤ g.header.id) (games_from s es b xs)
numbers_above s es a b [] le = tt
numbers_above s es a b (x ∷ xs) le = (le, numbers_above s es a (suc b) xs (omega arith))

pub numbers_below : (s : Setup) (es : List Entry) (a : ℕ) (xs : List Start) → AllByRecursion (λ g. g.header.id < a + length xs) (games_from s es a xs)
numbers_below s es a [] = tt
numbers_below s es a (x ∷ xs) = (omega arith, all_weaker (λ g. g.header.id < suc a + length xs) (λ g. g.header.id < a + length (x ∷ xs)) (games_from s es (suc a) xs) (λ g lt. omega arith) (numbers_below s es (suc a) xs))

hits_one : (t : Begun → Bool) (s : Setup) (es : List Entry) (a i : ℕ) (xs : List Start) (g : Begun) → slice_get (games_from s es a xs) i ≡ Some g → sum_by (hit (a + i)) (filter t (games_from s es a xs)) ≡ cond (t g) 1 0
hits_one t s es a i [] g at = cc
hits_one t s es a zero (x ∷ xs) g at =
    let y = game_of s es a x in
    let same : y ≡ g = cc in
    let rest : sum_by (hit (a + 0)) (filter t (games_from s es (suc a) xs)) ≡ 0 = hits_none (a + 0) (filter t (games_from s es (suc a) xs)) (all_filter (λ q. q.header.id ≢ a + 0) t (games_from s es (suc a) xs) (all_weaker (λ q. suc a ≤ q.header.id) (λ q. q.header.id ≢ a + 0) (games_from s es (suc a) xs) (λ q le e. absurd (omega arith)) (numbers_above s es (suc a) (suc a) xs (omega arith)))) in
    let one : ◌≡◌ {A = ℕ} (hit (a + 0) y) 1 = ap (λ b. cond b 1 0) (eq-eqb a (a + 0) (omega arith)) in
    ⊎_elim
    (λ (on : t y ≡ true). rw on (sum_by-cons (hit (a + 0)) y (filter t (games_from s es (suc a) xs)) ∙ ((λ j. one j + rest j) ∙ sym (ap (λ b. cond b 1 0) (ap t (sym same) ∙ on)))))
    (λ (off : t y ≡ false). rw off (rest ∙ sym (ap (λ b. cond b 1 0) (ap t (sym same) ∙ off))))
    (cases_Bool (t y))
hits_one t s es a (suc i) (x ∷ xs) g at =
    let y = game_of s es a x in
    let end : suc a + i ≡ a + suc i = omega arith in
    let rest : sum_by (hit (a + suc i)) (filter t (games_from s es (suc a) xs)) ≡ cond (t g) 1 0 = ap (λ k. sum_by (hit k) (filter t (games_from s es (suc a) xs))) (sym end) ∙ hits_one t s es (suc a) i xs g at in
    let none : ◌≡◌ {A = ℕ} (hit (a + suc i) y) 0 = ap (λ b. cond b 1 0) (ne_eqb a (a + suc i) (λ e. absurd (omega arith))) in
    ⊎_elim
    (λ (on : t y ≡ true). rw on (sum_by-cons (hit (a + suc i)) y (filter t (games_from s es (suc a) xs)) ∙ ((λ j. none j + sum_by (hit (a + suc i)) (filter t (games_from s es (suc a) xs))) ∙ (omega arith ∙ rest))))
    (λ (off : t y ≡ false). rw off rest)
    (cases_Bool (t y))

-- a game stands at its number among the games
placed_from : (s : Setup) (es : List Entry) (a : ℕ) (xs : List Start) → AllByRecursion (λ g. (a ≤ g.header.id) × (slice_get (games_from s es a xs) (g.header.id - a) ≡ Some g)) (games_from s es a xs)
placed_from s es a [] = tt
placed_from s es a (x ∷ xs) =
    let all = games_from s es a (x ∷ xs) in
    ((omega arith, ap (slice_get all) (let none : a - a ≡ 0 = omega arith in none)), all_weaker (λ g. (suc a ≤ g.header.id) × (slice_get (games_from s es (suc a) xs) (g.header.id - suc a) ≡ Some g)) (λ g. (a ≤ g.header.id) × (slice_get all (g.header.id - a) ≡ Some g)) (games_from s es (suc a) xs) (λ g at. let low : suc a ≤ g.header.id = at.0 in (omega arith, ap (slice_get all) (let more : g.header.id - a ≡ suc (g.header.id - suc a) = omega arith in more) ∙ at.1)) (placed_from s es (suc a) xs))

pub begun_placed : (s : Setup) (h : History) → AllByRecursion (λ g. slice_get (begun s h) g.header.id ≡ Some g) (begun s h)
unfolding begun
begun_placed s h =
    let all = games_from s h.entries 0 h.starts in
    all_weaker (λ g. (0 ≤ g.header.id) × (slice_get all (g.header.id - 0) ≡ Some g)) (λ g. slice_get all g.header.id ≡ Some g) all (λ g at. ap (slice_get all) (let same : g.header.id ≡ g.header.id - 0 = omega arith in same) ∙ at.1) (placed_from s h.entries 0 h.starts)

pub ended_placed : (s : Setup) (h : History) (e : Entry) → AllByRecursion (λ (x : EndedGame). slice_get (begun s h) x.game.header.id ≡ Some x.game) (ended_by s h e)
ended_placed s h e = ended_from_begun (λ g. slice_get (begun s h) g.header.id ≡ Some g) s h e (begun_placed s h)

filter_both : {X : Type 0} (p q : X → Bool) (xs : List X) → filter q (filter p xs) ≡ filter (λ x. p x && q x) xs
filter_both p q [] = refl
filter_both p q (x ∷ xs) = elim (p x) as (λ b. filter q (cond b (x ∷ filter p xs) (filter p xs)) ≡ cond (b && q x) (x ∷ filter (λ x. p x && q x) xs) (filter (λ x. p x && q x) xs)) [ true ↦ ap (λ l. cond (q x) (x ∷ l) l) (filter_both p q xs) | false ↦ filter_both p q xs ]

count_map : (i : ℕ) (xs : List EndedGame) → sum_by (λ (x : EndedGame). cond (x.game.header.id == i) 1 0) xs ≡ sum_by (hit i) (map (λ (x : EndedGame). x.game) xs)
count_map i [] = refl
count_map i (x ∷ xs) = sum_by-cons (λ (x : EndedGame). cond (x.game.header.id == i) 1 0) x xs ∙ (ap (λ k. cond (x.game.header.id == i) 1 0 + k) (count_map i xs) ∙ sym (sum_by-cons (hit i) x.game (map (λ (x : EndedGame). x.game) xs)))

-- how often game i stands in a list
abbrev pub times : ℕ → List EndedGame → ℕ
times i xs = count_by (λ (x : EndedGame). x.game.header.id == i) xs

-- an entry ends a game
abbrev ends_now : History → Entry → Begun → Bool
ends_now h e g = goes_on h g && not (goes_on (with_entry h e) g)

times_ended : (s : Setup) (h : History) (e : Entry) (i : ℕ) (g : Begun) → slice_get (begun s h) i ≡ Some g → times i (ended_by s h e) ≡ cond (ends_now h e g) 1 0
unfolding running begun
times_ended s h e i g at =
    count_map i (ended_by s h e) ∙ (
    ap (sum_by (hit i)) (ended_games s h e ∙ filter_both (goes_on h) (λ g. not (goes_on (with_entry h e) g)) (games_from s h.entries 0 h.starts)) ∙ (ap (λ k. sum_by (hit k) (filter (ends_now h e) (games_from s h.entries 0 h.starts))) (omega arith) ∙ hits_one (ends_now h e) s h.entries 0 i h.starts g at)
    )

times_counted : (b : Bool) (i : ℕ) (xs : List EndedGame) → times i (cond b xs []) ≡ cond b (times i xs) 0
times_counted true i xs = refl
times_counted false i xs = refl

-- each finished game is a begun one that ended in time, with its outcome
abbrev AreCounted : Setup → History → List EndedGame → Type 0
AreCounted s h xs = AllByRecursion (IsCounted s h) xs

-- whether a game ended in time with one entry more
module _ (s : Setup) (es : List Entry) (e : Entry) where
  abbrev before : History
  before = history s es

  stays_over : (g : Begun) → g.entry < length (history s es).entries → goes_on (history s es) g ≡ false → outcome_of (with_entry (history s es) e) g ≡ outcome_of (history s es) g
  stays_over g lt over = by (outcome_of (history s es) g) refl over
    where
      by : (o : Option Outcome) → outcome_of (history s es) g ≡ o → is_none o ≡ false → outcome_of (with_entry (history s es) e) g ≡ outcome_of (history s es) g
      by None is over = cc
      by (Some o) is over = outcome_stays (history s es) e g o lt is ∙ sym is

  in_time_step : (g : Begun) → g.entry < length (history s es).entries → (a b : Option Outcome) → outcome_of (history s es) g ≡ a → outcome_of (with_entry (history s es) e) g ≡ b → ◌≡◌ {A = ℕ} (cond (ends_in_time s b) 1 0) (cond (ends_in_time s a) 1 0 + cond (nat_lt e.stamp s.ends) (cond (is_none a && not (is_none b)) 1 0) 0)
  in_time_step g lt (Some o) b ea eb = ap (λ k. cond (ends_in_time s k) 1 0) (sym eb ∙ (stays_over g lt (ap (λ (k : Option Outcome). is_none k) ea) ∙ ea)) ∙ plus (nat_lt o.stamp s.ends) (nat_lt e.stamp s.ends)
    where
      plus : (c d : Bool) → ◌≡◌ {A = ℕ} (cond c 1 0) (cond c 1 0 + cond d 0 0)
      plus true true = refl
      plus true false = refl
      plus false true = refl
      plus false false = refl
  in_time_step g lt None None ea eb = plus (nat_lt e.stamp s.ends)
    where
      plus : (d : Bool) → ◌≡◌ {A = ℕ} 0 (0 + cond d 0 0)
      plus true = refl
      plus false = refl
  in_time_step g lt None (Some o) ea eb =
      ap (λ k. cond (nat_lt k s.ends) 1 0) (ended_stamp (history s es) e (record { game = g; outcome = o }) (record { begun = lt; ran = ea; over = eb })) ∙ omega arith

  old_times : (i : ℕ) (g : Begun) → slice_get (begun s (history s es)) i ≡ Some g → times i (finished s (history s es)) ≡ cond (ends_in_time s (outcome_of (history s es) g)) 1 0 → times i (finished s (after s (history s es) e)) ≡ cond (ends_in_time s (outcome_of (after s (history s es) e) g)) 1 0
  old_times i g at was =
      let h = history s es in
      let lt : g.entry < length h.entries = all_at (λ (q : Begun). q.entry < length h.entries) (begun s h) i g (begun_own s h (IsWhole-history s es)) at in
      ap (times i) (finished-after s h e (IsWhole-history s es)) ∙ (
      sum_by-append (λ (x : EndedGame). cond (x.game.header.id == i) 1 0) (finished s h) (counted_by s h e) ∙ (
      (λ j. was j + (times_counted (nat_lt e.stamp s.ends) i (ended_by s h e) ∙ ap (λ k. cond (nat_lt e.stamp s.ends) k 0) (times_ended s h e i g at)) j) ∙ (
      sym (in_time_step g lt (outcome_of h g) (outcome_of (with_entry h e) g) refl refl) ∙ ap (λ o. cond (ends_in_time s o) 1 0) (sym (outcome-after s h e g))
      )
      )
      )

  counted_more : AreCounted s (history s es) (finished s (history s es)) → AreCounted s (after s (history s es) e) (finished s (after s (history s es) e))
  counted_more was =
      let h = history s es in
      subst (AreCounted s (after s h e)) (sym (finished-after s h e (IsWhole-history s es)))
      (all_append (IsCounted s (after s h e)) (finished s h) (counted_by s h e)
      (all_weaker (IsCounted s h) (IsCounted s (after s h e)) (finished s h) (λ x c. kept x c) was)
      (by (nat_lt e.stamp s.ends) refl))
    where
      kept : (x : EndedGame) → IsCounted s (history s es) x → IsCounted s (after s (history s es) e) x
      kept x c =
          let h = history s es in
          let lt : x.game.entry < length h.entries = all_at (λ (q : Begun). q.entry < length h.entries) (begun s h) x.game.header.id x.game (begun_own s h (IsWhole-history s es)) c.begun in
          record {
            begun = ap (λ l. slice_get l x.game.header.id) (begun-after s h e (IsWhole-history s es)) ∙ (slice_get-append_left (begun s h) (new_games s h e) x.game.header.id (slice_get_within (begun s h) x.game.header.id x.game c.begun) ∙ c.begun);
            ended = outcome-after s h e x.game ∙ outcome_stays h e x.game x.outcome lt c.ended;
            in_time = c.in_time;
          }

      fresh : (x : EndedGame) → EndedNow (history s es) e x → nat_lt e.stamp s.ends ≡ true → slice_get (begun s (history s es)) x.game.header.id ≡ Some x.game → IsCounted s (after s (history s es) e) x
      fresh x now early at =
          let h = history s es in
          let stamp : x.outcome.stamp ≡ e.stamp = ended_stamp h e x now in
          let lt : e.stamp < s.ends = ltb-true e.stamp s.ends early in
          record {
            begun = ap (λ l. slice_get l x.game.header.id) (begun-after s h e (IsWhole-history s es)) ∙ (slice_get-append_left (begun s h) (new_games s h e) x.game.header.id (slice_get_within (begun s h) x.game.header.id x.game at) ∙ at);
            ended = outcome-after s h e x.game ∙ now.over;
            in_time = omega (arith, stamp, lt);
          }

      all_fresh : (xs : List EndedGame) → nat_lt e.stamp s.ends ≡ true → AllByRecursion (EndedNow (history s es) e) xs → AllByRecursion (λ (x : EndedGame). slice_get (begun s (history s es)) x.game.header.id ≡ Some x.game) xs → AllByRecursion (IsCounted s (after s (history s es) e)) xs
      all_fresh [] early now at = tt
      all_fresh (x ∷ xs) early now at = (fresh x now.0 early at.0, all_fresh xs early now.1 at.1)

      by : (b : Bool) → nat_lt e.stamp s.ends ≡ b → AllByRecursion (IsCounted s (after s (history s es) e)) (cond b (ended_by s (history s es) e) [])
      by true early = all_fresh (ended_by s (history s es) e) early (ended_now s (history s es) e (IsWhole-history s es)) (ended_placed s (history s es) e)
      by false late = tt

  new_times : (i : ℕ) (g : Begun) → length (begun s (history s es)) ≤ i → slice_get (new_games s (history s es) e) (i - length (begun s (history s es))) ≡ Some g → AreCounted s (history s es) (finished s (history s es)) → times i (finished s (after s (history s es) e)) ≡ cond (ends_in_time s (outcome_of (after s (history s es) e) g)) 1 0
  new_times i g le at was =
      let h = history s es in
      let late : length h.entries ≤ g.entry = all_at (λ (q : Begun). length h.entries ≤ q.entry) (new_games s h e) (i - length (begun s h)) g (new_games_from s h e) at in
      let old : AllByRecursion (λ (x : EndedGame). x.game.header.id ≢ i) (finished s (after s h e)) =
      subst (AllByRecursion (λ (x : EndedGame). x.game.header.id ≢ i)) (sym (finished-after s h e (IsWhole-history s es)))
      (all_append (λ (x : EndedGame). x.game.header.id ≢ i) (finished s h) (counted_by s h e)
      (all_weaker (IsCounted s h) (λ (x : EndedGame). x.game.header.id ≢ i) (finished s h) (λ x c. elsewhere x c.begun) was)
      (only (nat_lt e.stamp s.ends))) in
      none (finished s (after s h e)) old ∙ sym (ap (λ o. cond (ends_in_time s o) 1 0) (outcome-after s h e g ∙ outcome_new h e g late))
    where
      elsewhere : (x : EndedGame) → slice_get (begun s (history s es)) x.game.header.id ≡ Some x.game → x.game.header.id ≢ i
      elsewhere x found same = absurd (omega (arith, le, same, slice_get_within (begun s (history s es)) x.game.header.id x.game found))

      only : (b : Bool) → AllByRecursion (λ (x : EndedGame). x.game.header.id ≢ i) (cond b (ended_by s (history s es) e) [])
      only true = all_weaker (λ (x : EndedGame). slice_get (begun s (history s es)) x.game.header.id ≡ Some x.game) (λ (x : EndedGame). x.game.header.id ≢ i) (ended_by s (history s es) e) elsewhere (ended_placed s (history s es) e)
      only false = tt

      none : (xs : List EndedGame) → AllByRecursion (λ (x : EndedGame). x.game.header.id ≢ i) xs → times i xs ≡ 0
      none [] all = refl
      none (x ∷ xs) all = sum_by-cons (λ (x : EndedGame). cond (x.game.header.id == i) 1 0) x xs ∙ (λ j. cond (ne_eqb x.game.header.id i all.0 j) 1 0 + none xs all.1 j)

-- each begun game stands among the counted ones once if it ended in time, and else never
abbrev pub CountsOnce : Setup → History → Type 0
CountsOnce s h = (i : ℕ) (g : Begun) → slice_get (begun s h) i ≡ Some g → times i (finished s h) ≡ cond (ends_in_time s (outcome_of h g)) 1 0

pub counted_games : (s : Setup) (es : List Entry) → CountsOnce s (history s es) × AreCounted s (history s es) (finished s (history s es))
unfolding finished begun along history
counted_games s es =
    snoc_induction (λ l. CountsOnce s (history s l) × AreCounted s (history s l) (finished s (history s l)))
    ((λ i g at. cc), tt)
    (λ l e was.
    subst (λ h. CountsOnce s h × AreCounted s h (finished s h)) (sym (history-push s l e)) (
      (λ i g at.
          let h = history s l in
          let split : slice_get (begun s h ++ new_games s h e) i ≡ Some g = ap (λ k. slice_get k i) (sym (begun-after s h e (IsWhole-history s l))) ∙ at in
          ⊎_elim
          (λ (lt : i < length (begun s h)). let found : slice_get (begun s h) i ≡ Some g = sym (slice_get-append_left (begun s h) (new_games s h e) i lt) ∙ split in old_times s l e i g found (was.0 i g found))
          (λ (le : length (begun s h) ≤ i). new_times s l e i g le (sym (slice_get-append_right (begun s h) (new_games s h e) i le) ∙ split) was.1)
          (cases_lt i (length (begun s h)))),
      counted_more s l e was.1,
    ))
    es

-- the counted games of more entries begin with those of fewer
pub finished_grows : (s : Setup) (es more : List Entry) → (rest : List EndedGame) × (finished s (history s (es ++ more)) ≡ finished s (history s es) ++ rest)
finished_grows s es [] = ([], ap (λ l. finished s (history s l)) (append-nil es) ∙ sym (append-nil (finished s (history s es))))
finished_grows s es (e ∷ more) =
    let h = history s es in
    let next = finished_grows s (es ++ e ∷ []) more in
    let one : finished s (history s (es ++ e ∷ [])) ≡ finished s h ++ counted_by s h e = ap (finished s) (history-push s es e) ∙ finished-after s h e (IsWhole-history s es) in
    (counted_by s h e ++ next.0, ap (λ l. finished s (history s l)) (sym (append_assoc es (e ∷ []) more)) ∙ (next.1 ∙ (ap (λ l. l ++ next.0) one ∙ append_assoc (finished s h) (counted_by s h e) next.0)))
