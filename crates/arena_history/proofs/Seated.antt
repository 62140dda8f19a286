-- Each player is on one side of one running game at most.
use Rattle.std.proofs.Common.{◌≡◌, ℕ, suc, ◌+◌, ◌<◌, ◌≤◌, ⊎_elim, List, [], ◌∷◌, ◌++◌, length, Option, Some, None, Bool, true, false, ◌&&◌, refl, sym, ap, ◌∙◌, subst, arith}
use Rattle.std.specs.Prelude.{filter, cond, map, sum_by, ◌==◌, ◌≢◌}
use Rattle.std.specs.List.{find, AllByRecursion, All, AllPairs}
use Rattle.std.specs.Option.{option_map}
use Rattle.std.proofs.lemmas.Bool.{cases_Bool, cases_lt, and_parts, ne_eqb}
use Rattle.std.proofs.lemmas.List.Elements.{All-contains, All-from_recursion}
use Rattle.std.proofs.lemmas.List.Sums.{sum_by-cons, sum_by-append}
use Rattle.entries.specs.declared.setup.Setup.{Setup}
use Rattle.entries.specs.declared.journal.Entry.{Entry}
use Rattle.entries.specs.declared.journal.What.{What}
use Rattle.entries.specs.declared.journal.What.TheVariants as what
use Rattle.pair_cost.specs.declared.candidate.Candidate.{Candidate}
use Rattle.pair_cost.specs.declared.candidate.Pair.{Pair}
use Rattle.seats.specs.declared.wish.Wish.{Wish}
use Rattle.seats.specs.Places.{is_idle}
use Rattle.wave.specs.Plans.{planned_pairs}
use Rattle.wave.specs.Players.{HasPlayer, IsOfRows, IsApart}
use Rattle.arena_history.specs.History.{History, with_entry, first}
use Rattle.arena_history.specs.Games.{Begun, has_player, goes_on, running, playing, game_of, games_from}
use Rattle.arena_history.specs.Snapshots.{candidates, plan}
use Rattle.arena_history.specs.Stands.{idle}
use Rattle.arena_history.specs.Waves.{still, both_still, plan_at, started, start_of, starts_in, starts_by, after, history}
use Rattle.arena_history.proofs.Histories.{IsWhole-history, entries-history, first_all, history-push}
use Rattle.arena_history.proofs.BegunGames.{new_games, running-after}
use Rattle.arena_history.proofs.Candidates.{candidates_differ, candidates_idle}
use Rattle.arena_history.proofs.Following.{recursion_from_All, all_map}
use Rattle.arena_history.proofs.Idle.{still_idle}
use Rattle.arena_history.proofs.Lists.{all_weaker, snoc_induction}
use Rattle.arena_history.proofs.Moves.{PlaysOnce}
use Rattle.arena_history.proofs.Sides.{game_sides, pair_sides, sum_filter_le, unseen, pairs_once}

-- what is known of the pairs of a plan: each is of two players of rows, and no player stands in two of them
pub record PlansPairOnce : Type 0 where
  pub named : (rule : ℕ) (rows : List Candidate) → AllPairs (λ (a b : Candidate). a.player ≢ b.player) rows → All (IsOfRows rows) (planned_pairs rule rows)
  pub once : (rule : ℕ) (rows : List Candidate) → AllPairs (λ (a b : Candidate). a.player ≢ b.player) rows → AllPairs IsApart (planned_pairs rule rows)

-- who was not still idle is not started
away_filter : (f : ℕ → Bool) (p : ℕ) (ps : List Pair) → f p ≡ false → sum_by (pair_sides p) (filter (λ (x : Pair). f x.white && f x.black) ps) ≡ 0
away_filter f p [] off = refl
away_filter f p (x ∷ ps) off =
    ⊎_elim
    (λ (on : (f x.white && f x.black) ≡ true).
    let both = and_parts (f x.white) (f x.black) on in
    let w : (x.white == p) ≡ false = ne_eqb x.white p (λ same. let never : false ≡ true = sym off ∙ (ap f (sym same) ∙ both.0) in cc) in
    let b : (x.black == p) ≡ false = ne_eqb x.black p (λ same. let never : false ≡ true = sym off ∙ (ap f (sym same) ∙ both.1) in cc) in
    rw on (sum_by-cons (pair_sides p) x (filter (λ (x : Pair). f x.white && f x.black) ps) ∙ (λ i. (cond (w i) 1 0 + cond (b i) 1 0) + away_filter f p ps off i)))
    (λ (out : (f x.white && f x.black) ≡ false). rw out (away_filter f p ps off))
    (cases_Bool (f x.white && f x.black))

new_sides : (s : Setup) (es : List Entry) (p n number : ℕ) (ps : List Pair) → sum_by (game_sides p) (games_from s es number (map (start_of n) ps)) ≡ sum_by (pair_sides p) ps
new_sides s es p n number [] = refl
new_sides s es p n number (x ∷ ps) =
    sum_by-cons (game_sides p) (game_of s es number (start_of n x)) (games_from s es (suc number) (map (start_of n) ps)) ∙ (ap (λ k. pair_sides p x + k) (new_sides s es p n (suc number) ps) ∙ sym (sum_by-cons (pair_sides p) x ps))

idle_none : (w : Wish) (o : Option ℕ) → is_idle w o ≡ true → o ≡ None
idle_none w None on = refl
idle_none w (Some g) on = cc

unmapped : (o : Option Begun) → option_map (λ (g : Begun). g.header.id) o ≡ None → o ≡ None
unmapped None is = refl
unmapped (Some g) is = cc

-- who is idle plays nothing
pub idle_plays_nothing : (s : Setup) (h : History) (p : ℕ) → idle s h p ≡ true → find (has_player p) (running s h) ≡ None
unfolding idle playing
idle_plays_nothing s h p on = unmapped (find (has_player p) (running s h)) (idle_none (Rattle.arena_history.specs.Wishes.wish s h p) _ on)

module _ (known : PlansPairOnce) (s : Setup) where
  -- a plan has each player on one side at most
  plan_once : (h : History) (p : ℕ) → sum_by (pair_sides p) (plan s h).pairs ≤ 1
  unfolding plan
  plan_once h p =
      pairs_once p (planned_pairs s.rule (candidates s h))
      (all_weaker (IsOfRows (candidates s h)) (λ (x : Pair). x.white ≢ x.black) (planned_pairs s.rule (candidates s h)) (λ x of. of.two) (recursion_from_All (IsOfRows (candidates s h)) (planned_pairs s.rule (candidates s h)) (known.named s.rule (candidates s h) (candidates_differ s h))))
      (known.once s.rule (candidates s h) (candidates_differ s h))

  started_once : (h : History) (n p : ℕ) → sum_by (pair_sides p) (started s h n) ≤ 1
  unfolding started
  started_once h n p = omega (arith, sum_filter_le (pair_sides p) (both_still s h n) (plan_at s h n).pairs, plan_once (first n h) p)

  pub started_away : (h : History) (n p : ℕ) → still s h n p ≡ false → sum_by (pair_sides p) (started s h n) ≡ 0
  unfolding started
  started_away h n p off = away_filter (still s h n) p (plan_at s h n).pairs off

  -- each player of a plan is a candidate, and so idle
  rows_idle : (h : History) (p : ℕ) → HasPlayer (candidates s h) p → idle s h p ≡ true
  rows_idle h p has =
      All-contains (λ q. idle s h q ≡ true) (map (λ (c : Candidate). c.player) (candidates s h)) p
      (All-from_recursion (λ q. idle s h q ≡ true) (map (λ (c : Candidate). c.player) (candidates s h)) (all_map (λ (c : Candidate). c.player) (λ (c : Candidate). idle s h c.player ≡ true) (λ q. idle s h q ≡ true) (candidates s h) (λ c on. on) (candidates_idle s h)))
      has

  -- who is not idle stands in no plan of now
  plan_away : (h : History) (p : ℕ) → idle s h p ≡ false → sum_by (pair_sides p) (plan s h).pairs ≡ 0
  unfolding plan
  plan_away h p off = none (planned_pairs s.rule (candidates s h)) (recursion_from_All (IsOfRows (candidates s h)) (planned_pairs s.rule (candidates s h)) (known.named s.rule (candidates s h) (candidates_differ s h)))
    where
      other : (q : ℕ) → HasPlayer (candidates s h) q → (q == p) ≡ false
      other q has = ne_eqb q p (λ same. let never : true ≡ false = sym (rows_idle h q has) ∙ (ap (idle s h) same ∙ off) in cc)

      none : (ps : List Pair) → AllByRecursion (IsOfRows (candidates s h)) ps → sum_by (pair_sides p) ps ≡ 0
      none [] all = refl
      none (x ∷ ps) all = sum_by-cons (pair_sides p) x ps ∙ (λ i. (cond (other x.white all.0.white i) 1 0 + cond (other x.black all.0.black i) 1 0) + none ps all.1 i)

  -- who is not idle now is not started
  started_idle : (es : List Entry) (n p : ℕ) → idle s (history s es) p ≡ false → sum_by (pair_sides p) (started s (history s es) n) ≡ 0
  unfolding started
  started_idle es n p off =
      let h = history s es in
      ⊎_elim
      (λ (past : length es < n).
      let all : first n h ≡ h = first_all h n (IsWhole-history s es) (omega (arith, ap length (entries-history s es))) in
      let none : sum_by (pair_sides p) (plan_at s h n).pairs ≡ 0 = ap (λ k. sum_by (pair_sides p) (plan s k).pairs) all ∙ plan_away h p off in
      omega (arith, none, sum_filter_le (pair_sides p) (both_still s h n) (plan_at s h n).pairs))
      (λ (within : n ≤ length es).
      ⊎_elim
      (λ (on : still s h n p ≡ true). let never : true ≡ false = sym (still_idle s es n p within on) ∙ off in cc)
      (λ (out : still s h n p ≡ false). started_away h n p out)
      (cases_Bool (still s h n p)))
      (cases_lt (length es) n)

  in_once : (es : List Entry) (es' : List Entry) (w : What) (p : ℕ) → PlaysOnce s (history s es) p → sum_by (game_sides p) (running s (history s es)) + sum_by (game_sides p) (games_from s es' (length (history s es).starts) (starts_in s (history s es) w)) ≤ 1
  in_once es es' (what.Wave n) p once =
      let h = history s es in
      let new = new_sides s es' p (length h.entries) (length h.starts) (started s h n) in
      ⊎_elim
      (λ (on : idle s h p ≡ true). omega (arith, new, started_once h n p, unseen p (running s h) (idle_plays_nothing s h p on)))
      (λ (off : idle s h p ≡ false). omega (arith, new, started_idle es n p off, once))
      (cases_Bool (idle s h p))
  in_once es es' (what.Enter q) p once = omega (arith, once)
  in_once es es' (what.Pause q) p once = omega (arith, once)
  in_once es es' (what.Leave q) p once = omega (arith, once)
  in_once es es' (what.Act q g a) p once = omega (arith, once)
  in_once es es' what.Tick p once = omega (arith, once)

  -- what runs and what begins have each player on one side at most
  pub with_new_once : (es : List Entry) (e : Entry) (p : ℕ) → PlaysOnce s (history s es) p → sum_by (game_sides p) (running s (history s es)) + sum_by (game_sides p) (new_games s (history s es) e) ≤ 1
  unfolding starts_by
  with_new_once es e p once = in_once es ((history s es).entries ++ e ∷ []) e.what p once

  once-after : (es : List Entry) (e : Entry) (p : ℕ) → PlaysOnce s (history s es) p → PlaysOnce s (after s (history s es) e) p
  once-after es e p once =
      let h = history s es in
      omega (
        arith,
        ap (sum_by (game_sides p)) (running-after s h e (IsWhole-history s es)),
        sum_by-append (game_sides p) (filter (goes_on (with_entry h e)) (running s h)) (new_games s h e),
        sum_filter_le (game_sides p) (goes_on (with_entry h e)) (running s h),
        with_new_once es e p once,
      )

  -- each player is on one side of one running game at most
  pub plays_once : (es : List Entry) (p : ℕ) → PlaysOnce s (history s es) p
  unfolding running Rattle.arena_history.specs.Games.begun history
  plays_once es p =
      snoc_induction (λ l. PlaysOnce s (history s l) p) (omega arith)
      (λ l e once. subst (λ h. PlaysOnce s h p) (sym (history-push s l e)) (once-after l e p once))
      es
