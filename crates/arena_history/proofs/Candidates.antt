-- The candidates of a snapshot: exactly the players who are idle, each once, in rank order.
use Rattle.std.proofs.Common.{◌≡◌, ℕ, suc, ◌<◌, ◌⊎◌, inl, inr, ⊎_elim, List, [], ◌∷◌, Option, Some, None, Bool, true, false, ◌||◌, refl, ap, ◌∙◌, subst}
use Rattle.std.specs.Prelude.{cond, filter, map, ◌==◌, ◌≢◌}
use Rattle.std.specs.List.{All, AllByRecursion, AllPairs, Any, Contains, list_any}
use Rattle.std.proofs.lemmas.Bool.{cases_Bool, eqb-true, or_cases, or_left, or_right}
use Rattle.std.proofs.lemmas.List.Elements.{recursion_from_All}
use Rattle.entries.specs.declared.setup.Setup.{Setup}
use Rattle.entries.specs.declared.journal.Entry.{Entry}
use Rattle.entries.specs.declared.journal.What.{What}
use Rattle.entries.specs.declared.journal.What.TheVariants as what
use Rattle.pair_cost.specs.declared.candidate.Candidate.{Candidate}
use Rattle.pair_cost.specs.declared.candidate.Pair.{Pair}
use Rattle.ranking.specs.declared.row.Row.{Row}
use Rattle.seats.specs.declared.wish.Wish.{Wish}
use Rattle.seats.specs.declared.wish.Wish.TheVariants.{Absent, In, Paused, Left}
use Rattle.seats.specs.Places.{wish_set, wish_freed, is_idle}
use Rattle.wave.specs.Players.{IsIn, IsPlanned}
use Rattle.arena_history.specs.History.{History, first, along_from, along}
use Rattle.arena_history.specs.Games.{playing}
use Rattle.arena_history.specs.Snapshots.{candidate, candidates, plan}
use Rattle.arena_history.specs.Stands.{idle}
use Rattle.arena_history.specs.Table.{standings}
use Rattle.arena_history.specs.Wishes.{no_show, wish_in, wish_step, wish, is_enter_of, has_entered}
use Rattle.arena_history.proofs.Entered.{stands_in, contains_from_stands}
use Rattle.arena_history.proofs.Following.{Follows, pairs_follow, follows_filter, follows_map}
use Rattle.arena_history.proofs.Tables.{players_of, ComesBehind, stands_in-standings, standings_apart}

-- the rows that are left of the table once those are taken out who are not idle
abbrev idle_rows : Setup → History → List Row
idle_rows s h = filter (λ (row : Row). idle s h row.player) (standings s h)

rows_behind : (s : Setup) (h : History) → Follows ComesBehind (idle_rows s h)
rows_behind s h = follows_filter ComesBehind (λ (row : Row). idle s h row.player) (standings s h) (standings_apart s h)

-- no two candidates are one player
pub candidates_differ : (s : Setup) (h : History) → AllPairs (λ (a b : Candidate). a.player ≢ b.player) (candidates s h)
unfolding candidates
candidates_differ s h =
    pairs_follow (λ (a b : Candidate). a.player ≢ b.player) (map (candidate s h) (idle_rows s h))
    (follows_map (candidate s h) ComesBehind (λ (a b : Candidate). a.player ≢ b.player) (idle_rows s h) (λ x y behind. behind.players) (rows_behind s h))

-- they stand in rank order
pub candidates_ranked : (s : Setup) (h : History) → AllPairs (λ (a b : Candidate). a.rank < b.rank) (candidates s h)
unfolding candidates
candidates_ranked s h =
    pairs_follow (λ (a b : Candidate). a.rank < b.rank) (map (candidate s h) (idle_rows s h))
    (follows_map (candidate s h) ComesBehind (λ (a b : Candidate). a.rank < b.rank) (idle_rows s h) (λ x y behind. behind.ranks) (rows_behind s h))

idle_each : (s : Setup) (h : History) (rows : List Row) → AllByRecursion (λ (c : Candidate). idle s h c.player ≡ true) (map (candidate s h) (filter (λ (row : Row). idle s h row.player) rows))
idle_each s h [] = tt
idle_each s h (row ∷ rows) =
    let rest = idle_each s h rows in
    ⊎_elim
    (λ (on : idle s h row.player ≡ true). rw on (on, rest))
    (λ (off : idle s h row.player ≡ false). rw off rest)
    (cases_Bool (idle s h row.player))

-- each is idle
pub candidates_idle : (s : Setup) (h : History) → AllByRecursion (λ (c : Candidate). idle s h c.player ≡ true) (candidates s h)
unfolding candidates
candidates_idle s h = idle_each s h (standings s h)

-- whoever is in has entered

set_not_in : (w old : Wish) → w ≢ In → wish_set w old ≢ In
set_not_in w Absent other is = other is
set_not_in w In other is = other is
set_not_in w Paused other is = other is
set_not_in w Left other is = cc

freed_in : (b : Bool) (old : Wish) → wish_freed b old ≡ In → old ≡ In
freed_in true old is = absurd (set_not_in Paused old (λ never. cc) is)
freed_in false old is = is

in_from : (p : ℕ) (w : What) (old : Wish) → wish_in p w old ≡ In → (is_enter_of p w ≡ true) ⊎ (old ≡ In)
in_from p (what.Enter q) old is = by (q == p) is
  where
    by : (b : Bool) → cond b (wish_set In old) old ≡ In → (b ≡ true) ⊎ (old ≡ In)
    by true is = inl refl
    by false is = inr is
in_from p (what.Pause q) old is = by (q == p) is
  where
    by : (b : Bool) → cond b (wish_set Paused old) old ≡ In → (false ≡ true) ⊎ (old ≡ In)
    by true is = absurd (set_not_in Paused old (λ never. cc) is)
    by false is = inr is
in_from p (what.Leave q) old is = by (q == p) is
  where
    by : (b : Bool) → cond b (wish_set Left old) old ≡ In → (false ≡ true) ⊎ (old ≡ In)
    by true is = absurd (set_not_in Left old (λ never. cc) is)
    by false is = inr is
in_from p (what.Act q number a) old is = inr is
in_from p what.Tick old is = inr is
in_from p (what.Wave n) old is = inr is

-- these entries have an enter of p
abbrev enters : ℕ → List Entry → Bool
enters p es = list_any (λ (e : Entry). is_enter_of p e.what) es

in_along : (s : Setup) (p : ℕ) (h : History) (k : ℕ) (es : List Entry) (old : Wish) → along_from (wish_step s p) h k es old ≡ In → (enters p es ≡ true) ⊎ (old ≡ In)
in_along s p h k [] old is = inr is
in_along s p h k (e ∷ es) old is =
    ⊎_elim
    (λ (later : enters p es ≡ true). inl (or_right (is_enter_of p e.what) (enters p es) later))
    (λ (now : wish_step s p (first k h) e old ≡ In).
    ⊎_elim
    (λ (here : is_enter_of p e.what ≡ true). inl (or_left (is_enter_of p e.what) (enters p es) here))
    (λ (was : old ≡ In). inr was)
    (in_from p e.what old (freed_in (no_show s (first k h) e p) (wish_in p e.what old) now)))
    (in_along s p h (suc k) es (wish_step s p (first k h) e old) is)

in_entered : (s : Setup) (h : History) (p : ℕ) → wish s h p ≡ In → has_entered h p ≡ true
unfolding wish along
in_entered s h p is = ⊎_elim (λ (on : enters p h.entries ≡ true). on) (λ (never : Absent ≡ In). cc) (in_along s p h 0 h.entries Absent is)

idle_entered : (s : Setup) (h : History) (p : ℕ) → idle s h p ≡ true → has_entered h p ≡ true
unfolding idle
idle_entered s h p on = in_entered s h p (by (wish s h p) (playing s h p) on)
  where
    by : (w : Wish) (o : Option ℕ) → is_idle w o ≡ true → w ≡ In
    by w (Some g) on = cc
    by Absent None on = cc
    by In None on = refl
    by Paused None on = cc
    by Left None on = cc

-- so that he has a row, and with it he is a candidate

-- the players of these candidates
abbrev named : List Candidate → List ℕ
named cs = map (λ (c : Candidate). c.player) cs

kept : (s : Setup) (h : History) (p : ℕ) (rows : List Row) → idle s h p ≡ true → stands_in p (players_of rows) ≡ true → stands_in p (named (map (candidate s h) (filter (λ (row : Row). idle s h row.player) rows))) ≡ true
kept s h p [] on stands = cc
kept s h p (row ∷ rows) on stands =
    ⊎_elim
    (λ (own : (row.player == p) ≡ true).
    let here : idle s h row.player ≡ true = ap (idle s h) (eqb-true row.player p own) ∙ on in
    rw here (ap (λ b. b || stands_in p (named (map (candidate s h) (filter (λ (x : Row). idle s h x.player) rows)))) own))
    (λ (other : stands_in p (players_of rows) ≡ true). by (idle s h row.player) (kept s h p rows on other))
    (or_cases (row.player == p) (stands_in p (players_of rows)) stands)
  where
    by : (b : Bool) → stands_in p (named (map (candidate s h) (filter (λ (x : Row). idle s h x.player) rows))) ≡ true → stands_in p (named (map (candidate s h) (cond b (row ∷ filter (λ (x : Row). idle s h x.player) rows) (filter (λ (x : Row). idle s h x.player) rows)))) ≡ true
    by true rest = or_right (row.player == p) (stands_in p (named (map (candidate s h) (filter (λ (x : Row). idle s h x.player) rows)))) rest
    by false rest = rest

idle_named : (s : Setup) (h : History) (p : ℕ) → idle s h p ≡ true → stands_in p (named (candidates s h)) ≡ true
unfolding candidates
idle_named s h p on = kept s h p (standings s h) on (stands_in-standings s h p ∙ idle_entered s h p on)

-- every idle player is a candidate
pub candidates_all : (s : Setup) (h : History) (p : ℕ) → idle s h p ≡ true → Contains (named (candidates s h)) p
candidates_all s h p on = contains_from_stands p (named (candidates s h)) (idle_named s h p on)

named_holds : (P : ℕ → Type 0) (p : ℕ) (cs : List Candidate) → AllByRecursion (λ (c : Candidate). P c.player) cs → stands_in p (named cs) ≡ true → P p
named_holds P p [] all stands = cc
named_holds P p (c ∷ cs) all stands =
    ⊎_elim
    (λ (own : (c.player == p) ≡ true). subst P (eqb-true c.player p own) all.0)
    (λ (other : stands_in p (named cs) ≡ true). named_holds P p cs all.1 other)
    (or_cases (c.player == p) (stands_in p (named cs)) stands)

-- so that the plan pairs him or leaves him alone
pub idle_planned : ((rule : ℕ) (rows : List Candidate) → All (λ (row : Candidate). IsPlanned rule rows row.player) rows) → (s : Setup) (h : History) (p : ℕ) → idle s h p ≡ true → Any (λ (x : Pair). IsIn x p) (plan s h).pairs ⊎ Contains (plan s h).alone p
unfolding plan
idle_planned everyone s h p on =
    let rows = candidates s h in
    named_holds (IsPlanned s.rule rows) p rows (recursion_from_All (λ (row : Candidate). IsPlanned s.rule rows row.player) rows (everyone s.rule rows)) (idle_named s h p on)
