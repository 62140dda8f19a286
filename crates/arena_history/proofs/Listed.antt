-- The games that waves begin: in the order of the waves, between players of the setup, and no more than 500 a wave.
use Rattle.std.proofs.Common.{◌≡◌, ℕ, ◌*◌, ◌<◌, ◌≤◌, List, [], ◌∷◌, ◌++◌, take, drop, length, Bool, true, false, refl, sym, ap, ◌∙◌, subst, arith, append_assoc}
use Rattle.std.specs.Prelude.{cond, map, filter, ◌≢◌}
use Rattle.std.specs.List.{AllByRecursion, AllPairs}
use Rattle.std.proofs.lemmas.List.{append-nil, take-append-drop}
use Rattle.std.proofs.lemmas.List.Elements.{All-contains, All-from_recursion}
use Rattle.std.proofs.lemmas.Map.Steps.{length-le_from_distinct_below}
use Rattle.entries.specs.declared.setup.Setup.{Setup}
use Rattle.entries.specs.declared.journal.Entry.{Entry}
use Rattle.entries.specs.declared.journal.Start.{Start}
use Rattle.entries.specs.declared.journal.What.{What}
use Rattle.entries.specs.declared.journal.What.TheVariants as what
use Rattle.entries.specs.Ranges.{IsGood}
use Rattle.pair_cost.specs.declared.candidate.Candidate.{Candidate}
use Rattle.pair_cost.specs.declared.candidate.Pair.{Pair}
use Rattle.ranking.specs.declared.line.Line.{Line}
use Rattle.ranking.specs.declared.row.Row.{Row}
use Rattle.wave.specs.Plans.{planned_pairs}
use Rattle.wave.specs.Players.{HasPlayer, IsOfRows, IsApart}
use Rattle.arena_history.specs.History.{History, first}
use Rattle.arena_history.specs.BoundLaws.{EnteredArePlayers}
use Rattle.arena_history.specs.Endings.{finished}
use Rattle.arena_history.specs.Snapshots.{candidate, candidates, plan}
use Rattle.arena_history.specs.Stands.{idle}
use Rattle.arena_history.specs.Table.{entered_in, entered, standings}
use Rattle.arena_history.specs.Waves.{both_still, plan_at, start_of, started, starts_in, starts_by, history}
use Rattle.arena_history.proofs.Histories.{AllBelow, IsWhole-history, start_entry, starts-after, history-push, first-history}
use Rattle.arena_history.proofs.Bounds.{distinct_from, below_from, standings_all, lines_all}
use Rattle.arena_history.proofs.Candidates.{candidates_differ}
use Rattle.arena_history.proofs.Entered.{stands_in, entered-push}
use Rattle.arena_history.proofs.Following.{Follows, pairs_follow, follows_filter, follows_from_pairs, follows_append, recursion_from_All, all_map}
use Rattle.arena_history.proofs.GrownGames.{starts_at}
use Rattle.arena_history.proofs.Lists.{all_append, all_filter, all_weaker, snoc_induction}
use Rattle.arena_history.proofs.Seated.{PlansPairOnce}
use Rattle.arena_history.proofs.Tables.{player-line_among}

-- the games stand in the order of the waves

abbrev InOrder : Start → Start → Type 0
InOrder a b = a.entry ≤ b.entry

new_in_order : (n : ℕ) (xs : List Start) → AllByRecursion (λ (x : Start). x.entry ≡ n) xs → Follows InOrder xs
new_in_order n [] all = tt
new_in_order n (x ∷ xs) all = (all_weaker (λ (y : Start). y.entry ≡ n) (InOrder x) xs (λ y is. omega (arith, is, all.0)) all.1, new_in_order n xs all.1)

old_before_new : (n : ℕ) (xs ys : List Start) → AllBelow start_entry n xs → AllByRecursion (λ (x : Start). x.entry ≡ n) ys → AllByRecursion (λ x. AllByRecursion (InOrder x) ys) xs
old_before_new n [] ys low all = tt
old_before_new n (x ∷ xs) ys low all = (all_weaker (λ (y : Start). y.entry ≡ n) (InOrder x) ys (λ y is. omega (arith, is, low.0)) all, old_before_new n xs ys low.1 all)

order_of_starts : (s : Setup) (es : List Entry) → Follows InOrder (history s es).starts
unfolding history
order_of_starts s es =
    snoc_induction (λ l. Follows InOrder (history s l).starts) tt
    (λ l e was.
    let h = history s l in
    subst (Follows InOrder) (sym (ap (λ (k : History). k.starts) (history-push s l e) ∙ starts-after s h e))
    (follows_append InOrder h.starts (starts_by s h e) was (new_in_order (length h.entries) (starts_by s h e) (starts_at s l e)) (old_before_new (length h.entries) h.starts (starts_by s h e) (IsWhole-history s l).starts (starts_at s l e))))
    es

pub starts_in_order : (s : Setup) (es : List Entry) → AllPairs (λ (a b : Start). a.entry ≤ b.entry) (history s es).starts
starts_in_order s es = pairs_follow InOrder (history s es).starts (order_of_starts s es)

-- those who entered before are among those who entered

front_of : {X : Type 0} (P : X → Type 0) (xs ys : List X) → AllByRecursion P (xs ++ ys) → AllByRecursion P xs
front_of P [] ys all = tt
front_of P (x ∷ xs) ys all = (all.0, front_of P xs ys all.1)

-- what holds of all who entered

module _ (P : ℕ → Type 0) where
  entered_before : (w : What) (ps : List ℕ) → AllByRecursion P (entered_in w ps) → AllByRecursion P ps
  entered_before (what.Enter p) ps all = by (stands_in p ps) all
    where
      by : (b : Bool) → AllByRecursion P (cond b ps (ps ++ p ∷ [])) → AllByRecursion P ps
      by true all = all
      by false all = front_of P ps (p ∷ []) all
  entered_before (what.Pause p) ps all = all
  entered_before (what.Leave p) ps all = all
  entered_before (what.Act p g a) ps all = all
  entered_before what.Tick ps all = all
  entered_before (what.Wave m) ps all = all

  -- holds of those who entered before
  entered_of_front : (s : Setup) (xs ys : List Entry) → AllByRecursion P (entered (history s (xs ++ ys))) → AllByRecursion P (entered (history s xs))
  entered_of_front s xs [] all = subst (λ l. AllByRecursion P (entered (history s l))) (append-nil xs) all
  entered_of_front s xs (y ∷ ys) all =
      let next : AllByRecursion P (entered (history s (xs ++ y ∷ []))) = entered_of_front s (xs ++ y ∷ []) ys (subst (λ l. AllByRecursion P (entered (history s l))) (sym (append_assoc xs (y ∷ []) ys)) all) in
      entered_before y.what (entered (history s xs)) (subst (AllByRecursion P) (entered-push s xs y) next)

  entered_of_take : (s : Setup) (es : List Entry) (n : ℕ) → AllByRecursion P (entered (history s es)) → AllByRecursion P (entered (history s (take n es)))
  entered_of_take s es n all = entered_of_front s (take n es) (drop n es) (subst (λ l. AllByRecursion P (entered (history s l))) (sym (take-append-drop n es)) all)

  -- of the candidates
  candidates_entered : (s : Setup) (h : History) → AllByRecursion P (entered h) → AllByRecursion (λ (c : Candidate). P c.player) (candidates s h)
  unfolding candidates
  candidates_entered s h all =
      let kept = filter (λ (row : Row). idle s h row.player) (standings s h) in
      all_map (candidate s h) (λ (row : Row). P row.player) (λ (c : Candidate). P c.player) kept (λ row has. has)
      (all_filter (λ (row : Row). P row.player) (λ (row : Row). idle s h row.player) (standings s h)
      (standings_all (λ (row : Row). P row.player) (λ (x : Line). P x.player) (λ k x has. has) s h
      (lines_all (λ (x : Line). P x.player) P s h (λ p has. subst P (sym (player-line_among s (finished s h) p)) has) all)))

  -- it holds of both players of a pair, and of a game that begins
  abbrev HoldsOfPair : Pair → Type 0
  HoldsOfPair x = P x.white × P x.black

  abbrev HoldsOfStart : Start → Type 0
  HoldsOfStart x = P x.white × P x.black

  module _ (known : PlansPairOnce) (s : Setup) where
    plan_entered : (h : History) → AllByRecursion P (entered h) → AllByRecursion HoldsOfPair (plan s h).pairs
    unfolding plan
    plan_entered h all =
        all_weaker (IsOfRows (candidates s h)) HoldsOfPair (planned_pairs s.rule (candidates s h)) (λ x of. (each x.white of.white, each x.black of.black)) (recursion_from_All (IsOfRows (candidates s h)) (planned_pairs s.rule (candidates s h)) (known.named s.rule (candidates s h) (candidates_differ s h)))
      where
        each : (p : ℕ) → HasPlayer (candidates s h) p → P p
        each p has = All-contains P (map (λ (c : Candidate). c.player) (candidates s h)) p (All-from_recursion P (map (λ (c : Candidate). c.player) (candidates s h)) (all_map (λ (c : Candidate). c.player) (λ (c : Candidate). P c.player) P (candidates s h) (λ c here. here) (candidates_entered s h all))) has

    started_entered : (es : List Entry) (n : ℕ) → AllByRecursion P (entered (history s es)) → AllByRecursion HoldsOfPair (started s (history s es) n)
    unfolding started
    started_entered es n all =
        all_filter HoldsOfPair (both_still s (history s es) n) (plan_at s (history s es) n).pairs
        (subst (λ h. AllByRecursion HoldsOfPair (plan s h).pairs) (sym (first-history s es n)) (plan_entered (history s (take n es)) (entered_of_take s es n all)))

    pairs_start : (k : ℕ) (ps : List Pair) → AllByRecursion HoldsOfPair ps → AllByRecursion HoldsOfStart (map (start_of k) ps)
    pairs_start k [] all = tt
    pairs_start k (x ∷ ps) all = (all.0, pairs_start k ps all.1)

    new_entered : (es : List Entry) (w : What) → AllByRecursion P (entered (history s es)) → AllByRecursion HoldsOfStart (starts_in s (history s es) w)
    new_entered es (what.Enter p) all = tt
    new_entered es (what.Pause p) all = tt
    new_entered es (what.Leave p) all = tt
    new_entered es (what.Act p g a) all = tt
    new_entered es what.Tick all = tt
    new_entered es (what.Wave n) all = pairs_start (length (history s es).entries) (started s (history s es) n) (started_entered es n all)

    -- what holds of all who entered holds of the players of all games
    pub starts_entered : (es : List Entry) → AllByRecursion P (entered (history s es)) → AllByRecursion HoldsOfStart (history s es).starts
    unfolding history starts_by
    starts_entered es =
        snoc_induction (λ l. AllByRecursion P (entered (history s l)) → AllByRecursion HoldsOfStart (history s l).starts) (λ all. tt)
        (λ l e was all.
        let before : AllByRecursion P (entered (history s l)) = entered_of_front s l (e ∷ []) all in
        subst (AllByRecursion HoldsOfStart) (sym (ap (λ (k : History). k.starts) (history-push s l e) ∙ starts-after s (history s l) e))
        (all_append HoldsOfStart (history s l).starts (starts_in s (history s l) e.what) (was before) (new_entered l e.what before)))
        es

-- no more than 500 games a wave

-- the players of pairs, one after another
abbrev players_of : List Pair → List ℕ
players_of [] = []
players_of (x ∷ ps) = x.white ∷ x.black ∷ players_of ps

length-players : (ps : List Pair) → length (players_of ps) ≡ 2 * length ps
length-players [] = refl
length-players (x ∷ ps) = omega (arith, length-players ps)

players_below : (n : ℕ) (ps : List Pair) → AllByRecursion (λ (x : Pair). (x.white < n) × (x.black < n)) ps → AllByRecursion (λ p. p < n) (players_of ps)
players_below n [] all = tt
players_below n (x ∷ ps) all = (all.0.0, (all.0.1, players_below n ps all.1))

white_apart : (x : Pair) (ps : List Pair) → AllByRecursion (IsApart x) ps → AllByRecursion (λ q. x.white ≢ q) (players_of ps)
white_apart x [] all = tt
white_apart x (y ∷ ps) all = (all.0.whites, (all.0.white_black, white_apart x ps all.1))

black_apart : (x : Pair) (ps : List Pair) → AllByRecursion (IsApart x) ps → AllByRecursion (λ q. x.black ≢ q) (players_of ps)
black_apart x [] all = tt
black_apart x (y ∷ ps) all = (all.0.black_white, (all.0.blacks, black_apart x ps all.1))

players_apart : (ps : List Pair) → AllByRecursion (λ (x : Pair). x.white ≢ x.black) ps → Follows IsApart ps → Follows (λ a b. a ≢ b) (players_of ps)
players_apart [] two apart = tt
players_apart (x ∷ ps) two apart = ((two.0, white_apart x ps apart.0), (black_apart x ps apart.0, players_apart ps two.1 apart.1))

module _ (known : PlansPairOnce) (s : Setup) where
  started_apart : (h : History) (n : ℕ) → Follows IsApart (started s h n)
  unfolding started plan
  started_apart h n = follows_filter IsApart (both_still s h n) (plan_at s h n).pairs (follows_from_pairs IsApart (planned_pairs s.rule (candidates s (first n h))) (known.once s.rule (candidates s (first n h)) (candidates_differ s (first n h))))

  started_two : (h : History) (n : ℕ) → AllByRecursion (λ (x : Pair). x.white ≢ x.black) (started s h n)
  unfolding started plan
  started_two h n =
      all_filter (λ (x : Pair). x.white ≢ x.black) (both_still s h n) (plan_at s h n).pairs
      (all_weaker (IsOfRows (candidates s (first n h))) (λ (x : Pair). x.white ≢ x.black) (planned_pairs s.rule (candidates s (first n h))) (λ x of. of.two) (recursion_from_All (IsOfRows (candidates s (first n h))) (planned_pairs s.rule (candidates s (first n h))) (known.named s.rule (candidates s (first n h)) (candidates_differ s (first n h)))))

  -- a wave begins at most half as many games as there are players
  pub waves_small : (es : List Entry) (n : ℕ) → IsGood s → EnteredArePlayers s (history s es) → length (started s (history s es) n) ≤ 500
  waves_small es n good players =
      let ps = started s (history s es) n in
      let most : length (players_of ps) ≤ length s.players = length-le_from_distinct_below (players_of ps) (length s.players) (distinct_from (players_of ps) (players_apart ps (started_two (history s es) n) (started_apart (history s es) n))) (below_from (length s.players) (players_of ps) (players_below (length s.players) ps (started_entered (λ p. p < length s.players) known s es n players))) in
      omega (arith, most, length-players ps, good.players_most)
