-- Which games an act ends, by what happened in each, and whom a commit starts, by one comparison.
use Rattle.std.proofs.Common.{◌≡◌, ℕ, zero, suc, ◌+◌, ◌-◌, ◌<◌, ◌≤◌, ◌⊎◌, inl, inr, ⊎_elim, List, [], ◌∷◌, ◌++◌, take, length, Option, Some, None, Bool, true, false, ◌&&◌, refl, sym, ap, ◌∙◌, arith}
use Rattle.std.specs.Prelude.{cond, filter, slice_get, nat_le, ◌≢◌}
use Rattle.std.specs.List.{filter_map, cons_option}
use Rattle.std.specs.Option.{option_map, option_to_list}
use Rattle.std.proofs.lemmas.Bool.{cases_Bool, cases_lt, ne_eqb}
use Rattle.std.proofs.lemmas.List.{append-nil}
use Rattle.std.proofs.lemmas.List.Elements.{filter_agree}
use Rattle.entries.specs.declared.action.Action.{Action}
use Rattle.entries.specs.declared.setup.Setup.{Setup}
use Rattle.entries.specs.declared.journal.Entry.{Entry}
use Rattle.entries.specs.declared.journal.Start.{Start}
use Rattle.entries.specs.declared.journal.What.{What}
use Rattle.entries.specs.declared.journal.What.TheVariants as what
use Rattle.game_room.specs.Games as room
use Rattle.pair_cost.specs.declared.candidate.Pair.{Pair}
use Rattle.arena_history.specs.History.{History, with_entry}
use Rattle.arena_history.specs.Endings.{EndedGame, ended, ended_by}
use Rattle.arena_history.specs.Games.{Begun, game_of, games_from, event_in, event_of, events, outcome_of, goes_on, begun, running}
use Rattle.arena_history.specs.GameLaws.{over_after}
use Rattle.arena_history.specs.Snapshots.{plan}
use Rattle.arena_history.specs.Stands.{idle}
use Rattle.arena_history.specs.Since.{since}
use Rattle.arena_history.specs.Waves.{both_still, plan_at, started, history}
use Rattle.arena_history.proofs.Histories.{AllBelow, IsWhole-history, first-history, history-push}
use Rattle.arena_history.proofs.BegunGames.{game_entry, begun_own, events-with, outcome-after}
use Rattle.arena_history.proofs.Ended.{runs_none}
use Rattle.arena_history.proofs.Idle.{still_since}
use Rattle.arena_history.proofs.Lists.{all_filter}

map_same_below : (n : ℕ) (f g : Begun → Option EndedGame) → ((x : Begun) → x.entry < n → f x ≡ g x) → (xs : List Begun) → AllBelow game_entry n xs → filter_map f xs ≡ filter_map g xs
map_same_below n f g same [] all = refl
map_same_below n f g same (x ∷ xs) all = λ i. cons_option (same x all.0 i) (map_same_below n f g same xs all.1 i)

-- the games that an entry ends, by what happened in each game that ran and what the entry is to it
pub ended_by_events : (s : Setup) (es : List Entry) (e : Entry) → ended_by s (history s es) e ≡ filter_map (λ g. over_after g (events (history s es) g ++ filter_map (event_of g.header) (e ∷ []))) (running s (history s es))
unfolding ended_by running outcome_of
ended_by_events s es e =
    let h = history s es in
    map_same_below (length h.entries) (ended (with_entry h e)) (λ g. over_after g (events h g ++ filter_map (event_of g.header) (e ∷ []))) (λ g lt. ap (λ l. option_map (λ o. record { game = g; outcome = o }) (room.outcome g.header l)) (events-with h e g lt)) (filter (goes_on h) (begun s h)) (all_filter (λ (g : Begun). g.entry < length h.entries) (goes_on h) (begun s h) (begun_own s h (IsWhole-history s es)))

-- an act ends its own game alone

-- a game if it runs and is ended
abbrev ended_running : History → Entry → Begun → Option EndedGame
ended_running h e g = cond (goes_on h g) (ended (with_entry h e) g) None

filtered : (h : History) (e : Entry) (gs : List Begun) → filter_map (ended (with_entry h e)) (filter (goes_on h) gs) ≡ filter_map (ended_running h e) gs
filtered h e [] = refl
filtered h e (g ∷ gs) = by (goes_on h g) (filtered h e gs)
  where
    by : (b : Bool) → filter_map (ended (with_entry h e)) (filter (goes_on h) gs) ≡ filter_map (ended_running h e) gs → filter_map (ended (with_entry h e)) (cond b (g ∷ filter (goes_on h) gs) (filter (goes_on h) gs)) ≡ cons_option (cond b (ended (with_entry h e) g) None) (filter_map (ended_running h e) gs)
    by true rest = ap (cons_option (ended (with_entry h e) g)) rest
    by false rest = rest

-- where all other games give nothing
none_above : (f : Begun → Option EndedGame) (s : Setup) (es : List Entry) (number k : ℕ) (xs : List Start) → ((g : Begun) → g.header.id ≢ number → AllBelow game_entry (length es) (g ∷ []) → f g ≡ None) → AllBelow game_entry (length es) (games_from s es k xs) → number < k → filter_map f (games_from s es k xs) ≡ []
none_above f s es number k [] none all lt = refl
none_above f s es number k (x ∷ xs) none all lt =
    ap (λ o. cons_option o (filter_map f (games_from s es (suc k) xs))) (none (game_of s es k x) (λ same. absurd (omega arith)) (all.0, tt)) ∙ none_above f s es number (suc k) xs none all.1 (omega arith)

one_only : (f : Begun → Option EndedGame) (s : Setup) (es : List Entry) (k i : ℕ) (xs : List Start) (g : Begun) → ((q : Begun) → q.header.id ≢ k + i → AllBelow game_entry (length es) (q ∷ []) → f q ≡ None) → AllBelow game_entry (length es) (games_from s es k xs) → slice_get (games_from s es k xs) i ≡ Some g → filter_map f (games_from s es k xs) ≡ cons_option (f g) []
one_only f s es k i [] g none all at = cc
one_only f s es k zero (x ∷ xs) g none all at =
    let same : game_of s es k x ≡ g = cc in
    (λ j. cons_option (f (game_of s es k x)) (none_above f s es (k + 0) (suc k) xs none all.1 (omega arith) j)) ∙ ap (λ q. cons_option (f q) []) same
one_only f s es k (suc i) (x ∷ xs) g none all at =
    ap (λ o. cons_option o (filter_map f (games_from s es (suc k) xs))) (none (game_of s es k x) (λ same. absurd (omega arith)) (all.0, tt)) ∙ one_only f s es (suc k) i xs g (λ q other. none q (λ same. other (same ∙ omega arith))) all.1 at

act_elsewhere : (g : Begun) (t p number : ℕ) (a : Action) (w : What) → w ≡ what.Act p number a → g.header.id ≢ number → event_in g.header t w ≡ None
act_elsewhere g t p number a w is other = ap (event_in g.header t) is ∙ rw (ne_eqb number g.header.id (λ same. other (sym same))) refl

-- an entry that is no event of a running game does not end it
quiet_none : (h : History) (e : Entry) (g : Begun) → g.entry < length h.entries → event_of g.header e ≡ None → ended_running h e g ≡ None
unfolding outcome_of
quiet_none h e g lt none =
    ⊎_elim
    (λ (on : goes_on h g ≡ true).
    let ran : outcome_of h g ≡ None = runs_none (outcome_of h g) on in
    let same : outcome_of (with_entry h e) g ≡ outcome_of h g = ap (room.outcome g.header) (events-with h e g lt ∙ (ap (λ o. events h g ++ cons_option o []) none ∙ append-nil (events h g))) in
    rw on (ap (option_map (λ o. record { game = g; outcome = o })) (same ∙ ran)))
    (λ (off : goes_on h g ≡ false). rw off refl)
    (cases_Bool (goes_on h g))

listed : {X : Type 0} (o : Option X) → cons_option o [] ≡ option_to_list o
listed None = refl
listed (Some x) = refl

-- the games that an act ends: its own, if it ran and is over now
pub act_ends : (s : Setup) (es : List Entry) (e : Entry) (p number : ℕ) (a : Action) (g : Begun) → e.what ≡ what.Act p number a → slice_get (begun s (history s es)) number ≡ Some g → ended_by s (history s es) e ≡ option_to_list (cond (goes_on (history s es) g) (over_after g (events (history s (es ++ e ∷ [])) g)) None)
unfolding ended_by running begun outcome_of
act_ends s es e p number a g is at =
    let h = history s es in
    let now : ended (with_entry h e) g ≡ option_map (λ o. record { game = g; outcome = o }) (outcome_of (history s (es ++ e ∷ [])) g) = ap (option_map (λ o. record { game = g; outcome = o })) (sym (outcome-after s h e g) ∙ ap (λ k. outcome_of k g) (sym (history-push s es e))) in
    filtered h e (games_from s h.entries 0 h.starts) ∙ (
    one_only (ended_running h e) s h.entries 0 number h.starts g (λ q other low. quiet_none h e q low.0 (act_elsewhere q e.stamp p number a e.what is (λ same. other (same ∙ omega arith)))) (begun_own s h (IsWhole-history s es)) at ∙ (ap (λ o. cons_option (cond (goes_on h g) o None) []) now ∙ listed (cond (goes_on h g) (over_after g (events (history s (es ++ e ∷ [])) g)) None))
    )

-- an act in no game ends none
pub act_ends_none : (s : Setup) (es : List Entry) (e : Entry) (p number : ℕ) (a : Action) → e.what ≡ what.Act p number a → slice_get (begun s (history s es)) number ≡ None → ended_by s (history s es) e ≡ []
unfolding ended_by running begun
act_ends_none s es e p number a is none =
    let h = history s es in
    filtered h e (games_from s h.entries 0 h.starts) ∙ nothing 0 h.starts (begun_own s h (IsWhole-history s es)) (ap (slice_get (games_from s h.entries 0 h.starts)) (omega arith) ∙ none)
  where
    nothing : (k : ℕ) (xs : List Start) → AllBelow game_entry (length (history s es).entries) (games_from s (history s es).entries k xs) → slice_get (games_from s (history s es).entries k xs) (number - k) ≡ None → filter_map (ended_running (history s es) e) (games_from s (history s es).entries k xs) ≡ []
    nothing k [] all at = refl
    nothing k (x ∷ xs) all at =
        let h = history s es in
        let g = game_of s h.entries k x in
        ap (λ o. cons_option o (filter_map (ended_running h e) (games_from s h.entries (suc k) xs))) (quiet_none h e g all.0 (act_elsewhere g e.stamp p number a e.what is (λ same. let here : Some g ≡ None = ap (slice_get (games_from s h.entries k (x ∷ xs))) (let zero' : 0 ≡ number - k = omega arith in zero') ∙ at in cc))) ∙ nothing (suc k) xs all.1 (later (cases_lt k number))
      where
        later : (k < number) ⊎ (number ≤ k) → slice_get (games_from s (history s es).entries (suc k) xs) (number - suc k) ≡ None
        later (inl lt) = ap (slice_get (games_from s (history s es).entries k (x ∷ xs))) (let next : suc (number - suc k) ≡ number - k = omega arith in next) ∙ at
        later (inr le) = let here : Some (game_of s (history s es).entries k x) ≡ None = ap (slice_get (games_from s (history s es).entries k (x ∷ xs))) (let zero' : 0 ≡ number - k = omega arith in zero') ∙ at in cc

-- whom a commit starts, by one comparison for each player
pub started_by_numbers : (s : Setup) (es : List Entry) (n : ℕ) → n ≤ length es → started s (history s es) n ≡ filter (λ (x : Pair). (idle s (history s es) x.white && nat_le (since s (history s es) x.white) n) && (idle s (history s es) x.black && nat_le (since s (history s es) x.black) n)) (plan s (history s (take n es))).pairs
unfolding started
started_by_numbers s es n le =
    let h = history s es in
    filter_agree (both_still s h n) (λ (x : Pair). (idle s h x.white && nat_le (since s h x.white) n) && (idle s h x.black && nat_le (since s h x.black) n)) (λ x i. still_since s es n x.white le i && still_since s es n x.black le i) (plan_at s h n).pairs ∙ ap (λ k. filter (λ (x : Pair). (idle s h x.white && nat_le (since s h x.white) n) && (idle s h x.black && nat_le (since s h x.black) n)) (plan s k).pairs) (first-history s es n)
