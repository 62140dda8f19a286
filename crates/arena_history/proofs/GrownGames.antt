-- The games of a list of entries with one more: what is begun, what runs, what ends, what counts.
use Rattle.std.proofs.Common.{◌≡◌, ℕ, suc, ◌+◌, ◌<◌, ◌≤◌, List, [], ◌∷◌, ◌++◌, length, Option, Some, Bool, true, false, refl, sym, ap, ◌∙◌, subst, arith, append_assoc, length-append}
use Rattle.std.specs.Prelude.{cond, not, map, filter, nat_lt, slice_get, is_none}
use Rattle.std.specs.List.{AllByRecursion, filter_map}
use Rattle.std.specs.Option.{option_map_or}
use Rattle.std.proofs.lemmas.List.{append-nil, length-map}
use Rattle.std.proofs.lemmas.List.Elements.{filter_agree}
use Rattle.std.proofs.lemmas.List.Filters.{length-filter_both}
use Rattle.entries.specs.declared.setup.Setup.{Setup}
use Rattle.entries.specs.declared.journal.Entry.{Entry}
use Rattle.entries.specs.declared.journal.Start.{Start}
use Rattle.entries.specs.declared.journal.What.{What}
use Rattle.entries.specs.declared.journal.What.TheVariants as what
use Rattle.game_room.specs.declared.outcome.Outcome.{Outcome}
use Rattle.pair_cost.specs.declared.candidate.Pair.{Pair}
use Rattle.arena_history.specs.History.{History, with_entry, along}
use Rattle.arena_history.specs.Games.{Begun, game_of, games_from, begun, event_of, events, outcome_of, goes_on, running}
use Rattle.arena_history.specs.Endings.{EndedGame, ended_by, counted_by, finished}
use Rattle.arena_history.specs.GameLaws.{IsGameOf, games_begun_by, IsEndedBy}
use Rattle.arena_history.specs.Waves.{start_of, started, starts_in, starts_by, history}
use Rattle.arena_history.proofs.Histories.{IsWhole-history, entries-history, history-push, starts-after}
use Rattle.arena_history.proofs.BegunGames.{new_games, begun-after, begun_own, length-games_from, events-with, events-after, events_new, outcome-after, outcome_stays, running-after}
use Rattle.arena_history.proofs.Counted.{ended_placed}
use Rattle.arena_history.proofs.Ended.{EndedNow, ended_games, ended_now, finished-after}
use Rattle.arena_history.proofs.EndingStamps.{ended_stamp}
use Rattle.arena_history.proofs.Lists.{all_at, slice_get-append_left, slice_get_within, slice_get-push, snoc_induction}

module _ (s : Setup) (es : List Entry) (e : Entry) where
  new_is : new_games s (history s es) e ≡ games_begun_by s es e
  new_is = ap (λ l. games_from s (l ++ e ∷ []) (length (history s es).starts) (starts_by s (history s es) e)) (entries-history s es)

  pub begun-push : begun s (history s (es ++ e ∷ [])) ≡ begun s (history s es) ++ games_begun_by s es e
  begun-push = ap (begun s) (history-push s es e) ∙ (begun-after s (history s es) e (IsWhole-history s es) ∙ ap (λ l. begun s (history s es) ++ l) new_is)

  own_entry : (g : Begun) → IsGameOf s es g → g.entry < length (history s es).entries
  own_entry g at = all_at (λ (q : Begun). q.entry < length (history s es).entries) (begun s (history s es)) g.header.id g (begun_own s (history s es) (IsWhole-history s es)) at

  pub events-push : (g : Begun) → IsGameOf s es g → events (history s (es ++ e ∷ [])) g ≡ events (history s es) g ++ filter_map (event_of g.header) (e ∷ [])
  events-push g at =
      ap (λ h. events h g) (history-push s es e) ∙ (events-after s (history s es) e g ∙ events-with (history s es) e g (own_entry g at))

  -- the games that an entry begins are its own
  pairs_at : (n : ℕ) (ps : List Pair) → AllByRecursion (λ (x : Start). x.entry ≡ n) (map (start_of n) ps)
  pairs_at n [] = tt
  pairs_at n (x ∷ ps) = (refl, pairs_at n ps)

  starts_in_at : (h : History) (w : What) → AllByRecursion (λ (x : Start). x.entry ≡ length h.entries) (starts_in s h w)
  starts_in_at h (what.Enter p) = tt
  starts_in_at h (what.Pause p) = tt
  starts_in_at h (what.Leave p) = tt
  starts_in_at h (what.Act p g a) = tt
  starts_in_at h what.Tick = tt
  starts_in_at h (what.Wave n) = pairs_at (length h.entries) (started s h n)

  pub starts_at : AllByRecursion (λ (x : Start). x.entry ≡ length (history s es).entries) (starts_by s (history s es) e)
  unfolding starts_by
  starts_at = starts_in_at (history s es) e.what

  abbrev IsNew : Begun → Type 0
  IsNew g = (events (history s (es ++ e ∷ [])) g ≡ []) × (g.header.start ≡ e.stamp)

  each_new : (k : ℕ) (xs : List Start) → AllByRecursion (λ (x : Start). x.entry ≡ length (history s es).entries) xs → AllByRecursion IsNew (games_from s (es ++ e ∷ []) k xs)
  each_new k [] all = tt
  each_new k (x ∷ xs) all =
      let here : x.entry ≡ length es = all.0 ∙ ap length (entries-history s es) in
      let g = game_of s (es ++ e ∷ []) k x in
      let le : length (history s es).entries ≤ g.entry = let is : x.entry ≡ length (history s es).entries = all.0 in omega (arith, is) in
      ((ap (λ h. events h g) (history-push s es e) ∙ (events-after s (history s es) e g ∙ events_new (history s es) e g le), ap (λ o. option_map_or (λ (y : Entry). y.stamp) o 0) (ap (slice_get (es ++ e ∷ [])) here ∙ slice_get-push es e)), each_new (suc k) xs all.1)

  pub new_games-push : AllByRecursion IsNew (games_begun_by s es e)
  new_games-push = each_new (length (history s es).starts) (starts_by s (history s es) e) starts_at

  goes_on_now : (g : Begun) → goes_on (with_entry (history s es) e) g ≡ goes_on (history s (es ++ e ∷ [])) g
  goes_on_now g = ap (λ (o : Option Outcome). is_none o) (sym (outcome-after s (history s es) e g) ∙ ap (λ h. outcome_of h g) (sym (history-push s es e)))

  pub running-push : running s (history s (es ++ e ∷ [])) ≡ filter (goes_on (history s (es ++ e ∷ []))) (running s (history s es)) ++ games_begun_by s es e
  running-push =
      ap (running s) (history-push s es e) ∙ (running-after s (history s es) e (IsWhole-history s es) ∙ (λ i. filter_agree (goes_on (with_entry (history s es) e)) (goes_on (history s (es ++ e ∷ []))) goes_on_now (running s (history s es)) i ++ new_is i))

  pub ended-push : map (λ (x : EndedGame). x.game) (ended_by s (history s es) e) ≡ filter (λ g. not (goes_on (history s (es ++ e ∷ [])) g)) (running s (history s es))
  ended-push = ended_games s (history s es) e ∙ filter_agree (λ g. not (goes_on (with_entry (history s es) e) g)) (λ g. not (goes_on (history s (es ++ e ∷ [])) g)) (λ g. ap not (goes_on_now g)) (running s (history s es))

  pub finished-push : finished s (history s (es ++ e ∷ [])) ≡ finished s (history s es) ++ counted_by s (history s es) e
  finished-push = ap (finished s) (history-push s es e) ∙ finished-after s (history s es) e (IsWhole-history s es)

  ended_both : (xs : List EndedGame) → AllByRecursion (EndedNow (history s es) e) xs → AllByRecursion (λ (x : EndedGame). slice_get (begun s (history s es)) x.game.header.id ≡ Some x.game) xs → AllByRecursion (IsEndedBy s es e) xs
  ended_both [] now at = tt
  ended_both (x ∷ xs) now at = (
    record {
      game = at.0;
      ran = now.0.ran;
      over = ap (λ h. outcome_of h x.game) (history-push s es e) ∙ (outcome-after s (history s es) e x.game ∙ now.0.over);
      stamp = ended_stamp (history s es) e x now.0;
    },
    ended_both xs now.1 at.1,
  )

  pub ended_are : AllByRecursion (IsEndedBy s es e) (ended_by s (history s es) e)
  ended_are = ended_both (ended_by s (history s es) e) (ended_now s (history s es) e (IsWhole-history s es)) (ended_placed s (history s es) e)

  pub ended_stays-push : (g : Begun) (o : Outcome) → IsGameOf s es g → outcome_of (history s es) g ≡ Some o → (IsGameOf s (es ++ e ∷ []) g) × (outcome_of (history s (es ++ e ∷ [])) g ≡ Some o)
  ended_stays-push g o at over = (
    ap (λ l. slice_get l g.header.id) begun-push ∙ (slice_get-append_left (begun s (history s es)) (games_begun_by s es e) g.header.id (slice_get_within (begun s (history s es)) g.header.id g at) ∙ at),
    ap (λ h. outcome_of h g) (history-push s es e) ∙ (outcome-after s (history s es) e g ∙ outcome_stays (history s es) e g o (own_entry g at) over),
  )

  -- the counted and the running games fit among those that were begun

  counted_le : (b : Bool) (xs : List EndedGame) → length (cond b xs []) ≤ length xs
  counted_le true xs = omega arith
  counted_le false xs = omega arith

  pub fit-push : length (finished s (history s es)) + length (running s (history s es)) ≤ length (history s es).starts → length (finished s (history s (es ++ e ∷ []))) + length (running s (history s (es ++ e ∷ []))) ≤ length (history s (es ++ e ∷ [])).starts
  fit-push was =
      let h = history s es in
      let h' = history s (es ++ e ∷ []) in
      omega (
        arith,
        was,
        ap length (ap (λ (k : History). k.starts) (history-push s es e) ∙ starts-after s h e) ∙ length-append h.starts (starts_by s h e),
        length-games_from s (es ++ e ∷ []) (length h.starts) (starts_by s h e),
        ap length finished-push ∙ length-append (finished s h) (counted_by s h e),
        counted_le (nat_lt e.stamp s.ends) (ended_by s h e),
        ap length running-push ∙ length-append (filter (goes_on h') (running s h)) (games_begun_by s es e),
        sym (length-map (ended_by s h e) (λ (x : EndedGame). x.game)) ∙ ap length ended-push,
        length-filter_both (goes_on h') (λ g. not (goes_on h' g)) (λ g. refl) (running s h),
      )

pub ended_stays : (s : Setup) (es more : List Entry) (g : Begun) (o : Outcome) → IsGameOf s es g → outcome_of (history s es) g ≡ Some o → (IsGameOf s (es ++ more) g) × (outcome_of (history s (es ++ more)) g ≡ Some o)
ended_stays s es [] g o at over = subst (λ l. (IsGameOf s l g) × (outcome_of (history s l) g ≡ Some o)) (sym (append-nil es)) (at, over)
ended_stays s es (e ∷ more) g o at over =
    let next = ended_stays-push s es e g o at over in
    subst (λ l. (IsGameOf s l g) × (outcome_of (history s l) g ≡ Some o)) (append_assoc es (e ∷ []) more) (ended_stays s (es ++ e ∷ []) more g o next.0 next.1)

pub fit : (s : Setup) (es : List Entry) → length (finished s (history s es)) + length (running s (history s es)) ≤ length (history s es).starts
unfolding finished running begun along history
fit s es = snoc_induction (λ l. length (finished s (history s l)) + length (running s (history s l)) ≤ length (history s l).starts) (omega arith) (λ l e was. fit-push s l e was) es
