-- Which games a wave begins, and who of its plan was idle.
use Rattle.std.proofs.Common.{◌≡◌, ℕ, zero, suc, ◌<◌, ◌≤◌, List, [], ◌∷◌, ◌++◌, take, drop, length, Some, Bool, true, false, ◌&&◌, refl, sym, ap, ◌∙◌, subst, arith}
use Rattle.std.specs.Prelude.{cond, map, filter, fold, slice_get, ◌==◌, ◌↔◌}
use Rattle.std.specs.List.{Contains}
use Rattle.std.proofs.lemmas.Bool.{eq-eqb, ne_eqb, and_parts}
use Rattle.std.proofs.lemmas.List.{append-nil, take-append-drop, length-take-le}
use Rattle.std.proofs.lemmas.List.Elements.{filter-append}
use Rattle.entries.specs.declared.setup.Setup.{Setup}
use Rattle.entries.specs.declared.journal.Entry.{Entry}
use Rattle.entries.specs.declared.journal.Start.{Start}
use Rattle.entries.specs.declared.journal.What.{What}
use Rattle.entries.specs.declared.journal.What.TheVariants as what
use Rattle.pair_cost.specs.declared.candidate.Pair.{Pair}
use Rattle.arena_history.specs.History.{History}
use Rattle.arena_history.specs.Snapshots.{plan}
use Rattle.arena_history.specs.Stands.{idle}
use Rattle.arena_history.specs.Waves.{still, both_still, plan_at, start_of, started, starts_in, starts_by, after, history}
use Rattle.arena_history.proofs.Histories.{AllBelow, AllFrom, IsWhole-history, start_entry, starts_by_from, entries-history, starts-after, length-after, history-push, history-append, first-history}
use Rattle.arena_history.proofs.Idle.{still_means, still_from}
use Rattle.arena_history.proofs.Lists.{take-suc_at, slice_get_within}

-- the games of entry n
abbrev of_entry : ℕ → List Start → List Start
of_entry n xs = filter (λ (x : Start). x.entry == n) xs

none_later : (n m : ℕ) (xs : List Start) → n < m → AllFrom start_entry m xs → of_entry n xs ≡ []
none_later n m [] lt all = refl
none_later n m (x ∷ xs) lt all = rw (ne_eqb x.entry n (λ same. absurd (let low : m ≤ x.entry = all.0 in omega arith))) (none_later n m xs lt all.1)

none_earlier : (n : ℕ) (xs : List Start) → AllBelow start_entry n xs → of_entry n xs ≡ []
none_earlier n [] all = refl
none_earlier n (x ∷ xs) all = rw (ne_eqb x.entry n (λ same. absurd (let low : x.entry < n = all.0 in omega arith))) (none_earlier n xs all.1)

all_of_entry : (n : ℕ) (ps : List Pair) → of_entry n (map (start_of n) ps) ≡ map (start_of n) ps
all_of_entry n [] = refl
all_of_entry n (x ∷ ps) = rw (eq-eqb n n refl) (ap (λ l. start_of n x ∷ l) (all_of_entry n ps))

later_same : (s : Setup) (h : History) (es : List Entry) (n : ℕ) → n < length h.entries → of_entry n (fold (after s) h es).starts ≡ of_entry n h.starts
later_same s h [] n lt = refl
later_same s h (e ∷ es) n lt =
    later_same s (after s h e) es n (omega (arith, length-after s h e)) ∙ (
    ap (of_entry n) (starts-after s h e) ∙ (filter-append (λ (x : Start). x.entry == n) h.starts (starts_by s h e) ∙ (ap (λ l. of_entry n h.starts ++ l) (none_later n (length h.entries) (starts_by s h e) lt (starts_by_from s h e)) ∙ append-nil (of_entry n h.starts)))
    )

wave_starts : (s : Setup) (h : History) (m : ℕ) (w : What) → w ≡ what.Wave m → starts_in s h w ≡ map (start_of (length h.entries)) (started s h m)
wave_starts s h m w is = ap (starts_in s h) is

-- a wave begins the games of its started pairs
pub begins_started : (s : Setup) (es : List Entry) (n m : ℕ) (e : Entry) → slice_get es n ≡ Some e → e.what ≡ what.Wave m → of_entry n (history s es).starts ≡ map (start_of n) (started s (history s (take n es)) m)
unfolding starts_by
begins_started s es n m e at is =
    let h = history s (take n es) in
    let lt : n < length es = slice_get_within es n e at in
    let long : length h.entries ≡ n = ap length (entries-history s (take n es)) ∙ length-take-le n es (omega arith) in
    let whole : AllBelow start_entry n h.starts = subst (λ k. AllBelow start_entry k h.starts) long (IsWhole-history s (take n es)).starts in
    let split : history s es ≡ fold (after s) (after s h e) (drop (suc n) es) =
    ap (history s) (sym (take-append-drop (suc n) es)) ∙ (history-append s (take (suc n) es) (drop (suc n) es) ∙ ap (λ k. fold (after s) k (drop (suc n) es)) (ap (history s) (take-suc_at es n e at) ∙ history-push s (take n es) e)) in
    ap (λ (k : History). of_entry n k.starts) split ∙ (
    later_same s (after s h e) (drop (suc n) es) n (omega (arith, length-after s h e, long)) ∙ (
    ap (of_entry n) (starts-after s h e) ∙ (
    filter-append (λ (x : Start). x.entry == n) h.starts (starts_in s h e.what) ∙ (
    (λ i. none_earlier n h.starts whole i ++ of_entry n (wave_starts s h m e.what is i)) ∙ (ap (λ k. of_entry n (map (start_of k) (started s h m))) long ∙ all_of_entry n (started s h m))
    )
    )
    )
    )

-- what passes a filter

contains_tail : {X : Type 0} (y : X) (xs : List X) (x : X) → Contains xs x → Contains (y ∷ xs) x
contains_tail y xs x (k, lt, at) = (suc k, (let within : k < length xs = lt in omega arith), at)

contains_filter : {X : Type 0} (p : X → Bool) (xs : List X) (x : X) → Contains xs x → p x ≡ true → Contains (filter p xs) x
contains_filter p [] x (k, lt, at) on = absurd (omega arith)
contains_filter p (y ∷ xs) x (zero, lt, at) on =
    let here : p y ≡ true = ap p at ∙ on in
    rw here (0, omega arith, at)
contains_filter p (y ∷ xs) x (suc k, lt, at) on =
    let rest = contains_filter p xs x (k, (let within : suc k < suc (length xs) = lt in omega arith), at) on in
    elim (p y) as (λ b. Contains (cond b (y ∷ filter p xs) (filter p xs)) x) [ true ↦ contains_tail y (filter p xs) x rest | false ↦ rest ]

filter_contains : {X : Type 0} (p : X → Bool) (xs : List X) (x : X) → Contains (filter p xs) x → Contains xs x × (p x ≡ true)
filter_contains p [] x (k, lt, at) = absurd (omega arith)
filter_contains {X = X} p (y ∷ xs) x found = by (p y) refl found (λ rest. filter_contains p xs x rest)
  where
    by : (b : Bool) → p y ≡ b → Contains (cond b (y ∷ filter p xs) (filter p xs)) x → (Contains (filter p xs) x → Contains xs x × (p x ≡ true)) → Contains (y ∷ xs) x × (p x ≡ true)
    by true is (zero, lt, at) below = ((0, omega arith, at), ap p (sym at) ∙ is)
    by true is (suc k, lt, at) below = let rest = below (k, (let within : suc k < suc (length (filter p xs)) = lt in omega arith), at) in (contains_tail y xs x rest.0, rest.1)
    by false is in' below = let rest = below in' in (contains_tail y xs x rest.0, rest.1)

-- who is started was idle throughout
pub started_were_idle : (s : Setup) (es : List Entry) (n : ℕ) (x : Pair) → Contains (started s (history s es) n) x ↔ (Contains (plan s (history s (take n es))).pairs x × ((k : ℕ) → n ≤ k → k ≤ length es → (idle s (history s (take k es)) x.white ≡ true) × (idle s (history s (take k es)) x.black ≡ true)))
unfolding started
started_were_idle s es n x =
    let h = history s es in
    let same : (plan_at s h n).pairs ≡ (plan s (history s (take n es))).pairs = ap (λ k. (plan s k).pairs) (first-history s es n) in (
      (λ found.
          let both = filter_contains (both_still s h n) (plan_at s h n).pairs x found in
          let two = and_parts (still s h n x.white) (still s h n x.black) both.1 in
          (subst (λ l. Contains l x) same both.0, λ k low high. (ap (λ g. idle s g x.white) (sym (first-history s es k)) ∙ still_means s es n x.white two.0 k low high, ap (λ g. idle s g x.black) (sym (first-history s es k)) ∙ still_means s es n x.black two.1 k low high))),
      (λ given.
          let white : still s h n x.white ≡ true = still_from s es n x.white (λ k low high. ap (λ g. idle s g x.white) (first-history s es k) ∙ (given.1 k low high).0) in
          let black : still s h n x.black ≡ true = still_from s es n x.black (λ k low high. ap (λ g. idle s g x.black) (first-history s es k) ∙ (given.1 k low high).1) in
          contains_filter (both_still s h n) (plan_at s h n).pairs x (subst (λ l. Contains l x) (sym same) given.0) (λ i. white i && black i)),
    )
