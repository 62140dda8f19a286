-- What a wave changes of a player's last opponent, his balance, and how often he was left alone.
use Rattle.std.proofs.Common.{◌≡◌, ℕ, suc, ◌+◌, ◌<◌, ◌≤◌, List, [], ◌∷◌, length, Option, Some, None, Bool, true, false, ◌&&◌, refl, sym, ap, ◌∙◌, subst, arith}
use Rattle.std.specs.Prelude.{cond, map, fold, sum_by, count_by, is_some, ◌==◌, pos, ◌-ℤ◌, ◌+ℤ◌}
use Rattle.std.specs.List.{AllByRecursion}
use Rattle.std.specs.Option.{option_map}
use Rattle.std.proofs.lemmas.Bool.{lt-ltb, le-ltb}
use Rattle.std.proofs.lemmas.Int.{ints}
use Rattle.std.proofs.lemmas.List.Sums.{fold-append, fold_push, sum_by-append, sum_by-cons}
use Rattle.entries.specs.declared.setup.Setup.{Setup}
use Rattle.entries.specs.declared.journal.Entry.{Entry}
use Rattle.entries.specs.declared.journal.Start.{Start}
use Rattle.entries.specs.declared.journal.What.{What}
use Rattle.entries.specs.declared.journal.What.TheVariants as what
use Rattle.pair_cost.specs.declared.candidate.Pair.{Pair}
use Rattle.arena_history.specs.History.{History, LeftAlone}
use Rattle.arena_history.specs.Games.{is_either}
use Rattle.arena_history.specs.Changes.{game_among, opponent_or, begins_game_of}
use Rattle.arena_history.specs.Snapshots.{start_or, last_start, opponent_of, last_opponent, balance_among, balance, is_after, leaves_alone, alone, wave_or, last_wave}
use Rattle.arena_history.specs.Waves.{start_of, starts_in, starts_by, lefts_in, lefts_by, after, started}
use Rattle.arena_history.proofs.Histories.{AllBelow, IsWhole, start_entry, left_entry, starts-after, lefts-after, entries-after}

-- one entry more

last_start-after : (s : Setup) (h : History) (e : Entry) (p : ℕ) → last_start (after s h e) p ≡ fold (start_or p) (last_start h p) (starts_by s h e)
unfolding last_start
last_start-after s h e p = ap (fold (start_or p) None) (starts-after s h e) ∙ fold-append (start_or p) None h.starts (starts_by s h e)

opponents : (p : ℕ) (xs : List Start) (before : Option Start) → option_map (opponent_of p) (fold (start_or p) before xs) ≡ fold (opponent_or p) (option_map (opponent_of p) before) xs
opponents p [] before = refl
opponents p (x ∷ xs) before = opponents p xs (start_or p before x) ∙ ap (λ o. fold (opponent_or p) o xs) (by (is_either p x.white x.black))
  where
    by : (b : Bool) → option_map (opponent_of p) (cond b (Some x) before) ≡ cond b (Some (opponent_of p x)) (option_map (opponent_of p) before)
    by true = refl
    by false = refl

pub last_opponent-after : (s : Setup) (h : History) (e : Entry) (p : ℕ) → last_opponent (after s h e) p ≡ fold (opponent_or p) (last_opponent h p) (starts_by s h e)
unfolding last_opponent
last_opponent-after s h e p = ap (option_map (opponent_of p)) (last_start-after s h e p) ∙ opponents p (starts_by s h e) (last_start h p)

pub balance-after : (s : Setup) (h : History) (e : Entry) (p : ℕ) → balance (after s h e) p ≡ balance h p +ℤ balance_among (starts_by s h e) p
unfolding balance balance_among
balance-after s h e p =
    let white = λ (x : Start). cond (x.white == p) 1 0 in
    let black = λ (x : Start). cond (x.black == p) 1 0 in
    ap (λ (l : List Start). pos (sum_by white l) -ℤ pos (sum_by black l)) (starts-after s h e) ∙ (
    (λ i. pos (sum_by-append white h.starts (starts_by s h e) i) -ℤ pos (sum_by-append black h.starts (starts_by s h e) i)) ∙ split (sum_by white h.starts) (sum_by white (starts_by s h e)) (sum_by black h.starts) (sum_by black (starts_by s h e))
    )
  where
    split : (a b c d : ℕ) → (pos (a + b) -ℤ pos (c + d)) ≡ ((pos a -ℤ pos c) +ℤ (pos b -ℤ pos d))
    split a b c d = omega (arith, ints)

pub last_wave-after : (s : Setup) (h : History) (e : Entry) → last_wave (after s h e) ≡ wave_or (last_wave h) e.stamp e.what
unfolding last_wave
last_wave-after s h e = ap (fold (λ before (x : Entry). wave_or before x.stamp x.what) None) (entries-after s h e) ∙ fold_push (λ before (x : Entry). wave_or before x.stamp x.what) None h.entries e

-- how often somebody was left alone

-- it begins with this entry where it begins a game for p, and else it is the one before
abbrev BeginsAt : ℕ → Bool → Option Start → Option Start → Type 0
BeginsAt n true old new = (x : Start) × (new ≡ Some x) × (x.entry ≡ n)
BeginsAt n false old new = new ≡ old

last_entry_in : (p n number : ℕ) (ps : List Pair) (old : Option Start) → BeginsAt n (is_some (game_among p number (map (start_of n) ps))) old (fold (start_or p) old (map (start_of n) ps))
last_entry_in p n number [] old = refl
last_entry_in p n number (x ∷ ps) old = by (is_either p x.white x.black) (λ before. last_entry_in p n (suc number) ps before)
  where
    begun : (b : Bool) (new : Option Start) → BeginsAt n b (Some (start_of n x)) new → BeginsAt n true old new
    begun true new is = is
    begun false new is = (start_of n x, is, refl)

    by : (b : Bool) → ((before : Option Start) → BeginsAt n (is_some (game_among p (suc number) (map (start_of n) ps))) before (fold (start_or p) before (map (start_of n) ps))) → BeginsAt n (is_some (cond b (Some number) (game_among p (suc number) (map (start_of n) ps)))) old (fold (start_or p) (cond b (Some (start_of n x)) old) (map (start_of n) ps))
    by true rest = begun (is_some (game_among p (suc number) (map (start_of n) ps))) (fold (start_or p) (Some (start_of n x)) (map (start_of n) ps)) (rest (Some (start_of n x)))
    by false rest = rest old

last_in : (s : Setup) (h : History) (p number : ℕ) (w : What) (old : Option Start) → BeginsAt (length h.entries) (is_some (game_among p number (starts_in s h w))) old (fold (start_or p) old (starts_in s h w))
last_in s h p number (what.Enter q) old = refl
last_in s h p number (what.Pause q) old = refl
last_in s h p number (what.Leave q) old = refl
last_in s h p number (what.Act q g a) old = refl
last_in s h p number what.Tick old = refl
last_in s h p number (what.Wave n) old = last_entry_in p (length h.entries) number (started s h n) old

-- the last game of p began with this entry where it begins one for him, and else where it began before
last_start-is : (s : Setup) (h : History) (e : Entry) (p : ℕ) → BeginsAt (length h.entries) (is_some (begins_game_of s h e p)) (last_start h p) (last_start (after s h e) p)
unfolding begins_game_of starts_by
last_start-is s h e p = subst (BeginsAt (length h.entries) (is_some (game_among p (length h.starts) (starts_in s h e.what))) (last_start h p)) (sym (last_start-after s h e p)) (last_in s h p (length h.starts) e.what (last_start h p))

-- a wave counts for p where it left him alone after an entry
abbrev counts : ℕ → Option Start → LeftAlone → ℕ
counts p since x = cond (leaves_alone p x && is_after since x.entry) 1 0

late_none : (p : ℕ) (y : Start) (xs : List LeftAlone) → AllByRecursion (λ (x : LeftAlone). x.entry ≤ y.entry) xs → sum_by (counts p (Some y)) xs ≡ 0
late_none p y [] all = refl
late_none p y (x ∷ xs) all =
    sum_by-cons (counts p (Some y)) x xs ∙ (λ i. cond (none (leaves_alone p x) i) 1 0 + late_none p y xs all.1 i)
  where
    none : (b : Bool) → (b && is_after (Some y) x.entry) ≡ false
    none true = le-ltb y.entry x.entry all.0
    none false = refl

lefts_at : (s : Setup) (h : History) (w : What) → AllByRecursion (λ (x : LeftAlone). x.entry ≡ length h.entries) (lefts_in s h w)
lefts_at s h (what.Enter q) = tt
lefts_at s h (what.Pause q) = tt
lefts_at s h (what.Leave q) = tt
lefts_at s h (what.Act q g a) = tt
lefts_at s h what.Tick = tt
lefts_at s h (what.Wave n) = (refl, tt)

all_low : (n : ℕ) (xs : List LeftAlone) → AllBelow left_entry n xs → AllByRecursion (λ (x : LeftAlone). x.entry ≤ n) xs
all_low n [] all = tt
all_low n (x ∷ xs) all = ((let lt : x.entry < n = all.0 in omega arith), all_low n xs all.1)

all_at_low : (n : ℕ) (xs : List LeftAlone) → AllByRecursion (λ (x : LeftAlone). x.entry ≡ n) xs → AllByRecursion (λ (x : LeftAlone). x.entry ≤ n) xs
all_at_low n [] all = tt
all_at_low n (x ∷ xs) all = ((let is : x.entry ≡ n = all.0 in omega arith), all_at_low n xs all.1)

-- p's last game began before entry n
abbrev BeganBefore : ℕ → Option Start → Type 0
BeganBefore n None = Unit {0}
BeganBefore n (Some x) = x.entry < n

began_cond : (n : ℕ) (b : Bool) (x : Start) (before : Option Start) → x.entry < n → BeganBefore n before → BeganBefore n (cond b (Some x) before)
began_cond n true x before lt old = lt
began_cond n false x before lt old = old

began_fold : (p n : ℕ) (xs : List Start) (before : Option Start) → AllBelow start_entry n xs → BeganBefore n before → BeganBefore n (fold (start_or p) before xs)
began_fold p n [] before all old = old
began_fold p n (x ∷ xs) before all old = began_fold p n xs (start_or p before x) all.1 (began_cond n (is_either p x.white x.black) x before all.0 old)

began_before : (h : History) (p : ℕ) → IsWhole h → BeganBefore (length h.entries) (last_start h p)
unfolding last_start
began_before h p whole = began_fold p (length h.entries) h.starts None whole.starts tt

after_is : (n : ℕ) (o : Option Start) → BeganBefore n o → is_after o n ≡ true
after_is n None began = refl
after_is n (Some x) began = lt-ltb x.entry n began

new_counts : (p n : ℕ) (o : Option Start) (xs : List LeftAlone) → BeganBefore n o → AllByRecursion (λ (x : LeftAlone). x.entry ≡ n) xs → sum_by (counts p o) xs ≡ count_by (leaves_alone p) xs
new_counts p n o [] began all = refl
new_counts p n o (x ∷ xs) began all =
    sum_by-cons (counts p o) x xs ∙ ((λ i. cond (one (leaves_alone p x) i) 1 0 + new_counts p n o xs began all.1 i) ∙ sym (sum_by-cons (λ (y : LeftAlone). cond (leaves_alone p y) 1 0) x xs))
  where
    one : (b : Bool) → (b && is_after o x.entry) ≡ b
    one true = ap (is_after o) all.0 ∙ after_is n o began
    one false = refl

module _ (s : Setup) (h : History) (e : Entry) (p : ℕ) (whole : IsWhole h) where
  new_at : AllByRecursion (λ (x : LeftAlone). x.entry ≡ length h.entries) (lefts_by s h e)
  unfolding lefts_by
  new_at = lefts_at s h e.what

  -- a wave that begins a game for p ends his count, and another one that leaves him alone raises it
  pub alone-after : alone (after s h e) p ≡ cond (is_some (begins_game_of s h e p)) 0 (alone h p + count_by (leaves_alone p) (lefts_by s h e))
  unfolding alone
  alone-after =
      ap (sum_by (counts p (last_start (after s h e) p))) (lefts-after s h e) ∙ (
      sum_by-append (counts p (last_start (after s h e) p)) h.lefts (lefts_by s h e) ∙ by (is_some (begins_game_of s h e p)) (last_start-is s h e p)
      )
    where
      by : (b : Bool) → BeginsAt (length h.entries) b (last_start h p) (last_start (after s h e) p) → ◌≡◌ {A = ℕ} (sum_by (counts p (last_start (after s h e) p)) h.lefts + sum_by (counts p (last_start (after s h e) p)) (lefts_by s h e)) (cond b 0 (sum_by (counts p (last_start h p)) h.lefts + count_by (leaves_alone p) (lefts_by s h e)))
      by true (x, is, here) =
          (λ i. sum_by (counts p (is i)) h.lefts + sum_by (counts p (is i)) (lefts_by s h e)) ∙ (λ i. late_none p x h.lefts (subst (λ n. AllByRecursion (λ (y : LeftAlone). y.entry ≤ n) h.lefts) (sym here) (all_low (length h.entries) h.lefts whole.lefts)) i + late_none p x (lefts_by s h e) (subst (λ n. AllByRecursion (λ (y : LeftAlone). y.entry ≤ n) (lefts_by s h e)) (sym here) (all_at_low (length h.entries) (lefts_by s h e) new_at)) i)
      by false same =
          (λ i. sum_by (counts p (same i)) h.lefts + sum_by (counts p (same i)) (lefts_by s h e)) ∙ ap (λ k. sum_by (counts p (last_start h p)) h.lefts + k) (new_counts p (length h.entries) (last_start h p) (lefts_by s h e) (began_before h p whole) new_at)
