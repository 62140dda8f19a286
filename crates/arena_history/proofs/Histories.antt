-- One entry more, and the first entries of a history.
use Rattle.std.proofs.Common.{◌≡◌, ℕ, suc, ◌<◌, ◌≤◌, ⊎_elim, List, [], ◌∷◌, ◌++◌, take, drop, length, refl, sym, ap, ◌∙◌, arith, append_assoc, length-append}
use Rattle.std.specs.Prelude.{cond, nat_lt, fold, filter, map}
use Rattle.std.specs.List.{AllByRecursion}
use Rattle.std.proofs.lemmas.Bool.{lt-ltb, le-ltb, cases_lt}
use Rattle.std.proofs.lemmas.List.{take-append-le, take_all, take-append-drop, length-take-le, take-take, append-nil}
use Rattle.std.proofs.lemmas.List.Elements.{filter-append}
use Rattle.std.proofs.lemmas.List.Sums.{fold-append}
use Rattle.entries.specs.declared.setup.Setup.{Setup}
use Rattle.entries.specs.declared.journal.Entry.{Entry}
use Rattle.entries.specs.declared.journal.Start.{Start}
use Rattle.entries.specs.declared.journal.What.{What}
use Rattle.entries.specs.declared.journal.What.TheVariants.{Enter, Pause, Leave, Act, Tick, Wave}
use Rattle.pair_cost.specs.declared.candidate.Pair.{Pair}
use Rattle.arena_history.specs.History.{LeftAlone, History, nothing, starts_below, lefts_below, first}
use Rattle.arena_history.specs.Waves.{start_of, started, starts_in, starts_by, lefts_in, lefts_by, after, history}

-- items that belong to entries, each by its entry's number

module _ {X : Type 0} (entry : X → ℕ) where
  -- each item belongs to one of the first n entries
  abbrev pub AllBelow : ℕ → List X → Type 0
  AllBelow n xs = AllByRecursion (λ (x : X). entry x < n) xs

  -- each item belongs to entry n or a later one
  abbrev pub AllFrom : ℕ → List X → Type 0
  AllFrom n xs = AllByRecursion (λ (x : X). n ≤ entry x) xs

  abbrev below : ℕ → List X → List X
  below n xs = filter (λ (x : X). nat_lt (entry x) n) xs

  below_all : (n : ℕ) (xs : List X) → AllBelow n xs → below n xs ≡ xs
  below_all n [] all = refl
  below_all n (x ∷ xs) all = rw (lt-ltb (entry x) n all.0) (ap (λ l. x ∷ l) (below_all n xs all.1))

  below_none : (n : ℕ) (xs : List X) → AllFrom n xs → below n xs ≡ []
  below_none n [] none = refl
  below_none n (x ∷ xs) none = rw (le-ltb (entry x) n none.0) (below_none n xs none.1)

  below-below : (m n : ℕ) (xs : List X) → m ≤ n → below m (below n xs) ≡ below m xs
  below-below m n [] le = refl
  below-below m n (x ∷ xs) le =
      ⊎_elim
      (λ (early : entry x < n). rw (lt-ltb (entry x) n early) (ap (λ l. cond (nat_lt (entry x) m) (x ∷ l) l) (below-below m n xs le)))
      (λ (late : n ≤ entry x). let later : m ≤ entry x = omega arith in rw (le-ltb (entry x) n late, le-ltb (entry x) m later) (below-below m n xs le))
      (cases_lt (entry x) n)

  pub AllBelow-append : (n : ℕ) (xs ys : List X) → AllBelow n xs → AllBelow n ys → AllBelow n (xs ++ ys)
  AllBelow-append n [] ys all more = more
  AllBelow-append n (x ∷ xs) ys all more = (all.0, AllBelow-append n xs ys all.1 more)

  pub AllBelow-le : (m n : ℕ) (xs : List X) → m ≤ n → AllBelow m xs → AllBelow n xs
  AllBelow-le m n [] le all = tt
  AllBelow-le m n (x ∷ xs) le all = ((let early : entry x < m = all.0 in omega arith), AllBelow-le m n xs le all.1)

  pub AllFrom-le : (m n : ℕ) (xs : List X) → m ≤ n → AllFrom n xs → AllFrom m xs
  AllFrom-le m n [] le all = tt
  AllFrom-le m n (x ∷ xs) le all = ((let late : n ≤ entry x = all.0 in omega arith), AllFrom-le m n xs le all.1)

  -- items that belong to later entries are not among the first n
  below-append_later : (n m : ℕ) (xs ys : List X) → n ≤ m → AllFrom m ys → below n (xs ++ ys) ≡ below n xs
  below-append_later n m xs ys le later =
      filter-append (λ (x : X). nat_lt (entry x) n) xs ys ∙ (ap (λ l. below n xs ++ l) (below_none n ys (AllFrom-le n m ys le later)) ∙ append-nil (below n xs))

  -- and what belongs to entry n comes behind what belongs to those before it
  all_below-append : (n : ℕ) (xs ys : List X) → AllBelow n xs → AllBelow (suc n) ys → AllBelow (suc n) (xs ++ ys)
  all_below-append n xs ys all new = AllBelow-append (suc n) xs ys (AllBelow-le n (suc n) xs (omega arith) all) new

-- the entry that a start or a left belongs to
abbrev pub start_entry : Start → ℕ
start_entry x = x.entry

abbrev pub left_entry : LeftAlone → ℕ
left_entry x = x.entry

-- what stands beside the entries belongs to them
pub record IsWhole (h : History) : Type 0 where
  pub starts : AllBelow start_entry (length h.entries) h.starts
  pub lefts : AllBelow left_entry (length h.entries) h.lefts

-- an entry begins its games itself

pairs_from : (n : ℕ) (pairs : List Pair) → AllFrom start_entry n (map (start_of n) pairs)
pairs_from n [] = tt
pairs_from n (x ∷ xs) = (omega arith, pairs_from n xs)

pairs_below : (n : ℕ) (pairs : List Pair) → AllBelow start_entry (suc n) (map (start_of n) pairs)
pairs_below n [] = tt
pairs_below n (x ∷ xs) = (omega arith, pairs_below n xs)

starts_in_from : (s : Setup) (h : History) (w : What) → AllFrom start_entry (length h.entries) (starts_in s h w)
starts_in_from s h (Enter p) = tt
starts_in_from s h (Pause p) = tt
starts_in_from s h (Leave p) = tt
starts_in_from s h (Act p g a) = tt
starts_in_from s h Tick = tt
starts_in_from s h (Wave n) = pairs_from (length h.entries) (started s h n)

pub starts_by_from : (s : Setup) (h : History) (e : Entry) → AllFrom start_entry (length h.entries) (starts_by s h e)
unfolding starts_by
starts_by_from s h e = starts_in_from s h e.what

starts_in_below : (s : Setup) (h : History) (w : What) → AllBelow start_entry (suc (length h.entries)) (starts_in s h w)
starts_in_below s h (Enter p) = tt
starts_in_below s h (Pause p) = tt
starts_in_below s h (Leave p) = tt
starts_in_below s h (Act p g a) = tt
starts_in_below s h Tick = tt
starts_in_below s h (Wave n) = pairs_below (length h.entries) (started s h n)

starts_by_below : (s : Setup) (h : History) (e : Entry) → AllBelow start_entry (suc (length h.entries)) (starts_by s h e)
unfolding starts_by
starts_by_below s h e = starts_in_below s h e.what

lefts_in_from : (s : Setup) (h : History) (w : What) → AllFrom left_entry (length h.entries) (lefts_in s h w)
lefts_in_from s h (Enter p) = tt
lefts_in_from s h (Pause p) = tt
lefts_in_from s h (Leave p) = tt
lefts_in_from s h (Act p g a) = tt
lefts_in_from s h Tick = tt
lefts_in_from s h (Wave n) = (omega arith, tt)

lefts_by_from : (s : Setup) (h : History) (e : Entry) → AllFrom left_entry (length h.entries) (lefts_by s h e)
unfolding lefts_by
lefts_by_from s h e = lefts_in_from s h e.what

lefts_in_below : (s : Setup) (h : History) (w : What) → AllBelow left_entry (suc (length h.entries)) (lefts_in s h w)
lefts_in_below s h (Enter p) = tt
lefts_in_below s h (Pause p) = tt
lefts_in_below s h (Leave p) = tt
lefts_in_below s h (Act p g a) = tt
lefts_in_below s h Tick = tt
lefts_in_below s h (Wave n) = (omega arith, tt)

lefts_by_below : (s : Setup) (h : History) (e : Entry) → AllBelow left_entry (suc (length h.entries)) (lefts_by s h e)
unfolding lefts_by
lefts_by_below s h e = lefts_in_below s h e.what

-- one entry more

pub entries-after : (s : Setup) (h : History) (e : Entry) → (after s h e).entries ≡ h.entries ++ e ∷ []
unfolding after
entries-after s h e = refl

pub starts-after : (s : Setup) (h : History) (e : Entry) → (after s h e).starts ≡ h.starts ++ starts_by s h e
unfolding after
starts-after s h e = refl

pub lefts-after : (s : Setup) (h : History) (e : Entry) → (after s h e).lefts ≡ h.lefts ++ lefts_by s h e
unfolding after
lefts-after s h e = refl

pub length-after : (s : Setup) (h : History) (e : Entry) → length (after s h e).entries ≡ suc (length h.entries)
unfolding after
length-after s h e = omega (arith, length-append h.entries (e ∷ []))

pub IsWhole-after : (s : Setup) (h : History) (e : Entry) → IsWhole h → IsWhole (after s h e)
unfolding after
IsWhole-after s h e whole =
    let long : length (h.entries ++ e ∷ []) ≡ suc (length h.entries) = omega (arith, length-append h.entries (e ∷ [])) in
    record {
      starts = rw long (all_below-append start_entry (length h.entries) h.starts (starts_by s h e) whole.starts (starts_by_below s h e));
      lefts = rw long (all_below-append left_entry (length h.entries) h.lefts (lefts_by s h e) whole.lefts (lefts_by_below s h e));
    }

-- an entry more leaves the first n as they were
pub first-after : (s : Setup) (h : History) (e : Entry) (n : ℕ) → n ≤ length h.entries → first n (after s h e) ≡ first n h
unfolding after first
first-after s h e n le = λ i. record {
  entries = take-append-le n h.entries (e ∷ []) le i;
  starts = below-append_later start_entry n (length h.entries) h.starts (starts_by s h e) le (starts_by_from s h e) i;
  lefts = below-append_later left_entry n (length h.entries) h.lefts (lefts_by s h e) le (lefts_by_from s h e) i;
}

-- the first entries, where that is all of them
pub first_all : (h : History) (n : ℕ) → IsWhole h → length h.entries ≤ n → first n h ≡ h
unfolding first
first_all h n whole le = λ i. record {
  entries = take_all n h.entries le i;
  starts = below_all start_entry n h.starts (AllBelow-le start_entry (length h.entries) n h.starts le whole.starts) i;
  lefts = below_all left_entry n h.lefts (AllBelow-le left_entry (length h.entries) n h.lefts le whole.lefts) i;
}

pub first-first : (h : History) (m n : ℕ) → m ≤ n → first m (first n h) ≡ first m h
unfolding first
first-first h m n le = λ i. record {
  entries = take-take m n h.entries le i;
  starts = below-below start_entry m n h.starts le i;
  lefts = below-below left_entry m n h.lefts le i;
}

-- entries behind a history

module _ (s : Setup) where
  entries-fold : (h : History) (es : List Entry) → (fold (after s) h es).entries ≡ h.entries ++ es
  entries-fold h [] = sym (append-nil h.entries)
  entries-fold h (e ∷ es) = entries-fold (after s h e) es ∙ (ap (λ l. l ++ es) (entries-after s h e) ∙ append_assoc h.entries (e ∷ []) es)

  IsWhole-fold : (h : History) (es : List Entry) → IsWhole h → IsWhole (fold (after s) h es)
  IsWhole-fold h [] whole = whole
  IsWhole-fold h (e ∷ es) whole = IsWhole-fold (after s h e) es (IsWhole-after s h e whole)

  first-fold : (h : History) (es : List Entry) (n : ℕ) → n ≤ length h.entries → first n (fold (after s) h es) ≡ first n h
  first-fold h [] n le = refl
  first-fold h (e ∷ es) n le =
      let longer : n ≤ length (after s h e).entries = omega (arith, length-after s h e) in
      first-fold (after s h e) es n longer ∙ first-after s h e n le

  -- a history has the entries of its list
  pub entries-history : (es : List Entry) → (history s es).entries ≡ es
  unfolding history
  entries-history es = entries-fold nothing es

  pub IsWhole-history : (es : List Entry) → IsWhole (history s es)
  unfolding history
  IsWhole-history es = IsWhole-fold nothing es (record { starts = tt; lefts = tt })

  -- the history with one entry more
  pub history-push : (es : List Entry) (e : Entry) → history s (es ++ e ∷ []) ≡ after s (history s es) e
  unfolding history
  history-push es e = fold-append (after s) nothing es (e ∷ [])

  pub history-append : (es more : List Entry) → history s (es ++ more) ≡ fold (after s) (history s es) more
  unfolding history
  history-append es more = fold-append (after s) nothing es more

  -- the first n entries of a history are the history of the first n entries
  pub first-history : (es : List Entry) (n : ℕ) → first n (history s es) ≡ history s (take n es)
  first-history es n =
      ⊎_elim
      (λ (lt : n < length es).
      let split : history s es ≡ fold (after s) (history s (take n es)) (drop n es) = ap (history s) (sym (take-append-drop n es)) ∙ history-append (take n es) (drop n es) in
      let long : length (history s (take n es)).entries ≡ n = ap length (entries-history (take n es)) ∙ length-take-le n es (omega arith) in
      ap (first n) split ∙ (first-fold (history s (take n es)) (drop n es) n (omega (arith, long)) ∙ first_all (history s (take n es)) n (IsWhole-history (take n es)) (omega (arith, long))))
      (λ (le : length es ≤ n).
      let long : length (history s es).entries ≤ n = rw entries-history le in
      first_all (history s es) n (IsWhole-history es) long ∙ ap (history s) (sym (take_all n es le)))
      (cases_lt n (length es))

  -- what the first n entries began is, of what all began, what belongs to them
  pub starts-take : (es : List Entry) (n : ℕ) → (history s (take n es)).starts ≡ starts_below n (history s es).starts
  unfolding first
  starts-take es n = ap (λ (h : History). h.starts) (sym (first-history es n))

  -- and so are those whom they left alone
  pub lefts-take : (es : List Entry) (n : ℕ) → (history s (take n es)).lefts ≡ lefts_below n (history s es).lefts
  unfolding first
  lefts-take es n = ap (λ (h : History). h.lefts) (sym (first-history es n))
