-- The games that entries list: those of one entry, those of the entries before a number, and those of one entry more.
use Rattle.std.proofs.Common.{◌≡◌, ◌≢◌, ℕ, suc, ◌+◌, ◌<◌, ◌≤◌, Bool, true, false, cond, eqb, ltb, List, [], ◌∷◌, ◌++◌, length, get_or, map, filter, All, Option, Some, None, refl, sym, ap, subst, ◌∙◌, arith, ◌⊎◌, inl, inr, append_assoc, append-nil}
use Rattle.std.specs.List.{AllByRecursion, AllPairs, slice_get}
use Rattle.std.proofs.lemmas.Bool.{cases_Bool, cases_lt, eqb-true, eqb-false, eq-eqb, ne_eqb, ltb-true, ltb-false, lt-ltb, le-ltb}
use Rattle.std.proofs.lemmas.List.{length-append, get_or_append_left, get_or_at}
use Rattle.std.proofs.lemmas.List.Elements.{All-from_recursion, recursion_from_All, All-append, filter-append}
use Rattle.std.proofs.lemmas.List.Quantifiers.{all_pairs_push}
use Rattle.std.proofs.lemmas.Option.{slice_get_within, slice_get_read, get_or_from_slice_get}
use Rattle.entries.specs.declared.journal.Entry.{Entry}
use Rattle.entries.specs.declared.journal.Start.{Start}
use Rattle.entries.specs.Ranges.{MayList, listed_at, AreStartsOf}
use Rattle.journal_text.specs.Text.{entry_words, pair_word, entry_lines}

-- each game is of an entry below this number
abbrev pub AreBelow : ℕ → List Start → Type 0
AreBelow n games = AllByRecursion (λ (g : Start). g.entry < n) games

-- each game is of the entry with this number
abbrev pub AreOf : ℕ → List Start → Type 0
AreOf n games = AllByRecursion (λ (g : Start). g.entry ≡ n) games

-- games of entries below are below a higher number
pub below_more : (n m : ℕ) (games : List Start) → n ≤ m → AreBelow n games → AreBelow m games
below_more n m [] le h = tt
below_more n m (g ∷ games) le h = (omega (arith, h.0), below_more n m games le h.1)

-- games of an entry are below the next
pub of_below : (n : ℕ) (games : List Start) → AreOf n games → AreBelow (n + 1) games
of_below n [] h = tt
of_below n (g ∷ games) h = (omega (arith, h.0), of_below n games h.1)

-- ---- those of one entry

-- of games of other entries none is listed
listed_none : (n : ℕ) (games : List Start) → AllByRecursion (λ (g : Start). g.entry ≢ n) games → listed_at n games ≡ []
listed_none n [] h = refl
listed_none n (g ∷ games) h = rw (ne_eqb g.entry n h.0) (listed_none n games h.1)

-- of games of this entry all are
pub listed_all : (n : ℕ) (games : List Start) → AreOf n games → listed_at n games ≡ games
listed_all n [] h = refl
listed_all n (g ∷ games) h = let is : eqb g.entry n ≡ true = eq-eqb g.entry n h.0 in rw is (ap (λ (gs : List Start). g ∷ gs) (listed_all n games h.1))

-- those below are of other entries
below_other : (n m : ℕ) (games : List Start) → n ≤ m → AreBelow n games → AllByRecursion (λ (g : Start). g.entry ≢ m) games
below_other n m [] le h = tt
below_other n m (g ∷ games) le h = ((λ same. omega (arith, h.0, same)), below_other n m games le h.1)

-- those of an entry are of no other
of_other : (n m : ℕ) (games : List Start) → n ≢ m → AreOf n games → AllByRecursion (λ (g : Start). g.entry ≢ m) games
of_other n m [] other h = tt
of_other n m (g ∷ games) other h = ((λ same. other (sym h.0 ∙ same)), of_other n m games other h.1)

-- games of a further entry change nothing at an entry before
pub listed_before : (n m : ℕ) (sofar games : List Start) → n ≢ m → AreOf m games → listed_at n (sofar ++ games) ≡ listed_at n sofar
listed_before n m sofar games other h =
    filter-append (λ (g : Start). eqb g.entry n) sofar games
    ∙ ap (λ (gs : List Start). listed_at n sofar ++ gs) (listed_none n games (of_other m n games (λ same. other (sym same)) h))
    ∙ append-nil (listed_at n sofar)

-- and are those of the further entry
pub listed_last : (n : ℕ) (sofar games : List Start) → AreBelow n sofar → AreOf n games → listed_at n (sofar ++ games) ≡ games
listed_last n sofar games low h =
    filter-append (λ (g : Start). eqb g.entry n) sofar games
    ∙ ap (λ (gs : List Start). gs ++ listed_at n games) (listed_none n sofar (below_other n n sofar (omega arith) low))
    ∙ listed_all n games h

-- ---- the lines of entries

-- the line of a further entry comes behind the others
pub lines_more : (n m : ℕ) (entries : List Entry) (e : Entry) (sofar games : List Start) → n + length entries ≡ m → AreBelow m sofar → AreOf m games → entry_lines n (sofar ++ games) (entries ++ e ∷ []) ≡ entry_lines n sofar entries ++ (entry_words e ++ map pair_word games) ∷ []
lines_more n m [] e sofar games is low of =
    let same : n ≡ m = omega (arith, is) in
    let here : listed_at n (sofar ++ games) ≡ games = ap (λ (k : ℕ). listed_at k (sofar ++ games)) same ∙ listed_last m sofar games low of in
    ap (λ (gs : List Start). (entry_words e ++ map pair_word gs) ∷ []) here
lines_more n m (x ∷ entries) e sofar games is low of =
    let here = listed_before n m sofar games (λ same. omega (arith, is, same)) of in
    ap (λ (gs : List Start). (entry_words x ++ map pair_word gs) ∷ entry_lines (n + 1) (sofar ++ games) (entries ++ e ∷ [])) here
    ∙ ap (λ (ls : List (List (List ℕ))). (entry_words x ++ map pair_word (listed_at n sofar)) ∷ ls) (lines_more (n + 1) m entries e sofar games (omega (arith, is)) low of)

-- ---- games in range, and those of one entry more

-- in order stays in order with games of an entry that is not before
in_order_more : (n : ℕ) (sofar games : List Start) → AllPairs (λ (a b : Start). a.entry ≤ b.entry) sofar → AreBelow (n + 1) sofar → AreOf n games → AllPairs (λ (a b : Start). a.entry ≤ b.entry) (sofar ++ games)
in_order_more n sofar [] order low of = subst (AllPairs (λ (a b : Start). a.entry ≤ b.entry)) (sym (append-nil sofar)) order
in_order_more n sofar (g ∷ games) order low of =
    let pushed = all_pairs_push (λ (a b : Start). a.entry ≤ b.entry) sofar g order (λ k d inside. omega (arith, of.0, All-from_recursion (λ (g : Start). g.entry < n + 1) sofar low k d inside)) in
    let below : AreBelow (n + 1) (sofar ++ g ∷ []) = recursion_from_All (λ (g : Start). g.entry < n + 1) (sofar ++ g ∷ []) (All-append (λ (g : Start). g.entry < n + 1) sofar (g ∷ []) (All-from_recursion (λ (g : Start). g.entry < n + 1) sofar low) (All-from_recursion (λ (g : Start). g.entry < n + 1) (g ∷ []) (omega (arith, of.0), tt))) in
    subst (AllPairs (λ (a b : Start). a.entry ≤ b.entry)) (append_assoc sofar (g ∷ []) games) (in_order_more n (sofar ++ g ∷ []) games pushed below of.1)

-- an entry of a list with one more is one of the list, or the one more
at_push : (xs : List Entry) (y : Entry) (n : ℕ) (z : Entry) → slice_get (xs ++ y ∷ []) n ≡ Some z → ((n < length xs) × (slice_get xs n ≡ Some z)) ⊎ ((n ≡ length xs) × (y ≡ z))
at_push xs y n z at =
    let inside = slice_get_within (xs ++ y ∷ []) n z at in
    let here = get_or_from_slice_get (xs ++ y ∷ []) n z z at in
    elim (cases_lt n (length xs)) [
      | inl low ↦ inl (low, slice_get_read xs (length xs) n z refl low (sym (sym (get_or_append_left xs (y ∷ []) z n low) ∙ here)))
      | inr high ↦
          let last : n ≡ length xs = omega (arith, high, inside, length-append xs (y ∷ [])) in
          inr (last, sym (get_or_at xs y [] z n (sym last)) ∙ here)
    ]

-- what games of so many players may be listed with one entry more
pub starts_more : (players : ℕ) (entries : List Entry) (e : Entry) (sofar games : List Start) → AreStartsOf players entries sofar → AreOf (length entries) games → All (λ (g : Start). (g.white < players) × (g.black < players)) games → MayList e.what (length games) → AreStartsOf players (entries ++ e ∷ []) (sofar ++ games)
starts_more players entries e sofar games h of good may =
    let n = length entries in
    let low : AreBelow n sofar = recursion_from_All (λ (g : Start). g.entry < n) sofar h.of_entries in
    let long : n + 1 ≡ length (entries ++ e ∷ []) = omega (arith, length-append entries (e ∷ [])) in
    record {
      in_order = in_order_more n sofar games h.in_order (below_more n (n + 1) sofar (omega arith) low) of;
      of_entries = subst (λ (k : ℕ). All (λ (g : Start). g.entry < k) (sofar ++ games)) long (All-append (λ (g : Start). g.entry < n + 1) sofar games (All-from_recursion (λ (g : Start). g.entry < n + 1) sofar (below_more n (n + 1) sofar (omega arith) low)) (All-from_recursion (λ (g : Start). g.entry < n + 1) games (of_below n games of)));
      of_players = All-append (λ (g : Start). (g.white < players) × (g.black < players)) sofar games h.of_players good;
      of_waves = λ k x at. elim (at_push entries e k x at) [
        | inl (inside, there) ↦ subst (λ (gs : List Start). MayList x.what (length gs)) (sym (listed_before k n sofar games (λ same. omega (arith, inside, same)) of)) (h.of_waves k x there)
        | inr (last, same) ↦ subst (λ (x : Entry). MayList x.what (length (listed_at k (sofar ++ games)))) same (subst (λ (gs : List Start). MayList e.what (length gs)) (sym (ap (λ (k : ℕ). listed_at k (sofar ++ games)) last ∙ listed_last n sofar games low of)) may)
      ];
    }

-- ---- those of the entries before a number

-- the games of entries below this number
abbrev pub before : ℕ → List Start → List Start
before n games = filter (λ (g : Start). ltb g.entry n) games

-- no game is before one that follows it, by recursion
abbrev pub Ordered : List Start → Type 0
Ordered [] = Unit {0}
Ordered (g ∷ games) = AllByRecursion (λ (h : Start). g.entry ≤ h.entry) games × Ordered games

-- games in order, by recursion
pub ordered_from : (games : List Start) → AllPairs (λ (a b : Start). a.entry ≤ b.entry) games → Ordered games
ordered_from [] order = tt
ordered_from (g ∷ games) order = (
  recursion_from_All (λ (h : Start). g.entry ≤ h.entry) games (λ k d inside. order 0 (suc k) d (omega arith) (omega (arith, inside))),
  ordered_from games (λ i j d low high. order (suc i) (suc j) d (omega (arith, low)) (omega (arith, high))),
)

-- of games that are not before this number none is before it
before_none : (n m : ℕ) (games : List Start) → n ≤ m → AllByRecursion (λ (h : Start). m ≤ h.entry) games → before n games ≡ []
before_none n m [] le h = refl
before_none n m (g ∷ games) le h = rw (le-ltb g.entry n (omega (arith, h.0, le))) (before_none n m games le h.1)

-- with those of this entry they are those before the next
pub before_more : (n : ℕ) (games : List Start) → Ordered games → before n games ++ listed_at n games ≡ before (n + 1) games
before_more n [] order = refl
before_more n (g ∷ games) order =
    elim (cases_lt g.entry n) [
      | inl low ↦ rw (lt-ltb g.entry n low, ne_eqb g.entry n (λ same. omega (arith, low, same)), lt-ltb g.entry (n + 1) (omega (arith, low))) (ap (λ (gs : List Start). g ∷ gs) (before_more n games order.1))
      | inr high ↦ elim (cases_Bool (eqb g.entry n)) [
        | inl this ↦
            let is = eqb-true g.entry n this in
            let none = before_none n g.entry games (omega (arith, is)) order.0 in
            rw (le-ltb g.entry n high, this, lt-ltb g.entry (n + 1) (omega (arith, is))) (ap (λ (gs : List Start). gs ++ g ∷ listed_at n games) none ∙ ap (λ (gs : List Start). g ∷ gs) (sym (ap (λ (gs : List Start). gs ++ listed_at n games) none) ∙ before_more n games order.1))
        | inr other ↦
            let past : n + 1 ≤ g.entry = omega (arith, high, eqb-false g.entry n other) in
            rw (le-ltb g.entry n high, other, le-ltb g.entry (n + 1) past) (before_more n games order.1)
      ]
    ]

-- games of entries below this number are all before it
pub before_all : (n : ℕ) (games : List Start) → AreBelow n games → before n games ≡ games
before_all n [] h = refl
before_all n (g ∷ games) h = rw (lt-ltb g.entry n h.0) (ap (λ (gs : List Start). g ∷ gs) (before_all n games h.1))

-- no game is before the first entry
pub before_first : (games : List Start) → before 0 games ≡ []
before_first [] = refl
before_first (g ∷ games) = rw (le-ltb g.entry 0 (omega arith)) (before_first games)

-- those of an entry are of it
pub listed_of : (n : ℕ) (games : List Start) → AreOf n (listed_at n games)
listed_of n [] = tt
listed_of n (g ∷ games) =
    elim (cases_Bool (eqb g.entry n)) [
      | inl this ↦ rw this (eqb-true g.entry n this, listed_of n games)
      | inr other ↦ rw other (listed_of n games)
    ]
