-- What a wave that leaves players alone changes of their facts, and of nobody else's.
use Rattle.std.proofs.Common.{◌≡◌, ℕ, zero, suc, ◌+◌, ◌<◌, ⊎_elim, List, [], ◌∷◌, ◌++◌, length, take, get_or, set, Option, Some, None, Bool, true, false, ◌&&◌, ◌||◌, refl, sym, ap, subst, ◌∙◌, arith}
use Rattle.std.specs.Prelude.{cond, sum_by, fold, slice_get, ◌==◌, ◌≢◌}
use Rattle.std.specs.List.{All, list_any}
use Rattle.std.proofs.lemmas.Bool.{lt-ltb, cases_Bool, eqb-true, eqb-false, ne_eqb}
use Rattle.std.proofs.lemmas.List.{length-set}
use Rattle.std.proofs.lemmas.List.Folds.{list_any-append}
use Rattle.std.proofs.lemmas.Option.{slice_get_within, get_or_from_slice_get}
use Rattle.std.proofs.lemmas.List.Sums.{sum_by_push}
use Rattle.entries.specs.declared.journal.Start.{Start}
use Rattle.arena_history.specs.History.{LeftAlone}
use Rattle.arena_history.specs.Games.{is_either}
use Rattle.arena_history.specs.Snapshots.{start_or, last_start, last_opponent, balance, is_after, leaves_alone, alone}
use Rattle.arena_players.specs.declared.facts.PairingFacts.{PairingFacts}
use Rattle.arena_players.specs.Facts.{history_of, facts_of, left, AreLeft, IsWithin}
use Rattle.arena_players.proofs.Begins.{counts}
use Rattle.arena_players.proofs.Lists.{Each, get_at, get_set_same, get_set_other, tail_all}

-- a start, if there is one, belongs to an entry before n
abbrev IsBefore : ℕ → Option Start → Type 0
IsBefore n None = Unit {0}
IsBefore n (Some x) = x.entry < n

before_if : (n : ℕ) (b : Bool) (x : Start) (since : Option Start) → x.entry < n → IsBefore n since → IsBefore n (cond b (Some x) since)
before_if n true x since lt old = lt
before_if n false x since lt old = old

before_all : (p n : ℕ) (starts : List Start) (since : Option Start) → All (λ (y : Start). y.entry < n) starts → IsBefore n since → IsBefore n (fold (start_or p) since starts)
before_all p n [] since all old = old
before_all p n (x ∷ starts) since all old =
    before_all p n starts (start_or p since x) (tail_all (λ (y : Start). y.entry < n) x starts all) (before_if n (is_either p x.white x.black) x since (all 0 x (omega arith)) old)

is_later : (n : ℕ) (since : Option Start) → IsBefore n since → is_after since n ≡ true
is_later n None old = refl
is_later n (Some x) old = lt-ltb x.entry n old

-- the facts that p's last start, a balance and a count come to, once a wave left him alone or not
more_alone : (p : ℕ) (since : Option Start) (count : ℕ) (facts : PairingFacts) (b after : Bool) → after ≡ true → facts.alone ≡ count
    → record { last = facts.last; balance = facts.balance; alone = count + cond (b && after) 1 0 } ≡ cond b (left facts) facts
more_alone p since count facts true after later is = λ i. record { last = facts.last; balance = facts.balance; alone = sym is i + cond (later i) 1 0 }
more_alone p since count facts false after later is = λ i. record { last = facts.last; balance = facts.balance; alone = (let same : count + 0 ≡ facts.alone = omega (arith, is) in same i) }

-- a wave behind all games counts once more for each whom it leaves alone
pub facts-left : (starts : List Start) (lefts : List LeftAlone) (x : LeftAlone) (p : ℕ) → All (λ (y : Start). y.entry < x.entry) starts
    → facts_of (history_of starts (lefts ++ x ∷ [])) p ≡ cond (leaves_alone p x) (left (facts_of (history_of starts lefts) p)) (facts_of (history_of starts lefts) p)
unfolding last_start last_opponent balance alone
facts-left starts lefts x p all =
    let since = fold (start_or p) None starts in
    (λ i. record { last = last_opponent (history_of starts lefts) p; balance = balance (history_of starts lefts) p; alone = sum_by_push (counts p since) lefts x i })
    ∙ more_alone p since (sum_by (counts p since) lefts) (facts_of (history_of starts lefts) p) (leaves_alone p x) (is_after since x.entry) (is_later x.entry since (before_all p x.entry starts None all tt)) refl

-- players who are left alone one after another

pub not_before : (xs : List ℕ) (i p : ℕ) → ((k : ℕ) → k < i → k < length xs → get_or xs k 0 ≢ p) → list_any (λ r. r == p) (take i xs) ≡ false
not_before xs zero p others = refl
not_before [] (suc i) p others = refl
not_before (x ∷ xs) (suc i) p others = rw (ne_eqb x p (others 0 (omega arith) (omega arith))) (not_before xs i p (λ k lt within. others (suc k) (omega arith) (omega arith)))

-- the facts of a player who is not yet among those left alone
pub not_yet : (done : List ℕ) (old mid : List PairingFacts) (p : ℕ) (f : PairingFacts) → AreLeft done old mid → list_any (λ r. r == p) done ≡ false → slice_get old p ≡ Some f → slice_get mid p ≡ Some f
not_yet done old mid p f are new at = are.each p f at ∙ ap (λ b. Some (cond b (left f) f)) new

pub left_more : (done : List ℕ) (old mid : List PairingFacts) (p : ℕ) (f g : PairingFacts) → AreLeft done old mid → list_any (λ r. r == p) done ≡ false → slice_get old p ≡ Some f → g ≡ left f → AreLeft (done ++ p ∷ []) old (set mid p g)
left_more done old mid p f g are new at made = record {
  size = length-set mid p g ∙ are.size;
  each = λ q k at-q.
      ⊎_elim
      (λ (same : (p == q) ≡ true).
      let is : p ≡ q = eqb-true p q same in
      let own : f ≡ k = (let here : Some f ≡ Some k = sym at ∙ (ap (slice_get old) is ∙ at-q) in cc) in
      let within : p < length mid = slice_get_within mid p f (not_yet done old mid p f are new at) in
      ap (slice_get (set mid p g)) (sym is) ∙ (get_set_same mid p g within ∙ (ap Some (made ∙ ap left own) ∙ sym (ap (λ b. Some (cond b (left k) k)) (more q ∙ ap (λ b. list_any (λ r. r == q) done || b) same ∙ or-true (list_any (λ r. r == q) done))))))
      (λ (other : (p == q) ≡ false).
      get_set_other mid p q g (eqb-false p q other) ∙ (are.each q k at-q ∙ sym (ap (λ b. Some (cond b (left k) k)) (more q ∙ ap (λ b. list_any (λ r. r == q) done || b) other ∙ or-false (list_any (λ r. r == q) done)))))
      (cases_Bool (p == q));
}
  where
    or-true : (b : Bool) → (b || true) ≡ true
    or-true true = refl
    or-true false = refl

    or-false : (b : Bool) → (b || false) ≡ b
    or-false true = refl
    or-false false = refl

    more : (q : ℕ) → list_any (λ r. r == q) (done ++ p ∷ []) ≡ (list_any (λ r. r == q) done || (p == q))
    more q = list_any-append (λ r. r == q) done (p ∷ []) ∙ ap (λ b. list_any (λ r. r == q) done || b) (or-false (p == q))

-- the facts once all are left alone

pub all_left : (players : List ℕ) (old new : List PairingFacts) (begun waves : ℕ) → AreLeft players old new → All (IsWithin begun waves) old → All (IsWithin begun (waves + 1)) new
all_left players old new begun waves are all = λ k d lt.
    let within : k < length old = (let same = are.size in omega (arith, same)) in
    let f = get_or old k d in
    let is : get_or new k d ≡ cond (list_any (λ q. q == k) players) (left f) f = get_or_from_slice_get new k (cond (list_any (λ q. q == k) players) (left f) f) d (are.each k f (get_at old k d within)) in
    subst (IsWithin begun (waves + 1)) (sym is) (by (list_any (λ q. q == k) players) f (all k d within))
  where
    by : (b : Bool) (f : PairingFacts) → IsWithin begun waves f → IsWithin begun (waves + 1) (cond b (left f) f)
    by true f was = record { least = was.least; most = was.most; alone = (let h = was.alone in omega (arith, h)) }
    by false f was = record { least = was.least; most = was.most; alone = (let h = was.alone in omega (arith, h)) }

pub each_left : (starts : List Start) (lefts : List LeftAlone) (x : LeftAlone) (players : List ℕ) (old new : List PairingFacts) → x.players ≡ players → AreLeft players old new
    → All (λ (y : Start). y.entry < x.entry) starts
    → Each (λ p f. f ≡ facts_of (history_of starts lefts) p) old
    → Each (λ p f. f ≡ facts_of (history_of starts (lefts ++ x ∷ [])) p) new
each_left starts lefts x players old new is are late each p f at =
    let within : p < length old = (let lt = slice_get_within new p f at in let same = are.size in omega (arith, lt, same)) in
    let g = get_or old p f in
    let was : g ≡ facts_of (history_of starts lefts) p = each p g (get_at old p f within) in
    let made : f ≡ cond (list_any (λ q. q == p) players) (left g) g = (let both = sym at ∙ are.each p g (get_at old p f within) in cc) in
    made ∙ ((λ i. cond (list_any (λ q. q == p) (sym is i)) (left (was i)) (was i)) ∙ sym (facts-left starts lefts x p late))
