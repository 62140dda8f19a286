-- What a game that begins changes of the facts of its players, and of nobody else's.
use Rattle.std.proofs.Common.{◌≡◌, ℕ, ◌+◌, ◌≤◌, List, [], ◌∷◌, ◌++◌, Option, Some, None, Bool, true, false, ◌||◌, ◌&&◌, refl, sym, ◌∙◌, arith}
use Rattle.std.specs.Prelude.{cond, sum_by, fold, ◌==◌, pos, negsuc, ◌+ℤ◌, ◌-ℤ◌}
use Rattle.std.specs.List.{All}
use Rattle.std.specs.Option.{option_map}
use Rattle.std.proofs.lemmas.Bool.{le-ltb, eqb-true}
use Rattle.std.proofs.lemmas.Int.{ints}
use Rattle.std.proofs.lemmas.List.Sums.{fold_push, sum_by_push, sum_by-cons}
use Rattle.entries.specs.declared.journal.Start.{Start}
use Rattle.arena_history.specs.History.{History, LeftAlone}
use Rattle.arena_history.specs.Snapshots.{start_or, last_start, opponent_of, last_opponent, balance_among, balance, is_after, leaves_alone, alone}
use Rattle.arena_players.specs.declared.facts.PairingFacts.{PairingFacts}
use Rattle.arena_players.specs.Facts.{history_of, facts_of, faced}
use Rattle.arena_players.proofs.Lists.{tail_all}

-- a wave counts for p where it left him alone after an entry
abbrev pub counts : ℕ → Option Start → LeftAlone → ℕ
counts p since x = cond (leaves_alone p x && is_after since x.entry) 1 0

none_late : (p : ℕ) (x : Start) (lefts : List LeftAlone) → All (λ (y : LeftAlone). y.entry ≤ x.entry) lefts → sum_by (counts p (Some x)) lefts ≡ 0
none_late p x [] all = refl
none_late p x (y ∷ lefts) all =
    sum_by-cons (counts p (Some x)) y lefts ∙ (λ i. cond (none (leaves_alone p y) i) 1 0 + none_late p x lefts (tail_all (λ (z : LeftAlone). z.entry ≤ x.entry) y lefts all) i)
  where
    none : (b : Bool) → (b && is_after (Some x) y.entry) ≡ false
    none true = le-ltb x.entry y.entry (all 0 y (omega arith))
    none false = refl

-- changed, or not
abbrev pub if_so : Bool → (PairingFacts → PairingFacts) → PairingFacts → PairingFacts
if_so true f facts = f facts
if_so false f facts = facts

-- the facts of p once a game between these two begins
abbrev pub facts_begun : ℕ → ℕ → ℕ → PairingFacts → PairingFacts
facts_begun white black p facts = if_so (black == p) (faced white (negsuc 0)) (if_so (white == p) (faced black (pos 1)) facts)

-- the facts that p's last start, the games with each colour and the waves since come to
abbrev made : ℕ → Option Start → ℕ → ℕ → ℕ → PairingFacts
made p since whites blacks count = record { last = option_map (opponent_of p) since; balance = pos whites -ℤ pos blacks; alone = count }

-- the facts of p once x begins, by whether he has White and whether he has Black
facts_more : (p : ℕ) (x : Start) (lefts : List LeftAlone) (before : Option Start) (whites blacks : ℕ) (w b : Bool) → (x.white == p) ≡ w → (x.black == p) ≡ b
    → All (λ (y : LeftAlone). y.entry ≤ x.entry) lefts
    → made p (cond (w || b) (Some x) before) (whites + cond w 1 0) (blacks + cond b 1 0) (sum_by (counts p (cond (w || b) (Some x) before)) lefts)
    ≡ if_so b (faced x.white (negsuc 0)) (if_so w (faced x.black (pos 1)) (made p before whites blacks (sum_by (counts p before) lefts)))
facts_more p x lefts before whites blacks true true white black all =
    λ i. record { last = Some (other i); balance = same i; alone = none_late p x lefts all i }
  where
    other : opponent_of p x ≡ x.white
    other = rw white (eqb-true x.black p black ∙ sym (eqb-true x.white p white))

    same : (pos (whites + 1) -ℤ pos (blacks + 1)) ≡ (((pos whites -ℤ pos blacks) +ℤ pos 1) +ℤ negsuc 0)
    same = omega (arith, ints)
facts_more p x lefts before whites blacks true false white black all =
    λ i. record { last = Some (other i); balance = more i; alone = none_late p x lefts all i }
  where
    other : opponent_of p x ≡ x.black
    other = rw white refl

    more : (pos (whites + 1) -ℤ pos (blacks + 0)) ≡ ((pos whites -ℤ pos blacks) +ℤ pos 1)
    more = omega (arith, ints)
facts_more p x lefts before whites blacks false true white black all =
    λ i. record { last = Some (other i); balance = less i; alone = none_late p x lefts all i }
  where
    other : opponent_of p x ≡ x.white
    other = rw white refl

    less : (pos (whites + 0) -ℤ pos (blacks + 1)) ≡ ((pos whites -ℤ pos blacks) +ℤ negsuc 0)
    less = omega (arith, ints)
facts_more p x lefts before whites blacks false false white black all =
    λ i. record { last = option_map (opponent_of p) before; balance = same i; alone = sum_by (counts p before) lefts }
  where
    same : (pos (whites + 0) -ℤ pos (blacks + 0)) ≡ (pos whites -ℤ pos blacks)
    same = omega (arith, ints)

-- a game that begins makes of the facts of p those with one game more
pub facts-begun : (starts : List Start) (lefts : List LeftAlone) (x : Start) (p : ℕ) → All (λ (y : LeftAlone). y.entry ≤ x.entry) lefts
    → facts_of (history_of (starts ++ x ∷ []) lefts) p ≡ facts_begun x.white x.black p (facts_of (history_of starts lefts) p)
unfolding last_start last_opponent balance balance_among alone
facts-begun starts lefts x p all =
    let white : Start → ℕ = λ y. cond (y.white == p) 1 0 in
    let black : Start → ℕ = λ y. cond (y.black == p) 1 0 in
    (λ i. made p (fold_push (start_or p) None starts x i) (sum_by_push white starts x i) (sum_by_push black starts x i) (sum_by (counts p (fold_push (start_or p) None starts x i)) lefts))
    ∙ facts_more p x lefts (fold (start_or p) None starts) (sum_by white starts) (sum_by black starts) (x.white == p) (x.black == p) refl refl all

-- the entries of a history do not matter
pub facts-same : (h : History) (p : ℕ) → facts_of (history_of h.starts h.lefts) p ≡ facts_of h p
unfolding last_start last_opponent balance balance_among alone
facts-same h p = refl
