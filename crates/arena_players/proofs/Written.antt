-- The facts of all players once two of them are written.
use Rattle.std.proofs.Common.{◌≡◌, ℕ, ◌+◌, ◌≤◌, List, [], ◌∷◌, ◌++◌, set, Some, refl, sym, ap, ◌∙◌, arith}
use Rattle.std.specs.Prelude.{slice_get, ◌==◌, pos, negsuc, ◌+ℤ◌, ◌≤ℤ◌}
use Rattle.std.specs.List.{All}
use Rattle.std.proofs.lemmas.Bool.{eq-eqb, ne_eqb}
use Rattle.std.proofs.lemmas.Int.{ints}
use Rattle.std.proofs.lemmas.List.Elements.{All-set}
use Rattle.entries.specs.declared.journal.Start.{Start}
use Rattle.arena_history.specs.History.{LeftAlone}
use Rattle.arena_players.specs.declared.facts.PairingFacts.{PairingFacts}
use Rattle.arena_players.specs.Facts.{history_of, facts_of, faced, IsWithin}
use Rattle.arena_players.proofs.Begins.{if_so, facts_begun, facts-begun}
use Rattle.arena_players.proofs.Lists.{Each, each_set, all_held}

-- a game begins

-- with the facts of both written, each player's are those with one game more
pub each_begun : (starts : List Start) (lefts : List LeftAlone) (x : Start) (xs : List PairingFacts) (white black : ℕ) (a f b g : PairingFacts)
    → x.white ≡ white → x.black ≡ black
    → All (λ (y : LeftAlone). y.entry ≤ x.entry) lefts
    → Each (λ p k. k ≡ facts_of (history_of starts lefts) p) xs
    → slice_get xs white ≡ Some a → f ≡ faced black (pos 1) a
    → slice_get (set xs white f) black ≡ Some b → g ≡ faced white (negsuc 0) b
    → Each (λ p k. k ≡ facts_of (history_of (starts ++ x ∷ []) lefts) p) (set (set xs white f) black g)
each_begun starts lefts x xs white black a f b g is_white is_black late each read made read-2 made-2 =
    let was : ℕ → PairingFacts = λ p. facts_of (history_of starts lefts) p in
    let half : ℕ → PairingFacts = λ p. if_so (white == p) (faced black (pos 1)) (was p) in
    let first : Each (λ p k. k ≡ half p) (set xs white f) =
    each_set (λ p k. k ≡ was p) (λ p k. k ≡ half p) xs white f each
    (λ p k other same. same ∙ sym (ap (λ t. if_so t (faced black (pos 1)) (was p)) (ne_eqb white p other)))
    (made ∙ (ap (faced black (pos 1)) (each white a read) ∙ sym (ap (λ t. if_so t (faced black (pos 1)) (was white)) (eq-eqb white white refl)))) in
    let all : Each (λ p k. k ≡ facts_begun white black p (was p)) (set (set xs white f) black g) =
    each_set (λ p k. k ≡ half p) (λ p k. k ≡ facts_begun white black p (was p)) (set xs white f) black g first
    (λ p k other same. same ∙ sym (ap (λ t. if_so t (faced white (negsuc 0)) (half p)) (ne_eqb black p other)))
    (made-2 ∙ (ap (faced white (negsuc 0)) (first black b read-2) ∙ sym (ap (λ t. if_so t (faced white (negsuc 0)) (half black)) (eq-eqb black black refl)))) in
    λ p k at.
    all p k at ∙ sym (facts-begun starts lefts x p late ∙ (λ i. facts_begun (is_white i) (is_black i) p (was p)))

-- the balance is within so many games, or one more in White's favour
record IsAhead (begun waves : ℕ) (f : PairingFacts) : Type 0 where
  least : pos 0 ≤ℤ (f.balance +ℤ pos begun)
  most : f.balance ≤ℤ pos (begun + 1)
  alone : f.alone ≤ waves

ahead_written : (begun waves white : ℕ) (xs : List PairingFacts) (black : ℕ) (a f : PairingFacts) → All (IsWithin begun waves) xs → slice_get xs white ≡ Some a → f ≡ faced black (pos 1) a → All (IsAhead begun waves) (set xs white f)
ahead_written begun waves white xs black a f all read made =
    let was = all_held (IsWithin begun waves) xs white a all read in
    let least : pos 0 ≤ℤ (a.balance +ℤ pos begun) = was.least in
    let most : a.balance ≤ℤ pos begun = was.most in
    let new : f.balance ≡ (a.balance +ℤ pos 1) = ap (λ (k : PairingFacts). k.balance) made in
    let none : f.alone ≡ 0 = ap (λ (k : PairingFacts). k.alone) made in
    All-set (IsAhead begun waves) xs white f
    (record { least = omega (arith, ints, new, least); most = omega (arith, ints, new, most); alone = omega (arith, none) })
    (λ i d lt. let old = all i d lt in record { least = old.least; most = (let h = old.most in omega (arith, ints, h)); alone = old.alone })

-- and with both written each balance is within one game more
pub within_begun : (begun waves white black : ℕ) (xs : List PairingFacts) (a f b g : PairingFacts) → All (IsWithin begun waves) xs
    → slice_get xs white ≡ Some a → f ≡ faced black (pos 1) a
    → slice_get (set xs white f) black ≡ Some b → g ≡ faced white (negsuc 0) b
    → All (IsWithin (begun + 1) waves) (set (set xs white f) black g)
within_begun begun waves white black xs a f b g all read made read-2 made-2 =
    let ahead = ahead_written begun waves white xs black a f all read made in
    let was = all_held (IsAhead begun waves) (set xs white f) black b ahead read-2 in
    let least : pos 0 ≤ℤ (b.balance +ℤ pos begun) = was.least in
    let most : b.balance ≤ℤ pos (begun + 1) = was.most in
    let new : g.balance ≡ (b.balance +ℤ negsuc 0) = ap (λ (k : PairingFacts). k.balance) made-2 in
    let none : g.alone ≡ 0 = ap (λ (k : PairingFacts). k.alone) made-2 in
    All-set (IsWithin (begun + 1) waves) (set xs white f) black g
    (record { least = omega (arith, ints, new, least); most = omega (arith, ints, new, most); alone = omega (arith, none) })
    (λ i d lt. let old = ahead i d lt in record { least = (let h = old.least in omega (arith, ints, h)); most = old.most; alone = old.alone })
