-- The players of a plan are players of its rows, each once: in one pair, or left alone.
use Rattle.std.specs.Prelude.{Option, Some, None, All, AllPairs}
use Rattle.std.proofs.Common.{◌≡◌, ◌≢◌, ℕ, zero, suc, ◌+◌, ◌*◌, ◌<◌, ◌≤◌, ◌⊎◌, ⊎_elim, Bool, true, false, cond, ◌==◌, nat_lt, eqb-true, int_le, List, [], ◌∷◌, length, take, drop, slice_get, slice_index, refl, sym, ◌∙◌, ap, subst, subst₂, arith, ltb-true, zero-add, suc-add}
use Rattle.std.proofs.lemmas.Bool.{cases_lt}
use Rattle.std.proofs.lemmas.Option.{get_or_from_slice_get}
use Rattle.std.proofs.lemmas.List.{length-map, get_or-map}
use Rattle.pair_cost.specs.declared.candidate.Candidate.{Candidate}
use Rattle.pair_cost.specs.declared.candidate.Pair.{Pair}
use Rattle.pair_cost.specs.Colours.{colours}
use Rattle.group_pairing.specs.Least.{least}
use Rattle.group_pairing.specs.Lists.{HasPartner}
use Rattle.wave.specs.Plans.{frame, pair_of, pair_at, player_of, alone_at, pairs, alone, first_pairs, first_alone, planned_pairs, planned_alone, group}
use Rattle.wave.specs.Players.{IsOfRows, IsApart, IsOutside, HasPlayer}
use Rattle.wave.proofs.Drawn.{all_drawn, pairs_drawn, all_joined, pairs_joined}

-- what stands at a place of a part

pub inside_of : (rows : List Candidate) (i : ℕ) (a : Candidate) → slice_get rows i ≡ Some a → i < length rows
inside_of [] i a at = cc
inside_of (row ∷ rows) zero a at = omega arith
inside_of (row ∷ rows) (suc i) a at = let rest = inside_of rows i a at in omega (arith, rest)

got_take : (n : ℕ) (rows : List Candidate) (i : ℕ) (a : Candidate) → slice_get (take n rows) i ≡ Some a → (i < n) × (slice_get rows i ≡ Some a)
got_take zero rows i a at = cc
got_take (suc n) [] i a at = cc
got_take (suc n) (row ∷ rows) zero a at = (omega arith, at)
got_take (suc n) (row ∷ rows) (suc i) a at = let rest = got_take n rows i a at in (omega (arith, rest.0), rest.1)

pub got_drop : (n : ℕ) (rows : List Candidate) (i : ℕ) → slice_get (drop n rows) i ≡ slice_get rows (n + i)
got_drop zero rows i = ap (slice_get rows) (sym (zero-add i))
got_drop (suc n) [] i = refl
got_drop (suc n) (row ∷ rows) i = got_drop n rows i ∙ ap (slice_get (row ∷ rows)) (sym (suc-add n i))

-- a pair of two rows of group k, at places i and j of all rows
pub record FromRows (rows : List Candidate) (k i j : ℕ) (x : Pair) : Type 0 where
  pub a : Candidate
  pub b : Candidate
  pub first : slice_get rows i ≡ Some a
  pub second : slice_get rows j ≡ Some b
  pub low_first : 14 * k ≤ i
  pub high_first : i < 14 * k + 14
  pub low_second : 14 * k ≤ j
  pub high_second : j < 14 * k + 14
  pub apart : i ≢ j
  pub is : colours a b ≡ x

record Two (o p : Option Candidate) (x : Pair) : Type 0 where
  pub a : Candidate
  pub b : Candidate
  pub first : o ≡ Some a
  pub second : p ≡ Some b
  pub is : colours a b ≡ x

two_of : (o p : Option Candidate) (x : Pair) → pair_of o p ≡ Some x → Two o p x
two_of None p x h = cc
two_of (Some a) None x h = cc
two_of (Some a) (Some b) x h = record { a = a; b = b; first = refl; second = refl; is = cc }

chosen_of : (t : Bool) (o : Option Pair) (x : Pair) → cond t o None ≡ Some x → (t ≡ true) × (o ≡ Some x)
chosen_of true o x h = (refl, h)
chosen_of false o x h = cc

-- the pair of place i of group k
record Placed (rows : List Candidate) (to : List ℕ) (k i : ℕ) (x : Pair) : Type 0 where
  pub up : i < slice_index to i
  pub inside : slice_index to i < length (group rows k)
  pub rows_of : FromRows rows k (14 * k + i) (14 * k + slice_index to i) x

placed_of : (rows : List Candidate) (to : List ℕ) (k i : ℕ) (x : Pair) → pair_at (group rows k) to i ≡ Some x → Placed rows to k i x
placed_of rows to k i x at =
    let chosen = chosen_of (nat_lt i (slice_index to i)) (pair_of (slice_get (group rows k) i) (slice_get (group rows k) (slice_index to i))) x at in
    let two = two_of (slice_get (group rows k) i) (slice_get (group rows k) (slice_index to i)) x chosen.1 in
    let up : i < slice_index to i = ltb-true i (slice_index to i) chosen.0 in
    let first = got_take 14 (drop (14 * k) rows) i two.a two.first in
    let second = got_take 14 (drop (14 * k) rows) (slice_index to i) two.b two.second in
    record {
      up = up;
      inside = inside_of (group rows k) (slice_index to i) two.b two.second;
      rows_of = record {
        a = two.a;
        b = two.b;
        first = sym (got_drop (14 * k) rows i) ∙ first.1;
        second = sym (got_drop (14 * k) rows (slice_index to i)) ∙ second.1;
        low_first = omega arith;
        high_first = omega (arith, first.0);
        low_second = omega arith;
        high_second = omega (arith, second.0);
        apart = λ e. omega (arith, e, up);
        is = two.is;
      };
    }

-- rows at different places are of different players
abbrev pub Differ : List Candidate → Type 0
Differ rows = AllPairs (λ (a b : Candidate). a.player ≢ b.player) rows

players_differ : (rows : List Candidate) (i j : ℕ) (a b : Candidate) → Differ rows → i ≢ j → slice_get rows i ≡ Some a → slice_get rows j ≡ Some b → a.player ≢ b.player
players_differ rows i j a b differ apart first second =
    ⊎_elim
    (λ (up : i < j).
    subst₂ (λ (x y : Candidate). x.player ≢ y.player) (get_or_from_slice_get rows i a a first) (get_or_from_slice_get rows j b a second)
    (differ i j a up (inside_of rows j b second)))
    (λ (down : j ≤ i).
    let below : j < i = omega (arith, down, apart) in
    λ e. subst₂ (λ (x y : Candidate). x.player ≢ y.player) (get_or_from_slice_get rows j b a second) (get_or_from_slice_get rows i a a first)
    (differ j i a below (inside_of rows i a first)) (sym e))
    (cases_lt i j)

has_player : (rows : List Candidate) (i : ℕ) (a : Candidate) → slice_get rows i ≡ Some a → HasPlayer rows a.player
has_player rows i a at = (
  i,
  subst (λ n. i < n) (sym (length-map rows (λ (row : Candidate). row.player))) (inside_of rows i a at),
  get_or-map (λ (row : Candidate). row.player) rows i a a.player (inside_of rows i a at) ∙ ap (λ (row : Candidate). row.player) (get_or_from_slice_get rows i a a at),
)

-- the two are the players, in one order or the other
pub by_colours : (P : Pair → Type 0) (a b : Candidate) → P (record { white = a.player; black = b.player }) → P (record { white = b.player; black = a.player }) → P (colours a b)
by_colours P a b straight turned =
    elim (int_le a.balance b.balance) as (λ t. P (cond t (record { white = a.player; black = b.player }) (record { white = b.player; black = a.player }))) [ true ↦ straight | false ↦ turned ]

of_rows : (rows : List Candidate) (k i j : ℕ) (x : Pair) → Differ rows → FromRows rows k i j x → IsOfRows rows x
of_rows rows k i j x differ f =
    subst (λ (y : Pair). IsOfRows rows y) f.is
    (let first = has_player rows i f.a f.first in
    let second = has_player rows j f.b f.second in
    let two = players_differ rows i j f.a f.b differ f.apart f.first f.second in
    by_colours (IsOfRows rows) f.a f.b (record { white = first; black = second; two = two }) (record { white = second; black = first; two = λ e. two (sym e) }))

apart_of : (rows : List Candidate) (k i j l m n : ℕ) (x y : Pair) → Differ rows → FromRows rows k i j x → FromRows rows l m n y → i ≢ m → i ≢ n → j ≢ m → j ≢ n → IsApart x y
apart_of rows k i j l m n x y differ f g im in_ jm jn =
    let ac = players_differ rows i m f.a g.a differ im f.first g.first in
    let ad = players_differ rows i n f.a g.b differ in_ f.first g.second in
    let bc = players_differ rows j m f.b g.a differ jm f.second g.first in
    let bd = players_differ rows j n f.b g.b differ jn f.second g.second in
    subst₂ (λ (p q : Pair). IsApart p q) f.is g.is
    (by_colours (λ p. IsApart p (colours g.a g.b)) f.a f.b
    (by_colours (λ q. IsApart (record { white = f.a.player; black = f.b.player }) q) g.a g.b
    (record { whites = ac; white_black = ad; black_white = bc; blacks = bd })
    (record { whites = ad; white_black = ac; black_white = bd; blacks = bc }))
    (by_colours (λ q. IsApart (record { white = f.b.player; black = f.a.player }) q) g.a g.b
    (record { whites = bc; white_black = bd; black_white = ac; blacks = ad })
    (record { whites = bd; white_black = bc; black_white = ad; blacks = ac })))

-- a player of group k, at place i of all rows
pub record FromRow (rows : List Candidate) (k i player : ℕ) : Type 0 where
  pub a : Candidate
  pub at : slice_get rows i ≡ Some a
  pub low : 14 * k ≤ i
  pub high : i < 14 * k + 14
  pub is : a.player ≡ player

record One (o : Option Candidate) (player : ℕ) : Type 0 where
  pub a : Candidate
  pub at : o ≡ Some a
  pub is : a.player ≡ player

one_of : (o : Option Candidate) (player : ℕ) → player_of o ≡ Some player → One o player
one_of None player h = cc
one_of (Some a) player h = record { a = a; at = refl; is = cc }

only_of : (t : Bool) (o : Option ℕ) (player : ℕ) → cond t o None ≡ Some player → (t ≡ true) × (o ≡ Some player)
only_of true o player h = (refl, h)
only_of false o player h = cc

-- the player whom place i of group k leaves alone
record Left (rows : List Candidate) (to : List ℕ) (k i player : ℕ) : Type 0 where
  pub nobody : slice_index to i ≡ 14
  pub row_of : FromRow rows k (14 * k + i) player

left_of : (rows : List Candidate) (to : List ℕ) (k i player : ℕ) → alone_at (group rows k) to i ≡ Some player → Left rows to k i player
left_of rows to k i player at =
    let chosen = only_of (slice_index to i == 14) (player_of (slice_get (group rows k) i)) player at in
    let one = one_of (slice_get (group rows k) i) player chosen.1 in
    let got = got_take 14 (drop (14 * k) rows) i one.a one.at in
    record {
      nobody = eqb-true (slice_index to i) 14 chosen.0;
      row_of = record {
        a = one.a;
        at = sym (got_drop (14 * k) rows i) ∙ got.1;
        low = omega arith;
        high = omega (arith, got.0);
        is = one.is;
      };
    }

outside_of : (rows : List Candidate) (k i j m l : ℕ) (x : Pair) (player : ℕ) → Differ rows → FromRows rows k i j x → FromRow rows m l player → i ≢ l → j ≢ l → IsOutside x player
outside_of rows k i j m l x player differ f g il jl =
    let al = players_differ rows i l f.a g.a differ il f.first g.at in
    let bl = players_differ rows j l f.b g.a differ jl f.second g.at in
    subst₂ (λ (y : Pair) p. IsOutside y p) f.is g.is
    (by_colours (λ y. IsOutside y g.a.player) f.a f.b (record { not_white = al; not_black = bl }) (record { not_white = bl; not_black = al }))

-- in the least list of each group each place has nobody, or a partner
abbrev pub EachPlaced : ℕ → List Candidate → Type 0
EachPlaced rule rows = (k i : ℕ) → i < length (group rows k)
    → (slice_index (least (group rows k) (frame rule rows)) i ≡ 14) ⊎ HasPartner (group rows k) (least (group rows k) (frame rule rows)) i

module _ (rule : ℕ) (rows : List Candidate) (differ : Differ rows) (each : EachPlaced rule rows) where
  -- the least list of group k
  abbrev list : ℕ → List ℕ
  list k = least (group rows k) (frame rule rows)

  -- a partner's partner is oneself
  back : (k i : ℕ) (x : Pair) → Placed rows (list k) k i x → slice_index (list k) (slice_index (list k) i) ≡ i
  back k i x p =
      ⊎_elim
      (λ (nobody : slice_index (list k) i ≡ 14). absurd (omega (arith, nobody, p.rows_of.high_second)))
      (λ (met : HasPartner (group rows k) (list k) i). met.back)
      (each k i (omega (arith, p.up, p.inside)))

  group_apart : (k : ℕ) → AllPairs IsApart (pairs (group rows k) (list k))
  unfolding pairs
  group_apart k =
      pairs_drawn IsApart (pair_at (group rows k) (list k)) 0 (length (group rows k))
      (λ i j x y up at there.
      let p = placed_of rows (list k) k i x at in
      let q = placed_of rows (list k) k j y there in
      let p_back = back k i x p in
      let q_back = back k j y q in
      apart_of rows k (14 * k + i) (14 * k + slice_index (list k) i) k (14 * k + j) (14 * k + slice_index (list k) j) x y differ p.rows_of q.rows_of
      (λ e. omega (arith, e, up))
      (λ e. omega (arith, e, up, q.up))
      (λ e.
      let same : slice_index (list k) i ≡ j = omega (arith, e) in
      let turned : slice_index (list k) j ≡ i = subst (λ n. slice_index (list k) n ≡ i) same p_back in
      omega (arith, turned, q.up, up))
      (λ e.
      let same : slice_index (list k) i ≡ slice_index (list k) j = omega (arith, e) in
      let turned : slice_index (list k) (slice_index (list k) j) ≡ i = subst (λ n. slice_index (list k) n ≡ i) same p_back in
      omega (arith, turned, q_back, up)))

  groups_apart : (k m : ℕ) → k < m → All (λ x. All (IsApart x) (pairs (group rows m) (list m))) (pairs (group rows k) (list k))
  unfolding pairs
  groups_apart k m up =
      all_drawn (λ x. All (IsApart x) (pairs (group rows m) (list m))) (pair_at (group rows k) (list k)) 0 (length (group rows k))
      (λ i x _ at.
      let p = (placed_of rows (list k) k i x at).rows_of in
      all_drawn (IsApart x) (pair_at (group rows m) (list m)) 0 (length (group rows m))
      (λ j y _ there.
      let q = (placed_of rows (list m) m j y there).rows_of in
      apart_of rows k (14 * k + i) (14 * k + slice_index (list k) i) m (14 * m + j) (14 * m + slice_index (list m) j) x y differ p q
      (λ e. omega (arith, e, up, p.high_first, q.low_first))
      (λ e. omega (arith, e, up, p.high_first, q.low_second))
      (λ e. omega (arith, e, up, p.high_second, q.low_first))
      (λ e. omega (arith, e, up, p.high_second, q.low_second))))

  pub plan_apart : AllPairs IsApart (planned_pairs rule rows)
  unfolding planned_pairs first_pairs
  plan_apart = pairs_joined IsApart (λ k. pairs (group rows k) (list k)) 0 _ group_apart groups_apart

  group_of_rows : (k : ℕ) → All (IsOfRows rows) (pairs (group rows k) (list k))
  unfolding pairs
  group_of_rows k =
      all_drawn (IsOfRows rows) (pair_at (group rows k) (list k)) 0 (length (group rows k))
      (λ i x _ at. of_rows rows k (14 * k + i) (14 * k + slice_index (list k) i) x differ (placed_of rows (list k) k i x at).rows_of)

  pub plan_of_rows : All (IsOfRows rows) (planned_pairs rule rows)
  unfolding planned_pairs first_pairs
  plan_of_rows = all_joined (IsOfRows rows) (λ k. pairs (group rows k) (list k)) 0 _ (λ k _. group_of_rows k)

  -- those who are left alone

  left_of_rows : (k : ℕ) → All (HasPlayer rows) (alone (group rows k) (list k))
  unfolding alone
  left_of_rows k =
      all_drawn (HasPlayer rows) (alone_at (group rows k) (list k)) 0 (length (group rows k))
      (λ i player _ at.
      let f = (left_of rows (list k) k i player at).row_of in
      subst (HasPlayer rows) f.is (has_player rows (14 * k + i) f.a f.at))

  pub alone_of_rows : All (HasPlayer rows) (planned_alone rule rows)
  unfolding planned_alone first_alone
  alone_of_rows = all_joined (HasPlayer rows) (λ k. alone (group rows k) (list k)) 0 _ (λ k _. left_of_rows k)

  two_left : (k i m j p q : ℕ) → Left rows (list k) k i p → Left rows (list m) m j q → 14 * k + i ≢ 14 * m + j → p ≢ q
  two_left k i m j p q a b apart =
      let f = a.row_of in
      let g = b.row_of in
      subst₂ (λ (x y : ℕ). x ≢ y) f.is g.is (players_differ rows (14 * k + i) (14 * m + j) f.a g.a differ apart f.at g.at)

  group_left_once : (k : ℕ) → AllPairs (λ (a b : ℕ). a ≢ b) (alone (group rows k) (list k))
  unfolding alone
  group_left_once k =
      pairs_drawn (λ (a b : ℕ). a ≢ b) (alone_at (group rows k) (list k)) 0 (length (group rows k))
      (λ i j p q up at there. two_left k i k j p q (left_of rows (list k) k i p at) (left_of rows (list k) k j q there) (λ e. omega (arith, e, up)))

  groups_left_once : (k m : ℕ) → k < m → All (λ (a : ℕ). All (λ (b : ℕ). a ≢ b) (alone (group rows m) (list m))) (alone (group rows k) (list k))
  unfolding alone
  groups_left_once k m up =
      all_drawn (λ (a : ℕ). All (λ (b : ℕ). a ≢ b) (alone (group rows m) (list m))) (alone_at (group rows k) (list k)) 0 (length (group rows k))
      (λ i p _ at.
      let a = left_of rows (list k) k i p at in
      all_drawn (λ (b : ℕ). p ≢ b) (alone_at (group rows m) (list m)) 0 (length (group rows m))
      (λ j q _ there.
      let b = left_of rows (list m) m j q there in
      let high = a.row_of.high in
      let low = b.row_of.low in
      two_left k i m j p q a b (λ e. omega (arith, e, up, high, low))))

  pub alone_once : AllPairs (λ (a b : ℕ). a ≢ b) (planned_alone rule rows)
  unfolding planned_alone first_alone
  alone_once = pairs_joined (λ (a b : ℕ). a ≢ b) (λ k. alone (group rows k) (list k)) 0 _ group_left_once groups_left_once

  -- the players of a pair have a partner, and so are not left alone
  pair_outside : (k i m l player : ℕ) (x : Pair) → Placed rows (list k) k i x → Left rows (list m) m l player → IsOutside x player
  pair_outside k i m l player x p a =
      let f = p.rows_of in
      let g = a.row_of in
      let p_back = back k i x p in
      outside_of rows k (14 * k + i) (14 * k + slice_index (list k) i) m (14 * m + l) x player differ f g
      (λ e.
      let same : k ≡ m = omega (arith, e, f.low_first, f.high_first, g.low, g.high) in
      let place : i ≡ l = omega (arith, e, same) in
      let nobody : slice_index (list k) i ≡ 14 = subst₂ (λ n o. slice_index (list n) o ≡ 14) (sym same) (sym place) a.nobody in
      omega (arith, nobody, f.high_second))
      (λ e.
      let same : k ≡ m = omega (arith, e, f.low_second, f.high_second, g.low, g.high) in
      let place : slice_index (list k) i ≡ l = omega (arith, e, same) in
      let nobody : slice_index (list k) (slice_index (list k) i) ≡ 14 = subst₂ (λ n o. slice_index (list n) o ≡ 14) (sym same) (sym place) a.nobody in
      omega (arith, nobody, p_back, f.high_first))

  group_outside : (k : ℕ) → All (λ x. All (IsOutside x) (planned_alone rule rows)) (pairs (group rows k) (list k))
  unfolding pairs planned_alone first_alone alone
  group_outside k =
      all_drawn (λ x. All (IsOutside x) (planned_alone rule rows)) (pair_at (group rows k) (list k)) 0 (length (group rows k))
      (λ i x _ at.
      all_joined (IsOutside x) (λ m. alone (group rows m) (list m)) 0 _
      (λ m _. all_drawn (IsOutside x) (alone_at (group rows m) (list m)) 0 (length (group rows m))
      (λ l player _ there. pair_outside k i m l player x (placed_of rows (list k) k i x at) (left_of rows (list m) m l player there))))

  pub paired_or_alone : All (λ x. All (IsOutside x) (planned_alone rule rows)) (planned_pairs rule rows)
  unfolding planned_pairs first_pairs
  paired_or_alone = all_joined (λ x. All (IsOutside x) (planned_alone rule rows)) (λ k. pairs (group rows k) (list k)) 0 _ (λ k _. group_outside k)
