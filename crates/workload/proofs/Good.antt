-- The setup of a seed is good.
use Rattle.std.proofs.Common.{◌≡◌, ℕ, zero, suc, ◌+◌, ◌%◌, ◌<◌, ◌≤◌, Bool, true, false, List, [], ◌∷◌, ◌++◌, length, drop, map, refl, sym, ap, subst, ◌∙◌, arith}
use Rattle.std.specs.Prelude.{codes, nat_le, ◌&&◌, ◌||◌, ◌==◌}
use Rattle.std.specs.Fmt.{decimal}
use Rattle.std.specs.List.{All, list_all, range_with_len}
use Rattle.std.proofs.lemmas.Bool.{le-leb}
use Rattle.std.proofs.lemmas.Fmt.{decimal_by_steps, decimal_injective, length-decimal-le}
use Rattle.std.proofs.lemmas.List.FromFn.{get_or-map-range_with_len, length-map-range_with_len}
use Rattle.std.proofs.lemmas.List.Folds.{list_all-append}
use Rattle.entries.specs.Names.{AreDistinct, IsName, is_name_byte}
use Rattle.entries.specs.Ranges.{IsGood, IsPlayer}
use Rattle.entries.specs.declared.setup.Player.{Player}
use Rattle.workload.specs.Setups.{player, players_of, setup_of}

abbrev name_of : ℕ → List ℕ
name_of p = codes "p" ++ decimal p

third : (a b d e : Bool) → (a || b || true || d || e) ≡ true
third true b d e = refl
third false true d e = refl
third false false d e = refl

-- a digit may stand in a name
a_digit : (b : ℕ) → 48 ≤ b → b ≤ 57 → is_name_byte b ≡ true
a_digit b least most =
    let low : nat_le 48 b ≡ true = le-leb 48 b least in
    let high : nat_le b 57 ≡ true = le-leb b 57 most in
    (λ i. (nat_le 97 b && nat_le b 122) || (nat_le 65 b && nat_le b 90) || (low i && high i) || (b == 95) || (b == 45))
    ∙ third (nat_le 97 b && nat_le b 122) (nat_le 65 b && nat_le b 90) (b == 95) (b == 45)

one_digit : (b : ℕ) → 48 ≤ b → b ≤ 57 → list_all is_name_byte (b ∷ []) ≡ true
one_digit b least most = ap (λ x. x && true) (a_digit b least most)

digits : (p : ℕ) → p < 1000 → list_all is_name_byte (decimal p) ≡ true
digits p few =
    decimal_by_steps (λ k ds. list_all is_name_byte ds ≡ true)
    (λ k small. one_digit (48 + k) (omega arith) (omega arith))
    (λ k ds large so_far. list_all-append is_name_byte ds ((48 + k % 10) ∷ []) ∙ (λ i. so_far i && one_digit (48 + k % 10) (omega arith) (omega arith) i))
    p (omega (arith, few))

named : (p : ℕ) → p < 1000 → IsName (name_of p)
named p few =
    let short : length (decimal p) ≤ 3 = length-decimal-le 3 p (omega arith) (omega (arith, few)) (omega (arith, few)) in
    let some : nat_le 1 (length (name_of p)) ≡ true = le-leb 1 (length (name_of p)) (omega arith) in
    let most : nat_le (length (name_of p)) 20 ≡ true = le-leb (length (name_of p)) 20 (omega (arith, short)) in
    λ i. some i && most i && digits p few i

a_player : (seed p : ℕ) → p < 1000 → IsPlayer 0 (player seed p)
a_player seed p few = record {
  named = named p few;
  rating_least = omega arith;
  rating_most = omega arith;
  in_team = tt;
}

names_from : (seed a n : ℕ) → map (λ (p : Player). p.name) (map (player seed) (range_with_len a n)) ≡ map name_of (range_with_len a n)
names_from seed a zero = refl
names_from seed a (suc n) = ap (λ xs. name_of a ∷ xs) (names_from seed (a + 1) n)

apart : (i j : ℕ) → i < 1000 → j < 1000 → name_of i ≡ name_of j → i ≡ j
apart i j few less same = let rest : decimal i ≡ decimal j = ap (λ xs. drop 1 xs) same in decimal_injective i j (omega (arith, few)) (omega (arith, less)) rest

names_differ : (n : ℕ) → n ≤ 1000 → AreDistinct (map name_of (range_with_len 0 n))
names_differ n most i j d lt within same =
    let long = length-map-range_with_len name_of 0 n in
    let first = get_or-map-range_with_len name_of 0 n i i d (omega arith) (omega arith) in
    let second = get_or-map-range_with_len name_of 0 n j j d (omega arith) (omega arith) in
    let equal = apart i j (omega arith) (omega arith) (sym first ∙ same ∙ second) in
    absurd (omega arith)

module _ (seed count : ℕ) where
  pub count_is : length (setup_of seed count).players ≡ count
  unfolding setup_of players_of
  count_is = length-map-range_with_len (player seed) 0 count

  module _ (some : 1 ≤ count) (most : count ≤ 1000) where
    all_players : All (IsPlayer 0) (map (player seed) (range_with_len 0 count))
    all_players k d within =
        let long = length-map-range_with_len (player seed) 0 count in
        subst (IsPlayer 0) (sym (get_or-map-range_with_len (player seed) 0 count k k d (omega arith) (omega arith))) (a_player seed k (omega arith))

    pub is_good : IsGood (setup_of seed count)
    unfolding setup_of players_of
    is_good =
        let many = length-map-range_with_len (player seed) 0 count in
        record {
          timed = record {
            initial_whole = refl;
            initial_most = omega arith;
            increment_whole = refl;
            increment_most = omega arith;
            some_time = λ none. absurd (omega (arith, none));
            first_least = omega arith;
            first_most = omega arith;
          };
          opens_before_end = omega arith;
          ends_most = omega arith;
          wave_least = omega arith;
          wave_most = omega arith;
          leaders_least = omega arith;
          leaders_most = omega arith;
          rule_least = omega arith;
          rule_most = omega arith;
          teams_most = omega arith;
          teams_named = λ k d within. absurd (omega (arith, within));
          teams_distinct = λ i j d lt within. absurd (omega (arith, within));
          players_least = omega (arith, many, some);
          players_most = omega (arith, many, most);
          players_good = all_players;
          players_distinct = subst AreDistinct (sym (names_from seed 0 count)) (names_differ count most);
        }
