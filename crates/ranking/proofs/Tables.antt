-- What a table keeps stays in order when a player enters and when one is scored.
use Rattle.std.proofs.Common.{◌≡◌, ℕ, zero, suc, ◌+◌, ◌^◌, ◌<◌, ◌≤◌, ⊎_elim, List, [], ◌∷◌, ◌++◌, length, Bool, false, Some, Option, get_or, refl, sym, ap, ◌∙◌, subst, arith}
use Rattle.std.specs.Prelude.{ℤ, slice_get, slice_set}
use Rattle.std.proofs.lemmas.Bool.{cases_eq, cases_lt, both_ways, eq-eqb, ne_eqb}
use Rattle.std.proofs.lemmas.List.{length_push, get_or_append_left, get_or_push, get_or-set_same, get_or-set_other, length-set}
use Rattle.ranking.specs.Order.{Line, nobody, line_at, comes_before}
use Rattle.ranking.specs.Rows.{given, has, scored}
use Rattle.ranking.specs.Kept.{AreNumbered, ArePlaced, AreInOrder, AreInOrderBut, IsKept}
use Rattle.ranking.proofs.Lists.{slice_get-set_same, slice_get-set_other}
use Rattle.ranking.proofs.Players.{player_at, has_at}

-- one line more

line_at-left : (lines : List Line) (line : Line) (i : ℕ) → i < length lines → line_at (lines ++ line ∷ []) i ≡ line_at lines i
line_at-left lines line i lt = get_or_append_left lines (line ∷ []) nobody i lt

line_at-push : (lines : List Line) (line : Line) → line_at (lines ++ line ∷ []) (length lines) ≡ line
line_at-push lines line = get_or_push lines line nobody (length lines) refl

-- two lines compare in another list as in this one, where they are the same
same_before : (old new : List Line) (i j : ℕ) → line_at new i ≡ line_at old i → line_at new j ≡ line_at old j → comes_before new i j ≡ comes_before old i j
same_before old new i j first second = rw (first, second) refl

pub numbered_more : (lines : List Line) (numbers : List (Option ℕ)) (line : Line) → AreNumbered lines numbers → line.player < length numbers → has lines line.player ≡ false → AreNumbered (lines ++ line ∷ []) (slice_set numbers line.player (Some (length lines)))
numbered_more lines numbers line are below new = record {
  listed = λ i lt.
      ⊎_elim
      (λ (old : i < length lines).
      let player : player_at (lines ++ line ∷ []) i ≡ player_at lines i = ap (λ (l : Line). l.player) (line_at-left lines line i old) in
      ap (slice_get (slice_set numbers line.player (Some (length lines)))) player ∙
      (slice_get-set_other numbers line.player (player_at lines i) (Some (length lines)) (λ same. both_ways (has lines line.player) new (has_at lines i line.player old (sym same))) ∙ are.listed i old))
      (λ (past : length lines ≤ i).
      let last : i ≡ length lines = let long = length_push lines line in omega arith in
      let player : player_at (lines ++ line ∷ []) i ≡ line.player = ap (player_at (lines ++ line ∷ [])) last ∙ ap (λ (l : Line). l.player) (line_at-push lines line) in
      ap (slice_get (slice_set numbers line.player (Some (length lines)))) player ∙ (slice_get-set_same numbers line.player (Some (length lines)) below ∙ ap (λ n. Some (Some n)) (sym last)))
      (cases_lt i (length lines));
  found = λ p i at.
      ⊎_elim
      (λ (same : line.player ≡ p).
      let both : Some (Some (length lines)) ≡ Some (Some i) = sym (slice_get-set_same numbers line.player (Some (length lines)) below) ∙ (ap (slice_get (slice_set numbers line.player (Some (length lines)))) same ∙ at) in
      let number : length lines ≡ i = cc in
      ((let long = length_push lines line in omega arith), ap (player_at (lines ++ line ∷ [])) (sym number) ∙ (ap (λ (l : Line). l.player) (line_at-push lines line) ∙ same)))
      (λ other.
      let old = are.found p i (sym (slice_get-set_other numbers line.player p (Some (length lines)) other) ∙ at) in
      let lt : i < length lines = old.0 in
      ((let long = length_push lines line in omega arith), ap (λ (l : Line). l.player) (line_at-left lines line i lt) ∙ old.1))
      (cases_eq line.player p);
}

pub placed_more : (n : ℕ) (order places : List ℕ) → ArePlaced n order places → ArePlaced (n + 1) (order ++ n ∷ []) (places ++ n ∷ [])
placed_more n order places are = record {
  all_ordered = length_push order n ∙ ap (λ m. m + 1) are.all_ordered;
  all_placed = length_push places n ∙ ap (λ m. m + 1) are.all_placed;
  numbers = λ k lt. more (λ m. m < n + 1) k lt order (order_last) (order_old k) (omega arith) (λ old. let less : get_or order k 0 < n = are.numbers k old in omega arith);
  each_place = λ k lt. chained order places are.all_ordered are.all_placed are.numbers are.each_place k lt;
  within = λ k lt. more (λ m. m < n + 1) k lt places (places_last) (places_old k) (omega arith) (λ old. let less : get_or places k 0 < n = are.within k old in omega arith);
  each_number = λ k lt. chained places order are.all_placed are.all_ordered are.within are.each_number k lt;
}
  where
    order_last : get_or (order ++ n ∷ []) n 0 ≡ n
    order_last = get_or_push order n 0 n are.all_ordered

    places_last : get_or (places ++ n ∷ []) n 0 ≡ n
    places_last = get_or_push places n 0 n are.all_placed

    order_old : (k : ℕ) → k < n → get_or (order ++ n ∷ []) k 0 ≡ get_or order k 0
    order_old k lt = get_or_append_left order (n ∷ []) 0 k (omega (arith, are.all_ordered))

    places_old : (k : ℕ) → k < n → get_or (places ++ n ∷ []) k 0 ≡ get_or places k 0
    places_old k lt = get_or_append_left places (n ∷ []) 0 k (omega (arith, are.all_placed))

    more : (P : ℕ → Type 0) (k : ℕ) → k < n + 1 → (xs : List ℕ) → get_or (xs ++ n ∷ []) n 0 ≡ n → (k < n → get_or (xs ++ n ∷ []) k 0 ≡ get_or xs k 0) → P n → (k < n → P (get_or xs k 0)) → P (get_or (xs ++ n ∷ []) k 0)
    more P k lt xs last old now each =
        ⊎_elim
        (λ (less : k < n). subst P (sym (old less)) (each less))
        (λ (past : n ≤ k). let e : k ≡ n = omega arith in subst P (sym (ap (λ m. get_or (xs ++ n ∷ []) m 0) e ∙ last)) now)
        (cases_lt k n)

    chained : (xs ys : List ℕ) → length xs ≡ n → length ys ≡ n → ((k : ℕ) → k < n → get_or xs k 0 < n) → ((k : ℕ) → k < n → get_or ys (get_or xs k 0) 0 ≡ k) → (k : ℕ) → k < n + 1 → get_or (ys ++ n ∷ []) (get_or (xs ++ n ∷ []) k 0) 0 ≡ k
    chained xs ys long long' below each k lt =
        ⊎_elim
        (λ (less : k < n).
        let inner : get_or xs k 0 < n = below k less in
        ap (λ m. get_or (ys ++ n ∷ []) m 0) (get_or_append_left xs (n ∷ []) 0 k (omega arith)) ∙ (get_or_append_left ys (n ∷ []) 0 (get_or xs k 0) (omega arith) ∙ each k less))
        (λ (past : n ≤ k).
        let e : k ≡ n = omega arith in
        ap (λ m. get_or (ys ++ n ∷ []) (get_or (xs ++ n ∷ []) m 0) 0) e ∙ (ap (λ m. get_or (ys ++ n ∷ []) m 0) (get_or_push xs n 0 n long) ∙ (get_or_push ys n 0 n long' ∙ sym e)))
        (cases_lt k n)

-- the others still stand in order
pub others_more : (lines : List Line) (line : Line) (order places : List ℕ) → ArePlaced (length lines) order places → AreInOrder lines order → AreInOrderBut (lines ++ line ∷ []) (length lines) (order ++ length lines ∷ [])
others_more lines line order places are ordered j k less within not_j not_k =
    let long = length_push order (length lines) in
    let last : get_or (order ++ length lines ∷ []) (length lines) 0 ≡ length lines = get_or_push order (length lines) 0 (length lines) are.all_ordered in
    let old : k < length lines = ⊎_elim (λ (lt : k < length lines). lt) (λ (past : length lines ≤ k). let e : k ≡ length lines = omega (arith, are.all_ordered) in absurd (not_k (ap (λ m. get_or (order ++ length lines ∷ []) m 0) e ∙ last))) (cases_lt k (length lines)) in
    let first : get_or (order ++ length lines ∷ []) j 0 ≡ get_or order j 0 = get_or_append_left order (length lines ∷ []) 0 j (omega (arith, are.all_ordered)) in
    let second : get_or (order ++ length lines ∷ []) k 0 ≡ get_or order k 0 = get_or_append_left order (length lines ∷ []) 0 k (omega (arith, are.all_ordered)) in
    rw (first, second) (same_before lines (lines ++ line ∷ []) (get_or order j 0) (get_or order k 0) (line_at-left lines line (get_or order j 0) (are.numbers j (omega arith))) (line_at-left lines line (get_or order k 0) (are.numbers k old)) ∙ ordered j k less (omega (arith, are.all_ordered)))

-- one line changed

-- the line with a number changed for another of the same player
pub numbered_set : (lines : List Line) (numbers : List (Option ℕ)) (i : ℕ) (line : Line) → AreNumbered lines numbers → i < length lines → line.player ≡ player_at lines i → AreNumbered (slice_set lines i line) numbers
numbered_set lines numbers i line are lt same = record {
  listed = λ j within. ap (slice_get numbers) (player j) ∙ are.listed j (omega (arith, length-set lines i line));
  found = λ p j at. let old = are.found p j at in let less : j < length lines = old.0 in (omega (arith, length-set lines i line), player j ∙ old.1);
}
  where
    player : (j : ℕ) → player_at (slice_set lines i line) j ≡ player_at lines j
    player j =
        ⊎_elim
        (λ (e : j ≡ i). ap (player_at (slice_set lines i line)) e ∙ (ap (λ (l : Line). l.player) (get_or-set_same lines i line nobody lt) ∙ (same ∙ ap (player_at lines) (sym e))))
        (λ other. ap (λ (l : Line). l.player) (get_or-set_other lines i j line nobody other))
        (cases_eq j i)

pub others_set : (lines : List Line) (i : ℕ) (line : Line) (order : List ℕ) → AreInOrder lines order → AreInOrderBut (slice_set lines i line) i order
others_set lines i line order ordered j k less within not_j not_k =
    same_before lines (slice_set lines i line) (get_or order j 0) (get_or order k 0) (get_or-set_other lines i (get_or order j 0) line nobody not_j) (get_or-set_other lines i (get_or order k 0) line nobody not_k) ∙ ordered j k less within

-- scoring a player changes his line alone
pub scored-set : (lines : List Line) (p i points : ℕ) (performance : ℤ) (games : ℕ) (fire : Bool) → i < length lines → player_at lines i ≡ p → ((j : ℕ) → j < length lines → player_at lines j ≡ p → j ≡ i) → scored p points performance games fire lines ≡ slice_set lines i (given points performance games fire (line_at lines i))
scored-set [] p i points performance games fire lt same only = absurd (omega arith)
scored-set (l ∷ lines) p zero points performance games fire lt same only =
    rw (eq-eqb l.player p same) (ap (λ ls. given points performance games fire l ∷ ls) (unscored lines (λ j within e. let first : suc j ≡ zero = only (suc j) (omega arith) e in omega arith)))
  where
    unscored : (ls : List Line) → ((j : ℕ) → j < length ls → player_at ls j ≡ p → ⊥) → scored p points performance games fire ls ≡ ls
    unscored [] none = refl
    unscored (x ∷ ls) none = rw (ne_eqb x.player p (none 0 (omega arith))) (ap (λ m. x ∷ m) (unscored ls (λ j within. none (suc j) (omega arith))))
scored-set (l ∷ lines) p (suc i) points performance games fire lt same only =
    rw (ne_eqb l.player p (λ e. let first : zero ≡ suc i = only 0 (omega arith) e in omega arith)) (ap (λ ls. l ∷ ls) (scored-set lines p i points performance games fire (omega arith) same (λ j within e. let next : suc j ≡ suc i = only (suc j) (omega arith) e in omega arith)))

-- the same in the words of the calls

module _ (lines new : List Line) (line : Line) (number : ℕ) (is : new ≡ lines ++ line ∷ []) (last : number ≡ length lines) (order places more_order more_places : List ℕ) (ordered_more : more_order ≡ order ++ number ∷ []) where
  pub entered_places : more_places ≡ places ++ number ∷ [] → ArePlaced (length lines) order places → ArePlaced (length new) more_order more_places
  entered_places placed_too are =
      subst (λ m. ArePlaced m more_order more_places) (sym (ap length is ∙ length_push lines line)) (
      subst (λ l. ArePlaced (length lines + 1) l more_places) (sym (ordered_more ∙ ap (λ m. order ++ m ∷ []) last)) (
      subst (λ l. ArePlaced (length lines + 1) (order ++ length lines ∷ []) l) (sym (placed_too ∙ ap (λ m. places ++ m ∷ []) last)) (placed_more (length lines) order places are)))

  pub entered_others : ArePlaced (length lines) order places → AreInOrder lines order → AreInOrderBut new number more_order
  entered_others are ordered =
      subst (λ (l : List Line). AreInOrderBut l number more_order) (sym is) (
      subst (λ m. AreInOrderBut (lines ++ line ∷ []) m more_order) (sym last) (
      subst (λ l. AreInOrderBut (lines ++ line ∷ []) (length lines) l) (sym (ordered_more ∙ ap (λ m. order ++ m ∷ []) last)) (others_more lines line order places are ordered)))

pub entered_kept : (lines new : List Line) (line : Line) (number : ℕ) (numbers : List (Option ℕ)) (order places order' places' : List ℕ) → new ≡ lines ++ line ∷ [] → number ≡ length lines → IsKept lines numbers order places → line.player < length numbers → has lines line.player ≡ false → ArePlaced (length new) order' places' → AreInOrder new order' → IsKept new (slice_set numbers line.player (Some number)) order' places'
entered_kept lines new line number numbers order places order' places' is last kept below fresh_player are ordered = record {
  few = subst (λ n. n < 2 ^ 32) (sym (length-set numbers line.player (Some number))) kept.few;
  numbered =
      subst (λ (l : List Line). AreNumbered l (slice_set numbers line.player (Some number))) (sym is) (
      subst (λ n. AreNumbered (lines ++ line ∷ []) (slice_set numbers line.player (Some n))) (sym last) (numbered_more lines numbers line kept.numbered below fresh_player));
  at_places = are;
  ordered = ordered;
}

pub scored_kept : (lines new : List Line) (i : ℕ) (line : Line) (numbers : List (Option ℕ)) (order places order' places' : List ℕ) → new ≡ slice_set lines i line → IsKept lines numbers order places → i < length lines → line.player ≡ player_at lines i → ArePlaced (length new) order' places' → AreInOrder new order' → IsKept new numbers order' places'
scored_kept lines new i line numbers order places order' places' is kept lt same are ordered = record {
  few = kept.few;
  numbered = subst (λ (l : List Line). AreNumbered l numbers) (sym is) (numbered_set lines numbers i line kept.numbered lt same);
  at_places = are;
  ordered = ordered;
}
