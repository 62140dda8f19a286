-- The pairs of which both players wait, and the headers of their games, pair by pair.
use Rattle.std.proofs.Common.{◌≡◌, ℕ, zero, suc, ◌+◌, ◌<◌, ◌≤◌, List, [], ◌∷◌, ◌++◌, take, length, Bool, true, false, refl, sym, ap, ◌∙◌, arith, get_or}
use Rattle.std.specs.Prelude.{cond, filter}
use Rattle.std.proofs.lemmas.List.{append-nil, length-append}
use Rattle.std.proofs.lemmas.List.Elements.{filter_more}
use Rattle.entries.specs.declared.setup.Control.{Control}
use Rattle.game_room.specs.declared.header.Header.{Header}
use Rattle.pair_cost.specs.declared.candidate.Pair.{Pair}
use Rattle.seats.specs.Places.{Place}
use Rattle.arena_core.specs.Starting.{both_wait, waiting, header_at, headers_from}

pub length-headers : (c : Control) (t k : ℕ) (pairs : List Pair) → length (headers_from c t k pairs) ≡ length pairs
length-headers c t k [] = refl
length-headers c t k (x ∷ xs) = ap suc (length-headers c t (suc k) xs)

-- one pair more
headers_push : (c : Control) (t k : ℕ) (xs : List Pair) (y : Pair) → headers_from c t k (xs ++ y ∷ []) ≡ headers_from c t k xs ++ header_at c t (k + length xs) y ∷ []
headers_push c t k [] y = λ i. header_at c t (let same : k ≡ k + 0 = omega arith in same i) y ∷ []
headers_push c t k (x ∷ xs) y = ap (λ l. header_at c t k x ∷ l) (headers_push c t (suc k) xs y ∙ (λ i. headers_from c t (suc k) xs ++ header_at c t (let same : suc k + length xs ≡ k + suc (length xs) = omega arith in same i) y ∷ []))

-- of the first n no more pass than of all
pub few_first : {X : Type 0} (p : X → Bool) (n : ℕ) (xs : List X) → length (filter p (take n xs)) ≤ length (filter p xs)
few_first p zero xs = omega arith
few_first p (suc n) [] = omega arith
few_first p (suc n) (x ∷ xs) = by (p x) (few_first p n xs)
  where
    by : (b : Bool) → length (filter p (take n xs)) ≤ length (filter p xs) → length (cond b (x ∷ filter p (take n xs)) (filter p (take n xs))) ≤ length (cond b (x ∷ filter p xs) (filter p xs))
    by true rest = omega arith
    by false rest = rest

module _ (places : List Place) (n : ℕ) (pairs : List Pair) (i : ℕ) (d : Pair) (lt : i < length pairs) where
  one_more : (b : Bool) → both_wait places n (get_or pairs i d) ≡ b → waiting places n (take (i + 1) pairs) ≡ waiting places n (take i pairs) ++ cond b (get_or pairs i d ∷ []) []
  one_more b is = filter_more (both_wait places n) pairs i d lt ∙ ap (λ c. waiting places n (take i pairs) ++ cond c (get_or pairs i d ∷ []) []) is

  -- a pair more of which both wait
  pub header_more : (c : Control) (t first : ℕ) (headers : List Header) → both_wait places n (get_or pairs i d) ≡ true → headers ≡ headers_from c t first (waiting places n (take i pairs)) → headers ++ header_at c t (first + length headers) (get_or pairs i d) ∷ [] ≡ headers_from c t first (waiting places n (take (i + 1) pairs))
  header_more c t first headers is so =
      let long : length headers ≡ length (waiting places n (take i pairs)) = ap length so ∙ length-headers c t first (waiting places n (take i pairs)) in
      (λ j. so j ++ header_at c t (first + long j) (get_or pairs i d) ∷ []) ∙ (sym (headers_push c t first (waiting places n (take i pairs)) (get_or pairs i d)) ∙ ap (headers_from c t first) (sym (one_more true is)))

  -- and one of which they do not
  pub header_same : (c : Control) (t first : ℕ) (headers : List Header) → both_wait places n (get_or pairs i d) ≡ false → headers ≡ headers_from c t first (waiting places n (take i pairs)) → headers ≡ headers_from c t first (waiting places n (take (i + 1) pairs))
  header_same c t first headers is so = so ∙ ap (headers_from c t first) (sym (one_more false is ∙ append-nil _))

  -- so far there are fewer headers than pairs that wait
  pub headers_few : (c : Control) (t first : ℕ) (headers : List Header) → both_wait places n (get_or pairs i d) ≡ true → headers ≡ headers_from c t first (waiting places n (take i pairs)) → length headers < length (waiting places n pairs)
  headers_few c t first headers is so =
      let long : length headers ≡ length (waiting places n (take i pairs)) = ap length so ∙ length-headers c t first (waiting places n (take i pairs)) in
      let more : length (waiting places n (take (i + 1) pairs)) ≡ length (waiting places n (take i pairs) ++ get_or pairs i d ∷ []) = ap length (one_more true is) in
      omega (arith, long, more, length-append (waiting places n (take i pairs)) (get_or pairs i d ∷ []), few_first (both_wait places n) (i + 1) pairs)
