-- Since when somebody is idle, and that one comparison with it tells who is still idle.
use Rattle.std.proofs.Common.{◌≡◌, ℕ, zero, suc, ◌+◌, ◌-◌, ◌<◌, ◌≤◌, ◌⊎◌, inl, inr, ⊎_elim, List, [], ◌∷◌, ◌++◌, length, Bool, true, false, ◌&&◌, refl, sym, ap, ◌∙◌, subst, arith, length-append}
use Rattle.std.specs.Prelude.{nat_le}
use Rattle.std.specs.List.{list_all, range_with_len}
use Rattle.std.proofs.lemmas.Bool.{cases_Bool, cases_lt, le-leb, lt-leb, and_parts}
use Rattle.entries.specs.declared.setup.Setup.{Setup}
use Rattle.entries.specs.declared.journal.Entry.{Entry}
use Rattle.seats.specs.Places.{since_set}
use Rattle.arena_history.specs.History.{along, first}
use Rattle.arena_history.specs.Stands.{idle}
use Rattle.arena_history.specs.Since.{since_step, since, WasIdleFrom}
use Rattle.arena_history.specs.Waves.{after, history, still}
use Rattle.arena_history.proofs.Histories.{IsWhole-history, entries-history, length-after, first-after, first_all, history-push}
use Rattle.arena_history.proofs.Lists.{snoc_induction}
use Rattle.arena_history.proofs.Walks.{along-after}

length-history : (s : Setup) (es : List Entry) → length (history s es).entries ≡ length es
length-history s es = ap length (entries-history s es)

-- since when p is idle after one entry more
pub since-push : (s : Setup) (es : List Entry) (e : Entry) (p : ℕ) → since s (history s (es ++ e ∷ [])) p ≡ since_set (idle s (history s es) p) (idle s (history s (es ++ e ∷ [])) p) (suc (length es)) (since s (history s es) p)
unfolding since
since-push s es e p =
    let h = history s es in
    let long : length (after s h e).entries ≡ suc (length es) = length-after s h e ∙ ap suc (length-history s es) in
    ap (λ g. since s g p) (history-push s es e) ∙ (along-after (since_step s p) s h e 0 (IsWhole-history s es) ∙ (λ i. since_set (idle s h p) (idle s (sym (history-push s es e) i) p) (long i) (since s h p)))

idle-nothing : (s : Setup) (p : ℕ) → idle s (history s []) p ≡ false
unfolding idle Rattle.arena_history.specs.Wishes.wish Rattle.arena_history.specs.Games.playing Rattle.arena_history.specs.Games.running Rattle.arena_history.specs.Games.begun history along
idle-nothing s p = refl

-- the number since when is the least from which on he was idle
abbrev IsLeastIdle : Setup → ℕ → List Entry → Type 0
IsLeastIdle s p es = idle s (history s es) p ≡ true → WasIdleFrom s (history s es) p (since s (history s es) p) × ((n : ℕ) → WasIdleFrom s (history s es) p n → since s (history s es) p ≤ n)

module _ (s : Setup) (p : ℕ) (es : List Entry) (e : Entry) where
  -- up to the last entry, the beginnings are those of the list without it
  early : (k : ℕ) → k ≤ length es → first k (history s (es ++ e ∷ [])) ≡ first k (history s es)
  early k le = ap (first k) (history-push s es e) ∙ first-after s (history s es) e k (omega (arith, length-history s es))

  all_of : (k : ℕ) → length es ≤ k → first k (history s es) ≡ history s es
  all_of k le = first_all (history s es) k (IsWhole-history s es) (omega (arith, length-history s es))

  all_of_more : (k : ℕ) → length es < k → first k (history s (es ++ e ∷ [])) ≡ history s (es ++ e ∷ [])
  all_of_more k lt = first_all (history s (es ++ e ∷ [])) k (IsWhole-history s (es ++ e ∷ [])) (omega (arith, length-history s (es ++ e ∷ []), length-append es (e ∷ [])))

  -- he was idle before, and still is
  least_kept : IsLeastIdle s p es → idle s (history s es) p ≡ true → idle s (history s (es ++ e ∷ [])) p ≡ true → WasIdleFrom s (history s (es ++ e ∷ [])) p (since s (history s es) p) × ((n : ℕ) → WasIdleFrom s (history s (es ++ e ∷ [])) p n → since s (history s es) p ≤ n)
  least_kept least was is = (
    (λ k from.
        ⊎_elim
        (λ (after_all : length es < k). ap (λ h. idle s h p) (all_of_more k after_all) ∙ is)
        (λ (within : k ≤ length es). ap (λ h. idle s h p) (early k within) ∙ (least was).0 k from)
        (cases_lt (length es) k)),
    (λ n idle_from.
        (least was).1 n
        (λ k from.
        ⊎_elim
        (λ (after_all : length es < k). ap (λ h. idle s h p) (all_of k (omega arith)) ∙ was)
        (λ (within : k ≤ length es). ap (λ h. idle s h p) (sym (early k within)) ∙ idle_from k from)
        (cases_lt (length es) k))),
  )

  -- he has just become idle
  least_new : idle s (history s es) p ≡ false → idle s (history s (es ++ e ∷ [])) p ≡ true → WasIdleFrom s (history s (es ++ e ∷ [])) p (suc (length es)) × ((n : ℕ) → WasIdleFrom s (history s (es ++ e ∷ [])) p n → suc (length es) ≤ n)
  least_new was is = (
    (λ k from. ap (λ h. idle s h p) (all_of_more k (omega arith)) ∙ is),
    (λ n idle_from.
        ⊎_elim
        (λ (after_all : length es < n). omega arith)
        (λ (within : n ≤ length es).
        let never : true ≡ false = sym (idle_from (length es) within) ∙ (ap (λ h. idle s h p) (early (length es) (omega arith) ∙ all_of (length es) (omega arith)) ∙ was) in
        cc)
        (cases_lt (length es) n)),
  )

  least-push : IsLeastIdle s p es → IsLeastIdle s p (es ++ e ∷ [])
  least-push least is =
      let h' = history s (es ++ e ∷ []) in
      ⊎_elim
      (λ (was : idle s (history s es) p ≡ true).
      let same : since s h' p ≡ since s (history s es) p = since-push s es e p ∙ (λ i. since_set (was i) (is i) (suc (length es)) (since s (history s es) p)) in
      subst (λ m. WasIdleFrom s h' p m × ((n : ℕ) → WasIdleFrom s h' p n → m ≤ n)) (sym same) (least_kept least was is))
      (λ (was : idle s (history s es) p ≡ false).
      let new : since s h' p ≡ suc (length es) = since-push s es e p ∙ (λ i. since_set (was i) (is i) (suc (length es)) (since s (history s es) p)) in
      subst (λ m. WasIdleFrom s h' p m × ((n : ℕ) → WasIdleFrom s h' p n → m ≤ n)) (sym new) (least_new was is))
      (cases_Bool (idle s (history s es) p))

pub since_is_least : (s : Setup) (es : List Entry) (p : ℕ) → IsLeastIdle s p es
since_is_least s es p = snoc_induction (IsLeastIdle s p) (λ is. let never : true ≡ false = sym is ∙ idle-nothing s p in cc) (λ l e least. least-push s p l e least) es

-- still idle

all_in_range : (f : ℕ → Bool) (a n k : ℕ) → list_all f (range_with_len a n) ≡ true → a ≤ k → k < a + n → f k ≡ true
all_in_range f a zero k all low high = absurd (omega arith)
all_in_range f a (suc n) k all low high =
    let both = and_parts (f a) (list_all f (range_with_len (a + 1) n)) all in
    ⊎_elim
    (λ (later : a < k). all_in_range f (a + 1) n k both.1 (omega arith) (omega arith))
    (λ (here : k ≤ a). let same : a ≡ k = omega arith in ap f (sym same) ∙ both.0)
    (cases_lt a k)

range_all : (f : ℕ → Bool) (a n : ℕ) → ((k : ℕ) → a ≤ k → k < a + n → f k ≡ true) → list_all f (range_with_len a n) ≡ true
range_all f a zero each = refl
range_all f a (suc n) each = λ i. each a (omega arith) (omega arith) i && range_all f (a + 1) n (λ k low high. each k (omega arith) (omega arith)) i

-- still idle since the first n entries: idle after the first k for every k from n on
pub still_means : (s : Setup) (es : List Entry) (n p : ℕ) → still s (history s es) n p ≡ true → (k : ℕ) → n ≤ k → k ≤ length es → idle s (first k (history s es)) p ≡ true
unfolding still
still_means s es n p on k low high =
    all_in_range (λ k. idle s (first k (history s es)) p) n (suc (length (history s es).entries) - n) k on low (omega (arith, length-history s es))

pub still_from : (s : Setup) (es : List Entry) (n p : ℕ) → ((k : ℕ) → n ≤ k → k ≤ length es → idle s (first k (history s es)) p ≡ true) → still s (history s es) n p ≡ true
unfolding still
still_from s es n p each =
    range_all (λ k. idle s (first k (history s es)) p) n (suc (length (history s es).entries) - n) (λ k low high. each k low (omega (arith, high, length-history s es)))

-- who is still idle is idle now
pub still_idle : (s : Setup) (es : List Entry) (n p : ℕ) → n ≤ length es → still s (history s es) n p ≡ true → idle s (history s es) p ≡ true
still_idle s es n p le on =
    ap (λ h. idle s h p) (sym (first_all (history s es) (length es) (IsWhole-history s es) (omega (arith, length-history s es)))) ∙ still_means s es n p on (length es) le (omega arith)

-- one comparison tells who is still idle: he is idle, and since n entries or fewer
pub still_since : (s : Setup) (es : List Entry) (n p : ℕ) → n ≤ length es → still s (history s es) n p ≡ (idle s (history s es) p && nat_le (since s (history s es) p) n)
still_since s es n p le =
    let h = history s es in
    ⊎_elim
    (λ (now : idle s h p ≡ true).
    let least = since_is_least s es p now in
    ⊎_elim
    (λ (later : n < since s h p).
    rw (now, lt-leb (since s h p) n later)
    (⊎_elim
    (λ (on : still s h n p ≡ true).
    absurd (let low : since s h p ≤ n = least.1 n (λ k from. ⊎_elim (λ (within : k ≤ length es). still_means s es n p on k from within) (λ (past : length es < k). ap (λ g. idle s g p) (first_all h k (IsWhole-history s es) (omega (arith, length-history s es))) ∙ now) (swapped (cases_lt (length es) k))) in omega (arith, low, later)))
    (λ (off : still s h n p ≡ false). off)
    (cases_Bool (still s h n p))))
    (λ (early : since s h p ≤ n). rw (now, le-leb (since s h p) n early) (still_from s es n p (λ k from within. least.0 k (omega arith))))
    (cases_lt n (since s h p)))
    (λ (away : idle s h p ≡ false).
    rw away
    (⊎_elim
    (λ (on : still s h n p ≡ true). let never : true ≡ false = sym (still_idle s es n p le on) ∙ away in cc)
    (λ (off : still s h n p ≡ false). off)
    (cases_Bool (still s h n p))))
    (cases_Bool (idle s h p))
  where
    swapped : {A B : Type 0} → A ⊎ B → B ⊎ A
    swapped (inl a) = inr a
    swapped (inr b) = inl b
