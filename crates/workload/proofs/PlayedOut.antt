-- The games of a round, one by one.
use Rattle.std.proofs.Common.{◌≡◌, ℕ, suc, ◌+◌, ◌%◌, ◌<◌, ◌≤◌, List, [], ◌∷◌, ◌++◌, length, drop, get_or, Some, None, sym, ap, subst, ◌∙◌, arith, inl, inr}
use Rattle.std.proofs.lemmas.Bool.{cases_lt}
use Rattle.std.specs.Prelude.{slice_get}
use Rattle.std.specs.List.{All}
use Rattle.std.proofs.lemmas.List.{drop_all, drop_more}
use Rattle.std.proofs.lemmas.List.Elements.{All-get_or}
use Rattle.std.proofs.lemmas.Option.{get_or_from_slice_get, slice_get-get_or, slice_get_within}
use Rattle.entries.specs.declared.journal.Start.{Start}
use Rattle.workload.specs.Numbers.{drawn}
use Rattle.workload.specs.Rounds.{plays_from}
use Rattle.workload.specs.Scripts.{acts, script}

-- behind the last game there is none
pub none_left : (xs : List Start) (k : ℕ) → slice_get xs k ≡ None → length xs ≤ k
none_left [] k is = omega arith
none_left (x ∷ xs) k is = elim (cases_lt k (length (x ∷ xs))) [ inl lt ↦ (let never : None ≡ Some (get_or (x ∷ xs) k x) = sym is ∙ slice_get-get_or (x ∷ xs) k x lt in cc) | inr le ↦ le ]

module _ (seed players t k : ℕ) (xs : List Start) where
  pub none_played : slice_get xs k ≡ None → plays_from seed players t k (drop k xs) ≡ []
  none_played is = ap (plays_from seed players t k) (drop_all k xs (none_left xs k is))

  module _ (g : Start) (is : slice_get xs k ≡ Some g) where
    pub within : k < length xs
    within = slice_get_within xs k g is

    drop_at : drop k xs ≡ g ∷ drop (k + 1) xs
    drop_at = drop_more xs k g within ∙ ap (λ (x : Start). x ∷ drop (k + 1) xs) (get_or_from_slice_get xs k g g is)

    -- a game is played, and then those behind it
    pub one_played : (x : ℕ) → x ≡ drawn seed (players + k) → plays_from seed players t k (drop k xs) ≡ acts t k g (script (x % 6)) ++ plays_from seed players t (k + 1) (drop (k + 1) xs)
    one_played x drew =
        let next : suc k ≡ k + 1 = omega arith in
        ap (plays_from seed players t k) drop_at ∙ (λ i. acts t k g (script (sym drew i % 6)) ++ plays_from seed players t (next i) (drop (k + 1) xs))

-- what holds of all games holds of each
pub of_each : (P : Start → Type 0) (xs : List Start) (k : ℕ) (g : Start) → slice_get xs k ≡ Some g → All P xs → P g
of_each P xs k g is all = subst P (get_or_from_slice_get xs k g g is) (All-get_or P xs k g (slice_get_within xs k g is) all)
