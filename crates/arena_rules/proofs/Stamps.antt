-- The stamps of legal lists, which stamps are kept, and which entries are allowed.
use Rattle.std.proofs.Common.{◌≡◌, ℕ, suc, ◌+◌, ◌≤◌, List, [], ◌∷◌, ◌++◌, take, Some, get_or, refl, ap, ◌∙◌, arith}
use Rattle.std.specs.Prelude.{slice_get, fold}
use Rattle.std.specs.List.{All}
use Rattle.std.specs.List.Sorted.{IsNonDecreasingBy}
use Rattle.std.proofs.lemmas.List.{take_more}
use Rattle.std.proofs.lemmas.List.Sums.{fold_push}
use Rattle.std.proofs.lemmas.List.Sorted.{IsNonDecreasingBy-from_all_adjacent}
use Rattle.std.proofs.lemmas.Option.{slice_get-get_or}
use Rattle.entries.specs.declared.setup.Setup.{Setup}
use Rattle.entries.specs.declared.journal.Entry.{Entry}
use Rattle.entries.specs.Limits.{max_stamp}
use Rattle.arena_history.specs.Stamps.{last_stamp, stamp_of}
use Rattle.arena_history.specs.Waves.{history}
use Rattle.arena_rules.specs.Below.{LawsOfHistories}
use Rattle.arena_rules.specs.Legal.{IsLegal}

module _ (known : LawsOfHistories) where
  pub last_stamp-push : (es : List Entry) (e : Entry) → last_stamp (es ++ e ∷ []) ≡ e.stamp
  last_stamp-push es e = fold_push (λ t (x : Entry). x.stamp) 0 es e

  last_stamp_le : (t most : ℕ) (es : List Entry) → t ≤ most → ((n : ℕ) (e : Entry) → slice_get es n ≡ Some e → e.stamp ≤ most) → fold (λ u (e : Entry). e.stamp) t es ≤ most
  last_stamp_le t most [] le each = le
  last_stamp_le t most (e ∷ es) le each = last_stamp_le e.stamp most es (each 0 e refl) (λ n x. each (suc n) x)

  -- the last stamp of a legal list has its bound
  pub last_stamp-legal : (s : Setup) (es : List Entry) → IsLegal s es → last_stamp es ≤ max_stamp
  last_stamp-legal s es legal = last_stamp_le 0 max_stamp es (omega arith) (λ n e at. (legal.each n e at).stamp_most)

  -- and so has each
  pub stamps_most-legal : (s : Setup) (es : List Entry) → IsLegal s es → All (λ (e : Entry). e.stamp ≤ max_stamp) es
  stamps_most-legal s es legal k d lt = (legal.each k (get_or es k d) (slice_get-get_or es k d lt)).stamp_most

  -- in a legal list stamps do not fall
  pub stamps-legal : (s : Setup) (es : List Entry) → IsLegal s es → IsNonDecreasingBy (λ (e : Entry). e.stamp) es
  stamps-legal s es legal =
      IsNonDecreasingBy-from_all_adjacent (λ (e : Entry). e.stamp) es (
      λ k d lt.
      let next = legal.each (k + 1) (get_or es (k + 1) d) (slice_get-get_or es (k + 1) d lt) in
      let last : last_stamp (history s (take (k + 1) es)).entries ≡ (get_or es k d).stamp =
      ap last_stamp (known.entries s (take (k + 1) es) ∙ take_more es k d (omega arith)) ∙ last_stamp-push (take k es) (get_or es k d) in
      omega (arith, last, next.not_before)
      )

  -- a stamp that may stand behind a list of entries is its own
  pub stamp_of-stamp : (es : List Entry) (t : ℕ) → last_stamp es ≤ t → t ≤ max_stamp → stamp_of es t ≡ t
  stamp_of-stamp es t last most = omega arith

  -- the stamp of what is done at a legal list does not fall, and has its bound
  pub stamp_of-legal : (s : Setup) (es : List Entry) (now : ℕ) → IsLegal s es → (last_stamp es ≤ stamp_of es now) × (stamp_of es now ≤ max_stamp)
  stamp_of-legal s es now legal = let last = last_stamp-legal s es legal in (omega arith, omega arith)
