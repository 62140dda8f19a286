-- What is kept of where players are.
use Rattle.std.proofs.Common.{◌≡◌, ℕ, ◌<◌, length, ap, ◌∙◌}
use Rattle.entries.specs.declared.setup.Setup.{Setup}
use Rattle.seats.specs.Places.{Place, place_at}
use Rattle.arena_history.specs.Since.{place}
use Rattle.arena_history.specs.History.{History}
use Rattle.arena_history.specs.Wishes.{wish}
use Rattle.arena_core.specs.Below.{LawsOfHistories}
use Rattle.arena_core.specs.People.{KeptPeople, StandsFor, standing}

module _ (laws : LawsOfHistories) (s : Setup) (h : History) (k : KeptPeople) (kept : StandsFor k s (standing s h)) where
  -- there is a place for each player
  pub length_places : length k.places ≡ length s.players
  length_places = ap length kept.places ∙ laws.places.long s h

  -- the kept place of a player is his
  pub place_kept : (p : ℕ) → p < length s.players → place_at k.places p ≡ place s h p
  place_kept p lt = ap (λ l. place_at l p) kept.places ∙ laws.places.at s h p lt

  -- and so is his wish
  pub wish_kept : (p : ℕ) → p < length s.players → (place_at k.places p).wish ≡ wish s h p
  unfolding place
  wish_kept p lt = ap (λ (x : Place). x.wish) (place_kept p lt)
