-- The plans that the waves of a journal name, and until when each is kept.
use Rattle.std.specs.Prelude.{◌≡◌, ℕ, ◌<◌, ◌≤◌, Bool, true, false, List, take, length, count_by, slice_get, Option, Some, MatchOption}
use Rattle.std.specs.Option.{IsSome}
use Rattle.std.specs.Ordering.{nat_cmp}
use Rattle.std.specs.BTreeMap.{BTreeMap, get}
use Rattle.entries.specs.declared.journal.Entry.{Entry}
use Rattle.entries.specs.declared.journal.Journal.{Journal}
use Rattle.entries.specs.declared.journal.What.{What}
use Rattle.entries.specs.declared.journal.What.TheVariants as what
use Rattle.entries.specs.declared.setup.Setup.{Setup}
use Rattle.entries.specs.Limits.{max_games}
use Rattle.wave.specs.declared.snapshot.Plan.{Plan}
use Rattle.arena_core.specs.Held.{Held}
use Rattle.arena_rules.specs.Commits.{IsPlanOf}

-- what an entry did was to start a wave
abbrev pub starts_wave : What → Bool
starts_wave (what.Enter p) = false
starts_wave (what.Pause p) = false
starts_wave (what.Leave p) = false
starts_wave (what.Act p number a) = false
starts_wave what.Tick = false
starts_wave (what.Wave n) = true

-- how many of the first entries are waves
abbrev pub waves_among : List Entry → ℕ → ℕ
waves_among es count = count_by (λ (e : Entry). starts_wave e.what) (take count es)

-- the last use of a length is known, and is this entry or a later one
abbrev pub IsUsedUntil : ℕ → Option ℕ → Type 0
IsUsedUntil entry last = MatchOption last ⊥ (λ l. entry ≤ l)

-- of the first entries, each that is one of the first 200,001 waves names a length whose last use is known and not before it
abbrev pub HasLastUses : List Entry → ℕ → BTreeMap ℕ ℕ → Type 0
HasLastUses es count uses = (i : ℕ) (e : Entry) (n : ℕ)
    → i < count
    → slice_get es i ≡ Some e
    → e.what ≡ what.Wave n
    → waves_among es i ≤ max_games
    → IsUsedUntil i (get nat_cmp uses n)

-- a use of a length that was known up to an entry or an earlier one is still known as long
abbrev pub Lasts : BTreeMap ℕ ℕ → BTreeMap ℕ ℕ → ℕ → Type 0
Lasts old new entry = (n i : ℕ) → i ≤ entry → IsUsedUntil i (get nat_cmp old n) → IsUsedUntil i (get nat_cmp new n)

-- each plan that was made is that of the first entries whose number is its key, at these entries or a list that goes on from them
abbrev pub AreOwnPlans : Setup → List Entry → BTreeMap ℕ Plan → Type 0
AreOwnPlans s es made = (n : ℕ) (p : Plan) → get nat_cmp made n ≡ Some p → (p.n ≡ n) × IsPlanOf s es p

-- the plan of each length below this one that this entry or a later one uses was made
abbrev pub AreMade : ℕ → ℕ → BTreeMap ℕ ℕ → BTreeMap ℕ Plan → Type 0
AreMade count entry uses made = (n l : ℕ) → get nat_cmp uses n ≡ Some l → n < count → entry ≤ l → IsSome (get nat_cmp made n)

-- what is kept of plans beside an arena that has the first entries of a journal: until when each length is used, and the plans of
-- those below the arena's own length that are still used
pub record HavePlans (j : Journal) (a : Held) (uses : BTreeMap ℕ ℕ) (made : BTreeMap ℕ Plan) : Type 0 where
  pub setup : a.setup ≡ j.setup
  pub entries : a.entries ≡ take (length a.entries) j.entries
  pub last : HasLastUses j.entries (length j.entries) uses
  pub own : AreOwnPlans a.setup a.entries made
  pub used : AreMade (length a.entries) (length a.entries) uses made
