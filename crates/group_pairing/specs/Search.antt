-- What the search through the pairings of a group works with.
use Rattle.std.specs.Prelude.{◌≡◌, ℕ, zero, suc, ◌+◌, ◌*◌, ◌/◌, ◌%◌, ◌<◌, ◌≤◌, Bool, true, ◌&&◌, ◌||◌, ◌==◌, nat_lt, nat_le, count_ones, IsTrue, IsFalse, if◌then◌else◌, List, length, slice_index, slice_index_or}
use Rattle.std.specs.Int.{bit_at}
use Rattle.pair_cost.specs.declared.candidate.Candidate.{Candidate}
use Rattle.pair_cost.specs.declared.candidate.Frame.{Frame}
use Rattle.group_pairing.specs.declared.offers.Offer.{Offer}
use Rattle.group_pairing.specs.declared.choice.Choice.{Choice}
use Rattle.group_pairing.specs.Lists.{may_pair, is_partner_list}
use Rattle.group_pairing.specs.Keys.{alone, price_at, charge_at, total_from, key, is_smaller}

-- whether two places may be paired, and what it costs if they may
pub record IsOffer (rows : List Candidate) (f : Frame) (i j : ℕ) (offer : Offer) : Type 0 where
  pub may : offer.may ≡ may_pair rows f i j
  pub price : offer.may ≡ true → offer.price ≡ price_at rows f i j
  pub small : offer.price ≤ 22002000

-- the first n cells of a table of fourteen times fourteen hold the offers of its rows and columns
abbrev pub HoldsOffers : List Candidate → Frame → List Offer → ℕ → Type 0
HoldsOffers rows f table n = (m : ℕ) (d : Offer) → m < n → IsOffer rows f (m / 14) (m % 14) (slice_index_or table m d)

-- the first n cells of a table hold what leaving their places alone costs
abbrev pub HoldsCharges : List Candidate → Frame → List ℕ → ℕ → Type 0
HoldsCharges rows f table n = (i : ℕ) → i < n → slice_index table i ≡ charge_at rows f i

-- place i is in a set where bit i of the set's number is 1, and this is the first of them
pub record IsFirst (places p : ℕ) : Type 0 where
  pub has : bit_at places p ≡ 1
  pub below : (i : ℕ) → i < p → bit_at places i ≡ 0

-- a partner list that has nobody at the places outside a set
pub record IsWithin (rows : List Candidate) (f : Frame) (places : ℕ) (to : List ℕ) : Type 0 where
  pub list : IsTrue (is_partner_list rows f to)
  pub outside : (i : ℕ) → i < length rows → bit_at places i ≡ 0 → slice_index to i ≡ 14

-- of the lists within the set that have at least this item at a place, it is the one of least key
pub record IsLeastIn (rows : List Candidate) (f : Frame) (places place low : ℕ) (to : List ℕ) : Type 0 where
  pub within : IsWithin rows f places to
  pub above : low ≤ slice_index to place
  pub least : (other : List ℕ) → IsWithin rows f places other → low ≤ slice_index other place
      → IsFalse (is_smaller (key rows f other) (key rows f to))

-- what the first n places come to that are not in a set
unfoldable pub sum_outside : (ℕ → ℕ) → ℕ → ℕ → ℕ
sum_outside g places zero = 0
sum_outside g places (suc n) = sum_outside g places n + (if bit_at places n == 1 then 0 else g n)

-- what a choice has of a list within the set: the partner of the set's first place, how many of the set's places have nobody, and what these and the set's pairs cost
pub record Tells (rows : List Candidate) (f : Frame) (places : ℕ) (choice : Choice) (to : List ℕ) : Type 0 where
  pub partner : (p : ℕ) → IsFirst places p → slice_index to p ≡ choice.partner
  pub count : alone to ≡ choice.alone + sum_outside (λ _. 1) places (length rows)
  pub total : total_from rows f 0 to ≡ choice.total + sum_outside (charge_at rows f) places (length rows)
  pub few : choice.alone ≤ places
  pub cheap : choice.total ≤ 5000000000 * places

-- the choice is of the least list within the set that has at least this item at a place
pub record IsBest (rows : List Candidate) (f : Frame) (places place low : ℕ) (choice : Choice) : Type 0 where
  pub to : List ℕ
  pub least : IsLeastIn rows f places place low to
  pub told : Tells rows f places choice to

-- the first leaves fewer alone, or as many at no higher cost
abbrev pub leads : Choice → Choice → Bool
leads a b = nat_lt a.alone b.alone || (a.alone == b.alone && nat_le a.total b.total)

-- what is left of so many places where again and again the first one goes, alone or with another: of the places behind the
-- first of the set, no more are gone than there are before it
abbrev pub CanBeLeft : ℕ → ℕ → Type 0
CanBeLeft count places = (p : ℕ) → IsFirst places p → count ≤ count_ones places + 2 * p

-- the first n rows of a table hold the best choice for each set that can be left
abbrev pub HoldsBest : List Candidate → Frame → List Choice → ℕ → Type 0
HoldsBest rows f table n = (m : ℕ) (d : Choice) → m < n → CanBeLeft (length rows) m → IsBest rows f m 0 0 (slice_index_or table m d)
