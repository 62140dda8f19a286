-- A wave seats the players of its games, one game after another, and what is kept after it.
use Rattle.std.proofs.Common.{◌≡◌, ◌≢◌, ℕ, zero, suc, ◌+◌, ◌<◌, ◌≤◌, List, [], ◌∷◌, ◌++◌, take, length, Some, None, Bool, true, false, refl, sym, ap, ◌∙◌, subst, arith}
use Rattle.std.specs.Prelude.{Option, cond, map, filter, ◌&&◌, slice_get}
use Rattle.std.specs.List.{All, AllPairs, AllByRecursion}
use Rattle.std.specs.Option.{option_map_or}
use Rattle.std.proofs.lemmas.List.{get_or-set_other, length-set, length-map, length-append, length-take, append-nil}
use Rattle.std.proofs.lemmas.List.Elements.{All-weaker, All-append, All-push, All-contains, recursion_from_All}
use Rattle.std.proofs.lemmas.List.Sums.{fold-append}
use Rattle.std.proofs.lemmas.Option.{slice_get-map, slice_get_within, get_or_from_slice_get}
use Rattle.entries.specs.Limits.{max_games}
use Rattle.entries.specs.declared.journal.Start.{Start}
use Rattle.entries.specs.declared.setup.Control.{Control}
use Rattle.entries.specs.declared.setup.Setup.{Setup}
use Rattle.game_room.specs.declared.header.Header.{Header}
use Rattle.pair_cost.specs.declared.candidate.Pair.{Pair}
use Rattle.seats.specs.declared.wish.Wish.{Wish}
use Rattle.seats.specs.declared.wish.Wish.TheVariants.{Absent, In, Paused, Left}
use Rattle.seats.specs.Places.{Place, unknown, place_at, seat_at, seat_of, is_idle, is_waiting}
use Rattle.wave.specs.Players.{IsApart}
use Rattle.arena_history.specs.Changes.{both_seated, all_seated}
use Rattle.arena_history.specs.Waves.{start_of}
use Rattle.arena_core.specs.People.{KeptPeople, Standing, StandsFor, with_start, with_starts}
use Rattle.arena_core.specs.Starting.{MaySit, both_wait, header_at, headers_from, is_since, start_at, waits_at}
use Rattle.arena_core.proofs.Maps.{get_take, take_to}
use Rattle.arena_core.proofs.Steps.{with_starts_is}

-- who waits is listed, and his seat is that of somebody who waits

waits_seat : (n : ℕ) (w : Wish) (g : Option ℕ) (m : ℕ) → is_since n (cond (is_idle w g) (Some m) None) ≡ true → is_waiting (seat_of w g) ≡ true
waits_seat n Absent None m is = cc
waits_seat n In None m is = refl
waits_seat n Paused None m is = cc
waits_seat n Left None m is = cc
waits_seat n w (Some g) m is = cc

pub waits_is_waiting : (ps : List Place) (n p : ℕ) → waits_at ps n p ≡ true → is_waiting (seat_at (place_at ps p)) ≡ true
waits_is_waiting ps n p is = waits_seat n (place_at ps p).wish (place_at ps p).game (place_at ps p).since is

pub waits_listed : (ps : List Place) (n p : ℕ) → waits_at ps n p ≡ true → p < length ps
waits_listed [] n p is = cc
waits_listed (x ∷ ps) n zero is = omega arith
waits_listed (x ∷ ps) n (suc p) is = let rest : p < length ps = waits_listed ps n p is in omega arith

both : (a b : Bool) → (a && b) ≡ true → (a ≡ true) × (b ≡ true)
both true true is = (refl, refl)
both true false is = cc
both false b is = cc

-- what a filter keeps passes
pub passes : {X : Type 0} (p : X → Bool) (xs : List X) (i : ℕ) (x : X) → slice_get (filter p xs) i ≡ Some x → p x ≡ true
passes p xs i x at =
    let all = Rattle.std.proofs.lemmas.List.Elements.filter_passes p xs in
    subst (λ y. p y ≡ true) (get_or_from_slice_get (filter p xs) i x x at) (all i x (slice_get_within (filter p xs) i x at))

-- the games of pairs, by their headers
pub starts_of_headers : (entry : ℕ) (c : Control) (t k : ℕ) (pairs : List Pair) → map (start_at entry) (headers_from c t k pairs) ≡ map (start_of entry) pairs
starts_of_headers entry c t k [] = refl
starts_of_headers entry c t k (x ∷ xs) = ap (λ l. start_of entry x ∷ l) (starts_of_headers entry c t (suc k) xs)

pub header_of_pair : (c : Control) (t k : ℕ) (pairs : List Pair) (i : ℕ) (g : Header) → slice_get (headers_from c t k pairs) i ≡ Some g → (x : Pair) × (slice_get pairs i ≡ Some x) × (g.id ≡ k + i) × (g.white ≡ x.white) × (g.black ≡ x.black)
header_of_pair c t k [] i g at = cc
header_of_pair c t k (x ∷ xs) zero g at =
    let same : header_at c t k x ≡ g = cc in
    (x, refl, sym (ap (λ (y : Header). y.id) same) ∙ (let plus : k ≡ k + 0 = omega arith in plus), sym (ap (λ (y : Header). y.white) same), sym (ap (λ (y : Header). y.black) same))
header_of_pair c t k (x ∷ xs) (suc i) g at =
    let rest = header_of_pair c t (suc k) xs i g at in
    (rest.0, rest.1, (let id : g.id ≡ suc k + i = rest.2 in omega arith), rest.3, rest.4)

-- a game changes the places of its players alone
seated_others : (number w b : ℕ) (ps : List Place) (p : ℕ) → p ≢ w → p ≢ b → place_at (both_seated number w b ps) p ≡ place_at ps p
seated_others number w b ps p other another = get_or-set_other _ b p _ unknown another ∙ get_or-set_other ps w p _ unknown other

untouched : (number : ℕ) (gs : List Start) (ps : List Place) (p : ℕ) → ((i : ℕ) (g : Start) → slice_get gs i ≡ Some g → (p ≢ g.white) × (p ≢ g.black)) → place_at (all_seated number gs ps) p ≡ place_at ps p
untouched number [] ps p others = refl
untouched number (g ∷ gs) ps p others = untouched (suc number) gs (both_seated number g.white g.black ps) p (λ i x at. others (suc i) x at) ∙ seated_others number g.white g.black ps p (others 0 g refl).0 (others 0 g refl).1

length-seated : (number : ℕ) (gs : List Start) (ps : List Place) → length (all_seated number gs ps) ≡ length ps
length-seated number [] ps = refl
length-seated number (g ∷ gs) ps = length-seated (suc number) gs (both_seated number g.white g.black ps) ∙ (length-set _ _ _ ∙ length-set ps _ _)

-- a beginning of the games of pairs
start_within : (entry : ℕ) (xs : List Pair) (k j : ℕ) (g : Start) → slice_get (take k (map (start_of entry) xs)) j ≡ Some g → (y : Pair) × (j < k) × (slice_get xs j ≡ Some y) × (start_of entry y ≡ g)
start_within entry xs k j g at =
    let there = get_take k (map (start_of entry) xs) j g at in
    by (slice_get xs j) refl there.0 (sym (slice_get-map (start_of entry) xs j) ∙ there.1)
  where
    by : (o : Option Pair) → slice_get xs j ≡ o → j < k → Rattle.std.specs.Option.option_map (start_of entry) o ≡ Some g → (y : Pair) × (j < k) × (slice_get xs j ≡ Some y) × (start_of entry y ≡ g)
    by None is lt so = cc
    by (Some y) is lt so = (y, lt, is, (let same : start_of entry y ≡ g = cc in same))

-- the players of a pair stay where they are while those of the pairs before it sit down
module _ (entry number n : ℕ) (ps : List Place) (pairs : List Pair) (apart : AllPairs IsApart pairs) (k : ℕ) (x : Pair) (at : slice_get pairs k ≡ Some x) where
  apart_from : (j : ℕ) (y : Pair) → j < k → slice_get pairs j ≡ Some y → IsApart y x
  apart_from j y lt there =
      subst (λ (q : Pair × Pair). IsApart q.0 q.1) (λ i. (get_or_from_slice_get pairs j y x there i, get_or_from_slice_get pairs k x x at i)) (apart j k x lt (slice_get_within pairs k x at))

  white_still : place_at (all_seated number (take k (map (start_of entry) pairs)) ps) x.white ≡ place_at ps x.white
  white_still = untouched number (take k (map (start_of entry) pairs)) ps x.white (λ j g there. of j g (start_within entry pairs k j g there))
    where
      of : (j : ℕ) (g : Start) → ((y : Pair) × (j < k) × (slice_get pairs j ≡ Some y) × (start_of entry y ≡ g)) → (x.white ≢ g.white) × (x.white ≢ g.black)
      of j g w =
          let is = apart_from j w.0 w.1 w.2 in
          ((λ same. is.whites (ap (λ (y : Start). y.white) w.3 ∙ sym same)), (λ same. is.black_white (ap (λ (y : Start). y.black) w.3 ∙ sym same)))

  black_still : place_at (all_seated number (take k (map (start_of entry) pairs)) ps) x.black ≡ place_at ps x.black
  black_still = untouched number (take k (map (start_of entry) pairs)) ps x.black (λ j g there. of j g (start_within entry pairs k j g there))
    where
      of : (j : ℕ) (g : Start) → ((y : Pair) × (j < k) × (slice_get pairs j ≡ Some y) × (start_of entry y ≡ g)) → (x.black ≢ g.white) × (x.black ≢ g.black)
      of j g w =
          let is = apart_from j w.0 w.1 w.2 in
          ((λ same. is.white_black (ap (λ (y : Start). y.white) w.3 ∙ sym same)), (λ same. is.blacks (ap (λ (y : Start). y.black) w.3 ∙ sym same)))

  -- once those before it have sat down, the players of a pair may
  pub may_sit : (s : Setup) (before : Standing) (people : KeptPeople) → before.places ≡ ps → length before.starts ≡ number → both_wait ps n x ≡ true → x.white ≢ x.black → number + length pairs ≤ max_games → StandsFor people s (with_starts (take k (map (start_of entry) pairs)) before) → MaySit people x.white x.black
  may_sit s before people same long wait two room stands =
      let gs = take k (map (start_of entry) pairs) in
      let now = subst (StandsFor people s) (with_starts_is gs before) stands in
      let places : people.places ≡ all_seated number gs ps = now.places ∙ (λ i. all_seated (long i) gs (same i)) in
      let waits = both (waits_at ps n x.white) (waits_at ps n x.black) wait in
      let size : length people.places ≡ length ps = ap length places ∙ length-seated number gs ps in
      let begun : people.pairings.begun ≡ length (before.starts ++ gs) = now.pairings.begun in
      let within : k < length pairs = slice_get_within pairs k x at in
      record {
        white_player = omega (arith, size, waits_listed ps n x.white waits.0);
        black_player = omega (arith, size, waits_listed ps n x.black waits.1);
        two = two;
        white_waits = ap (λ l. is_waiting (seat_at (place_at l x.white))) places ∙ (ap (λ y. is_waiting (seat_at y)) white_still ∙ waits_is_waiting ps n x.white waits.0);
        black_waits = ap (λ l. is_waiting (seat_at (place_at l x.black))) places ∙ (ap (λ y. is_waiting (seat_at y)) black_still ∙ waits_is_waiting ps n x.black waits.1);
        few = omega (arith, begun, length-append before.starts gs, length-take k (map (start_of entry) pairs), long, within, room);
      }

-- one game more has begun
pub starts_more : (gs : List Start) (k : ℕ) (g : Start) (x : Standing) → slice_get gs k ≡ Some g → with_starts (take (suc k) gs) x ≡ with_start (with_starts (take k gs) x) g
starts_more gs k g x at = ap (λ l. with_starts l x) (take_to gs k g at) ∙ fold-append with_start x (take k gs) (g ∷ [])
