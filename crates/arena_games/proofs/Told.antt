-- What is kept of games, and what it tells of them.
use Rattle.std.proofs.Common.{◌≡◌, ℕ, suc, ◌<◌, List, [], ◌∷◌, length, get_or, set, map, cond, Option, None, Some, false, refl, sym, ap, subst, ◌∙◌}
use Rattle.std.proofs.lemmas.List.{length-map}
use Rattle.std.specs.Prelude.{slice_get, is_none}
use Rattle.std.specs.List.{All, AllZip}
use Rattle.std.specs.Option.{option_map, option_and_then}
use Rattle.game_room.specs.declared.header.Header.{Header}
use Rattle.arena_games.specs.declared.kept.Kept.{Kept}
use Rattle.arena_games.specs.declared.kept.State.{State}
use Rattle.arena_games.specs.declared.kept.State.TheVariants.{Running, Ended}
use Rattle.arena_games.specs.Courses.{Course, IsPast, IsShort, begun, goes_on, looked, numbers_where}
use Rattle.arena_games.specs.Keeps.{KeptFor, StateFor, has_room, runs, is_kept_due, is_state_due}
use Rattle.arena_games.specs.KeptGames.{KeptGames, StandsFor}
use Rattle.arena_games.specs.Moments.{IsInTime, IsLookedAt, MayTakeAct}
use Rattle.arena_games.proofs.Items.{zip_length, zip_none, zip_set, zip_some, get_holds, get_read}

runs_by : (s : State) (c : Course) → StateFor s c → has_room s ≡ goes_on c
runs_by (Running k) c r = sym (ap is_none r.goes_on)
runs_by (Ended e) c r = sym (ap is_none r.outcome)

-- a room is kept exactly of the games that go on
pub runs_so : (k : Kept) (c : Course) → KeptFor k c → runs k ≡ goes_on c
runs_so k c kept = runs_by k.state c kept.state

not_due : (s : State) (t : ℕ) → has_room s ≡ false → is_state_due t s ≡ false
not_due (Running k) t e = cc
not_due (Ended e) t off = refl

-- no game is due of which no room is kept
pub due_runs : (t : ℕ) (k : Kept) → runs k ≡ false → is_kept_due t k ≡ false
due_runs t k off = not_due k.state t off

pub numbers_so : (n : ℕ) (ks : List Kept) (cs : List Course) → AllZip KeptFor ks cs → numbers_where runs n ks ≡ numbers_where goes_on n cs
numbers_so n [] [] z = refl
numbers_so n [] (c ∷ cs) z = absurd z
numbers_so n (k ∷ ks) [] z = absurd z
numbers_so n (k ∷ ks) (c ∷ cs) z = λ i. cond (runs_so k c z.0 i) (n ∷ numbers_so (suc n) ks cs z.1 i) (numbers_so (suc n) ks cs z.1 i)

-- what is told of a game that was not begun
pub told_none : {Y : Type 0} (f : Course → Y) (ks : List Kept) (cs : List Course) (g : ℕ) → AllZip KeptFor ks cs → None ≡ slice_get ks g → None ≡ option_map f (slice_get cs g)
told_none f ks cs g z e = ap (option_map f) (sym (zip_none KeptFor ks cs g z (sym e)))

-- and of one that was
pub told_some : {Y : Type 0} (f : Course → Y) (ks : List Kept) (cs : List Course) (g : ℕ) (k : Kept) (y : Y) → AllZip KeptFor ks cs → Some k ≡ slice_get ks g
    → ((c : Course) → KeptFor k c → y ≡ f c) → Some y ≡ option_map f (slice_get cs g)
told_some f ks cs g k y z e says =
    let b = zip_some KeptFor ks cs g k z (sym e) in
    ap (λ v. Some v) (says b.item b.tells) ∙ ap (option_map f) (sym b.there)

pub told_ended_none : {Y : Type 0} (f : Course → Option Y) (ks : List Kept) (cs : List Course) (g : ℕ) → AllZip KeptFor ks cs → None ≡ slice_get ks g → None ≡ option_and_then f (slice_get cs g)
told_ended_none f ks cs g z e = ap (option_and_then f) (sym (zip_none KeptFor ks cs g z (sym e)))

pub told_ended_some : {Y : Type 0} (f : Course → Option Y) (ks : List Kept) (cs : List Course) (g : ℕ) (k : Kept) (y : Option Y) → AllZip KeptFor ks cs → Some k ≡ slice_get ks g
    → ((c : Course) → KeptFor k c → y ≡ f c) → y ≡ option_and_then f (slice_get cs g)
told_ended_some f ks cs g k y z e says =
    let b = zip_some KeptFor ks cs g k z (sym e) in
    says b.item b.tells ∙ ap (option_and_then f) (sym b.there)

pub in_time_at : (ks : List Kept) (cs : List Course) (t g : ℕ) (k : Kept) → AllZip KeptFor ks cs → All (IsPast t) cs → slice_get ks g ≡ Some k → IsInTime k t
in_time_at ks cs t g k z past there =
    let b = zip_some KeptFor ks cs g k z there in
    record { course = b.item; stands = b.tells; past = get_holds (IsPast t) cs g b.item past b.there }

pub may_act_at : (ks : List Kept) (cs : List Course) (t g : ℕ) (k : Kept) → AllZip KeptFor ks cs → All (IsPast t) cs → All IsShort cs → slice_get ks g ≡ Some k → MayTakeAct k t
may_act_at ks cs t g k z past short there =
    let b = zip_some KeptFor ks cs g k z there in
    record { course = b.item; stands = b.tells; past = get_holds (IsPast t) cs g b.item past b.there; short = get_holds IsShort cs g b.item short b.there }

pub begun_so : (k : KeptGames) (cs : List Course) (n : ℕ) → StandsFor k cs → n ≡ length k.games → n ≡ length cs
begun_so k cs n z is = is ∙ zip_length KeptFor k.games cs z

-- a game that was read of the games that are kept
pub read_in : (v : KeptGames) (ks : List Kept) (g : ℕ) (k : Kept) → ks ≡ v.games → g < length v.games → k ≡ get_or ks g k → slice_get ks g ≡ Some k
read_in v ks g k same lt is = get_read ks g k (subst (λ (x : List Kept). g < length x) (sym same) lt) is

pub read_at : (v : KeptGames) (ks : List Kept) (g : ℕ) (k : Kept) → ks ≡ v.games → g < length v.games → k ≡ get_or ks g k → slice_get v.games g ≡ Some k
read_at v ks g k same lt is = subst (λ (x : List Kept). slice_get x g ≡ Some k) same (read_in v ks g k same lt is)

-- a game is replaced
pub stands_set : (v : KeptGames) (ks : List Kept) (cs : List Course) (g : ℕ) (k : Kept) (c : Course) → ks ≡ v.games → StandsFor v cs → KeptFor k c → AllZip KeptFor (set ks g k) (set cs g c)
stands_set v ks cs g k c same z here = zip_set KeptFor ks cs g k c (subst (λ (x : List Kept). AllZip KeptFor x cs) (sym same) z) here

-- one game was looked at
pub looked_at : (v : KeptGames) (ks : List Kept) (g t : ℕ) (k l : Kept) → ks ≡ v.games → g < length v.games → k ≡ get_or ks g k
    → ((c : Course) → KeptFor k c → KeptFor l (looked t c)) → IsLookedAt v.games (set ks g l) g t
looked_at v ks g t k l same lt is stands = record {
  before = k;
  behind = l;
  there = read_at v ks g k same lt is;
  written = ap (λ (x : List Kept). set x g l) same;
  stands = stands;
}

-- as many games are prepared as there are headers
pub prepared_count : (ks : List Kept) (hs : List Header) → AllZip KeptFor ks (map begun hs) → length ks ≡ length hs
prepared_count ks hs z = zip_length KeptFor ks (map begun hs) z ∙ length-map hs begun
