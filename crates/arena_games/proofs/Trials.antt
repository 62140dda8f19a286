-- What tests know of the games that they play.
use Rattle.std.proofs.Common.{◌≡◌, ℕ, zero, suc, ◌+◌, ◌≤◌, ◌<◌, List, [], ◌∷◌, length, set, map, Result, Ok, Err, Some, refl, sym, subst, arith, length-append}
use Rattle.std.specs.Prelude.{slice_get, slice_set, OnOk, OnErr}
use Rattle.std.specs.List.{All}
use Rattle.std.proofs.lemmas.List.Elements.{All-cons, All-head, All-nil, All-tail}
use Rattle.game_room.specs.declared.header.Header.{Header}
use Rattle.game_room.specs.Events.{Event}
use Rattle.arena_games.specs.Courses.{Course, IsPast, IsShort, begun, looked_below, with_event}
use Rattle.arena_games.specs.Keeps.{KeptFor}
use Rattle.arena_games.specs.KeptGames.{IsTimely, KeptGames, MayGoOn, StandsFor}
use Rattle.arena_games.specs.Trials.{IsLooking, Lasts}
use Rattle.arena_games.proofs.Answered.{past_with}
use Rattle.arena_games.proofs.Items.{get_holds, zip_length}
use Rattle.arena_games.proofs.Outcomes.{looks_are_past}

all_more : {X : Type 0} (P Q : X → Type 0) (xs : List X) → ((x : X) → P x → Q x) → All P xs → All Q xs
all_more P Q xs more all k d lt = more _ (all k d lt)

past_later : (now t : ℕ) (cs : List Course) → now ≤ t → All (IsPast now) cs → All (IsPast t) cs
past_later now t cs le all =
    all_more (IsPast now) (IsPast t) cs
    (λ c past. record { begun = (let b = past.begun in omega arith); events = all_more (λ (e : Event). e.stamp ≤ now) (λ (e : Event). e.stamp ≤ t) c.events (λ e b. omega arith) past.events }) all

pub may_go_on : (k : KeptGames) (now t n : ℕ) → Lasts k now n → now ≤ t → n < 8000000 → MayGoOn k t
may_go_on k now t n l le few = record {
  games = l.games;
  stands = l.stands;
  past = past_later now t l.games le l.past;
  short = all_more (λ (c : Course). length c.events ≤ n) IsShort l.games (λ c b. omega arith) l.few;
}

all_set : {X : Type 0} (P : X → Type 0) (xs : List X) (i : ℕ) (x : X) → All P xs → P x → All P (set xs i x)
all_set P [] i x all here = all
all_set P (y ∷ xs) zero x all here = All-cons P x xs here (All-tail P y xs all)
all_set P (y ∷ xs) (suc i) x all here = All-cons P y (set xs i x) (All-head P y xs all) (all_set P xs i x (All-tail P y xs all) here)

record There (cs : List Course) (g : ℕ) : Type 0 where
  course : Course
  there : slice_get cs g ≡ Some course

there_is : (cs : List Course) (g : ℕ) → g < length cs → There cs g
there_is [] g lt = absurd (omega (arith, lt))
there_is (c ∷ cs) zero lt = record { course = c; there = refl }
there_is (c ∷ cs) (suc g) lt = let h = there_is cs g (omega (arith, lt)) in record { course = h.course; there = h.there }

-- after an act that was accepted
pub lasts_on : (k l : KeptGames) (g now t n : ℕ) (e : Event) → Lasts k now n → now ≤ t → e.stamp ≤ t → g < length k.games
    → ((cs : List Course) (c : Course) → StandsFor k cs → slice_get cs g ≡ Some c → StandsFor l (slice_set cs g (with_event e c))) → Lasts l t (n + 1)
lasts_on k l g now t n e x le at lt stands =
    let same = zip_length KeptFor k.games x.games x.stands in
    let h = there_is x.games g (omega arith) in
    let few = get_holds (λ (c : Course). length c.events ≤ n) x.games g h.course x.few h.there in
    let past = past_later now t x.games le x.past in
    record {
      games = set x.games g (with_event e h.course);
      stands = stands x.games h.course x.stands h.there;
      past = all_set (IsPast t) x.games g (with_event e h.course) past (past_with t e h.course at (get_holds (IsPast t) x.games g h.course past h.there));
      few = all_set (λ (c : Course). length c.events ≤ n + 1) x.games g (with_event e h.course)
          (all_more (λ (c : Course). length c.events ≤ n) (λ (c : Course). length c.events ≤ n + 1) x.games (λ c b. omega arith) x.few)
          (let m = length-append h.course.events (e ∷ []) in omega arith);
    }

-- and after one that was refused
pub lasts_still : (k l : KeptGames) (now t n : ℕ) → l ≡ k → Lasts k now n → now ≤ t → Lasts l t (n + 1)
lasts_still k l now t n same x le = record {
  games = x.games;
  stands = subst (λ v. StandsFor v x.games) (sym same) x.stands;
  past = past_later now t x.games le x.past;
  few = all_more (λ (c : Course). length c.events ≤ n) (λ (c : Course). length c.events ≤ n + 1) x.games (λ c b. omega arith) x.few;
}

pub timely : (k : KeptGames) (t n : ℕ) → Lasts k t n → IsTimely k t
timely k t n x = record { games = x.games; stands = x.stands; past = x.past }

pub looking_timely : (k : KeptGames) (m t : ℕ) → IsLooking k m t → IsTimely k t
looking_timely k m t x = record { games = looked_below m t x.games; stands = x.stands; past = looks_are_past m t x.games x.past }

pub looking_first : (k : KeptGames) (t n : ℕ) → Lasts k t n → IsLooking k 0 t
looking_first k t n x = record { games = x.games; stands = x.stands; past = x.past }

pub looking_on : (k l : KeptGames) (m n t : ℕ) → IsLooking k m t → ((cs : List Course) → StandsFor k (looked_below m t cs) → StandsFor l (looked_below n t cs)) → IsLooking l n t
looking_on k l m n t x stands = record { games = x.games; stands = stands x.games x.stands; past = x.past }

all_begun : (t n : ℕ) (hs : List Header) → All (λ (h : Header). h.start ≤ t) hs → All (IsPast t) (map begun hs) × All (λ (c : Course). length c.events ≤ n) (map begun hs)
all_begun t n [] all = (All-nil (IsPast t), All-nil (λ (c : Course). length c.events ≤ n))
all_begun t n (h ∷ hs) all =
    let r = all_begun t n hs (All-tail (λ (x : Header). x.start ≤ t) h hs all) in (
      All-cons (IsPast t) (begun h) (map begun hs) (record { begun = All-head (λ (x : Header). x.start ≤ t) h hs all; events = All-nil (λ (e : Event). e.stamp ≤ t) }) r.0,
      All-cons (λ (c : Course). length c.events ≤ n) (begun h) (map begun hs) (omega arith) r.1,
    )

pub lasts_first : (k : KeptGames) (t : ℕ) (hs : List Header) → All (λ (h : Header). h.start ≤ t) hs → StandsFor k (map begun hs) → Lasts k t 0
lasts_first k t hs all stands = let r = all_begun t 0 hs all in record { games = map begun hs; stands = stands; past = r.0; few = r.1 }

-- after an act
pub lasts_after : {X Y : Type 0} (k l : KeptGames) (g now t n : ℕ) (e : Event) (r : Result X Y) → Lasts k now n → now ≤ t → e.stamp ≤ t → g < length k.games
    → OnOk r ((cs : List Course) (c : Course) → StandsFor k cs → slice_get cs g ≡ Some c → StandsFor l (slice_set cs g (with_event e c))) → OnErr r (l ≡ k) → Lasts l t (n + 1)
lasts_after k l g now t n e (Ok x) lasts le at lt stands same = lasts_on k l g now t n e lasts le at lt stands
lasts_after k l g now t n e (Err y) lasts le at lt stands same = lasts_still k l now t n same lasts le
