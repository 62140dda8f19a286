-- What a look at all games finds and leaves.
use Rattle.std.proofs.Common.{◌≡◌, ℕ, zero, suc, ◌+◌, ◌≤◌, List, [], ◌∷◌, ◌++◌, set, drop, map, cond, Option, None, Some, Bool, true, false, refl, sym, ap, subst, ◌∙◌, arith, inl, inr}
use Rattle.std.specs.Prelude.{slice_get, is_some, ◌||◌}
use Rattle.std.specs.List.{AllZip, list_any}
use Rattle.std.proofs.lemmas.Bool.{cases_Bool}
use Rattle.std.proofs.lemmas.List.{drop-drop}
use Rattle.game_room.specs.declared.outcome.Outcome.{Outcome}
use Rattle.game_room.specs.Events.{tick_at}
use Rattle.game_room.specs.Games.{ticked, due, outcome}
use Rattle.arena_games.specs.declared.kept.Kept.{Kept}
use Rattle.arena_games.specs.Answers.{end_before, ends_from, IsNextEnd}
use Rattle.arena_games.specs.Courses.{Course, is_due, looked, looked_below}
use Rattle.arena_games.specs.Keeps.{KeptFor, is_kept_due}
use Rattle.arena_games.specs.Laws.{IdleLooks}
use Rattle.arena_games.specs.Moments.{first_from, IsLookedAt}
use Rattle.arena_games.proofs.Rooms.{due_is_kept}

-- some game is due exactly where a first one is found
pub some_due : (t n : ℕ) (ks : List Kept) (cs : List Course) → AllZip KeptFor ks cs → is_some (first_from (is_kept_due t) n ks) ≡ list_any (is_due t) cs
some_due t n [] [] z = refl
some_due t n [] (c ∷ cs) z = absurd z
some_due t n (k ∷ ks) [] z = absurd z
some_due t n (k ∷ ks) (c ∷ cs) z = some_by (is_kept_due t k) (is_due t c) n (first_from (is_kept_due t) (suc n) ks) (list_any (is_due t) cs) (due_is_kept k c t z.0) (some_due t (suc n) ks cs z.1)
  where
    some_by : (a b : Bool) (n : ℕ) (r : Option ℕ) (s : Bool) → a ≡ b → is_some r ≡ s → is_some (cond a (Some n) r) ≡ (b || s)
    some_by true true n r s e f = refl
    some_by true false n r s e f = cc
    some_by false true n r s e f = cc
    some_by false false n r s e f = f

not_ticked : (b : Bool) (x : Option Outcome) → b ≡ false → cond b x None ≡ None
not_ticked true x e = cc
not_ticked false x e = refl

-- a game that is not due is not ended by a look
pub idle_not_ticked : (t : ℕ) (c : Course) → is_due t c ≡ false → ticked c.header c.events t ≡ None
unfolding ticked
idle_not_ticked t c off = not_ticked (due c.header c.events t) (outcome c.header (c.events ++ tick_at t ∷ [])) off

idle_head : (b : Bool) (r : Option ℕ) (n : ℕ) → cond b (Some n) r ≡ None → (b ≡ false) × (r ≡ None)
idle_head true r n e = cc
idle_head false r n e = (refl, e)

-- no game is due: a look ends none and leaves all as they are
pub none_ends : (t n : ℕ) (ks : List Kept) (cs : List Course) → AllZip KeptFor ks cs → first_from (is_kept_due t) n ks ≡ None → ends_from n t cs ≡ []
none_ends t n [] [] z e = refl
none_ends t n [] (c ∷ cs) z e = absurd z
none_ends t n (k ∷ ks) [] z e = absurd z
none_ends t n (k ∷ ks) (c ∷ cs) z e =
    let r = idle_head (is_kept_due t k) (first_from (is_kept_due t) (suc n) ks) n e in
    ap (λ o. end_before n o (ends_from (suc n) t cs)) (idle_not_ticked t c (sym (due_is_kept k c t z.0) ∙ r.0)) ∙ none_ends t (suc n) ks cs z.1 r.1

pub none_looked : IdleLooks → (t n : ℕ) (ks : List Kept) (cs : List Course) → AllZip KeptFor ks cs → first_from (is_kept_due t) n ks ≡ None → AllZip KeptFor ks (map (looked t) cs)
none_looked idle t n [] [] z e = z
none_looked idle t n [] (c ∷ cs) z e = absurd z
none_looked idle t n (k ∷ ks) [] z e = absurd z
none_looked idle t n (k ∷ ks) (c ∷ cs) z e =
    let r = idle_head (is_kept_due t k) (first_from (is_kept_due t) (suc n) ks) n e in
    (idle k c t z.0 (sym (due_is_kept k c t z.0) ∙ r.0), none_looked idle t (suc n) ks cs z.1 r.1)

-- the first due game, j places behind the first one
pub record FirstDue (t n g : ℕ) (ks : List Kept) (cs : List Course) : Type 0 where
  pub place : ℕ
  pub number : g ≡ n + place
  pub kept : Kept
  pub course : Course
  pub there : slice_get ks place ≡ Some kept
  pub beside : slice_get cs place ≡ Some course
  pub kept_for : KeptFor kept course
  pub due : is_due t course ≡ true
  pub ends : ends_from n t cs ≡ end_before g (ticked course.header course.events t) (ends_from (suc g) t (drop (suc place) cs))
  pub looked : (k : Kept) → KeptFor k (looked t course) → AllZip KeptFor (set ks place k) (looked_below (suc place) t cs)

pub first_due : IdleLooks → (t n g : ℕ) (ks : List Kept) (cs : List Course) → AllZip KeptFor ks cs → first_from (is_kept_due t) n ks ≡ Some g → FirstDue t n g ks cs
first_due idle t n g [] cs z e = cc
first_due idle t n g (k ∷ ks) [] z e = absurd z
first_due idle t n g (k ∷ ks) (c ∷ cs) z e =
    elim (cases_Bool (is_kept_due t k)) [
      | inl here ↦ (
          let same : n ≡ g = here_by (is_kept_due t k) n g (first_from (is_kept_due t) (suc n) ks) here e in
          record {
            place = zero;
            number = omega arith;
            kept = k;
            course = c;
            there = refl;
            beside = refl;
            kept_for = z.0;
            due = sym (due_is_kept k c t z.0) ∙ here;
            ends = ap (λ m. end_before m (ticked c.header c.events t) (ends_from (suc m) t cs)) same;
            looked = λ x w. (w, z.1);
          })
      | inr off ↦ (
          let f = first_due idle t (suc n) g ks cs z.1 (later_by (is_kept_due t k) n (first_from (is_kept_due t) (suc n) ks) (Some g) off e) in
          let not_due : is_due t c ≡ false = sym (due_is_kept k c t z.0) ∙ off in
          let place = f.number in
          record {
            place = suc f.place;
            number = omega arith;
            kept = f.kept;
            course = f.course;
            there = f.there;
            beside = f.beside;
            kept_for = f.kept_for;
            due = f.due;
            ends = ap (λ o. end_before n o (ends_from (suc n) t cs)) (idle_not_ticked t c not_due) ∙ f.ends;
            looked = λ x w. (idle k c t z.0 not_due, f.looked x w);
          })
    ]
  where
    here_by : (b : Bool) (n g : ℕ) (r : Option ℕ) → b ≡ true → cond b (Some n) r ≡ Some g → n ≡ g
    here_by true n g r h e = cc
    here_by false n g r h e = cc

    later_by : (b : Bool) (n : ℕ) (r s : Option ℕ) → b ≡ false → cond b (Some n) r ≡ s → r ≡ s
    later_by true n r s h e = cc
    later_by false n r s h e = e

-- games of which the first have been looked at, without these
pub behind : (n t : ℕ) (ks : List Kept) (cs : List Course) → AllZip KeptFor ks (looked_below n t cs) → AllZip KeptFor (drop n ks) (drop n cs)
behind zero t ks cs z = z
behind (suc n) t [] [] z = z
behind (suc n) t [] (c ∷ cs) z = absurd z
behind (suc n) t (k ∷ ks) [] z = absurd z
behind (suc n) t (k ∷ ks) (c ∷ cs) z = behind n t ks cs z.1

-- and with them, once all the others have been looked at
pub all_looked : (n t : ℕ) (ks : List Kept) (cs : List Course) → AllZip KeptFor ks (looked_below n t cs) → AllZip KeptFor (drop n ks) (map (looked t) (drop n cs)) → AllZip KeptFor ks (map (looked t) cs)
all_looked zero t ks cs z w = w
all_looked (suc n) t [] [] z w = z
all_looked (suc n) t [] (c ∷ cs) z w = absurd z
all_looked (suc n) t (k ∷ ks) [] z w = absurd z
all_looked (suc n) t (k ∷ ks) (c ∷ cs) z w = (z.0, all_looked n t ks cs z.1 w)

pub looked_on : (n j g t : ℕ) (ks : List Kept) (cs : List Course) (k : Kept) → g ≡ n + j → AllZip KeptFor ks (looked_below n t cs)
    → AllZip KeptFor (set (drop n ks) j k) (looked_below (suc j) t (drop n cs)) → AllZip KeptFor (set ks g k) (looked_below (suc g) t cs)
looked_on zero j g t ks cs k e z w = (let same : j ≡ g = omega arith in subst (λ m. AllZip KeptFor (set ks m k) (looked_below (suc m) t cs)) same w)
looked_on (suc n) j zero t ks cs k e z w = absurd (omega (arith, e))
looked_on (suc n) j (suc g) t [] [] k e z w = z
looked_on (suc n) j (suc g) t [] (c ∷ cs) k e z w = absurd z
looked_on (suc n) j (suc g) t (x ∷ ks) [] k e z w = absurd z
looked_on (suc n) j (suc g) t (x ∷ ks) (c ∷ cs) k e z w = (z.0, looked_on n j g t ks cs k (omega (arith, e)) z.1 w)

pub get_drop : {X : Type 0} (n j g : ℕ) (xs : List X) → g ≡ n + j → slice_get (drop n xs) j ≡ slice_get xs g
get_drop zero j g xs e = (let same : j ≡ g = omega arith in ap (slice_get xs) same)
get_drop (suc n) j zero xs e = absurd (omega (arith, e))
get_drop (suc n) j (suc g) [] e = refl
get_drop (suc n) j (suc g) (x ∷ xs) e = get_drop n j g xs (omega (arith, e))

-- a look that finds no due game from a number on
pub none_next : (n t : ℕ) (ks : List Kept) (cs : List Course) → AllZip KeptFor ks (looked_below n t cs) → first_from (is_kept_due t) n (drop n ks) ≡ None → IsNextEnd n t cs None
none_next n t ks cs z e = none_ends t n (drop n ks) (drop n cs) (behind n t ks cs z) e

pub none_left : IdleLooks → (n t : ℕ) (ks : List Kept) (cs : List Course) → AllZip KeptFor ks (looked_below n t cs) → first_from (is_kept_due t) n (drop n ks) ≡ None → AllZip KeptFor ks (map (looked t) cs)
none_left idle n t ks cs z e = all_looked n t ks cs z (none_looked idle t n (drop n ks) (drop n cs) (behind n t ks cs z) e)

drop_same : (n j g : ℕ) (cs : List Course) → g ≡ n + j → drop (suc j) (drop n cs) ≡ drop (suc g) cs
drop_same n j g cs e = drop-drop (suc j) n cs ∙ ap (λ m. drop m cs) (let f : n + suc j ≡ suc g = omega arith in f)

-- a look that ends the first due game from a number on
pub one_next : IdleLooks → (n t g : ℕ) (ks : List Kept) (cs : List Course) (o : Outcome) → AllZip KeptFor ks (looked_below n t cs) → first_from (is_kept_due t) n (drop n ks) ≡ Some g
    → ((c : Course) → slice_get cs g ≡ Some c → Some o ≡ ticked c.header c.events t) → IsNextEnd n t cs (Some (record { game = g; outcome = o }))
one_next idle n t g ks cs o z e says =
    let f = first_due idle t n g (drop n ks) (drop n cs) (behind n t ks cs z) e in
    let there : slice_get cs g ≡ Some f.course = sym (get_drop n f.place g cs f.number) ∙ f.beside in
    f.ends ∙ (λ i. end_before g (sym (says f.course there) i) (ends_from (suc g) t (drop_same n f.place g cs f.number i)))

pub one_left : IdleLooks → (n t g : ℕ) (ks new : List Kept) (cs : List Course) → AllZip KeptFor ks (looked_below n t cs) → first_from (is_kept_due t) n (drop n ks) ≡ Some g
    → IsLookedAt ks new g t → AllZip KeptFor new (looked_below (suc g) t cs)
one_left idle n t g ks new cs z e l =
    let f = first_due idle t n g (drop n ks) (drop n cs) (behind n t ks cs z) e in
    let there : slice_get ks g ≡ Some f.kept = sym (get_drop n f.place g ks f.number) ∙ f.there in
    let same : f.kept ≡ l.before = (let h = l.there in cc) in
    subst (λ (x : List Kept). AllZip KeptFor x (looked_below (suc g) t cs)) (sym l.written)
    (looked_on n f.place g t ks cs l.behind f.number z (f.looked l.behind (l.stands f.course (subst (λ (x : Kept). KeptFor x f.course) same f.kept_for))))

-- the first due game from a number on
pub record DueThere (t g : ℕ) (cs : List Course) : Type 0 where
  pub course : Course
  pub there : slice_get cs g ≡ Some course
  pub due : is_due t course ≡ true

pub is_due_there : IdleLooks → (n t g : ℕ) (ks : List Kept) (cs : List Course) → AllZip KeptFor ks (looked_below n t cs) → first_from (is_kept_due t) n (drop n ks) ≡ Some g → DueThere t g cs
is_due_there idle n t g ks cs z e =
    let f = first_due idle t n g (drop n ks) (drop n cs) (behind n t ks cs z) e in
    record { course = f.course; there = sym (get_drop n f.place g cs f.number) ∙ f.beside; due = f.due }

-- the games that were not looked at stand behind those that were
pub get_behind : (n t j : ℕ) (cs : List Course) (c : Course) → n ≤ j → slice_get cs j ≡ Some c → slice_get (looked_below n t cs) j ≡ Some c
get_behind zero t j cs c le e = e
get_behind (suc n) t j [] c le e = cc
get_behind (suc n) t zero (x ∷ cs) c le e = absurd (omega (arith, le))
get_behind (suc n) t (suc j) (x ∷ cs) c le e = get_behind n t j cs c (omega (arith, le)) e
