-- Steps that may fail, and did not.
use Rattle.std.proofs.Common.{◌≡◌, ℕ, ◌<◌, ltb, Bool, true, false, cond, List, length, Option, Some, None, Result, Ok, Err, option_and_then, refl}
use Rattle.std.proofs.lemmas.Bool.{ltb-true, lt-ltb}
use Rattle.journal_text.specs.declared.fault.JournalCause.{JournalCause}
use Rattle.journal_text.specs.declared.fault.JournalCause.TheVariants.{Repeat}
use Rattle.journal_text.specs.declared.fault.JournalFault.{JournalFault}
use Rattle.journal_text.specs.Forms.{formed, ranged, is_taken, enrolled}
use Rattle.journal_text.specs.Reading.{◌>>=◌, at_line}

-- the first step gave a value, and the rest what came of it
pub bind_some : {A B : Type 0} (o : Option A) (f : A → Option B) (y : B) → option_and_then f o ≡ Some y → (x : A) × (o ≡ Some x) × (f x ≡ Some y)
bind_some None f y e = absurd cc
bind_some (Some x) f y e = (x, refl, e)

-- the test held, and the value was chosen
pub guard_some : {A : Type 0} (b : Bool) (o : Option A) (y : A) → cond b o None ≡ Some y → (b ≡ true) × (o ≡ Some y)
guard_some true o y e = (refl, e)
guard_some false o y e = absurd cc

-- an option with a value, at a type that shows
abbrev pub some : {A : Type 0} → A → Option A
some x = Some x

-- one option has one value
pub some_is : {A : Type 0} (x y : A) → some x ≡ some y → x ≡ y
some_is x y e = cc

-- what a line says, at a type that shows
abbrev pub line_ok : {B : Type 0} → B → Result B JournalCause
line_ok x = Ok x

-- one answer of a line has one value
pub line_ok_is : {B : Type 0} (x y : B) → line_ok x ≡ line_ok y → x ≡ y
line_ok_is x y e = cc

-- the values are in their ranges
pub ranged_ok : {B : Type 0} (b : Bool) (r : Result B JournalCause) (y : B) → ranged b r ≡ Ok y → (b ≡ true) × (r ≡ Ok y)
ranged_ok true r y e = (refl, e)
ranged_ok false r y e = absurd cc

-- a line that was not refused has a form, and passed the further tests
pub formed_ok : {A B : Type 0} (o : Option A) (f : A → Result B JournalCause) (y : B) → formed o f ≡ Ok y → (x : A) × (o ≡ Some x) × (f x ≡ Ok y)
formed_ok None f y e = absurd cc
formed_ok (Some x) f y e = (x, refl, e)

-- a line that was not refused has a form, its values fit, and they make what was answered
pub judged_ok : {A B : Type 0} (o : Option A) (fits : A → Bool) (made : A → B) (y : B) → formed o (λ x. ranged (fits x) (line_ok (made x))) ≡ Ok y → (x : A) × (o ≡ Some x) × (fits x ≡ true) × (made x ≡ y)
judged_ok o fits made y e =
    let f = formed_ok o (λ x. ranged (fits x) (line_ok (made x))) y e in
    let r = ranged_ok (fits f.0) (line_ok (made f.0)) y f.2 in
    (f.0, f.1, r.0, line_ok_is (made f.0) y r.1)

-- a line that has a form whose values fit is not refused
pub judged_again : {A B : Type 0} (o : Option A) (fits : A → Bool) (made : A → B) (x : A) → o ≡ Some x → fits x ≡ true → formed o (λ x. ranged (fits x) (line_ok (made x))) ≡ Ok (made x)
judged_again o fits made x formed fit = rw (formed, fit) refl

-- the name was free
free_ok : {B : Type 0} (b : Bool) (x y : B) → cond b (Err Repeat) (line_ok x) ≡ line_ok y → (b ≡ false) × (x ≡ y)
free_ok true x y e = absurd cc
free_ok false x y e = (refl, line_ok_is x y e)

-- there was room, and the name was free
pub enrolled_ok : {B : Type 0} (most : ℕ) (names : List (List ℕ)) (name : List ℕ) (x y : B) → enrolled most names name x ≡ Ok y → (length names < most) × (is_taken names name ≡ false) × (x ≡ y)
enrolled_ok most names name x y e =
    let r = ranged_ok (ltb (length names) most) (cond (is_taken names name) (Err Repeat) (line_ok x)) y e in
    let f = free_ok (is_taken names name) x y r.1 in
    (ltb-true (length names) most r.0, f.0, f.1)

-- where there is room and the name is free it may join
pub enrolled_again : {B : Type 0} (most : ℕ) (names : List (List ℕ)) (name : List ℕ) (x : B) → length names < most → is_taken names name ≡ false → enrolled most names name x ≡ Ok x
enrolled_again most names name x room free = rw (lt-ltb (length names) most room, free) refl

-- the first step gave a value, and the rest what came of it
pub bind_ok : {A B E : Type 0} (r : Result A E) (f : A → Result B E) (y : B) → (r >>= f) ≡ Ok y → (x : A) × (r ≡ Ok x) × (f x ≡ Ok y)
bind_ok (Ok x) f y e = (x, refl, e)
bind_ok (Err fault) f y e = absurd cc

-- a line that gave no fault was not refused
pub at_line_ok : {A : Type 0} (line : ℕ) (r : Result A JournalCause) (x : A) → at_line line r ≡ Ok x → r ≡ Ok x
at_line_ok line (Ok y) x e = cc
at_line_ok line (Err cause) x e = absurd cc
