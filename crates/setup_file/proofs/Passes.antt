-- Steps that may end in a fault, and did not.
use Rattle.std.proofs.Common.{◌≡◌, ℕ, ◌≤◌, ◌<◌, leb, Bool, true, false, List, length, get_or, Option, Some, None, position, Result, Ok, Err, refl, subst, arith, if◌then◌else◌, cond, ltb, ◌⊎◌, inl, inr, []}
use Rattle.std.specs.Str.{bytes_eq}
use Rattle.std.specs.Prelude.{⊤}
use Rattle.std.specs.List.{position_or_len}
use Rattle.std.proofs.lemmas.Bool.{and_parts, leb-true, ltb-false}
use Rattle.std.proofs.lemmas.List.Sums.{fails_before_first}
use Rattle.serde_json.specs.Data.{Data}
use Rattle.serde_json.specs.Find.{as_str}
use Rattle.entries.specs.Ranges.{IsTeamOf}
use Rattle.setup_file.specs.declared.fault.Member.{Member}
use Rattle.setup_file.specs.declared.fault.SetupCause.{SetupCause}
use Rattle.setup_file.specs.declared.fault.SetupCause.TheVariants.{Kind, Repeat, UnknownTeam}
use Rattle.setup_file.specs.declared.fault.SetupFault.{SetupFault}
use Rattle.setup_file.specs.Members.{◌>>=◌, found, valued, ranged, whole, is_within, number_in, is_taken, fresh, fresh_in, place_of, is_null, team_in}
use Rattle.setup_file.specs.Reading.{at, none_at}
use Rattle.std.proofs.lemmas.List.Quantifiers.{position-Some}

-- a step gave a value, and the rest what came of it
pub bind_ok : {A B E : Type 0} (r : Result A E) (f : A → Result B E) (y : B) → (r >>= f) ≡ Ok y → (x : A) × (r ≡ Ok x) × (f x ≡ Ok y)
bind_ok (Ok x) f y e = (x, refl, e)
bind_ok (Err fault) f y e = absurd cc

-- the same of a member
pub bind_at : {A B : Type 0} (m : Member) (i : ℕ) (r : Result A SetupCause) (f : A → Result B SetupFault) (y : B) → (at m i r >>= f) ≡ Ok y → (x : A) × (r ≡ Ok x) × (f x ≡ Ok y)
bind_at m i (Ok x) f y e = (x, refl, e)
bind_at m i (Err cause) f y e = absurd cc

-- no element had the fault
pub bind_none : {B : Type 0} (m : Member) (cause : SetupCause) (place : Option ℕ) (f : ⊤ → Result B SetupFault) (y : B) → (none_at m cause place >>= f) ≡ Ok y → (place ≡ None) × (f tt ≡ Ok y)
bind_none m cause None f y e = (refl, e)
bind_none m cause (Some i) f y e = absurd cc

-- a last member gave its value
pub at_ok : {A : Type 0} (m : Member) (i : ℕ) (r : Result A SetupCause) (y : A) → at m i r ≡ Ok y → r ≡ Ok y
at_ok m i (Ok x) y e = cc
at_ok m i (Err cause) y e = absurd cc

-- the value is in its range
pub ranged_ok : {A : Type 0} (b : Bool) (x y : A) → ranged b x ≡ Ok y → (b ≡ true) × (x ≡ y)
ranged_ok true x y e = (refl, cc)
ranged_ok false x y e = absurd cc

-- a number that was read is in its range
pub number_ok : (default : Option ℕ) (least most : ℕ) (member : Option Data) (n : ℕ) → number_in default least most member ≡ Ok n → (least ≤ n) × (n ≤ most)
unfolding number_in
number_ok default least most member n e =
    let v = bind_ok (valued default whole member) (λ n. ranged (is_within least most n) n) n e in
    let r = ranged_ok (is_within least most v.0) v.0 n v.2 in
    let w = and_parts (leb least v.0) (leb v.0 most) r.0 in
    subst (λ (m : ℕ). (least ≤ m) × (m ≤ most)) r.1 (leb-true least v.0 w.0, leb-true v.0 most w.1)

-- what is refused if a test passes was not, so the test does not
pub chosen_ok : {A E : Type 0} (b : Bool) (fault : E) (rest : Result A E) (y : A) → (if b then Err fault else rest) ≡ Ok y → (b ≡ false) × (rest ≡ Ok y)
chosen_ok true fault rest y e = absurd cc
chosen_ok false fault rest y e = (refl, e)

-- one of two answers was given
pub either_ok : {A E : Type 0} (b : Bool) (r s : Result A E) (y : A) → (if b then r else s) ≡ Ok y → (r ≡ Ok y) ⊎ (s ≡ Ok y)
either_ok true r s y e = inl e
either_ok false r s y e = inr e

-- a value was there
pub found_ok : {A : Type 0} (cause : SetupCause) (o : Option A) (y : A) → found cause o ≡ Ok y → o ≡ Some y
found_ok cause None y e = absurd cc
found_ok cause (Some x) y e = cc

-- an answer of one value, at a type that shows
abbrev pub answer : {A : Type 0} → A → Result A SetupCause
answer x = Ok x

-- one answer has one value
pub answer_is : {A : Type 0} (x y : A) → answer x ≡ answer y → x ≡ y
answer_is x y e = cc

-- a text that is fresh has its form, and stands not among those before
pub fresh_ok : (formed : Bool) (before : List (List ℕ)) (text read : List ℕ) → fresh formed before text ≡ Ok read → (formed ≡ true) × (is_taken before text ≡ false) × (text ≡ read)
fresh_ok false before text read e = absurd cc
fresh_ok true before text read e = let t = chosen_ok (is_taken before text) Repeat (answer text) read e in (refl, t.0, answer_is text read t.1)

-- the same of a member
pub fresh_in_ok : (form : List ℕ → Bool) (before : List (List ℕ)) (member : Option Data) (read : List ℕ) → fresh_in form before member ≡ Ok read → (form read ≡ true) × (is_taken before read ≡ false)
unfolding fresh_in
fresh_in_ok form before member read e =
    let t = bind_ok (valued None as_str member) (λ text. fresh (form text) before text) read e in
    let f = fresh_ok (form t.0) before t.0 read t.2 in
    subst (λ (text : List ℕ). (form text ≡ true) × (is_taken before text ≡ false)) f.2 (f.0, f.1)

-- a value that was not chosen is none
chosen_none : (b : Bool) (x : ℕ) → cond b (Some x) None ≡ None → b ≡ false
chosen_none true x e = absurd cc
chosen_none false x e = refl

-- where no place is found, no element passes the test
pub none_passes : {X : Type 0} (p : X → Bool) (xs : List X) → position p xs ≡ None → (k : ℕ) (d : X) → k < length xs → p (get_or xs k d) ≡ false
none_passes p xs none k d low =
    let past = ltb-false (position_or_len p xs) (length xs) (chosen_none (ltb (position_or_len p xs) (length xs)) (position_or_len p xs) none) in
    fails_before_first p xs k d (omega arith)

-- a team that was read is one of those, or none
pub team_ok : (teams : List (List ℕ)) (member : Option Data) (team : Option ℕ) → team_in teams member ≡ Ok team → IsTeamOf (length teams) team
unfolding team_in
team_ok teams None team e = subst (IsTeamOf (length teams)) (answer_is None team e) tt
team_ok teams (Some d) team e =
    elim (either_ok (is_null d) (answer None) (found Kind (as_str d) >>= λ name. found UnknownTeam (place_of teams name) >>= λ t. answer (Some t)) team e) [
      | inl none ↦ subst (IsTeamOf (length teams)) (answer_is None team none) tt
      | inr named ↦
          let n = bind_ok (found Kind (as_str d)) (λ name. found UnknownTeam (place_of teams name) >>= λ t. answer (Some t)) team named in
          let t = bind_ok (found UnknownTeam (place_of teams n.0)) (λ t. answer (Some t)) team n.2 in
          let place = found_ok UnknownTeam (place_of teams n.0) t.0 t.1 in
          subst (IsTeamOf (length teams)) (answer_is (Some t.0) team t.2) (position-Some (λ t. bytes_eq n.0 t) teams t.0 [] place).0
    ]
