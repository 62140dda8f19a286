-- The part of a path up to its first slash.
use Rattle.std.proofs.Common.{◌≡◌, ℕ, zero, suc, ◌+◌, ◌-◌, ◌<◌, ◌≤◌, List, [], ◌∷◌, ◌++◌, length, drop, take, Bool, true, false, cond, refl, sym, ap, ◌∙◌, arith, ◌==◌, true≢false, nat_lt, ◌&&◌, Option, Some, None, position}
use Rattle.std.proofs.lemmas.Bool.Decides.{nat_tests}
use Rattle.std.proofs.lemmas.Bool.{ltb-false}
use Rattle.std.proofs.lemmas.List.{take_all}
use Rattle.std.specs.List.{before_first, position_or_len}
use Rattle.matchit.specs.Seek.{has_slash, segment}
use Rattle.api.specs.Paths.{part}

take-one : (n b : ℕ) (q : List ℕ) → take (1 + n) (b ∷ q) ≡ b ∷ take n q
take-one n b q = let e : 1 + n ≡ suc n = omega arith in rw e refl

pub part-slash : (q : List ℕ) → part (47 ∷ q) ≡ []
part-slash q = refl

pub part-next : (b : ℕ) (q : List ℕ) → (b == 47) ≡ false → part (b ∷ q) ≡ b ∷ part q
part-next b q e = rw e (take-one _ b q)

-- a path without a slash is one part
pub part-whole : (q : List ℕ) → has_slash q ≡ false → part q ≡ q
part-whole [] h = refl
part-whole (b ∷ q) h = by (b == 47) refl h (part-whole q)
  where
    by : (v : Bool) → (b == 47) ≡ v → cond v true (has_slash q) ≡ false → (has_slash q ≡ false → part q ≡ q) → part (b ∷ q) ≡ b ∷ q
    by true e g ih = absurd (true≢false g)
    by false e g ih = part-next b q e ∙ ap (λ r. b ∷ r) (ih g)

-- a path with a slash: its first part, the slash, and the rest
pub record Cut (path : List ℕ) : Type 0 where
  pub rest : List ℕ
  pub whole : path ≡ part path ++ 47 ∷ rest
  pub part_plain : has_slash (part path) ≡ false

pub cut : (q : List ℕ) → has_slash q ≡ true → Cut q
cut [] h = absurd (true≢false (sym h))
cut (b ∷ q) h = by (b == 47) refl h (cut q)
  where
    by : (v : Bool) → (b == 47) ≡ v → cond v true (has_slash q) ≡ true → (has_slash q ≡ true → Cut q) → Cut (b ∷ q)
    by true e g ih =
        let b47 : b ≡ 47 = grind (arith, nat_tests) in
        rw b47 (record { rest = q; whole = refl; part_plain = refl })
    by false e g ih =
        let c = ih g in
        record {
          rest = c.rest;
          whole = rw (part-next b q e) (ap (λ r. b ∷ r) c.whole);
          part_plain = rw (part-next b q e, e) c.part_plain;
        }

-- what stands behind the first part
pub drop-part : (id q : List ℕ) → drop (length id) (id ++ q) ≡ q
drop-part [] q = refl
drop-part (x ∷ id) q = drop-part id q

pub segment-cut : (id q : List ℕ) → has_slash id ≡ false → segment (id ++ 47 ∷ q) ≡ id ++ 47 ∷ []
segment-cut [] q h = refl
segment-cut (x ∷ id) q h = by (x == 47) refl h (segment-cut id q)
  where
    by : (v : Bool) → (x == 47) ≡ v → cond v true (has_slash id) ≡ false → (has_slash id ≡ false → segment (id ++ 47 ∷ q) ≡ id ++ 47 ∷ [])
        → segment (x ∷ (id ++ 47 ∷ q)) ≡ x ∷ (id ++ 47 ∷ [])
    by true e g ih = absurd (true≢false g)
    by false e g ih = rw e (ap (λ r. x ∷ r) (ih g))

pub segment-whole : (q : List ℕ) → has_slash q ≡ false → segment q ≡ q
segment-whole [] h = refl
segment-whole (b ∷ q) h = by (b == 47) refl h (segment-whole q)
  where
    by : (v : Bool) → (b == 47) ≡ v → cond v true (has_slash q) ≡ false → (has_slash q ≡ false → segment q ≡ q) → segment (b ∷ q) ≡ b ∷ q
    by true e g ih = absurd (true≢false g)
    by false e g ih = rw e (ap (λ r. b ∷ r) (ih g))

some-at : (b : Bool) (n at : ℕ) → cond b (Some n) None ≡ Some at → n ≡ at
some-at true n at is = cc
some-at false n at is = cc

none-at : (b : Bool) (n : ℕ) → cond b (Some n) None ≡ None → b ≡ false
none-at true n is = cc
none-at false n is = refl

-- what stands before the first byte that passes a test, where there is one and where there is none
pub before-some : (p : ℕ → Bool) (xs : List ℕ) (at : ℕ) → position p xs ≡ Some at → before_first p xs ≡ take at xs
before-some p xs at is = ap (λ (n : ℕ). take n xs) (some-at (nat_lt (position_or_len p xs) (length xs)) (position_or_len p xs) at is)

pub before-none : (p : ℕ → Bool) (xs : List ℕ) → position p xs ≡ None → before_first p xs ≡ xs
before-none p xs is = take_all (position_or_len p xs) xs (ltb-false _ _ (none-at (nat_lt (position_or_len p xs) (length xs)) (position_or_len p xs) is))
