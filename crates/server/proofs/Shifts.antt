-- The passes of workers that have ended, and why they ended.
use Rattle.std.proofs.Common.{◌≡◌, ℕ, zero, suc, ◌+◌, ◌<◌, List, [], ◌∷◌, length, Option, refl, sym, ap, ◌∙◌, subst, arith, map}
use Rattle.std.specs.Prelude.{slice_index_or}
use Rattle.std.specs.List.{All}
use Rattle.std.proofs.lemmas.List.Elements.{All-nil, All-cons}
use Rattle.entries.specs.declared.journal.Entry.{Entry}
use Rattle.entries.specs.declared.setup.Setup.{Setup}
use Rattle.turnstile.specs.Histories.{OthersAdded}
use Rattle.turnstile.specs.Passes.{Lock}
use Rattle.arena_lock.specs.Turns.{IsReady, Pass}
use Rattle.arena_lock.specs.Turns.{pass_of as number_in}
use Rattle.server.specs.Evenings.{HasEnded}
use Rattle.server.specs.Shifts.{HasWorked}

-- what holds of each mapped item holds of each item, mapped
pub of_mapped : {X Y : Type 0} (P : Y → Type 0) (f : X → Y) (xs : List X) → All P (map f xs) → All (λ x. P (f x)) xs
of_mapped P f [] all = All-nil (λ x. P (f x))
of_mapped P f (x ∷ xs) all = All-cons (λ x. P (f x)) x xs (all zero (f x) (omega arith)) (of_mapped P f xs (λ k d below. all (suc k) d (omega arith)))

pub map_twice : {X Y Z : Type 0} (g : Y → Z) (f : X → Y) (xs : List X) → map g (map f xs) ≡ map (λ x. g (f x)) xs
map_twice g f [] = refl
map_twice g f (x ∷ xs) = ap (λ ys. g (f x) ∷ ys) (map_twice g f xs)

-- the numbers of these items count up from the first
abbrev pub Counts : {X : Type 0} → (X → ℕ) → ℕ → List X → Type 0
Counts {X} number_of first xs = (i : ℕ) (d : X) → i < length xs → number_of (slice_index_or xs i d) ≡ first + i

module _ {X : Type 0} (lobby : Lock Setup) (number_of : X → ℕ) (told_of : X → Option (List ℕ)) (pass_of : X → Pass) where
  -- each item of the one list has worked by what it had before, at the same place of the other
  abbrev pub Worked : List X → List X → Type 0
  Worked olds news =
      (i : ℕ) (d : X) → i < length olds → HasWorked lobby (number_of (slice_index_or olds i d)) (told_of (slice_index_or olds i d)) (pass_of (slice_index_or news i d))

  rest_worked : (x y : X) (xs ys : List X) → Worked (x ∷ xs) (y ∷ ys) → Worked xs ys
  rest_worked x y xs ys worked = λ i d below. worked (suc i) d (omega arith)

  -- the passes may take further turns, so that their lobby may be closed
  pub all_ready : (olds news : List X) → length news ≡ length olds → Worked olds news → All (IsReady lobby) (map pass_of news)
  all_ready [] [] same worked = All-nil (IsReady lobby)
  all_ready [] (y ∷ ys) same worked = absurd (omega (arith, same))
  all_ready (x ∷ xs) [] same worked = absurd (omega (arith, same))
  all_ready (x ∷ xs) (y ∷ ys) same worked =
      All-cons (IsReady lobby) (pass_of y) (map pass_of ys) (worked zero x (omega arith)).ready
      (all_ready xs ys (omega (arith, same)) (rest_worked x y xs ys worked))

  -- each had its reason to end in a history that begins with what its pass has seen and goes on by others' entries
  pub all_ended : (es : List Entry) (first : ℕ) (olds news : List X) → length news ≡ length olds → Worked olds news → Counts number_of first olds
      → All (λ (p : Pass). OthersAdded number_in p.number p.seen es) (map pass_of news)
      → (i : ℕ) (d : Option (List ℕ)) → i < length (map told_of olds) → HasEnded lobby.fixed es (first + i) (slice_index_or (map told_of olds) i d)
  all_ended es first [] news same worked counts others i d below = absurd (omega (arith, below))
  all_ended es first (x ∷ xs) [] same worked counts others i d below = absurd (omega (arith, same))
  all_ended es first (x ∷ xs) (y ∷ ys) same worked counts others zero d below =
      let w = worked zero x (omega arith) in
      record {
        seen = (pass_of y).seen;
        others = subst (λ n. OthersAdded number_in n (pass_of y).seen es) (w.same ∙ counts zero x (omega arith)) (others zero (pass_of y) (omega arith));
        reason = record { turns = (pass_of y).turns; end = w.end; reason = w.reason };
      }
  all_ended es first (x ∷ xs) (y ∷ ys) same worked counts others (suc i) d below =
      let next : suc first + i ≡ first + suc i = omega arith in
      subst (λ n. HasEnded lobby.fixed es n (slice_index_or (map told_of xs) i d)) next
      (all_ended es (suc first) xs ys (omega (arith, same)) (rest_worked x y xs ys worked) (λ k e few. counts (suc k) e (omega arith) ∙ (let over : first + suc k ≡ suc first + k = omega arith in over))
      (λ k e few. others (suc k) e (omega arith)) i d (omega (arith, below)))
