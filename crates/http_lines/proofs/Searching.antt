-- The search for the end of a head, piece by piece.
use Rattle.std.proofs.Common.{◌≡◌, ℕ, ◌+◌, ◌<◌, ◌≤◌, List, [], ◌∷◌, ◌++◌, length, take, drop, Option, Some, None, Result, Ok, Err, IfOk, suc, add-one, refl, sym, ap, ◌∙◌, subst, arith, take-append-drop, length-take-le}
use Rattle.http_lines.specs.HeadEnd.{step, one_more, after_byte, found_from, head_end}
use Rattle.http_lines.specs.declared.place.Place.{Place}
use Rattle.http_lines.specs.declared.place.Place.TheVariants.{Before}

-- so many bytes were searched before
abbrev pub further : ℕ → Result ℕ Place → Result ℕ Place
further k (Ok n) = Ok (k + n)
further k (Err place) = Err place

wrapped : ℕ → Result ℕ Place
wrapped n = Ok n

one_more-further : (k : ℕ) (r : Result ℕ Place) → one_more (further k r) ≡ further (k + 1) r
unfolding wrapped
one_more-further k (Ok n) = let same : k + n + 1 ≡ k + 1 + n = omega arith in ap wrapped same
one_more-further k (Err place) = refl

further-zero : (r : Result ℕ Place) → further 0 r ≡ r
unfolding wrapped
further-zero (Ok n) = let same : 0 + n ≡ n = omega arith in ap wrapped same
further-zero (Err place) = refl

-- a search of some bytes, and then of those behind them
abbrev pub then_search : Result ℕ Place → ℕ → List ℕ → Result ℕ Place
then_search (Ok n) k more = Ok n
then_search (Err place) k more = further k (found_from place more)

one_more-then : (r : Result ℕ Place) (k : ℕ) (more : List ℕ) → one_more (then_search r k more) ≡ then_search (one_more r) (k + 1) more
one_more-then (Ok n) k more = refl
one_more-then (Err place) k more = one_more-further k (found_from place more)

after-append : (next : Option Place) (bytes more : List ℕ) → ((place : Place) → found_from place (bytes ++ more) ≡ then_search (found_from place bytes) (length bytes) more) → after_byte next (λ p. found_from p (bytes ++ more)) ≡ then_search (after_byte next (λ p. found_from p bytes)) (length bytes + 1) more
after-append None bytes more behind = refl
after-append (Some next) bytes more behind =
    ap one_more (behind next) ∙ one_more-then (found_from next bytes) (length bytes) more

pub found_from-append : (place : Place) (bytes more : List ℕ) → found_from place (bytes ++ more) ≡ then_search (found_from place bytes) (length bytes) more
found_from-append place [] more = sym (further-zero (found_from place more))
found_from-append place (b ∷ bytes) more =
    after-append (step place b) bytes more (λ next. found_from-append next bytes more)
    ∙ ap (λ (k : ℕ). then_search (after_byte (step place b) (λ p. found_from p bytes)) k more) (add-one (length bytes))

-- the search goes on in the place where the first bytes end
pub search_goes_on : (bytes : List ℕ) (searched : ℕ) (place : Place) → searched ≤ length bytes → head_end (take searched bytes) ≡ Err place → head_end bytes ≡ further searched (found_from place (drop searched bytes))
search_goes_on bytes searched place within so_far =
    ap head_end (sym (take-append-drop searched bytes))
    ∙ found_from-append Before (take searched bytes) (drop searched bytes)
    ∙ (λ i. then_search (so_far i) (length-take-le searched bytes within i) (drop searched bytes))

-- a head takes at least one byte, and no more than there are
abbrev pub IsLengthIn : ℕ → Result ℕ Place → Type 0
IsLengthIn most r = IfOk r (λ n. (0 < n) × (n ≤ most))

one_more-in : (most : ℕ) (r : Result ℕ Place) → IsLengthIn most r → IsLengthIn (suc most) (one_more r)
one_more-in most (Ok n) within = (omega arith, omega (arith, within.1))
one_more-in most (Err place) within = tt

after-in : (next : Option Place) (bytes : List ℕ) → ((place : Place) → IsLengthIn (length bytes) (found_from place bytes)) → IsLengthIn (suc (length bytes)) (after_byte next (λ p. found_from p bytes))
after-in None bytes behind = (omega arith, omega arith)
after-in (Some next) bytes behind = one_more-in (length bytes) (found_from next bytes) (behind next)

pub found_in : (place : Place) (bytes : List ℕ) → IsLengthIn (length bytes) (found_from place bytes)
found_in place [] = tt
found_in place (b ∷ bytes) = after-in (step place b) bytes (λ next. found_in next bytes)

-- a head that is found lies in the bytes, whatever follows them
pub head_within : (bytes : List ℕ) (n : ℕ) → head_end bytes ≡ Ok n → (0 < n) × (n ≤ length bytes)
head_within bytes n is = subst (IsLengthIn (length bytes)) is (found_in Before bytes)

pub head_end-append : (bytes more : List ℕ) (n : ℕ) → head_end bytes ≡ Ok n → head_end (bytes ++ more) ≡ Ok n
head_end-append bytes more n is =
    found_from-append Before bytes more ∙ ap (λ (r : Result ℕ Place). then_search r (length bytes) more) is

pub head_end-behind : (bytes more : List ℕ) (place : Place) → head_end bytes ≡ Err place → head_end (bytes ++ more) ≡ further (length bytes) (found_from place more)
head_end-behind bytes more place is =
    found_from-append Before bytes more ∙ ap (λ (r : Result ℕ Place). then_search r (length bytes) more) is
