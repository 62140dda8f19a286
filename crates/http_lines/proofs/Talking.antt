-- The requests of a connection, one after the other.
use Rattle.std.proofs.Common.{◌≡◌, ℕ, ◌+◌, ◌-◌, ◌<◌, Bool, true, false, List, [], ◌∷◌, ◌++◌, length, take, zero, suc, refl, sym, ap, ◌∙◌, subst, arith, append_assoc, take-append-drop}
use Rattle.std.proofs.lemmas.List.{append_cancel_right}
use Rattle.std.specs.Prelude.{MatchBool}
use Rattle.http_lines.specs.declared.request.RequestHead.{RequestHead}
use Rattle.http_lines.specs.First.{First, Outcome, ended, faulted, asked}
use Rattle.http_lines.specs.Talk.{Ending, at_end, in_fault, closed, hundred, EndsBy, AreRequestsUpTo, Read}
use Rattle.http_lines.proofs.Answering.{match_true, match_false}
use Rattle.http_lines.proofs.Firstly.{asked_from_first, first_one, first_there, first_with_more, first_without_more}

-- ---- requests that were read

-- what is left stands at the end of the bytes
read_suffix : (bytes : List ℕ) (requests : List RequestHead) (rest : List ℕ) → Read bytes requests rest → (gone : List ℕ) × (bytes ≡ gone ++ rest)
read_suffix bytes [] rest is = ([], is)
read_suffix bytes (request ∷ requests) rest is =
    let a = asked_from_first bytes request is.0 is.1 in
    let behind = read_suffix is.0 requests rest is.3 in (
      take a.n bytes ++ (a.gone ++ behind.0),
      sym (take-append-drop a.n bytes)
          ∙ ap (λ (l : List ℕ). take a.n bytes ++ l) (a.is ∙ ap (λ (l : List ℕ). a.gone ++ l) behind.1 ∙ sym (append_assoc a.gone behind.0 rest))
          ∙ sym (append_assoc (take a.n bytes) (a.gone ++ behind.0) rest),
    )

pub read_with_more : (bytes rest more : List ℕ) (requests : List RequestHead) → Read bytes requests rest → Read (bytes ++ more) requests (rest ++ more)
read_with_more bytes rest more [] is = ap (λ (l : List ℕ). l ++ more) is
read_with_more bytes rest more (request ∷ requests) is = (
  is.0 ++ more,
  first_with_more bytes is.0 more request is.1,
  is.2,
  read_with_more is.0 rest more requests is.3,
)

pub read_without_more : (bytes rest more : List ℕ) (requests : List RequestHead) → Read (bytes ++ more) requests (rest ++ more) → Read bytes requests rest
read_without_more bytes rest more [] is = append_cancel_right bytes rest more is
read_without_more bytes rest more (request ∷ requests) is =
    let behind = read_suffix is.0 requests (rest ++ more) is.3 in
    let middle = behind.0 ++ rest in
    let whole : is.0 ≡ middle ++ more = behind.1 ∙ sym (append_assoc behind.0 rest more) in (
      middle,
      first_without_more bytes middle more request (subst (λ (l : List ℕ). First (bytes ++ more) (asked request l)) whole is.1),
      is.2,
      read_without_more middle rest more requests (subst (λ (l : List ℕ). Read l requests (rest ++ more)) whole is.3),
    )

pub one_more_read : (bytes middle rest : List ℕ) (requests : List RequestHead) (request : RequestHead) → Read bytes requests middle → First middle (asked request rest) → request.closes ≡ false → Read bytes (requests ++ request ∷ []) rest
one_more_read bytes middle rest [] request is first open_ =
    (rest, subst (λ (l : List ℕ). First l (asked request rest)) (sym is) first, open_, refl)
one_more_read bytes middle rest (q ∷ requests) request is first open_ =
    (is.0, is.1, is.2, one_more_read is.0 middle rest requests request is.3 first open_)

pub read_and_then : (most : ℕ) (bytes middle : List ℕ) (requests more : List RequestHead) (end : Ending) → Read bytes requests middle → AreRequestsUpTo most middle more end → AreRequestsUpTo (length requests + most) bytes (requests ++ more) end
read_and_then most bytes middle [] more end is then' =
    let same : most ≡ 0 + most = omega arith in
    subst (λ (n : ℕ). AreRequestsUpTo n bytes more end) same
    (subst (λ (l : List ℕ). AreRequestsUpTo most l more end) (sym is) then')
read_and_then most bytes middle (request ∷ requests) more end is then' =
    let count = length requests + most in
    let less : count ≡ length (request ∷ requests) + most - 1 = omega arith in
    let rest = subst (λ (n : ℕ). AreRequestsUpTo n is.0 (requests ++ more) end) less (read_and_then most is.0 middle requests more end is.3 then') in (
      omega arith,
      is.0,
      is.1,
      match_false _ _ request.closes is.2 rest,
    )

-- ---- one list of requests

one_end : (most : ℕ) (bytes : List ℕ) (e f : Ending) → EndsBy most bytes e → EndsBy most bytes f → e ≡ f
one_end most bytes at_end at_end p q = refl
one_end most bytes at_end (in_fault x) p q = let same = first_one bytes ended (faulted x) p.1 q.1 in cc
one_end most bytes at_end hundred p q = absurd (omega (arith, p.0, q))
one_end most bytes at_end closed p q = absurd q
one_end most bytes (in_fault x) at_end p q = let same = first_one bytes (faulted x) ended p.1 q.1 in cc
one_end most bytes (in_fault x) (in_fault y) p q = let same = first_one bytes (faulted x) (faulted y) p.1 q.1 in cc
one_end most bytes (in_fault x) hundred p q = absurd (omega (arith, p.0, q))
one_end most bytes (in_fault x) closed p q = absurd q
one_end most bytes hundred at_end p q = absurd (omega (arith, q.0, p))
one_end most bytes hundred (in_fault y) p q = absurd (omega (arith, q.0, p))
one_end most bytes hundred hundred p q = refl
one_end most bytes hundred closed p q = absurd q
one_end most bytes closed f p q = absurd p

no_end : (most : ℕ) (bytes rest : List ℕ) (request : RequestHead) (e : Ending) → EndsBy most bytes e → 0 < most → First bytes (asked request rest) → ⊥
no_end most bytes rest request at_end p some first = let same = first_one bytes ended (asked request rest) p.1 first in cc
no_end most bytes rest request (in_fault x) p some first = let same = first_one bytes (faulted x) (asked request rest) p.1 first in cc
no_end most bytes rest request hundred p some first = omega (arith, p)
no_end most bytes rest request closed p some first = p

one_tail : (closes : Bool) (most : ℕ) (rest : List ℕ) (ones others : List RequestHead) (e f : Ending) → (AreRequestsUpTo most rest ones e → AreRequestsUpTo most rest others f → (ones ≡ others) × (e ≡ f)) → MatchBool closes ((ones ≡ []) × (e ≡ closed)) (AreRequestsUpTo most rest ones e) → MatchBool closes ((others ≡ []) × (f ≡ closed)) (AreRequestsUpTo most rest others f) → (ones ≡ others) × (e ≡ f)
one_tail true most rest ones others e f same p q = (p.0 ∙ sym q.0, p.1 ∙ sym q.1)
one_tail false most rest ones others e f same p q = same p q

abbrev tail_of : ℕ → RequestHead → List ℕ → List RequestHead → Ending → Type 0
tail_of most request rest requests e = MatchBool request.closes ((requests ≡ []) × (e ≡ closed)) (AreRequestsUpTo (most - 1) rest requests e)

pub requests_one : (most : ℕ) (bytes : List ℕ) (ones others : List RequestHead) (e f : Ending) → AreRequestsUpTo most bytes ones e → AreRequestsUpTo most bytes others f → (ones ≡ others) × (e ≡ f)
requests_one most bytes [] [] e f p q = (refl, one_end most bytes e f p q)
requests_one most bytes [] (other ∷ others) e f p q = absurd (no_end most bytes q.1 other e p q.0 q.2)
requests_one most bytes (one ∷ ones) [] e f p q = absurd (no_end most bytes p.1 one f q p.0 p.2)
requests_one most bytes (one ∷ ones) (other ∷ others) e f p q =
    let same = first_one bytes (asked other q.1) (asked one p.1) q.2 p.2 in
    let same_request : other ≡ one = cc in
    let same_rest : q.1 ≡ p.1 = cc in
    let moved : tail_of most one p.1 others f = subst (λ (l : List ℕ). tail_of most one l others f) same_rest (subst (λ (r : RequestHead). tail_of most r q.1 others f) same_request q.3) in
    let tail = one_tail one.closes (most - 1) p.1 ones others e f (requests_one (most - 1) p.1 ones others e f) p.3 moved in
    ((λ i. sym same_request i ∷ tail.0 i), tail.1)

-- ---- some list of requests

there_asked : (m : ℕ) (bytes rest : List ℕ) (request : RequestHead) (closes : Bool) → request.closes ≡ closes → First bytes (asked request rest) → ¬ ((requests : List RequestHead) (e : Ending) → ¬ (AreRequestsUpTo m rest requests e)) → ¬ ((requests : List RequestHead) (e : Ending) → ¬ (AreRequestsUpTo (suc m) bytes requests e))
there_asked m bytes rest request true closes first there none =
    none (request ∷ []) closed (omega arith, rest, first, match_true _ _ request.closes closes (refl, refl))
there_asked m bytes rest request false closes first there none =
    there (λ requests e are. none (request ∷ requests) e (let same : m ≡ suc m - 1 = omega arith in (omega arith, rest, first, match_false _ _ request.closes closes (subst (λ (n : ℕ). AreRequestsUpTo n rest requests e) same are))))

there_by : (m : ℕ) (bytes : List ℕ) (o : Outcome) → First bytes o → ((rest : List ℕ) → ¬ ((requests : List RequestHead) (e : Ending) → ¬ (AreRequestsUpTo m rest requests e))) → ¬ ((requests : List RequestHead) (e : Ending) → ¬ (AreRequestsUpTo (suc m) bytes requests e))
there_by m bytes ended first there none = none [] at_end (omega arith, first)
there_by m bytes (faulted fault) first there none = none [] (in_fault fault) (omega arith, first)
there_by m bytes (asked request rest) first there none = there_asked m bytes rest request request.closes refl first (there rest) none

pub requests_there : (most : ℕ) (bytes : List ℕ) → ¬ ((requests : List RequestHead) (e : Ending) → ¬ (AreRequestsUpTo most bytes requests e))
requests_there zero bytes none = none [] hundred refl
requests_there (suc m) bytes none =
    first_there bytes (λ o first. there_by m bytes o first (requests_there m) none)
