-- What it takes that bytes come to a request first.
use Rattle.std.proofs.Common.{◌≡◌, ℕ, ◌+◌, ◌<◌, ◌≤◌, Bool, true, false, if◌then◌else◌, List, [], ◌++◌, length, take, drop, Result, Ok, Err, inl, inr, refl, sym, ap, ◌∙◌, subst, arith, append_assoc, append-nil, length-append, length-drop, length-take-le, take-append-drop}
use Rattle.std.specs.Prelude.{nat_le, MatchBool}
use Rattle.std.proofs.lemmas.Bool.{leb-true, le-leb, lt-leb}
use Rattle.std.proofs.lemmas.List.{take-append-le, drop-append-le, append_cancel_right}
use Rattle.httparse.specs.Grammar.{RequestHead as Head}
use Rattle.httparse.proofs.GrammarLemmas.{request_unique}
use Rattle.http_lines.specs.declared.place.Place.{Place}
use Rattle.http_lines.specs.declared.place.Place.TheVariants.{Before, BeforeReturn, Inside, Between, BetweenReturn}
use Rattle.http_lines.specs.declared.request.RequestHead.{RequestHead}
use Rattle.http_lines.specs.declared.request.NextFault.{NextFault}
use Rattle.http_lines.specs.declared.request.NextFault.TheVariants.{CutOff, BadHead, HeadTooLong}
use Rattle.http_lines.specs.declared.request.TheConstants.{HEAD_LIMIT}
use Rattle.http_lines.specs.HeadEnd.{head_end, found_from}
use Rattle.http_lines.specs.Heads.{Says, Spells, said_by}
use Rattle.http_lines.specs.First.{First, FirstBy, IsAfterHead, Outcome, faulted, asked, unfinished, without_head, after_head}
use Rattle.http_lines.proofs.Pieces.{reads_spelled}
use Rattle.http_lines.proofs.Searching.{further, IsLengthIn, found_in, head_within, head_end-append, head_end-behind}
use Rattle.http_lines.proofs.Answering.{first_of_head, after_whole, match_true, match_false}

-- ---- one outcome

pub says_one : (piece : List ℕ) (a b : Result (RequestHead × ℕ) NextFault) → Says piece a → Says piece b → a ≡ b
says_one piece a b (inl x) (inl y) =
    let same = request_unique piece x.0 y.0 [] [] (reads_spelled piece x.0 x.1) (reads_spelled piece y.0 y.1) in
    x.2 ∙ ap said_by same.0 ∙ sym y.2
says_one piece a b (inl x) (inr y) = absurd (y.0 x.0 x.1)
says_one piece a b (inr x) (inl y) = absurd (x.0 y.0 y.1)
says_one piece a b (inr x) (inr y) = x.1 ∙ sym y.1

one_by_match : (b : Bool) (head rest : List ℕ) (x y : Outcome) → MatchBool b (IsAfterHead head rest x) (x ≡ faulted HeadTooLong) → MatchBool b (IsAfterHead head rest y) (y ≡ faulted HeadTooLong) → x ≡ y
one_by_match true head rest x y p q = p.2 ∙ ap (λ (s : Result (RequestHead × ℕ) NextFault). after_head s rest) (says_one head p.0 q.0 p.1 q.1) ∙ sym q.2
one_by_match false head rest x y p q = p ∙ sym q

one_by_end : (r : Result ℕ Place) (bytes : List ℕ) (x y : Outcome) → FirstBy r bytes x → FirstBy r bytes y → x ≡ y
one_by_end (Ok n) bytes x y p q = one_by_match (nat_le n HEAD_LIMIT) (take n bytes) (drop n bytes) x y p q
one_by_end (Err place) bytes x y p q = p ∙ sym q

pub first_one : (bytes : List ℕ) (x y : Outcome) → First bytes x → First bytes y → x ≡ y
first_one bytes = one_by_end (head_end bytes) bytes

-- ---- some outcome

no_says : (piece : List ℕ) → ((said : Result (RequestHead × ℕ) NextFault) → ¬ (Says piece said)) → ⊥
no_says piece none = none (Err BadHead) (inr (λ h spells. none (said_by h) (inl (h, spells, refl)), refl))

there_by_match : (b : Bool) (head rest : List ℕ) → ((o : Outcome) → ¬ (MatchBool b (IsAfterHead head rest o) (o ≡ faulted HeadTooLong))) → ⊥
there_by_match true head rest none = no_says head (λ said says. none (after_head said rest) (said, says, refl))
there_by_match false head rest none = none (faulted HeadTooLong) refl

there_by_end : (r : Result ℕ Place) (bytes : List ℕ) → ((o : Outcome) → ¬ (FirstBy r bytes o)) → ⊥
there_by_end (Ok n) bytes none = there_by_match (nat_le n HEAD_LIMIT) (take n bytes) (drop n bytes) none
there_by_end (Err place) bytes none = none (without_head bytes place) refl

pub first_there : (bytes : List ℕ) → ¬ ((o : Outcome) → ¬ (First bytes o))
first_there bytes = there_by_end (head_end bytes) bytes

-- the same, of bytes of which it was found out

pub without_a_head : (bytes : List ℕ) (place : Place) → head_end bytes ≡ Err place → (o : Outcome) × First bytes o
without_a_head bytes place is =
    (without_head bytes place, subst (λ (r : Result ℕ Place). FirstBy r bytes (without_head bytes place)) (sym is) refl)

pub with_a_long_head : (bytes : List ℕ) (n : ℕ) → head_end bytes ≡ Ok n → HEAD_LIMIT < n → (o : Outcome) × First bytes o
with_a_long_head bytes n is long = (
  faulted HeadTooLong,
  subst (λ (r : Result ℕ Place). FirstBy r bytes (faulted HeadTooLong)) (sym is)
      (match_false (IsAfterHead (take n bytes) (drop n bytes) (faulted HeadTooLong)) (faulted HeadTooLong ≡ faulted HeadTooLong) (nat_le n HEAD_LIMIT) (lt-leb n HEAD_LIMIT long) refl),
)

with_a_head : (bytes : List ℕ) (n : ℕ) (said : Result (RequestHead × ℕ) NextFault) → head_end bytes ≡ Ok n → n ≤ HEAD_LIMIT → Says (take n bytes) said → (o : Outcome) × First bytes o
with_a_head bytes n said is few says =
    let o = after_head said (drop n bytes) in (
      o,
      subst (λ (r : Result ℕ Place). FirstBy r bytes o) (sym is)
          (match_true (IsAfterHead (take n bytes) (drop n bytes) o) (o ≡ faulted HeadTooLong) (nat_le n HEAD_LIMIT) (le-leb n HEAD_LIMIT few) (said, says, refl)),
    )

pub with_a_piece : (bytes : List ℕ) (n : ℕ) (is_head : Bool) → head_end bytes ≡ Ok n → n ≤ HEAD_LIMIT → (is_head ≡ true → (h : Head) × Spells (take n bytes) h) → (is_head ≡ false → (h : Head) → ¬ (Spells (take n bytes) h)) → (o : Outcome) × First bytes o
with_a_piece bytes n true is few spells none =
    let h = spells refl in
    with_a_head bytes n (said_by h.0) is few (inl (h.0, h.1, refl))
with_a_piece bytes n false is few spells none = with_a_head bytes n (Err BadHead) is few (inr (none refl, refl))

-- ---- a request

-- the head that the bytes begin with, and its body
pub record IsAsked (bytes : List ℕ) (request : RequestHead) (rest : List ℕ) : Type 0 where
  pub n : ℕ
  pub body : ℕ
  pub gone : List ℕ
  pub ends : head_end bytes ≡ Ok n
  pub few : n ≤ HEAD_LIMIT
  pub says : Says (take n bytes) (Ok (request, body))
  pub is : drop n bytes ≡ gone ++ rest
  pub long : length gone ≡ body

pub first_from_asked : (bytes : List ℕ) (request : RequestHead) (rest : List ℕ) → IsAsked bytes request rest → First bytes (asked request rest)
first_from_asked bytes request rest a =
    let o = after_whole request a.body (drop a.n bytes) a.gone rest a.is a.long in
    let first = first_of_head bytes [] a.n (Ok (request, a.body)) a.ends a.few a.says in
    subst (λ (l : List ℕ). First l (asked request rest)) (append-nil bytes)
    (subst (First (bytes ++ [])) (ap (after_head (Ok (request, a.body))) (append-nil (drop a.n bytes)) ∙ o) first)

no_request_of : (bytes : List ℕ) (long : Bool) (place : Place) (request : RequestHead) (rest : List ℕ) → asked request rest ≡ (if long then faulted HeadTooLong else unfinished place) → ⊥
no_request_of bytes true place request rest is = cc
no_request_of bytes false Before request rest is = cc
no_request_of bytes false BeforeReturn request rest is = cc
no_request_of bytes false Inside request rest is = cc
no_request_of bytes false Between request rest is = cc
no_request_of bytes false BetweenReturn request rest is = cc

asked_by_body : (bytes : List ℕ) (n : ℕ) (q : RequestHead) (body : ℕ) (whole : Bool) (request : RequestHead) (rest : List ℕ) → whole ≡ nat_le body (length (drop n bytes)) → head_end bytes ≡ Ok n → n ≤ HEAD_LIMIT → Says (take n bytes) (Ok (q, body)) → asked request rest ≡ (if whole then asked q (drop body (drop n bytes)) else faulted CutOff) → IsAsked bytes request rest
asked_by_body bytes n q body true request rest fits ends few says is =
    let same : q ≡ request = cc in
    let behind : drop body (drop n bytes) ≡ rest = cc in
    record {
      n = n;
      body = body;
      gone = take body (drop n bytes);
      ends = ends;
      few = few;
      says = subst (λ (r : RequestHead). Says (take n bytes) (Ok (r, body))) same says;
      is = sym (take-append-drop body (drop n bytes)) ∙ ap (λ (l : List ℕ). take body (drop n bytes) ++ l) behind;
      long = length-take-le body (drop n bytes) (leb-true body (length (drop n bytes)) (sym fits));
    }
asked_by_body bytes n q body false request rest fits ends few says is = absurd cc

asked_by_said : (bytes : List ℕ) (n : ℕ) (said : Result (RequestHead × ℕ) NextFault) (request : RequestHead) (rest : List ℕ) → head_end bytes ≡ Ok n → n ≤ HEAD_LIMIT → Says (take n bytes) said → asked request rest ≡ after_head said (drop n bytes) → IsAsked bytes request rest
asked_by_said bytes n (Ok (q, body)) request rest ends few says is =
    asked_by_body bytes n q body (nat_le body (length (drop n bytes))) request rest refl ends few says is
asked_by_said bytes n (Err fault) request rest ends few says is = absurd cc

asked_by_match : (bytes : List ℕ) (n : ℕ) (b : Bool) (request : RequestHead) (rest : List ℕ) → b ≡ nat_le n HEAD_LIMIT → head_end bytes ≡ Ok n → MatchBool b (IsAfterHead (take n bytes) (drop n bytes) (asked request rest)) (asked request rest ≡ faulted HeadTooLong) → IsAsked bytes request rest
asked_by_match bytes n true request rest few ends is =
    asked_by_said bytes n is.0 request rest ends (leb-true n HEAD_LIMIT (sym few)) is.1 is.2
asked_by_match bytes n false request rest few ends is = absurd cc

asked_by_end : (bytes : List ℕ) (r : Result ℕ Place) (request : RequestHead) (rest : List ℕ) → head_end bytes ≡ r → FirstBy r bytes (asked request rest) → IsAsked bytes request rest
asked_by_end bytes (Ok n) request rest ends is = asked_by_match bytes n (nat_le n HEAD_LIMIT) request rest refl ends is
asked_by_end bytes (Err place) request rest ends is = absurd (no_request_of bytes (nat_le HEAD_LIMIT (length bytes)) place request rest is)

pub asked_from_first : (bytes : List ℕ) (request : RequestHead) (rest : List ℕ) → First bytes (asked request rest) → IsAsked bytes request rest
asked_from_first bytes request rest is = asked_by_end bytes (head_end bytes) request rest refl is

-- ---- what follows

asked_with_more : (bytes rest more : List ℕ) (request : RequestHead) → IsAsked bytes request rest → IsAsked (bytes ++ more) request (rest ++ more)
asked_with_more bytes rest more request a =
    let within = (head_within bytes a.n a.ends).1 in
    record {
      n = a.n;
      body = a.body;
      gone = a.gone;
      ends = head_end-append bytes more a.n a.ends;
      few = a.few;
      says = subst (λ (l : List ℕ). Says l (Ok (request, a.body))) (sym (take-append-le a.n bytes more within)) a.says;
      is = drop-append-le a.n bytes more within ∙ ap (λ (l : List ℕ). l ++ more) a.is ∙ append_assoc a.gone rest more;
      long = a.long;
    }

-- a head that ends within the first bytes ends there without those that follow
ends_before : (bytes more : List ℕ) (r : Result ℕ Place) (n : ℕ) → head_end bytes ≡ r → head_end (bytes ++ more) ≡ Ok n → n ≤ length bytes → r ≡ Ok n
ends_before bytes more (Ok m) n is all within = sym (head_end-append bytes more m is) ∙ all
ends_before bytes more (Err place) n is all within =
    absurd (past (found_from place more) (found_in place more) (sym (head_end-behind bytes more place is) ∙ all))
  where
    past : (r : Result ℕ Place) → IsLengthIn (length more) r → further (length bytes) r ≡ Ok n → ⊥
    past (Ok k) some same = let sum : length bytes + k ≡ n = cc in omega (arith, some.0)
    past (Err p) some same = cc

asked_without_more : (bytes rest more : List ℕ) (request : RequestHead) → IsAsked (bytes ++ more) request (rest ++ more) → IsAsked bytes request rest
asked_without_more bytes rest more request a =
    let within = (head_within (bytes ++ more) a.n a.ends).1 in
    let n_in : a.n ≤ length bytes = omega (arith, length-append bytes more, length-drop a.n (bytes ++ more), ap length a.is, length-append a.gone (rest ++ more), length-append rest more) in
    record {
      n = a.n;
      body = a.body;
      gone = a.gone;
      ends = ends_before bytes more (head_end bytes) a.n refl a.ends n_in;
      few = a.few;
      says = subst (λ (l : List ℕ). Says l (Ok (request, a.body))) (take-append-le a.n bytes more n_in) a.says;
      is = append_cancel_right (drop a.n bytes) (a.gone ++ rest) more (sym (drop-append-le a.n bytes more n_in) ∙ a.is ∙ sym (append_assoc a.gone rest more));
      long = a.long;
    }

pub first_with_more : (bytes rest more : List ℕ) (request : RequestHead) → First bytes (asked request rest) → First (bytes ++ more) (asked request (rest ++ more))
first_with_more bytes rest more request is =
    first_from_asked (bytes ++ more) request (rest ++ more) (asked_with_more bytes rest more request (asked_from_first bytes request rest is))

pub first_without_more : (bytes rest more : List ℕ) (request : RequestHead) → First (bytes ++ more) (asked request (rest ++ more)) → First bytes (asked request rest)
first_without_more bytes rest more request is =
    first_from_asked bytes request rest (asked_without_more bytes rest more request (asked_from_first (bytes ++ more) request (rest ++ more) is))
