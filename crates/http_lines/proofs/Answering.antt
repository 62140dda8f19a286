-- What the reader answers is what the bytes come to first.
use Rattle.std.proofs.Common.{◌≡◌, ◌⊎◌, ℕ, ◌+◌, ◌<◌, ◌≤◌, Bool, true, false, if◌then◌else◌, List, ◌++◌, length, take, drop, Option, Some, None, Result, Ok, Err, IfOk, OnErr, inl, inr, sym, ap, ◌∙◌, subst, arith, append_assoc, length-append, length-drop}
use Rattle.std.specs.Prelude.{nat_le, MatchBool}
use Rattle.std.specs.Io.KnownBytes.{IsAtEnd}
use Rattle.std.proofs.lemmas.Bool.{le-leb, lt-leb}
use Rattle.std.proofs.lemmas.List.{take-append-le, drop-append-le, drop_at}
use Rattle.http_lines.specs.declared.place.Place.{Place}
use Rattle.http_lines.specs.declared.request.RequestHead.{RequestHead}
use Rattle.http_lines.specs.declared.request.Next.{Next}
use Rattle.http_lines.specs.declared.request.Next.TheVariants.{Request}
use Rattle.http_lines.specs.declared.request.NextFault.{NextFault}
use Rattle.http_lines.specs.declared.request.NextFault.TheVariants.{CutOff, BadHead, HeadTooLong, BodyTooLong, BadLength, NotSupported, ReadFault, OutOfMemory}
use Rattle.http_lines.specs.declared.request.TheConstants.{HEAD_LIMIT, BODY_LIMIT}
use Rattle.http_lines.specs.HeadEnd.{head_end}
use Rattle.http_lines.specs.Heads.{Says}
use Rattle.http_lines.specs.First.{First, FirstBy, IsAfterHead, faulted, asked, after_head}
use Rattle.http_lines.specs.Reader.{still_ahead, FirstOf, AnswersFirst, GaveNoRequest, TakesAtMost}
use Rattle.http_lines.specs.Steps.{Skips, SkipsPart, CutOrFault}
use Rattle.http_lines.proofs.Searching.{head_end-append, head_within}

pub match_true : (P Q : Type 0) (b : Bool) → b ≡ true → P → MatchBool b P Q
match_true P Q b is p = subst (λ (x : Bool). MatchBool x P Q) (sym is) p

pub match_false : (P Q : Type 0) (b : Bool) → b ≡ false → Q → MatchBool b P Q
match_false P Q b is q = subst (λ (x : Bool). MatchBool x P Q) (sym is) q

-- ---- a head that is held

-- the first of bytes of which a head is held comes to what the head says
pub first_of_head : (held more : List ℕ) (n : ℕ) (said : Result (RequestHead × ℕ) NextFault) → head_end held ≡ Ok n → n ≤ HEAD_LIMIT → Says (take n held) said → First (held ++ more) (after_head said (drop n held ++ more))
first_of_head held more n said is few says =
    let within = (head_within held n is).1 in
    let bytes = held ++ more in
    let o = after_head said (drop n held ++ more) in
    let front : take n bytes ≡ take n held = take-append-le n held more within in
    let behind : drop n bytes ≡ drop n held ++ more = drop-append-le n held more within in
    let after : IsAfterHead (take n bytes) (drop n bytes) o = (said, subst (λ (piece : List ℕ). Says piece said) (sym front) says, ap (after_head said) (sym behind)) in
    subst (λ (r : Result ℕ Place). FirstBy r bytes o) (sym (head_end-append held more n is))
    (match_true (IsAfterHead (take n bytes) (drop n bytes) o) (o ≡ faulted HeadTooLong) (nat_le n HEAD_LIMIT) (le-leb n HEAD_LIMIT few) after)

-- what a head and its whole body come to
pub after_whole : (request : RequestHead) (body : ℕ) (rest gone kept : List ℕ) → rest ≡ gone ++ kept → length gone ≡ body → after_head (Ok (request, body)) rest ≡ asked request kept
after_whole request body rest gone kept is long =
    let few : body ≤ length rest = omega (arith, ap length is, length-append gone kept) in
    ap (λ (b : Bool). if b then asked request (drop body rest) else faulted CutOff) (le-leb body (length rest) few)
    ∙ ap (asked request) (ap (drop body) is ∙ drop_at gone kept body long)

-- what a head and a part of its body come to
after_part : (request : RequestHead) (body : ℕ) (rest : List ℕ) → length rest < body → after_head (Ok (request, body)) rest ≡ faulted CutOff
after_part request body rest short =
    ap (λ (b : Bool). if b then asked request (drop body rest) else faulted CutOff) (lt-leb body (length rest) short)

-- the bytes that are gone, and then those that are still ahead
gone_then_ahead : (held held' taken gone told told' : List ℕ) → told ≡ taken ++ told' → held ++ taken ≡ gone ++ held' → held ++ told ≡ gone ++ (held' ++ told')
gone_then_ahead held held' taken gone told told' gave is =
    ap (λ (l : List ℕ). held ++ l) gave
    ∙ sym (append_assoc held taken told')
    ∙ ap (λ (l : List ℕ). l ++ told') is
    ∙ append_assoc gone held' told'

-- a request whose head was held
first_asked : (held held' : List ℕ) (left left' : Option (List ℕ)) (n : ℕ) (request : RequestHead) (body : ℕ) → head_end held ≡ Ok n → n ≤ HEAD_LIMIT → Says (take n held) (Ok (request, body)) → Skips body (drop n held) held' left left' → FirstOf (still_ahead held left) (still_ahead held' left') (λ rest. asked request rest)
first_asked held held' None left' n request body is few says skips = tt
first_asked held held' (Some told) None n request body is few says skips = absurd skips.gave
first_asked held held' (Some told) (Some told') n request body is few says skips =
    let all = gone_then_ahead (drop n held) held' skips.taken skips.gone told told' skips.gave skips.is in
    subst (First (held ++ told)) (after_whole request body (drop n held ++ told) skips.gone (held' ++ told') all skips.long)
    (first_of_head held told n (Ok (request, body)) is few says)

-- a request whose body the source cut off
first_cut : (held held' : List ℕ) (left left' : Option (List ℕ)) (n : ℕ) (request : RequestHead) (body : ℕ) → head_end held ≡ Ok n → n ≤ HEAD_LIMIT → Says (take n held) (Ok (request, body)) → SkipsPart body (drop n held) held' left left' → IsAtEnd left' → FirstOf (still_ahead held left) (still_ahead held' left') (λ rest. faulted CutOff)
first_cut held held' None left' n request body is few says part end = tt
first_cut held held' (Some told) None n request body is few says part end = absurd part.2.gave
first_cut held held' (Some told) (Some told') n request body is few says part end =
    let skips = part.2 in
    let all = gone_then_ahead (drop n held) held' skips.taken skips.gone told told' skips.gave skips.is in
    let short : length (drop n held ++ told) < body = omega (arith, ap length all, length-append skips.gone (held' ++ told'), length-append held' told', ap length part.3, ap length end, skips.long, part.1) in
    subst (First (held ++ told)) (after_part request body (drop n held ++ told) short)
    (first_of_head held told n (Ok (request, body)) is few says)

-- a request in whose body the source failed
gave_part : (held held' : List ℕ) (left left' : Option (List ℕ)) (n : ℕ) (request : RequestHead) (body : ℕ) → head_end held ≡ Ok n → n ≤ HEAD_LIMIT → Says (take n held) (Ok (request, body)) → SkipsPart body (drop n held) held' left left' → GaveNoRequest held left left'
gave_part held held' left left' n request body is few says part =
    let skips = part.2 in
    let short : length (drop n held ++ skips.taken) < body = omega (arith, ap length skips.is, length-append skips.gone held', ap length part.3, skips.long, part.1) in (
      skips.taken,
      skips.gave,
      inr (subst (First (held ++ skips.taken)) (after_part request body (drop n held ++ skips.taken) short)
          (first_of_head held skips.taken n (Ok (request, body)) is few says)),
    )

-- a fault of the bytes as the answer that it is
pub answers_fault : (before after : Option (List ℕ)) (fault : NextFault) → FirstOf before after (λ rest. faulted fault) → AnswersFirst before after (Err fault)
answers_fault before after CutOff is = is
answers_fault before after BadHead is = is
answers_fault before after HeadTooLong is = is
answers_fault before after BodyTooLong is = is
answers_fault before after BadLength is = is
answers_fault before after NotSupported is = is
answers_fault before after ReadFault is = tt
answers_fault before after OutOfMemory is = tt

-- a head that is refused
first_refused : (held : List ℕ) (left : Option (List ℕ)) (n : ℕ) (fault : NextFault) → head_end held ≡ Ok n → n ≤ HEAD_LIMIT → Says (take n held) (Err fault) → FirstOf (still_ahead held left) (still_ahead held left) (λ rest. faulted fault)
first_refused held None n fault is few says = tt
first_refused held (Some told) n fault is few says = first_of_head held told n (Err fault) is few says

pub answers_refused : (held : List ℕ) (left : Option (List ℕ)) (n : ℕ) (fault : NextFault) (said : Result (RequestHead × ℕ) NextFault) → head_end held ≡ Ok n → n ≤ HEAD_LIMIT → (said ≡ Err OutOfMemory) ⊎ Says (take n held) said → said ≡ Err fault → AnswersFirst (still_ahead held left) (still_ahead held left) (Err fault)
answers_refused held left n fault said is few (inl none) same =
    let memory : OutOfMemory ≡ fault = cc (none, same) in
    subst (λ (f : NextFault). AnswersFirst (still_ahead held left) (still_ahead held left) (Err f)) memory tt
answers_refused held left n fault said is few (inr says) same =
    answers_fault (still_ahead held left) (still_ahead held left) fault
    (first_refused held left n fault is few (subst (Says (take n held)) same says))

-- what the head of a request that is not refused says
pub says_ok : (piece : List ℕ) (said : Result (RequestHead × ℕ) NextFault) (request : RequestHead) (body : ℕ) → (said ≡ Err OutOfMemory) ⊎ Says piece said → said ≡ Ok (request, body) → Says piece (Ok (request, body))
says_ok piece said request body (inl none) same = cc (none, same)
says_ok piece said request body (inr says) same = subst (Says piece) same says

-- what comes of dropping the body
pub answers_body : (held held' : List ℕ) (left left' : Option (List ℕ)) (n : ℕ) (request : RequestHead) (body faults faults' : ℕ) (result : Result Next NextFault) → head_end held ≡ Ok n → n ≤ HEAD_LIMIT → Says (take n held) (Ok (request, body)) → IfOk result (λ next. (next ≡ Request request) × Skips body (drop n held) held' left left') → OnErr result (SkipsPart body (drop n held) held' left left') → CutOrFault result left' faults faults' → AnswersFirst (still_ahead held left) (still_ahead held' left') result
answers_body held held' left left' n request body faults faults' (Ok next) is few says skips part cause =
    subst (λ (a : Next). AnswersFirst (still_ahead held left) (still_ahead held' left') (Ok a)) (sym skips.0)
    (first_asked held held' left left' n request body is few says skips.1)
answers_body held held' left left' n request body faults faults' (Err CutOff) is few says skips part cause =
    first_cut held held' left left' n request body is few says part cause
answers_body held held' left left' n request body faults faults' (Err ReadFault) is few says skips part cause = tt
answers_body held held' left left' n request body faults faults' (Err OutOfMemory) is few says skips part cause = tt
answers_body held held' left left' n request body faults faults' (Err BadHead) is few says skips part cause = absurd cause
answers_body held held' left left' n request body faults faults' (Err HeadTooLong) is few says skips part cause = absurd cause
answers_body held held' left left' n request body faults faults' (Err BodyTooLong) is few says skips part cause = absurd cause
answers_body held held' left left' n request body faults faults' (Err BadLength) is few says skips part cause = absurd cause
answers_body held held' left left' n request body faults faults' (Err NotSupported) is few says skips part cause = absurd cause

pub gave_body : (held held' : List ℕ) (left left' : Option (List ℕ)) (n : ℕ) (request : RequestHead) (body : ℕ) (result : Result Next NextFault) → head_end held ≡ Ok n → n ≤ HEAD_LIMIT → Says (take n held) (Ok (request, body)) → OnErr result (SkipsPart body (drop n held) held' left left') → result ≡ Err ReadFault → GaveNoRequest held left left'
gave_body held held' left left' n request body (Ok next) is few says part fault = cc
gave_body held held' left left' n request body (Err e) is few says part fault =
    gave_part held held' left left' n request body is few says part

takes_skips : (held held' : List ℕ) (left left' : Option (List ℕ)) (n k : ℕ) → n ≤ length held → n ≤ HEAD_LIMIT → k ≤ BODY_LIMIT → Skips k (drop n held) held' left left' → TakesAtMost (HEAD_LIMIT + BODY_LIMIT) held held' left left'
takes_skips held held' left left' n k within few short skips = (
  skips.taken,
  skips.gave,
  omega (arith, length-drop n held, ap length skips.is, length-append (drop n held) skips.taken, length-append skips.gone held', skips.long),
)

pub takes_body : (held held' : List ℕ) (left left' : Option (List ℕ)) (n : ℕ) (request : RequestHead) (body : ℕ) (result : Result Next NextFault) → head_end held ≡ Ok n → n ≤ HEAD_LIMIT → body ≤ BODY_LIMIT → IfOk result (λ next. (next ≡ Request request) × Skips body (drop n held) held' left left') → OnErr result (SkipsPart body (drop n held) held' left left') → TakesAtMost (HEAD_LIMIT + BODY_LIMIT) held held' left left'
takes_body held held' left left' n request body (Ok next) is few short skips part =
    takes_skips held held' left left' n body (head_within held n is).1 few short skips.1
takes_body held held' left left' n request body (Err e) is few short skips part =
    let least : part.0 ≤ BODY_LIMIT = omega (arith, part.1) in
    takes_skips held held' left left' n part.0 (head_within held n is).1 few least part.2
