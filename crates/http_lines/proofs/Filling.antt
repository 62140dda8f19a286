-- What the bytes held come to once they were read on, and what was said of them, said of those before.
use Rattle.std.proofs.Common.{◌≡◌, ◌⊎◌, ℕ, ◌+◌, ◌<◌, ◌≤◌, Bool, if◌then◌else◌, List, ◌++◌, length, take, drop, Option, Some, None, Result, Ok, Err, inl, inr, refl, sym, ap, ◌∙◌, subst, arith, append_assoc, append-nil, length-append}
use Rattle.std.specs.Prelude.{nat_le}
use Rattle.std.specs.Io.KnownBytes.{IsAtEnd}
use Rattle.std.proofs.KnownBytes.{Consumes-trans}
use Rattle.std.proofs.lemmas.Bool.{le-leb, lt-leb}
use Rattle.http_lines.specs.declared.place.Place.{Place}
use Rattle.http_lines.specs.declared.place.Place.TheVariants.{Before, BeforeReturn, Inside, Between, BetweenReturn}
use Rattle.http_lines.specs.declared.request.Next.{Next}
use Rattle.http_lines.specs.declared.request.Next.TheVariants.{Request, End}
use Rattle.http_lines.specs.declared.request.NextFault.{NextFault}
use Rattle.http_lines.specs.declared.request.NextFault.TheVariants.{CutOff, BadHead, HeadTooLong, BodyTooLong, BadLength, NotSupported, ReadFault, OutOfMemory}
use Rattle.http_lines.specs.declared.request.TheConstants.{HEAD_LIMIT}
use Rattle.http_lines.specs.HeadEnd.{head_end, found_from}
use Rattle.http_lines.specs.First.{First, FirstBy, IsAfterHead, Outcome, ended, faulted, asked, unfinished, without_head}
use Rattle.http_lines.specs.Reader.{still_ahead, FirstOf, AnswersFirst, GaveNoRequest, TakesAtMost}
use Rattle.http_lines.specs.Steps.{Grew, IsShort, FillsTo}
use Rattle.http_lines.proofs.Answering.{match_false}
use Rattle.http_lines.proofs.Searching.{further, IsLengthIn, found_in, head_end-behind}

-- ---- bytes without a head

-- the first of few bytes without a head
first_of_short : (held : List ℕ) (place : Place) → IsShort place held → First held (unfinished place)
first_of_short held place short =
    let few = lt-leb HEAD_LIMIT (length held) short.1 in
    let o : unfinished place ≡ without_head held place = sym (ap (λ (b : Bool). if b then faulted HeadTooLong else unfinished place) few) in
    subst (λ (r : Result ℕ Place). FirstBy r held (unfinished place)) (sym short.0) o

-- the first of bytes that fill a buffer and have no head in it
full_by : (bytes : List ℕ) (n : ℕ) (r : Result ℕ Place) → HEAD_LIMIT ≤ n → n ≤ length bytes → IsLengthIn (length bytes) r → FirstBy (further n r) bytes (faulted HeadTooLong)
full_by bytes n (Ok k) full within some =
    let long : HEAD_LIMIT < n + k = omega (arith, some.0) in
    match_false (IsAfterHead (take (n + k) bytes) (drop (n + k) bytes) (faulted HeadTooLong)) (faulted HeadTooLong ≡ faulted HeadTooLong) (nat_le (n + k) HEAD_LIMIT) (lt-leb (n + k) HEAD_LIMIT long) refl
full_by bytes n (Err place) full within some =
    sym (ap (λ (b : Bool). if b then faulted HeadTooLong else unfinished place) (le-leb HEAD_LIMIT (length bytes) (omega arith)))

first_of_full : (held more : List ℕ) (place : Place) → head_end held ≡ Err place → length held ≡ HEAD_LIMIT → First (held ++ more) (faulted HeadTooLong)
first_of_full held more place is full =
    let bytes = held ++ more in
    let total = length-append held more in
    let behind : IsLengthIn (length bytes) (found_from place more) = in_more (found_from place more) (length more) (length bytes) (omega (arith, total)) (found_in place more) in
    subst (λ (r : Result ℕ Place). FirstBy r bytes (faulted HeadTooLong)) (sym (head_end-behind held more place is))
    (full_by bytes (length held) (found_from place more) (omega (arith, full)) (omega (arith, total)) behind)
  where
    in_more : (r : Result ℕ Place) (n most : ℕ) → n ≤ most → IsLengthIn n r → IsLengthIn most r
    in_more (Ok k) n most few within = (within.0, omega (arith, within.1))
    in_more (Err p) n most few within = tt

-- what few bytes without a head come to, where nothing follows
first_at_end : (held : List ℕ) (left after : Option (List ℕ)) (place : Place) (o : Outcome) → IsShort place held → unfinished place ≡ o → IsAtEnd left → FirstOf (still_ahead held left) (still_ahead held left) (λ rest. o)
first_at_end held None after place o short same end = tt
first_at_end held (Some told) after place o short same end =
    subst (λ (bytes : List ℕ). First bytes o) (sym (ap (λ (l : List ℕ). held ++ l) end ∙ append-nil held))
    (subst (First held) same (first_of_short held place short))

first_too_long : (held : List ℕ) (left : Option (List ℕ)) (place : Place) → head_end held ≡ Err place → length held ≡ HEAD_LIMIT → FirstOf (still_ahead held left) (still_ahead held left) (λ rest. faulted HeadTooLong)
first_too_long held None place is full = tt
first_too_long held (Some told) place is full = first_of_full held told place is full

end_or_cut : (held : List ℕ) (place : Place) → First held (unfinished place) → First held ended ⊎ First held (faulted CutOff)
end_or_cut held Before is = inl is
end_or_cut held BeforeReturn is = inr is
end_or_cut held Inside is = inr is
end_or_cut held Between is = inr is
end_or_cut held BetweenReturn is = inr is

-- ---- the same of the bytes before the reading

-- the bytes that were ahead are ahead still
same_ahead : (held held' : List ℕ) (taken told told' : List ℕ) → told ≡ taken ++ told' → held' ≡ held ++ taken → held' ++ told' ≡ held ++ told
same_ahead held held' taken told told' gave grew =
    ap (λ (l : List ℕ). l ++ told') grew ∙ append_assoc held taken told' ∙ ap (λ (l : List ℕ). held ++ l) (sym gave)

FirstOf-grew : (held held' : List ℕ) (left left' after : Option (List ℕ)) (o : List ℕ → Outcome) → Grew held held' left left' → FirstOf (still_ahead held' left') after o → FirstOf (still_ahead held left) after o
FirstOf-grew held held' None left' after o grew is = tt
FirstOf-grew held held' (Some told) None after o grew is = absurd grew.1
FirstOf-grew held held' (Some told) (Some told') after o grew is =
    subst (λ (bytes : List ℕ). FirstOf (Some bytes) after o) (same_ahead held held' grew.0 told told' grew.1 grew.2) is

pub AnswersFirst-grew : (held held' : List ℕ) (left left' after : Option (List ℕ)) (result : Result Next NextFault) → Grew held held' left left' → AnswersFirst (still_ahead held' left') after result → AnswersFirst (still_ahead held left) after result
AnswersFirst-grew held held' left left' after (Ok (Request request)) grew is = FirstOf-grew held held' left left' after (λ rest. asked request rest) grew is
AnswersFirst-grew held held' left left' after (Ok End) grew is = FirstOf-grew held held' left left' after (λ rest. ended) grew is
AnswersFirst-grew held held' left left' after (Err ReadFault) grew is = tt
AnswersFirst-grew held held' left left' after (Err OutOfMemory) grew is = tt
AnswersFirst-grew held held' left left' after (Err CutOff) grew is = FirstOf-grew held held' left left' after (λ rest. faulted CutOff) grew is
AnswersFirst-grew held held' left left' after (Err BadHead) grew is = FirstOf-grew held held' left left' after (λ rest. faulted BadHead) grew is
AnswersFirst-grew held held' left left' after (Err HeadTooLong) grew is = FirstOf-grew held held' left left' after (λ rest. faulted HeadTooLong) grew is
AnswersFirst-grew held held' left left' after (Err BodyTooLong) grew is = FirstOf-grew held held' left left' after (λ rest. faulted BodyTooLong) grew is
AnswersFirst-grew held held' left left' after (Err BadLength) grew is = FirstOf-grew held held' left left' after (λ rest. faulted BadLength) grew is
AnswersFirst-grew held held' left left' after (Err NotSupported) grew is = FirstOf-grew held held' left left' after (λ rest. faulted NotSupported) grew is

pub GaveNoRequest-grew : (held held' : List ℕ) (left left' left'' : Option (List ℕ)) → Grew held held' left left' → GaveNoRequest held' left' left'' → GaveNoRequest held left left''
GaveNoRequest-grew held held' left left' left'' grew none = (
  grew.0 ++ none.0,
  Consumes-trans left left' left'' grew.0 none.0 grew.1 none.1,
  subst (λ (bytes : List ℕ). First bytes ended ⊎ First bytes (faulted CutOff))
      (ap (λ (l : List ℕ). l ++ none.0) grew.2 ∙ append_assoc held grew.0 none.0) none.2,
)

pub TakesAtMost-grew : (most : ℕ) (held held' held'' : List ℕ) (left left' left'' : Option (List ℕ)) → Grew held held' left left' → TakesAtMost most held' held'' left' left'' → TakesAtMost most held held'' left left''
TakesAtMost-grew most held held' held'' left left' left'' grew takes = (
  grew.0 ++ takes.0,
  Consumes-trans left left' left'' grew.0 takes.0 grew.1 takes.1,
  omega (arith, length-append grew.0 takes.0, ap length grew.2, length-append held grew.0, takes.2),
)

-- ---- the answers

-- no head came
pub answers_no_head : (held held' : List ℕ) (left left' : Option (List ℕ)) (fault : NextFault) → Grew held held' left left' → FillsTo (Err fault) held' left' → AnswersFirst (still_ahead held left) (still_ahead held' left') (Err fault)
answers_no_head held held' left left' CutOff grew fills =
    FirstOf-grew held held' left left' (still_ahead held' left') (λ rest. faulted CutOff) grew (first_at_end held' left' left' fills.0 (faulted CutOff) fills.1 fills.2 fills.3)
answers_no_head held held' left left' HeadTooLong grew fills =
    FirstOf-grew held held' left left' (still_ahead held' left') (λ rest. faulted HeadTooLong) grew (first_too_long held' left' fills.0 fills.1 fills.2)
answers_no_head held held' left left' ReadFault grew fills = tt
answers_no_head held held' left left' OutOfMemory grew fills = tt
answers_no_head held held' left left' BadHead grew fills = absurd fills
answers_no_head held held' left left' BodyTooLong grew fills = absurd fills
answers_no_head held held' left left' BadLength grew fills = absurd fills
answers_no_head held held' left left' NotSupported grew fills = absurd fills
