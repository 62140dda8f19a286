-- The requests that are read from the bytes of a source, where it tells them.
use Rattle.std.proofs.Common.{◌≡◌, ◌⊎◌, inl, inr, ⊎_elim, ℕ, ◌+◌, ◌*◌, ◌-◌, ◌<◌, ◌≤◌, Bool, true, false, List, [], ◌∷◌, ◌++◌, length, drop, Option, Some, None, refl, sym, ap, ◌∙◌, subst, arith, append_assoc, length-append}
use Rattle.std.specs.Prelude.{MatchBool}
use Rattle.std.proofs.lemmas.List.{append-nil}
use Rattle.std.proofs.Math.Seq.{drop-append_seam}
use Rattle.std.specs.Io.KnownBytes.{Consumes, prepend_known}
use Rattle.conn.specs.Told.{GaveAtMost}
use Rattle.http_lines.specs.declared.request.RequestHead.{RequestHead}
use Rattle.http_lines.specs.declared.request.NextFault.{NextFault}
use Rattle.http_lines.specs.declared.request.NextFault.TheVariants.{CutOff}
use Rattle.http_lines.specs.First.{First, Outcome, ended, faulted, asked}
use Rattle.http_lines.specs.Laws.{RequestsAreOne, ReadOfTheirOwn, OneMoreIsRead, ReadAndThen}
use Rattle.http_lines.specs.Reader.{still_ahead, FirstOf, GaveNoRequest}
use Rattle.http_lines.specs.Talk.{AreRequests, AreRequestsUpTo, Ending, at_end, in_fault, closed, hundred, Read}
use Rattle.host.specs.Spelt.{Spell, SpellIfTold, BeginWith, BeginIfTold, TookOnly, TookOnlyIfTold}
use Rattle.host.specs.Steps.{ReadIfTold, TookAtMost}

match_true : (P Q : Type 0) (b : Bool) → b ≡ true → P → MatchBool b P Q
match_true P Q b e p = subst (λ (x : Bool). MatchBool x P Q) (sym e) p

match_false : (P Q : Type 0) (b : Bool) → b ≡ false → Q → MatchBool b P Q
match_false P Q b e q = subst (λ (x : Bool). MatchBool x P Q) (sym e) q

-- one request more was read
pub read_on : (bytes middle after : Option (List ℕ)) (rs : List RequestHead) (r : RequestHead) → OneMoreIsRead
    → ReadIfTold bytes middle rs → FirstOf middle after (λ rest. asked r rest) → r.closes ≡ false → ReadIfTold bytes after (rs ++ r ∷ [])
read_on None middle after rs r law is first stays = tt
read_on (Some bytes) None after rs r law is first stays = absurd is
read_on (Some bytes) (Some middle) None rs r law is first stays = absurd first
read_on (Some bytes) (Some middle) (Some rest) rs r law is first stays = law bytes middle rest rs r is first stays

-- the bytes end behind the requests that were read, or go on with a fault
spelt_up_to : (most : ℕ) (bytes middle : List ℕ) (rs more : List RequestHead) (ending : Ending) → ReadAndThen
    → Read bytes rs middle → length rs + most ≡ 100 → AreRequestsUpTo most middle more ending → AreRequests bytes (rs ++ more) ending
spelt_up_to most bytes middle rs more ending law is count then' =
    subst (λ (n : ℕ). AreRequestsUpTo n bytes (rs ++ more) ending) count (law most bytes middle rs more ending is then')

ends_here : (bytes middle : List ℕ) (rs : List RequestHead) (before : ℕ) (ending : Ending) → ReadAndThen
    → Read bytes rs middle → length rs ≡ before → before < 100 → AreRequestsUpTo (100 - before) middle [] ending → AreRequests bytes rs ending
ends_here bytes middle rs before ending law is count few then' =
    subst (λ (l : List RequestHead). AreRequests bytes l ending) (append-nil rs)
    (spelt_up_to (100 - before) bytes middle rs [] ending law is (omega arith) then')

pub spelt_to_end : (bytes middle after : Option (List ℕ)) (rs : List RequestHead) (before : ℕ) → ReadAndThen
    → ReadIfTold bytes middle rs → length rs ≡ before → before < 100 → FirstOf middle after (λ rest. ended) → SpellIfTold bytes rs at_end
spelt_to_end None middle after rs before law is count few first = tt
spelt_to_end (Some bytes) None after rs before law is count few first = absurd is
spelt_to_end (Some bytes) (Some middle) None rs before law is count few first = absurd first
spelt_to_end (Some bytes) (Some middle) (Some rest) rs before law is count few first =
    ends_here bytes middle rs before at_end law is count few (omega arith, first)

pub spelt_to_fault : (bytes middle after : Option (List ℕ)) (rs : List RequestHead) (before : ℕ) (f : NextFault) → ReadAndThen
    → ReadIfTold bytes middle rs → length rs ≡ before → before < 100 → FirstOf middle after (λ rest. faulted f) → SpellIfTold bytes rs (in_fault f)
spelt_to_fault None middle after rs before f law is count few first = tt
spelt_to_fault (Some bytes) None after rs before f law is count few first = absurd is
spelt_to_fault (Some bytes) (Some middle) None rs before f law is count few first = absurd first
spelt_to_fault (Some bytes) (Some middle) (Some rest) rs before f law is count few first =
    ends_here bytes middle rs before (in_fault f) law is count few (omega arith, first)

-- a request that closes is the last
pub spelt_to_close : (bytes middle after : Option (List ℕ)) (rs : List RequestHead) (r : RequestHead) (before : ℕ) → ReadAndThen
    → ReadIfTold bytes middle rs → length rs ≡ before → before < 100 → FirstOf middle after (λ rest. asked r rest) → r.closes ≡ true
    → SpellIfTold bytes (rs ++ r ∷ []) closed
spelt_to_close None middle after rs r before law is count few first closes = tt
spelt_to_close (Some bytes) None after rs r before law is count few first closes = absurd is
spelt_to_close (Some bytes) (Some middle) None rs r before law is count few first closes = absurd first
spelt_to_close (Some bytes) (Some middle) (Some rest) rs r before law is count few first closes =
    spelt_up_to (100 - before) bytes middle rs (r ∷ []) closed law is (omega arith)
    (omega arith, rest, first, match_true _ _ r.closes closes (refl, refl))

-- so is the hundredth
pub spelt_to_hundred : (bytes middle : Option (List ℕ)) (rs : List RequestHead) → ReadAndThen
    → ReadIfTold bytes middle rs → length rs ≡ 100 → SpellIfTold bytes rs hundred
spelt_to_hundred None middle rs law is count = tt
spelt_to_hundred (Some bytes) None rs law is count = absurd is
spelt_to_hundred (Some bytes) (Some middle) rs law is count =
    subst (λ (l : List RequestHead). AreRequests bytes l hundred) (append-nil rs)
    (spelt_up_to 0 bytes middle rs [] hundred law is (omega arith) refl)

-- requests that were read stand at the front, and one more behind them
begins : (bytes middle : List ℕ) (rs more : List RequestHead) → Read bytes rs middle → BeginWith middle more → BeginWith bytes (rs ++ more)
begins bytes middle [] more is then' = subst (λ (l : List ℕ). BeginWith l more) (sym is) then'
begins bytes middle (r ∷ rs) more is then' = (is.0, is.1, match_false _ _ r.closes is.2 (begins is.0 middle rs more is.3 then'))

pub begins_read : (bytes middle : Option (List ℕ)) (rs : List RequestHead) → ReadIfTold bytes middle rs → BeginIfTold bytes (rs ++ [])
begins_read None middle rs is = tt
begins_read (Some bytes) None rs is = absurd is
begins_read (Some bytes) (Some middle) rs is = begins bytes middle rs [] is tt

ends_with : (middle rest : List ℕ) (r : RequestHead) → First middle (asked r rest) → (b : Bool) → MatchBool b (◌≡◌ {A = List RequestHead} [] []) (BeginWith rest [])
ends_with middle rest r first true = refl
ends_with middle rest r first false = tt

pub begins_asked : (bytes middle after : Option (List ℕ)) (rs : List RequestHead) (r : RequestHead)
    → ReadIfTold bytes middle rs → FirstOf middle after (λ rest. asked r rest) → BeginIfTold bytes (rs ++ r ∷ [])
begins_asked None middle after rs r is first = tt
begins_asked (Some bytes) None after rs r is first = absurd is
begins_asked (Some bytes) (Some middle) None rs r is first = absurd first
begins_asked (Some bytes) (Some middle) (Some rest) rs r is first =
    begins bytes middle rs (r ∷ []) is (rest, first, ends_with middle rest r first r.closes)

-- a source gave bytes, and then more
gave_more : (first second third : Option (List ℕ)) (taken more : List ℕ) → Consumes first second taken → Consumes second third more → Consumes first third (taken ++ more)
gave_more None second third taken more p q = tt
gave_more (Some bytes) None third taken more p q = absurd p
gave_more (Some bytes) (Some middle) None taken more p q = absurd q
gave_more (Some bytes) (Some middle) (Some rest) taken more p q = p ∙ (ap (λ l. taken ++ l) q ∙ sym (append_assoc taken more rest))

pub took_more : (first second third : Option (List ℕ)) (held held' before : ℕ) (most : ℕ) (more : List ℕ)
    → TookAtMost first second (held + before * most) → Consumes second third more → held + length more ≤ held' + most
    → TookAtMost first third (held' + (before + 1) * most)
took_more first second third held held' before most more p gave few =
    let long = length-append p.taken more in
    let old : length p.taken ≤ held + before * most = p.few in
    let times : (before + 1) * most ≡ before * most + most = grind arith in
    record { taken = p.taken ++ more; gave = gave_more first second third p.taken more p.gave gave; few = omega arith }

pub took_nothing : (left : Option (List ℕ)) → TookAtMost left left 0
took_nothing None = record { taken = []; gave = tt; few = omega arith }
took_nothing (Some bytes) = record { taken = []; gave = refl; few = omega arith }

pub took_at_most : (left left' : Option (List ℕ)) (most more : ℕ) → most ≤ more → TookAtMost left left' most → GaveAtMost left left' more
took_at_most None left' most more le p = tt
took_at_most (Some bytes) None most more le p = absurd p.gave
took_at_most (Some bytes) (Some rest) most more le p =
    let few : length p.taken ≤ most = p.few in
    (length p.taken, omega arith, ap Some (sym (ap (drop (length p.taken)) p.gave ∙ drop-append_seam p.taken rest)))

-- a read failed: the bytes taken have no whole request but those that were answered
pub took_only : (bytes left left' : Option (List ℕ)) (held : List ℕ) (rs : List RequestHead) (before most : ℕ) → ReadOfTheirOwn → ReadAndThen
    → ReadIfTold bytes (still_ahead held left) rs → length rs ≡ before → before < 100
    → TookAtMost bytes left most → GaveNoRequest held left left' → TookOnlyIfTold bytes left' rs
took_only None left left' held rs before most own law is count few took gave = tt
took_only (Some bytes) None left' held rs before most own law is count few took gave = absurd is
took_only (Some bytes) (Some left) None held rs before most own law is count few took gave = absurd gave.1
took_only (Some bytes) (Some left) (Some left') held rs before most own law is count few took gave =
    let taken = took.taken ++ gave.0 in
    let whole : bytes ≡ taken ++ left' = took.gave ∙ (ap (λ l. took.taken ++ l) gave.1 ∙ sym (append_assoc took.taken gave.0 left')) in
    let ahead : held ++ left ≡ (held ++ gave.0) ++ left' = ap (λ l. held ++ l) gave.1 ∙ sym (append_assoc held gave.0 left') in
    let theirs : Read taken rs (held ++ gave.0) =
    (own taken (held ++ gave.0) left' rs).1 (subst (λ (z : List ℕ × List ℕ). Read z.0 rs z.1) (λ i. (whole i, ahead i)) is) in
    record {
      taken = taken;
      split = whole;
      spell = ⊎_elim
          (λ (none : First (held ++ gave.0) ended). inl (ends_here taken (held ++ gave.0) rs before at_end law theirs count few (omega arith, none)))
          (λ (cut : First (held ++ gave.0) (faulted CutOff)). inr (ends_here taken (held ++ gave.0) rs before (in_fault CutOff) law theirs count few (omega arith, cut)))
          gave.2;
    }
