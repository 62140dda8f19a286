-- A history that goes on behind what a pass has seen by entries of others.
use Rattle.std.proofs.Common.{◌≡◌, ◌≢◌, ℕ, ◌<◌, true, false, eqb, cond, Bool, List, [], ◌∷◌, ◌++◌, drop, None, Option, zero, suc, length, refl, sym, ap, ◌∙◌, subst, arith, append-nil, eq-eqb}
use Rattle.std.specs.Prelude.{slice_index_or}
use Rattle.std.specs.List.{All, Any}
use Rattle.std.proofs.lemmas.List.Elements.{All-cons, All-head, All-nil, All-tail, Contains-get_or}
use mathlib.Core.List.{IsPrefix}
use Rattle.entries.specs.declared.journal.Entry.{Entry}
use Rattle.entries.specs.declared.setup.Setup.{Setup}
use Rattle.turnstile.specs.Histories.{own, OthersAdded}
use Rattle.arena_lock.specs.Turns.{pass_of}
use Rattle.server.specs.Evenings.{HadReason, HasEnded, IsEvening, SomeoneSawItWhole}

module _ {E : Type 0} (by : E → ℕ) (i : ℕ) where
  -- what one list keeps of its first item, both keep
  rest_same : (b : Bool) (x : E) (xs ys : List E) → cond b (x ∷ xs) xs ≡ cond b (x ∷ ys) ys → xs ≡ ys
  rest_same true x xs ys is = ap (λ l. drop 1 l) is
  rest_same false x xs ys is = is

  none_more : (seen rest : List E) → own by i (seen ++ rest) ≡ own by i seen → own by i rest ≡ []
  none_more [] rest is = is
  none_more (x ∷ xs) rest is = none_more xs rest (rest_same (eqb (by x) i) x (own by i (xs ++ rest)) (own by i xs) is)

  not_kept : (x : E) (xs : List E) → own by i (x ∷ xs) ≡ [] → by x ≢ i
  not_kept x xs is same =
      let bad : x ∷ own by i xs ≡ [] = sym (ap (λ b. cond b (x ∷ own by i xs) (own by i xs)) (eq-eqb (by x) i same)) ∙ is in absurd (cc)

  rest_none : (b : Bool) (x : E) (xs : List E) → cond b (x ∷ xs) xs ≡ [] → xs ≡ []
  rest_none true x xs is = absurd (let bad : x ∷ xs ≡ [] = is in cc)
  rest_none false x xs is = is

  all_others : (rest : List E) → own by i rest ≡ [] → All (λ e. by e ≢ i) rest
  all_others [] is = All-nil (λ (e : E). by e ≢ i)
  all_others (x ∷ xs) is = All-cons (λ (e : E). by e ≢ i) x xs (not_kept x xs is) (all_others xs (rest_none (eqb (by x) i) x (own by i xs) is))

  -- a history that begins with what was seen, and has no more of its own than that
  pub by_others : (seen history : List E) → IsPrefix seen history → own by i history ≡ own by i seen → OthersAdded by i seen history
  by_others seen history begins same = record {
    rest = begins.0;
    goes_on = sym begins.1;
    by_others = all_others begins.0 (none_more seen begins.0 (ap (own by i) begins.1 ∙ same));
  }

-- the number of the last entry, or this one where there is none
abbrev last_number : ℕ → List Entry → ℕ
last_number n [] = n
last_number n (e ∷ es) = last_number e.pass es

last_behind : (n : ℕ) (xs ys : List Entry) → last_number n (xs ++ ys) ≡ last_number (last_number n xs) ys
last_behind n [] ys = refl
last_behind n (x ∷ xs) ys = last_behind x.pass xs ys

last_below : (most n : ℕ) (es : List Entry) → n < most → All (λ (e : Entry). e.pass < most) es → last_number n es < most
last_below most n [] few all = few
last_below most n (e ∷ es) few all = last_below most e.pass es (All-head (λ (e : Entry). e.pass < most) e es all) (All-tail (λ (e : Entry). e.pass < most) e es all)

never_last : (i n : ℕ) (es : List Entry) → n ≢ i → All (λ (e : Entry). e.pass ≢ i) es → last_number n es ≢ i
never_last i n [] other all = other
never_last i n (e ∷ es) other all = never_last i e.pass es (All-head (λ (e : Entry). e.pass ≢ i) e es all) (All-tail (λ (e : Entry). e.pass ≢ i) e es all)

none_behind : (i n : ℕ) (es : List Entry) → All (λ (e : Entry). e.pass ≢ i) es → last_number n es ≡ i → es ≡ []
none_behind i n [] all is = refl
none_behind i n (e ∷ es) all is =
    absurd (never_last i e.pass es (All-head (λ (e : Entry). e.pass ≢ i) e es all) (All-tail (λ (e : Entry). e.pass ≢ i) e es all) is)

-- whose entry is the last, his pass has seen all
saw_whole : (es : List Entry) (i n : ℕ) (seen : List Entry) → OthersAdded pass_of i seen es → last_number n es ≡ i → seen ≡ es
saw_whole es i n seen others is =
    let behind : last_number (last_number n seen) others.rest ≡ i = sym (last_behind n seen others.rest) ∙ (ap (last_number n) (sym others.goes_on) ∙ is) in
    sym (others.goes_on ∙ (ap (λ l. seen ++ l) (none_behind i (last_number n seen) others.rest others.by_others behind) ∙ append-nil seen))

pub someone_saw_it_whole : SomeoneSawItWhole
someone_saw_it_whole s clocks es some evening =
    let i = last_number 0 es in
    let below : i < length clocks = last_below (length clocks) 0 es some evening.numbers in
    let ended : HasEnded s es i (slice_index_or clocks i None) = evening.ended i None below in
    let at = Contains-get_or clocks i None below in
    let whole : ended.seen ≡ es = saw_whole es i 0 ended.seen ended.others refl in
    (at.0, slice_index_or clocks i None, at.1, at.2, subst (λ seen. HadReason s seen (slice_index_or clocks i None)) whole ended.reason)
