-- Where a head ends, in lines.
use Rattle.std.proofs.Common.{◌≡◌, ◌≢◌, inl, inr, ⊎_elim, ℕ, ◌+◌, ◌≤◌, Bool, true, false, List, [], ◌∷◌, ◌++◌, length, take, drop, Option, Some, None, Result, Ok, Err, add-one, refl, sym, ap, ◌∙◌, subst, arith, append_assoc, length-append, take-append-drop, length-take-le}
use Rattle.std.specs.Prelude.{cond, ◌==◌, ◌↔◌}
use Rattle.std.specs.List.{AllByRecursion, concat}
use Rattle.std.proofs.lemmas.Bool.{cases_Bool, eqb-true, eq-eqb, ne_eqb}
use Rattle.std.proofs.lemmas.List.{append-nil}
use Rattle.std.proofs.lemmas.List.Folds.{concat-append}
use Rattle.http_lines.specs.declared.place.Place.{Place}
use Rattle.http_lines.specs.declared.place.Place.TheVariants.{Before, BeforeReturn, Inside, Between, BetweenReturn}
use Rattle.http_lines.specs.HeadEnd.{step, one_more, after_byte, found_from, head_end}
use Rattle.http_lines.specs.HeadLines.{IsEmptyLine, IsTextLine, IsHeadInLines}
use Rattle.http_lines.proofs.Searching.{further, then_search, found_from-append, head_within, head_end-append}

-- what lines make of the search

after_empty : (line : List ℕ) → IsEmptyLine line → found_from Before line ≡ Err Before
after_empty line (inl is) = ap (found_from Before) is
after_empty line (inr is) = ap (found_from Before) is

at_end : (line : List ℕ) → IsEmptyLine line → found_from Between line ≡ Ok (length line)
at_end line (inl is) = ap (found_from Between) is ∙ ap (λ (l : List ℕ). Ok (length l)) (sym is)
at_end line (inr is) = ap (found_from Between) is ∙ ap (λ (l : List ℕ). Ok (length l)) (sym is)

inside_step : (b : ℕ) → b ≢ 10 → step Inside b ≡ Some Inside
inside_step b other = ap (λ t. cond t (Some Between) (Some Inside)) (ne_eqb b 10 other)

-- the rest of a line that is not empty
rest_of_line : (text : List ℕ) → AllByRecursion (λ b. b ≢ 10) text → found_from Inside (text ++ 10 ∷ []) ≡ Err Between
rest_of_line [] whole = refl
rest_of_line (b ∷ text) whole = ap (λ o. after_byte o (λ next. found_from next (text ++ 10 ∷ []))) (inside_step b whole.0) ∙ ap one_more (rest_of_line text whole.1)

-- a place at a line's beginning, and the one behind a CR there
module _ (start after : Place) (first : (b : ℕ) → b ≢ 10 → step start b ≡ cond (b == 13) (Some after) (Some Inside)) (second : (b : ℕ) → b ≢ 10 → step after b ≡ Some Inside) where
  text_line : (text : List ℕ) → AllByRecursion (λ b. b ≢ 10) text → text ≢ [] → text ≢ 13 ∷ [] → found_from start (text ++ 10 ∷ []) ≡ Err Between
  text_line [] whole some other = absurd (some refl)
  text_line (b ∷ []) whole some other =
      let no_return : (b == 13) ≡ false = ne_eqb b 13 (λ same. other (ap (λ c. c ∷ []) same)) in
      ap (λ o. after_byte o (λ next. found_from next (10 ∷ []))) (first b whole.0 ∙ ap (λ t. cond t (Some after) (Some Inside)) no_return)
  text_line (b ∷ c ∷ text) whole some other =
      ap (λ o. after_byte o (λ next. found_from next (c ∷ (text ++ 10 ∷ [])))) (first b whole.0)
      ∙ ⊎_elim
      (λ (on : (b == 13) ≡ true).
      ap (λ t. after_byte (cond t (Some after) (Some Inside)) (λ next. found_from next (c ∷ (text ++ 10 ∷ [])))) on
      ∙ ap one_more (ap (λ o. after_byte o (λ next. found_from next (text ++ 10 ∷ []))) (second c whole.1.0) ∙ ap one_more (rest_of_line text whole.1.1)))
      (λ (off : (b == 13) ≡ false).
      ap (λ t. after_byte (cond t (Some after) (Some Inside)) (λ next. found_from next (c ∷ (text ++ 10 ∷ [])))) off
      ∙ ap one_more (rest_of_line (c ∷ text) whole.1))
      (cases_Bool (b == 13))

  after_text : (line : List ℕ) → IsTextLine line → found_from start line ≡ Err Between
  after_text line is =
      ap (found_from start) is.0.ends
      ∙ text_line is.0.text is.0.whole (λ none. is.1 (inl (is.0.ends ∙ ap (λ t. t ++ 10 ∷ []) none))) (λ only. is.1 (inr (is.0.ends ∙ ap (λ t. t ++ 10 ∷ []) only)))

before_step : (b : ℕ) → b ≢ 10 → step Before b ≡ cond (b == 13) (Some BeforeReturn) (Some Inside)
before_step b other = ap (λ t. cond t (Some Before) (cond (b == 13) (Some BeforeReturn) (Some Inside))) (ne_eqb b 10 other)

before_return_step : (b : ℕ) → b ≢ 10 → step BeforeReturn b ≡ Some Inside
before_return_step b other = ap (λ t. cond t (Some Before) (Some Inside)) (ne_eqb b 10 other)

between_step : (b : ℕ) → b ≢ 10 → step Between b ≡ cond (b == 13) (Some BetweenReturn) (Some Inside)
between_step b other = ap (λ t. cond t None (cond (b == 13) (Some BetweenReturn) (Some Inside))) (ne_eqb b 10 other)

between_return_step : (b : ℕ) → b ≢ 10 → step BetweenReturn b ≡ Some Inside
between_return_step b other = ap (λ t. cond t None (Some Inside)) (ne_eqb b 10 other)

-- lines one after the other

then_lines : (place next : Place) (line more : List ℕ) → found_from place line ≡ Err next → found_from place (line ++ more) ≡ further (length line) (found_from next more)
then_lines place next line more is = found_from-append place line more ∙ ap (λ r. then_search r (length line) more) is

empty_lines : (lines : List (List ℕ)) → AllByRecursion IsEmptyLine lines → found_from Before (concat lines) ≡ Err Before
empty_lines [] all = refl
empty_lines (line ∷ lines) all =
    then_lines Before Before line (concat lines) (after_empty line all.0) ∙ ap (further (length line)) (empty_lines lines all.1)

more_lines : (lines : List (List ℕ)) → AllByRecursion IsTextLine lines → found_from Between (concat lines) ≡ Err Between
more_lines [] all = refl
more_lines (line ∷ lines) all =
    then_lines Between Between line (concat lines) (after_text Between BetweenReturn between_step between_return_step line all.0) ∙ ap (further (length line)) (more_lines lines all.1)

text_lines : (lines : List (List ℕ)) → AllByRecursion IsTextLine lines → lines ≢ [] → found_from Before (concat lines) ≡ Err Between
text_lines [] all some = absurd (some refl)
text_lines (line ∷ lines) all some =
    then_lines Before Between line (concat lines) (after_text Before BeforeReturn before_step before_return_step line all.0) ∙ ap (further (length line)) (more_lines lines all.1)

found_at : ℕ → Result ℕ Place
found_at n = Ok n

-- a head in lines is found whole
head_found : (head : List ℕ) → IsHeadInLines head → head_end head ≡ Ok (length head)
unfolding found_at
head_found head is =
    let long : length (concat is.before) + (length (concat is.lines) + length is.last) ≡ length head =
    omega (arith, ap length is.joined, length-append (concat is.before) (concat is.lines ++ is.last), length-append (concat is.lines) is.last) in
    ap head_end is.joined
    ∙ then_lines Before Before (concat is.before) (concat is.lines ++ is.last) (empty_lines is.before is.skipped)
    ∙ ap (further (length (concat is.before))) (then_lines Before Between (concat is.lines) is.last (text_lines is.lines is.not_empty is.some) ∙ ap (further (length (concat is.lines))) (at_end is.last is.empty))
    ∙ ap found_at long

head_at : (bytes : List ℕ) (n : ℕ) → n ≤ length bytes → IsHeadInLines (take n bytes) → head_end bytes ≡ Ok n
unfolding found_at
head_at bytes n within is =
    ap head_end (sym (take-append-drop n bytes))
    ∙ head_end-append (take n bytes) (drop n bytes) (length (take n bytes)) (head_found (take n bytes) is)
    ∙ ap found_at (length-take-le n bytes within)

-- what stands behind the whole lines at a place
abbrev Stands : Place → List (List ℕ) → List ℕ → Type 0
Stands Before lines rest = (lines ≡ []) × (rest ≡ [])
Stands BeforeReturn lines rest = (lines ≡ []) × (rest ≡ 13 ∷ [])
Stands Inside lines rest = AllByRecursion (λ b. b ≢ 10) rest × (rest ≢ []) × (rest ≢ 13 ∷ [])
Stands Between lines rest = (lines ≢ []) × (rest ≡ [])
Stands BetweenReturn lines rest = (lines ≢ []) × (rest ≡ 13 ∷ [])

-- the bytes so far: empty lines, lines that are not empty, and what of a line has come
record IsAt (place : Place) (bytes : List ℕ) : Type 0 where
  before : List (List ℕ)
  lines : List (List ℕ)
  rest : List ℕ
  skipped : AllByRecursion IsEmptyLine before
  not_empty : AllByRecursion IsTextLine lines
  joined : bytes ≡ concat before ++ (concat lines ++ rest)
  stands : Stands place lines rest

-- one byte more

all_append : {X : Type 0} (P : X → Type 0) (xs ys : List X) → AllByRecursion P xs → AllByRecursion P ys → AllByRecursion P (xs ++ ys)
all_append P [] ys all more = more
all_append P (x ∷ xs) ys all more = (all.0, all_append P xs ys all.1 more)

one_behind : {X : Type 0} (xs : List X) (x : X) → xs ++ x ∷ [] ≢ []
one_behind [] x none = cc
one_behind (y ∷ xs) x none = cc

-- bytes with one more that are one byte have none before it
only_one : (bytes : List ℕ) (b c : ℕ) → bytes ++ b ∷ [] ≡ c ∷ [] → (bytes ≡ []) × (b ≡ c)
only_one [] b c same = (refl, cc)
only_one (x ∷ bytes) b c same = let rest : bytes ++ b ∷ [] ≡ [] = cc in absurd (one_behind bytes b rest)

-- bytes with one more that are two have one before it
two_bytes : (bytes : List ℕ) (b c d : ℕ) → bytes ++ b ∷ [] ≡ c ∷ d ∷ [] → bytes ≡ c ∷ []
two_bytes [] b c d same = cc
two_bytes (x ∷ bytes) b c d same = let first : x ≡ c = cc in let rest : bytes ++ b ∷ [] ≡ d ∷ [] = cc in λ i. first i ∷ (only_one bytes b d rest).0 i

concat-push : (lines : List (List ℕ)) (line : List ℕ) → concat (lines ++ line ∷ []) ≡ concat lines ++ line
concat-push lines line = concat-append lines (line ∷ []) ∙ ap (λ l. concat lines ++ l) (append-nil line)

differs : (a b : ℕ) → (a == b) ≡ false → a ≢ b
differs a b off same = let never : true ≡ false = sym (eq-eqb a b same) ∙ off in cc

one_byte : (b c : ℕ) → (b == c) ≡ true → b ∷ [] ≡ c ∷ []
one_byte b c on = ap (λ x. x ∷ []) (eqb-true b c on)

module _ (place : Place) (bytes : List ℕ) (b : ℕ) (at : IsAt place bytes) where
  with_byte : bytes ++ b ∷ [] ≡ concat at.before ++ (concat at.lines ++ (at.rest ++ b ∷ []))
  with_byte =
      ap (λ l. l ++ b ∷ []) at.joined
      ∙ append_assoc (concat at.before) (concat at.lines ++ at.rest) (b ∷ [])
      ∙ ap (λ l. concat at.before ++ l) (append_assoc (concat at.lines) at.rest (b ∷ []))

  -- it goes on a line
  goes_on : (next : Place) → Stands next at.lines (at.rest ++ b ∷ []) → IsAt next (bytes ++ b ∷ [])
  goes_on next stands = record { before = at.before; lines = at.lines; rest = at.rest ++ b ∷ []; skipped = at.skipped; not_empty = at.not_empty; joined = with_byte; stands = stands }

  -- it goes on a line that is not empty
  goes_inside : AllByRecursion (λ c. c ≢ 10) at.rest → b ≢ 10 → at.rest ++ b ∷ [] ≢ 13 ∷ [] → IsAt Inside (bytes ++ b ∷ [])
  goes_inside whole other no_return = goes_on Inside (all_append (λ c. c ≢ 10) at.rest (b ∷ []) whole (other, tt), one_behind at.rest b, no_return)

  -- it ends one more empty line before the head
  skips : at.lines ≡ [] → IsEmptyLine (at.rest ++ b ∷ []) → IsAt Before (bytes ++ b ∷ [])
  skips none empty =
      let line = at.rest ++ b ∷ [] in
      record {
        before = at.before ++ line ∷ [];
        lines = [];
        rest = [];
        skipped = all_append IsEmptyLine at.before (line ∷ []) at.skipped (empty, tt);
        not_empty = tt;
        joined = with_byte ∙ ap (λ ls. concat at.before ++ (concat ls ++ line)) none ∙ sym (append-nil (concat (at.before ++ line ∷ [])) ∙ concat-push at.before line);
        stands = (refl, refl);
      }

  -- it ends a line that is not empty
  ends_line : IsTextLine (at.rest ++ b ∷ []) → IsAt Between (bytes ++ b ∷ [])
  ends_line text =
      let line = at.rest ++ b ∷ [] in
      record {
        before = at.before;
        lines = at.lines ++ line ∷ [];
        rest = [];
        skipped = at.skipped;
        not_empty = all_append IsTextLine at.lines (line ∷ []) at.not_empty (text, tt);
        joined = with_byte ∙ ap (λ l. concat at.before ++ l) (sym (append-nil (concat (at.lines ++ line ∷ [])) ∙ concat-push at.lines line));
        stands = (one_behind at.lines line, refl);
      }

  -- it ends the head
  ends_head : at.lines ≢ [] → IsEmptyLine (at.rest ++ b ∷ []) → IsHeadInLines (bytes ++ b ∷ [])
  ends_head some empty =
      record { before = at.before; lines = at.lines; last = at.rest ++ b ∷ []; skipped = at.skipped; not_empty = at.not_empty; some = some; empty = empty; joined = with_byte }

-- behind a CR at a line's beginning an LF ends an empty line, and any other byte goes on one that is not empty
returned : (rest : List ℕ) (b : ℕ) → rest ≡ 13 ∷ [] → rest ++ b ∷ [] ≡ 13 ∷ b ∷ []
returned rest b is = ap (λ l. l ++ b ∷ []) is

empty_from : (rest : List ℕ) (b : ℕ) → rest ≡ [] → (b == 10) ≡ true → IsEmptyLine (rest ++ b ∷ [])
empty_from rest b none on = inl (ap (λ l. l ++ b ∷ []) none ∙ one_byte b 10 on)

empty_returned : (rest : List ℕ) (b : ℕ) → rest ≡ 13 ∷ [] → (b == 10) ≡ true → IsEmptyLine (rest ++ b ∷ [])
empty_returned rest b is on = inr (returned rest b is ∙ ap (λ l. 13 ∷ l) (one_byte b 10 on))

-- what the step of a byte comes to
abbrev StepIs : Option Place → List ℕ → Type 0
StepIs None bytes = IsHeadInLines bytes
StepIs (Some next) bytes = IsAt next bytes

no_feed : AllByRecursion (λ (c : ℕ). c ≢ 10) (13 ∷ [])
no_feed = ((λ same. cc), tt)

module _ (bytes : List ℕ) (b : ℕ) where
  from_before : IsAt Before bytes → StepIs (step Before b) (bytes ++ b ∷ [])
  from_before at = by (b == 10) (b == 13) refl refl
    where
      by : (ten ret : Bool) → (b == 10) ≡ ten → (b == 13) ≡ ret → StepIs (cond ten (Some Before) (cond ret (Some BeforeReturn) (Some Inside))) (bytes ++ b ∷ [])
      by true ret on is = skips Before bytes b at at.stands.0 (empty_from at.rest b at.stands.1 on)
      by false true off on = goes_on Before bytes b at BeforeReturn (at.stands.0, ap (λ l. l ++ b ∷ []) at.stands.1 ∙ one_byte b 13 on)
      by false false off other =
          goes_inside Before bytes b at (subst (AllByRecursion (λ c. c ≢ 10)) (sym at.stands.1) tt) (differs b 10 off) (λ same. differs b 13 other (only_one at.rest b 13 same).1)

  from_before_return : IsAt BeforeReturn bytes → StepIs (step BeforeReturn b) (bytes ++ b ∷ [])
  from_before_return at = by (b == 10) refl
    where
      by : (ten : Bool) → (b == 10) ≡ ten → StepIs (cond ten (Some Before) (Some Inside)) (bytes ++ b ∷ [])
      by true on = skips BeforeReturn bytes b at at.stands.0 (empty_returned at.rest b at.stands.1 on)
      by false off =
          goes_inside BeforeReturn bytes b at (subst (AllByRecursion (λ c. c ≢ 10)) (sym at.stands.1) no_feed) (differs b 10 off) (λ same. let none : 13 ∷ [] ≡ [] = sym at.stands.1 ∙ (only_one at.rest b 13 same).0 in cc)

  from_inside : IsAt Inside bytes → StepIs (step Inside b) (bytes ++ b ∷ [])
  from_inside at = by (b == 10) refl
    where
      not_empty_line : (b == 10) ≡ true → ¬ (IsEmptyLine (at.rest ++ b ∷ []))
      not_empty_line on (inl same) = at.stands.1 (only_one at.rest b 10 same).0
      not_empty_line on (inr same) = at.stands.2 (two_bytes at.rest b 13 10 same)

      by : (ten : Bool) → (b == 10) ≡ ten → StepIs (cond ten (Some Between) (Some Inside)) (bytes ++ b ∷ [])
      by true on = ends_line Inside bytes b at (record { text = at.rest; whole = at.stands.0; ends = ap (λ l. at.rest ++ l) (one_byte b 10 on) }, not_empty_line on)
      by false off = goes_inside Inside bytes b at at.stands.0 (differs b 10 off) (λ same. at.stands.1 (only_one at.rest b 13 same).0)

  from_between : IsAt Between bytes → StepIs (step Between b) (bytes ++ b ∷ [])
  from_between at = by (b == 10) (b == 13) refl refl
    where
      by : (ten ret : Bool) → (b == 10) ≡ ten → (b == 13) ≡ ret → StepIs (cond ten None (cond ret (Some BetweenReturn) (Some Inside))) (bytes ++ b ∷ [])
      by true ret on is = ends_head Between bytes b at at.stands.0 (empty_from at.rest b at.stands.1 on)
      by false true off on = goes_on Between bytes b at BetweenReturn (at.stands.0, ap (λ l. l ++ b ∷ []) at.stands.1 ∙ one_byte b 13 on)
      by false false off other =
          goes_inside Between bytes b at (subst (AllByRecursion (λ c. c ≢ 10)) (sym at.stands.1) tt) (differs b 10 off) (λ same. differs b 13 other (only_one at.rest b 13 same).1)

  from_between_return : IsAt BetweenReturn bytes → StepIs (step BetweenReturn b) (bytes ++ b ∷ [])
  from_between_return at = by (b == 10) refl
    where
      by : (ten : Bool) → (b == 10) ≡ ten → StepIs (cond ten None (Some Inside)) (bytes ++ b ∷ [])
      by true on = ends_head BetweenReturn bytes b at at.stands.0 (empty_returned at.rest b at.stands.1 on)
      by false off =
          goes_inside BetweenReturn bytes b at (subst (AllByRecursion (λ c. c ≢ 10)) (sym at.stands.1) no_feed) (differs b 10 off) (λ same. let none : 13 ∷ [] ≡ [] = sym at.stands.1 ∙ (only_one at.rest b 13 same).0 in cc)

step_is : (place : Place) (bytes : List ℕ) (b : ℕ) → IsAt place bytes → StepIs (step place b) (bytes ++ b ∷ [])
step_is Before bytes b at = from_before bytes b at
step_is BeforeReturn bytes b at = from_before_return bytes b at
step_is Inside bytes b at = from_inside bytes b at
step_is Between bytes b at = from_between bytes b at
step_is BetweenReturn bytes b at = from_between_return bytes b at

-- the bytes of a search, behind these
abbrev Reads : Result ℕ Place → List ℕ → List ℕ → Type 0
Reads (Ok n) done bytes = IsHeadInLines (done ++ take n bytes)
Reads (Err place) done bytes = IsAt place (done ++ bytes)

shift : (done : List ℕ) (b : ℕ) (bytes : List ℕ) (r : Result ℕ Place) → Reads r (done ++ b ∷ []) bytes → Reads (one_more r) done (b ∷ bytes)
shift done b bytes (Ok n) is = subst IsHeadInLines (append_assoc done (b ∷ []) (take n bytes) ∙ ap (λ k. done ++ take k (b ∷ bytes)) (sym (add-one n))) is
shift done b bytes (Err place) is = subst (IsAt place) (append_assoc done (b ∷ []) bytes) is

turn : (o : Option Place) (done : List ℕ) (b : ℕ) (bytes : List ℕ) → StepIs o (done ++ b ∷ []) → ((next : Place) → IsAt next (done ++ b ∷ []) → Reads (found_from next bytes) (done ++ b ∷ []) bytes) → Reads (after_byte o (λ next. found_from next bytes)) done (b ∷ bytes)
turn None done b bytes is behind = is
turn (Some next) done b bytes is behind = shift done b bytes (found_from next bytes) (behind next is)

reads : (place : Place) (done bytes : List ℕ) → IsAt place done → Reads (found_from place bytes) done bytes
reads place done [] at = subst (IsAt place) (sym (append-nil done)) at
reads place done (b ∷ bytes) at = turn (step place b) done b bytes (step_is place done b at) (λ next is. reads next (done ++ b ∷ []) bytes is)

all_reads : (bytes : List ℕ) (r : Result ℕ Place) → head_end bytes ≡ r → Reads r [] bytes
all_reads bytes r is = subst (λ (x : Result ℕ Place). Reads x [] bytes) is (reads Before [] bytes (record { before = []; lines = []; rest = []; skipped = tt; not_empty = tt; joined = refl; stands = (refl, refl) }))

-- the laws

pub heads_are_lines : (bytes : List ℕ) (n : ℕ) → (head_end bytes ≡ Ok n) ↔ ((n ≤ length bytes) × IsHeadInLines (take n bytes))
heads_are_lines bytes n = (λ is. ((head_within bytes n is).1, all_reads bytes (Ok n) is), λ both. head_at bytes n both.0 both.1)

pub no_head_means : (bytes : List ℕ) → ((place : Place) × (head_end bytes ≡ Err place)) ↔ ((n : ℕ) → n ≤ length bytes → ¬ (IsHeadInLines (take n bytes)))
no_head_means bytes = (
  (λ (found : (place : Place) × (head_end bytes ≡ Err place)) n within head. let never : Err found.0 ≡ Ok n = sym found.1 ∙ head_at bytes n within head in cc),
  (λ none. by (head_end bytes) refl none),
)
  where
    by : (r : Result ℕ Place) → head_end bytes ≡ r → ((n : ℕ) → n ≤ length bytes → ¬ (IsHeadInLines (take n bytes))) → (place : Place) × (head_end bytes ≡ Err place)
    by (Ok n) is none = absurd (none n (head_within bytes n is).1 (all_reads bytes (Ok n) is))
    by (Err place) is none = (place, is)

pub nothing_means : (bytes : List ℕ) → (head_end bytes ≡ Err Before) ↔ ((lines : List (List ℕ)) × AllByRecursion IsEmptyLine lines × (bytes ≡ concat lines))
nothing_means bytes = (
  (λ is.
      let at = all_reads bytes (Err Before) is in
      (at.before, at.skipped, at.joined ∙ (λ i. concat at.before ++ (concat (at.stands.0 i) ++ at.stands.1 i)) ∙ append-nil (concat at.before))),
  (λ (found : (lines : List (List ℕ)) × AllByRecursion IsEmptyLine lines × (bytes ≡ concat lines)). ap head_end found.2 ∙ empty_lines found.0 found.1),
)
